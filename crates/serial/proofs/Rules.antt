-- The rule of each call that looks at the home, taken apart once: what is to hold of it holds if it does at each of its ends.
--   read_cases, write_cases    refused; the place turned away; a key of the sheet; a key that is entered or held
--   renew_cases, settle_cases  refused; the place turned away; nothing to do for the entry; its row is renewed, put or freed
use Rattle.std.proofs.Common.{◌≡◌, ℕ, ◌+◌, ◌<◌, Bool, true, false, cond, ◌||◌, eqb, leb, List, Some, None, Ok, Err, Option, Result, refl, arith}
use Rattle.std.specs.List.{slice_get}
use Rattle.std.proofs.lemmas.Bool.{cond_both}
use Rattle.std.proofs.lemmas.Option.{slice_get_cases}
use Rattle.std.proofs.lemmas.Bool.Decides.{nat_tests}
use Rattle.home.specs.declared.fault.Fault.{Fault}
use Rattle.home.specs.declared.row.Row.{Row}
use Rattle.home.specs.declared.row.Cause.{Cause}
use Rattle.home.specs.declared.row.Change.TheVariants.{Free, Hold, Put, Renew}
use Rattle.home.specs.Rows.{Outcome, grants, refuses}
use Rattle.home.specs.Meaning.{Meaning, amended_at, changed, fault_at, looked, no_place}
use Rattle.coordinator.specs.declared.tables.Place.{Place}
use Rattle.coordinator.specs.declared.tables.Entry.{Entry}
use Rattle.coordinator.specs.Tables.{Tables, at_cursor, sheet, sought, used_of}
use Rattle.coordinator.specs.Calls.{Did, comparing, comparing_at, ending, freed, holding, holding_at, left_after, loses, moved_on, moving, onward, reading, reading_new, reading_row, refused, renewing, renewing_at, renewing_row, rewriting, settling, settling_row, turned_away, wish_of, writing}

-- ---- an option and an outcome, by what they are

by_option : {A : Type 0} (P : Option A → Type 0) (o : Option A) → ((a : A) → o ≡ Some a → P (Some a)) → (o ≡ None → P None) → P o
by_option P (Some a) some none = some a refl
by_option P None some none = none refl

by_outcome : {V : Type 0} (P : Outcome V → Type 0) (o : Outcome V) → ((cause : Cause) → o ≡ refuses cause → P (refuses cause)) → ((row : Row V) → o ≡ grants row → P (grants row)) → P o
by_outcome P (refuses cause) no' yes' = no' cause refl
by_outcome P (grants row) no' yes' = yes' row refl

module _ {V : Type 0} where
  -- ---- what a look finds, and faults that lose nothing

  pub looked_row : (m : Meaning V) (key : ℕ) (row : Row V) → looked m key ≡ Ok row → slice_get m.rows key ≡ Some row
  unfolding looked
  looked_row m key row is = grind (arith, slice_get_cases m.rows key)

  -- A look is refused by 1.
  look_fault : (m : Meaning V) (key : ℕ) (fault : Fault) → looked m key ≡ Err fault → loses fault ≡ false
  unfolding looked
  look_fault m key fault is = grind (arith, slice_get_cases m.rows key)

  -- A put or a free is refused by 4, 1, 6, 3 or 7.
  ending_fault : (m : Meaning V) (key p : ℕ) (pl : Place) (e : Entry V) (cause : Cause) → changed m key (ending p pl e) ≡ refuses cause → loses (fault_at p key cause) ≡ false
  unfolding changed
  ending_fault m key p pl e cause is = go (eqb pl.state 4) _ _ is
    where
      go : (wins b : Bool) (o : Option (Row V)) → cond b (amended_at m.last (cond wins (Put p e.value pl.ts) (Free p)) o) (refuses no_place) ≡ refuses cause → loses (fault_at p key cause) ≡ false
      go true true (Some row) is = grind (arith, nat_tests)
      go false true (Some row) is = grind (arith, nat_tests)
      go wins b o is = grind arith

  -- ---- the rules

  module _ (t : Tables V) (p : ℕ) (pl : Place) where
    abbrev its_sheet : List (Entry V)
    its_sheet = sheet p (used_of pl) t.entries

    pub read_cases : (key : ℕ) (P : Did V V → Type 0)
        → ((fault : Fault) → loses fault ≡ false → P (refused t fault))
        → ((n : ℕ) (e : Entry V) → sought key 0 its_sheet ≡ Some (n, e) → P (record { answer = Ok e.value; tables = t }))
        → ((row : Row V) → sought key 0 its_sheet ≡ None → used_of pl < 16 → slice_get t.home.rows key ≡ Some row → P (reading_row t p key pl (Ok row)))
        → P (reading t p key pl (sought key 0 its_sheet))
    unfolding reading_new
    read_cases key P no' known new =
        by_option (λ o. P (reading t p key pl o)) (sought key 0 its_sheet) (λ f is. known f.0 f.1 is)
        (λ none. cond_both (eqb (used_of pl) 16) _ _ P (λ _. no' _ refl) (λ room. by_look none (grind (arith, nat_tests)) (looked t.home key) refl))
      where
        by_look : sought key 0 its_sheet ≡ None → used_of pl < 16 → (r : Result (Row V) Fault) → looked t.home key ≡ r → P (reading_row t p key pl r)
        by_look none room (Err fault) is = no' _ (look_fault t.home key fault is)
        by_look none room (Ok row) is = new row none room (looked_row t.home key row is)

    pub write_cases : (key : ℕ) (value : V) (P : Did V ℕ → Type 0)
        → ((fault : Fault) → loses fault ≡ false → P (refused t fault)) → ((fault : Fault) → P (turned_away t p pl fault))
        → ((n : ℕ) (e : Entry V) → sought key 0 its_sheet ≡ Some (n, e) → e.written ≡ true → P (rewriting t p pl n e value))
        → ((n : ℕ) (e : Entry V) (row : Row V) → sought key 0 its_sheet ≡ Some (n, e) → e.written ≡ false → moved_on e.wts (looked t.home key) ≡ None
        → changed t.home key (Hold p) ≡ grants row → P (holding t p key value pl n pl.used (grants row)))
        → ((row : Row V) → sought key 0 its_sheet ≡ None → used_of pl < 16
        → changed t.home key (Hold p) ≡ grants row → P (holding t p key value pl (used_of pl) (used_of pl + 1) (grants row)))
        → P (writing t p key value pl (sought key 0 its_sheet))
    unfolding holding_at comparing_at
    write_cases key value P no' away again held new =
        by_option (λ o. P (writing t p key value pl o)) (sought key 0 its_sheet)
        (λ f is. cond_both f.1.written _ _ P (again f.0 f.1 is)
        (λ read. by_option (λ o. P (comparing t p key value pl f.0 o)) (moved_on f.1.wts (looked t.home key)) (λ wts _. away _)
        (λ stood. by_hold f.0 pl.used (λ row. held f.0 f.1 row is read stood))))
        (λ none. cond_both (eqb (used_of pl) 16) _ _ P (λ _. no' _ refl)
        (λ room. by_hold (used_of pl) (used_of pl + 1) (λ row. new row none (grind (arith, nat_tests)))))
      where
        by_hold : (n used : ℕ) → ((row : Row V) → changed t.home key (Hold p) ≡ grants row → P (holding t p key value pl n used (grants row)))
            → P (holding t p key value pl n used (changed t.home key (Hold p)))
        by_hold n used granted = by_outcome (λ o. P (holding t p key value pl n used o)) (changed t.home key (Hold p)) (λ cause _. away _) granted

    pub renew_cases : (P : Did V ℕ → Type 0)
        → ((fault : Fault) → loses fault ≡ false → P (refused t fault)) → ((fault : Fault) → P (turned_away t p pl fault))
        → ((e : Entry V) → at_cursor t.entries p pl ≡ Some e → e.written || leb pl.ts e.rts ≡ true → P (moving t p (left_after pl) (onward pl)))
        → ((e : Entry V) (row : Row V) → at_cursor t.entries p pl ≡ Some e → e.written ≡ false
        → changed t.home e.key (Renew e.wts pl.ts (wish_of t.home.last e.key pl.ts)) ≡ grants row → P (renewing_row t p pl e (grants row)))
        → P (renewing t p pl (at_cursor t.entries p pl))
    unfolding renewing_at
    renew_cases P no' away passed renewed =
        by_option (λ o. P (renewing t p pl o)) (at_cursor t.entries p pl)
        (λ e is. cond_both (e.written || leb pl.ts e.rts) _ _ P (passed e is)
        (λ short. by_outcome (λ o. P (renewing_row t p pl e o)) _ (λ cause _. away _) (λ row. renewed e row is (grind (arith, nat_tests)))))
        (λ none. no' _ refl)

    pub settle_cases : (P : Did V (ℕ × Bool) → Type 0)
        → ((fault : Fault) → loses fault ≡ false → P (refused t fault))
        → (at_cursor t.entries p pl ≡ None → P (moving t p (0, true) (freed pl)))
        → ((e : Entry V) → at_cursor t.entries p pl ≡ Some e → e.written ≡ false → P (moving t p (left_after pl, false) (onward pl)))
        → ((e : Entry V) (row : Row V) → at_cursor t.entries p pl ≡ Some e → e.written ≡ true
        → changed t.home e.key (ending p pl e) ≡ grants row → P (settling_row t p pl e (grants row)))
        → P (settling t p pl (at_cursor t.entries p pl))
    settle_cases P no' done passed ended =
        by_option (λ o. P (settling t p pl o)) (at_cursor t.entries p pl)
        (λ e is. cond_both e.written _ _ P
        (λ written. by_outcome (λ o. P (settling_row t p pl e o)) _ (λ cause came. no' _ (ending_fault t.home e.key p pl e cause came)) (λ row. ended e row is written))
        (passed e is))
        done
