-- The laws of a change.
use Rattle.std.proofs.Common.{◌≡◌, ℕ, ◌≤◌, Bool, true, cond, List, set, Some, Ok, Err, Option, refl, ap, arith, length-set}
use Rattle.std.specs.List.{slice_get}
use Rattle.std.proofs.lemmas.List.{set-set}
use Rattle.std.proofs.lemmas.Option.{gets, slice_get_cases, slice_get_within}
use Rattle.std.proofs.lemmas.Grind.{elements}
use Rattle.std.proofs.lemmas.Bool.Decides.{nat_tests}
use Rattle.home.specs.declared.fault.Fault.{Fault}
use Rattle.home.specs.declared.row.Cause.{Cause}
use Rattle.home.specs.declared.row.Row.{Row}
use Rattle.home.specs.declared.row.Change.{Change}
use Rattle.home.specs.declared.row.Change.TheVariants.{Hold, Renew}
use Rattle.home.specs.Rows.{Outcome, refuses, grants, amended}
use Rattle.home.specs.Meaning.{Meaning, Sound, after, amended_at, answer, changed, fair, fault_at, looked, no_place, well_placed}
use Rattle.home.specs.Laws.{Lawful, keeps_holder}
use Rattle.home.proofs.Calls.{fair_at, sound_after}

-- ---- what is found where an element was stored, and elsewhere

pub nth_set_same : {A : Type 0} (xs : List A) (i : ℕ) {x : A} (v : A) → slice_get xs i ≡ Some x → slice_get (set xs i v) i ≡ Some v
nth_set_same xs i {x} v at = grind (arith, gets, elements, slice_get_within xs i x at, slice_get_cases (set xs i v) i)

pub nth_set_other : {A : Type 0} (xs : List A) (i j : ℕ) (v : A) → (j ≡ i → ⊥) → slice_get (set xs i v) j ≡ slice_get xs j
nth_set_other xs i j v apart = grind (arith, gets, elements, slice_get_cases xs j, slice_get_cases (set xs i v) j)

module _ {V : Type 0} where
  -- ---- one row

  amended_leases : (last : ℕ) (change : Change V) (row new : Row V) → fair last row ≡ true → amended last change row ≡ grants new → (row.wts ≤ new.wts) × (row.rts ≤ new.rts)
  amended_leases last (Hold place) row new ok is = grind (arith, nat_tests)
  amended_leases last change row new ok is = grind (arith, nat_tests)

  amended_holder : (last : ℕ) (change : Change V) (row new : Row V) → keeps_holder change ≡ true → amended last change row ≡ grants new → new.holder ≡ row.holder
  amended_holder last (Renew wts t wish) row new keeps is = grind (arith, nat_tests)
  amended_holder last change row new keeps is = cc

  -- ---- what a caller learns from an answer

  module _ {A : Type 0} (f : Row V → A) (place key : ℕ) where
    pub refused_from : (o : Outcome V) (fault : Fault) → answer f place key o ≡ Err fault → (cause : Cause) × (o ≡ refuses cause) × (fault ≡ fault_at place key cause)
    refused_from (refuses cause) fault is = (cause, refl, cc)
    refused_from (grants row) fault is = cc

    pub granted_from : (o : Outcome V) (a : A) → answer f place key o ≡ Ok a → (row : Row V) × (o ≡ grants row) × (a ≡ f row)
    granted_from (refuses cause) a is = cc
    granted_from (grants row) a is = (row, refl, cc)

  -- ---- a change

  module _ (m : Meaning V) (key : ℕ) (change : Change V) where
    -- a granted change found a row under its key, and left the row's rule there
    pub granted : (new : Row V) → changed m key change ≡ grants new → (row : Row V) × (slice_get m.rows key ≡ Some row) × (amended m.last change row ≡ grants new)
    unfolding changed
    granted new is = go (well_placed change) (slice_get m.rows key) refl is
      where
        go : (b : Bool) (at : Option (Row V)) → slice_get m.rows key ≡ at → cond b (amended_at m.last change at) (refuses no_place) ≡ grants new
            → (row : Row V) × (slice_get m.rows key ≡ Some row) × (amended m.last change row ≡ grants new)
        go true (Some row) at is = (row, at, is)
        go b o at is = cc

    -- and its place was one
    pub granted_place : (new : Row V) → changed m key change ≡ grants new → well_placed change ≡ true
    unfolding changed
    granted_place new is = grind (arith, nat_tests)

    -- a change at a place, of a key that is there, is the row's
    pub changed_at : (row : Row V) → well_placed change ≡ true → slice_get m.rows key ≡ Some row → changed m key change ≡ amended m.last change row
    unfolding changed
    changed_at row ok at = rw (ok, at)

    -- what is found under the key of a granted change
    pub found_after : (new : Row V) → changed m key change ≡ grants new → slice_get (after m key (grants new)).rows key ≡ Some new
    found_after new is = nth_set_same m.rows key new (granted new is).1

  -- a second change of the key is seen alone
  pub after_twice : (m : Meaning V) (key : ℕ) (one two : Row V) → after (after m key (grants one)) key (grants two) ≡ after m key (grants two)
  after_twice m key one two = ap (λ rows. record { last = m.last; rows = rows }) (set-set m.rows key one two)

  pub looked_at : (m : Meaning V) (key : ℕ) (row : Row V) → slice_get m.rows key ≡ Some row → looked m key ≡ Ok row
  unfolding looked
  looked_at m key row at = rw at

  -- ---- the laws

  module _ {A : Type 0} (f : Row V → A) (place : ℕ) (m : Meaning V) (key : ℕ) (change : Change V) where
    by_outcome : (o : Outcome V) → changed m key change ≡ o → Sound m → Sound (after m key o) → Lawful m (after m key o) key change (answer f place key o)
    by_outcome (refuses cause) is was sound = record {
      refused = λ no'. refl;
      count = refl;
      last = refl;
      others = λ k apart. refl;
      leases = λ old new at now. grind arith;
      holder = λ keeps old new at now. grind arith;
      sound = sound;
    }
    by_outcome (grants row) is was sound =
        let g = granted m key change row is in
        let put = nth_set_same m.rows key row g.1 in
        record {
          refused = λ no'. cc;
          count = length-set m.rows key row;
          last = refl;
          others = λ k apart. nth_set_other m.rows key k row apart;
          leases = λ old new at now. grind (arith, amended_leases m.last change g.0 row (fair_at m.last m.rows key g.0 was.rows g.1) g.2);
          holder = λ keeps old new at now. grind (arith, amended_holder m.last change g.0 row keeps g.2);
          sound = sound;
        }

    pub lawful : Sound m → Lawful m (after m key (changed m key change)) key change (answer f place key (changed m key change))
    lawful was = by_outcome _ refl was (sound_after m key change was)
