-- begin, freeze, abort, and a refusal that loses: the seat moves, and no key is touched.
use Rattle.std.proofs.Common.{◌≡◌, ℕ, true, ◌&&◌, leb, List, ◌∷◌, length, Some, Option, sym, refl, ap, ◌∙◌, arith}
use Rattle.std.proofs.lemmas.Bool.{cond_both}
use Rattle.std.proofs.lemmas.Bool.Decides.{nat_tests}
use Rattle.home.specs.declared.fault.Fault.{Fault}
use Rattle.home.specs.Meaning.{is_place}
use Rattle.coordinator.specs.declared.call.Call.{Call}
use Rattle.coordinator.specs.declared.tables.Place.{Place}
use Rattle.coordinator.specs.declared.tables.Entry.{Entry}
use Rattle.coordinator.specs.Tables.{sheet}
use Rattle.coordinator.specs.Calls.{abort_turn, begin_turn, freeze_turn, loses, lost_if, moved_to, with_places}
use Rattle.serial.specs.Events.{Event, Store, did_abort, did_begin, did_freeze, refused, stepped}
use Rattle.serial.specs.Transactions.{Live, nothing_done, is_some, live, pending_write, unsettled_write}
use Rattle.serial.proofs.Seats.{place_at, sheet_none}
use Rattle.serial.proofs.Keys.{found, keyed}
use Rattle.serial.proofs.Invariant.{Inv, undecided, busy_stays}
use Rattle.serial.proofs.Moves.{OnlyAt, Plain, alike_ok, inv_moves, inv_refused, moved_state, turn_kept}

module _ {V : Type 0} where
  pub same_entries : (p : ℕ) (entries : List (Entry V)) → OnlyAt p entries entries
  same_entries p entries q n is apart few = refl

  -- ---- freeze, abort, lose

  module _ (x : ℕ → Option V) (es : List (Event V)) (st : Store V) (p : ℕ) (i : Inv x es st) (at : is_place p ≡ true) where
    abbrev here : Place
    here = place_at st.tables.places p

    turned : (e : Event V) → Plain es e → ((q : ℕ) → live q (e ∷ es) ≡ live q es) → (s : ℕ) → leb 2 s && leb s 3 ≡ true → undecided here ≡ true
        → Inv x (e ∷ es) (moved_state st st.tables.home st.counter p (moved_to s here) st.tables.entries)
    turned e plain same s range was =
        inv_moves x es st e p (moved_to s here) st.tables.entries (live p es) i plain at refl
        (same_entries p st.tables.entries) (same p) (λ q _. same q)
        (alike_ok at
        (λ k. record { write = refl; decided = refl; undecided = λ _. was; entry = refl; later = omega arith; same = λ _. refl; sees = λ y h. h })
        (λ k. refl)
        (record {
          free = λ no'. grind (arith, nat_tests);
          busy = λ _.
              let b = (i.seated p at).busy (grind (arith, nat_tests)) in
              busy_stays b (moved_to s here) _ _ refl (omega arith) (grind (arith, nat_tests)) (grind (arith, nat_tests)) (λ frozen j e below is unwritten. absurd (omega arith));
        }))

    -- A refusal by 2 or 5 turns the place to losing.
    pub inv_lost : (call : Call V) (fault : Fault) → undecided here ≡ true
        → Inv x (refused call fault ∷ es) (record { tables = with_places st.tables (lost_if fault st.tables.places p here); counter = st.counter })
    inv_lost call fault was =
        cond_both (loses fault) _ _ (λ ps. Inv x (refused call fault ∷ es) (record { tables = with_places st.tables ps; counter = st.counter }))
        (λ _. turned (refused call fault) (record { order = refl; grants = refl; put = refl; freed = refl }) (λ q. refl) 3 refl was)
        (λ _. inv_refused x es st call fault i)

  module _ (x : ℕ → Option V) (es : List (Event V)) (st : Store V) (i : Inv x es st) (p : ℕ) where
    pub keeps_freeze : Inv x ((stepped st (Call.Freeze p)).event ∷ es) (stepped st (Call.Freeze p)).store
    unfolding stepped freeze_turn
    keeps_freeze =
        turn_kept x es st i (Call.Freeze p) (λ ts. did_freeze p ts) 4 p 0 _
        (λ en. turned x es st p i en.place (did_freeze p _) (record { order = refl; grants = refl; put = refl; freed = refl }) (λ q. refl) 2 refl (grind (arith, nat_tests)))

    pub keeps_abort : Inv x ((stepped st (Call.Abort p)).event ∷ es) (stepped st (Call.Abort p)).store
    unfolding stepped abort_turn
    keeps_abort =
        turn_kept x es st i (Call.Abort p) (λ _. did_abort p) 8 p 0 _
        (λ en. turned x es st p i en.place (did_abort p) (record { order = refl; grants = refl; put = refl; freed = refl }) (λ q. refl) 3 refl (grind (arith, nat_tests)))

    -- A place that was free starts with nothing.
    pub keeps_begin : Inv x ((stepped st (Call.Begin p)).event ∷ es) (stepped st (Call.Begin p)).store
    unfolding stepped begin_turn
    keeps_begin = turn_kept x es st i (Call.Begin p) (λ _. did_begin p) 1 p 0 _ (λ en. begun en.place (grind (arith, nat_tests)))
      where
        fresh : Place
        fresh = record { state = 1; ts = 0; used = 0; cursor = 0 }

        none : (k : ℕ) (e : Entry V) → found k (sheet p 0 st.tables.entries) ≡ Some e → ⊥
        none k e is = let h = sym (ap (found k) (sheet_none p st.tables.entries)) ∙ is in cc

        begun : is_place p ≡ true → (place_at st.tables.places p).state ≡ 0 → Inv x (did_begin p ∷ es) (moved_state st st.tables.home st.counter p fresh st.tables.entries)
        begun at was =
            let was_idle : live p es ≡ nothing_done = (i.seated p at).free (grind (arith, nat_tests)) in
            let empty = sheet_none {V = V} p st.tables.entries in
            inv_moves x es st (did_begin p) p fresh st.tables.entries nothing_done i (record { order = refl; grants = refl; put = refl; freed = refl }) at refl
            (same_entries p st.tables.entries) (grind (arith, nat_tests)) (λ q apart. grind (arith, nat_tests))
            (record {
              seated = record {
                free = λ no'. cc;
                busy = λ _. record {
                  few = omega arith;
                  within = omega arith;
                  sized = ap length empty;
                  keys = ap keyed empty;
                  writes = λ k e is. absurd (none k e is);
                  decided = refl;
                  handled = refl;
                  passed = λ frozen j e below is unwritten. absurd (omega arith);
                };
              };
              stakes = λ k row won is ok. record {
                owner = (ok.stakes p at).owner ∙ ap (λ (l : Live V). is_some (pending_write k l)) was_idle;
                seen = λ u e is' unwritten. absurd (none k e is');
                holds = λ u is'. cc;
                wins = λ v is'. cc;
              };
              wins = λ k. ap (λ (l : Live V). unsettled_write k l) (sym was_idle);
              fresh = λ k is was'. refl;
            })
