-- The serial run of one key: its value through operations and transactions, and what the insertion of one more transaction does to it.
--   along, all_along, value_upto    the value of the key after operations, after transactions, after those up to a timestamp
--   Sees, AllSee                   every read of the key gets that value
--   nth_run_ops, nth_run_all, replays    the run of all keys is the run of each
--   see_insert                      insertion of a transaction, where the later ones still see what they saw
--   quiet_value, quiet_keeps        insertion of one that leaves the key alone
--   write_before, write_after, skip_keeps   insertion of one that may write it, while the later ones do not use the key
--   sorted_insert, arranged_shuffled     the order
use Rattle.std.proofs.Common.{◌≡◌, ℕ, ◌<◌, ◌≤◌, max, Bool, true, false, cond, ◌||◌, eqb, leb, List, [], ◌∷◌, ◌++◌, set, Some, None, Option, sym, refl, ap, ◌∙◌, subst, arith, drop}
use Rattle.std.specs.List.{slice_get, AllByRecursion as All}
use Rattle.std.specs.List.Sorted.{IsPermutation}
use Rattle.std.proofs.ByRecursion.{All-weaker}
use Rattle.std.proofs.lemmas.Bool.{cond_both}
use Rattle.std.proofs.lemmas.Grind.{elements}
use Rattle.std.proofs.lemmas.Option.{gets, slice_get_cases}
use Rattle.std.proofs.lemmas.List.Sorted.{IsPermutation-refl, IsPermutation-cons, IsPermutation-swap, IsPermutation-trans}
use Rattle.std.proofs.lemmas.Bool.Decides.{nat_tests}
use Rattle.serial.specs.Transactions.{Op, reads, writes, Transaction, among, arranged, before, insert, keys_of, last_write, noted, when, Live, pending_write}
use Rattle.serial.specs.Serial.{AllBefore, AllGet, Replays, Sorted, run_all, run_ops}

-- A write alters a key that is there.
abbrev pub over : {A : Type 0} → Option A → A → Option A
over None v = None
over (Some x) v = Some v

-- What is never there is absent.
pub absent : {A : Type 0} (o : Option A) → ((v : A) → o ≡ Some v → ⊥) → o ≡ None
absent None none = refl
absent (Some v) none = absurd (none v refl)

-- ---- lists of values

pub nth_set : {A : Type 0} (xs : List A) (i j : ℕ) (v : A) → slice_get (set xs i v) j ≡ cond (eqb i j) (over (slice_get xs j) v) (slice_get xs j)
nth_set xs i j v = grind (arith, gets, elements, nat_tests, slice_get_cases xs j, slice_get_cases (set xs i v) j)

-- ---- keys of a transaction

pub among_append : (k : ℕ) (xs ys : List ℕ) → among k (xs ++ ys) ≡ (among k xs || among k ys)
among_append k [] ys = refl
among_append k (x ∷ xs) ys = grind (arith, nat_tests, among_append k xs ys)

pub among_noted : (k j : ℕ) (ks : List ℕ) → among k (noted j ks) ≡ (eqb j k || among k ks)
among_noted k j ks = grind (arith, nat_tests, among_append k ks (j ∷ []))

pub not_noted : (k j : ℕ) (ks : List ℕ) → among k (noted j ks) ≡ false → (eqb j k ≡ false) × (among k ks ≡ false)
not_noted k j ks none = grind (arith, nat_tests, among_noted k j ks)

module _ {V : Type 0} where
  -- ---- one key

  -- The value of a key through operations.
  abbrev pub along : ℕ → Option V → List (Op V) → Option V
  along k x [] = x
  along k x (reads j v ∷ os) = along k x os
  along k x (writes j v ∷ os) = cond (eqb j k) (over (along k x os) v) (along k x os)

  -- Every read of the key gets that value.
  abbrev pub Sees : ℕ → Option V → List (Op V) → Type 0
  Sees k x [] = Unit {0}
  Sees k x (reads j v ∷ os) = Sees k x os × (j ≡ k → along k x os ≡ Some v)
  Sees k x (writes j v ∷ os) = Sees k x os

  abbrev pub all_along : ℕ → Option V → List (Transaction V) → Option V
  all_along k x [] = x
  all_along k x (t ∷ us) = along k (all_along k x us) t.ops

  abbrev pub AllSee : ℕ → Option V → List (Transaction V) → Type 0
  AllSee k x [] = Unit {0}
  AllSee k x (t ∷ us) = AllSee k x us × Sees k (all_along k x us) t.ops

  -- After those whose timestamp is at most τ.
  abbrev pub value_upto : ℕ → Option V → ℕ → List (Transaction V) → Option V
  value_upto k x τ [] = x
  value_upto k x τ (t ∷ us) = cond (leb t.ts τ) (along k (value_upto k x τ us) t.ops) (value_upto k x τ us)

  -- Leaves the key alone.
  abbrev pub Quiet : ℕ → List (Op V) → Type 0
  Quiet k os = (y : Option V) → along k y os ≡ y

  abbrev pub Newest : Transaction V → List (Transaction V) → Type 0
  Newest t us = All (λ u. u.number < t.number) us

  abbrev pub Ordered : List (Transaction V) → Type 0
  Ordered [] = Unit {0}
  Ordered (u ∷ us) = All (λ w. w.ts ≤ u.ts) us × Ordered us

  -- Those that come later by timestamp do not use the key.
  abbrev pub AfterSkip : ℕ → Transaction V → List (Transaction V) → Type 0
  AfterSkip k t us = All (λ u. t.ts < u.ts → among k (keys_of u.ops) ≡ false) us

  -- ---- the run of all keys is the run of each

  pub nth_run_ops : (vs : List V) (os : List (Op V)) (k : ℕ) → slice_get (run_ops vs os) k ≡ along k (slice_get vs k) os
  nth_run_ops vs [] k = refl
  nth_run_ops vs (reads j v ∷ os) k = nth_run_ops vs os k
  nth_run_ops vs (writes j v ∷ os) k = nth_set (run_ops vs os) j k v ∙ ap (λ (o : Option V). cond (eqb j k) (over o v) o) (nth_run_ops vs os k)

  pub nth_run_all : (vs : List V) (us : List (Transaction V)) (k : ℕ) → slice_get (run_all vs us) k ≡ all_along k (slice_get vs k) us
  nth_run_all vs [] k = refl
  nth_run_all vs (t ∷ us) k = nth_run_ops (run_all vs us) t.ops k ∙ ap (λ (o : Option V). along k o t.ops) (nth_run_all vs us k)

  all_get : (vs : List V) (os : List (Op V)) → ((k : ℕ) → Sees k (slice_get vs k) os) → AllGet vs os
  all_get vs [] sees = tt
  all_get vs (reads j v ∷ os) sees = (all_get vs os (λ k. (sees k).0), nth_run_ops vs os j ∙ (sees j).1 refl)
  all_get vs (writes j v ∷ os) sees = (all_get vs os sees, tt)

  pub replays : (vs : List V) (us : List (Transaction V)) → ((k : ℕ) → AllSee k (slice_get vs k) us) → Replays vs us
  replays vs [] sees = tt
  replays vs (t ∷ us) sees = (
    replays vs us (λ k. (sees k).0),
    all_get (run_all vs us) t.ops (λ k. subst (λ (o : Option V). Sees k o t.ops) (sym (nth_run_all vs us k)) (sees k).1),
  )

  -- ---- operations that leave a key alone, or write it

  pub along_skip : (k : ℕ) (os : List (Op V)) → among k (keys_of os) ≡ false → Quiet k os
  along_skip k [] none y = refl
  along_skip k (reads j v ∷ os) none y = along_skip k os (not_noted k j (keys_of os) none).1 y
  along_skip k (writes j v ∷ os) none y = grind (arith, not_noted k j (keys_of os) none, along_skip k os)

  pub sees_skip : (k : ℕ) (os : List (Op V)) → among k (keys_of os) ≡ false → (y : Option V) → Sees k y os
  sees_skip k [] none y = tt
  sees_skip k (reads j v ∷ os) none y =
      let n = not_noted k j (keys_of os) none in
      (sees_skip k os n.1 y, λ same. grind (arith, nat_tests))
  sees_skip k (writes j v ∷ os) none y = sees_skip k os (not_noted k j (keys_of os) none).1 y

  pub along_unwritten : (k : ℕ) (os : List (Op V)) → last_write k os ≡ None → Quiet k os
  along_unwritten k [] none y = refl
  along_unwritten k (reads j v ∷ os) none y = along_unwritten k os none y
  along_unwritten k (writes j v ∷ os) none y = grind (arith, nat_tests, along_unwritten k os)

  -- A key that is there stays there.
  over_along : (k : ℕ) (os : List (Op V)) (y w : V) → over (along k (Some y) os) w ≡ Some w
  over_along k [] y w = refl
  over_along k (reads j v ∷ os) y w = over_along k os y w
  over_along k (writes j v ∷ os) y w = grind (arith, nat_tests, over_along k os y)

  pub along_written : (k : ℕ) (os : List (Op V)) (v : V) → last_write k os ≡ Some v → (y : V) → along k (Some y) os ≡ Some v
  along_written k [] v some y = cc
  along_written k (reads j w ∷ os) v some y = along_written k os v some y
  along_written k (writes j w ∷ os) v some y = grind (arith, nat_tests, over_along k os y w, along_written k os v)

  pub written_among : (k : ℕ) (os : List (Op V)) (v : V) → last_write k os ≡ Some v → among k (keys_of os) ≡ true
  written_among k [] v some = cc
  written_among k (reads j w ∷ os) v some = grind (arith, nat_tests, among_noted k j (keys_of os), written_among k os v some)
  written_among k (writes j w ∷ os) v some = grind (arith, nat_tests, among_noted k j (keys_of os), written_among k os v)

  -- What was never met was never written.
  pub never_written : (k : ℕ) (os : List (Op V)) → among k (keys_of os) ≡ false → last_write k os ≡ None
  never_written k os none = absent _ (λ v is. cc (written_among k os v is))

  pub when_none : (b : Bool) → when {V = V} b None ≡ None
  when_none true = refl
  when_none false = refl

  -- Until the first settle every write is open.
  pub open_is_last : (k : ℕ) (l : Live V) → l.handled ≡ 0 → pending_write k l ≡ last_write k l.ops
  open_is_last k l none = ap (λ n. when (among k (drop n (keys_of l.ops))) (last_write k l.ops)) none ∙ go (among k (keys_of l.ops)) refl
    where
      go : (b : Bool) → among k (keys_of l.ops) ≡ b → when b (last_write k l.ops) ≡ last_write k l.ops
      go true is = refl
      go false is = sym (never_written k l.ops is)

  -- ---- up to a timestamp

  pub upto_end : (k : ℕ) (x : Option V) (τ : ℕ) (us : List (Transaction V)) → All (λ u. u.ts ≤ τ) us → all_along k x us ≡ value_upto k x τ us
  upto_end k x τ [] low = refl
  upto_end k x τ (u ∷ us) low = grind (arith, nat_tests, upto_end k x τ us low.1)

  abbrev pub latest : List (Transaction V) → ℕ
  latest [] = 0
  latest (u ∷ us) = max u.ts (latest us)

  pub upto_latest : (n : ℕ) (us : List (Transaction V)) → latest us ≤ n → All (λ u. u.ts ≤ n) us
  upto_latest n [] high = tt
  upto_latest n (u ∷ us) high = (omega arith, upto_latest n us (omega arith))

  -- ---- where the newest transaction goes in

  -- Its number is the highest, so it goes behind those with a later timestamp alone.
  before_newest : (t u : Transaction V) → u.number < t.number → before t u ≡ true → t.ts < u.ts
  before_newest t u above is = grind (arith, nat_tests)

  not_before : (t u : Transaction V) → before t u ≡ false → u.ts ≤ t.ts
  not_before t u is = grind (arith, nat_tests)

  pub all_insert : (P : Transaction V → Type 0) (t : Transaction V) (us : List (Transaction V)) → P t → All P us → All P (insert t us)
  all_insert P t [] one all = (one, tt)
  all_insert P t (u ∷ us) one all = cond_both (before t u) _ _ (All P) (λ _. (all.0, all_insert P t us one all.1)) (λ _. (one, all))

  -- ---- insertion and the value of a key

  -- It is left where the new transaction adds nothing to it.
  upto_insert : (k : ℕ) (x : Option V) (τ : ℕ) (t : Transaction V) (us : List (Transaction V)) →
      ((y : Option V) → cond (leb t.ts τ) (along k y t.ops) y ≡ y) → value_upto k x τ (insert t us) ≡ value_upto k x τ us
  upto_insert k x τ t [] keeps = keeps x
  upto_insert k x τ t (u ∷ us) keeps =
      cond_both (before t u) _ _ (λ new. value_upto k x τ new ≡ value_upto k x τ (u ∷ us))
      (λ _. ap (λ (o : Option V). cond (leb u.ts τ) (along k o u.ops) o) (upto_insert k x τ t us keeps))
      (λ _. keeps (value_upto k x τ (u ∷ us)))

  pub quiet_value : (k : ℕ) (x : Option V) (τ : ℕ) (t : Transaction V) (us : List (Transaction V)) → Quiet k t.ops →
      value_upto k x τ (insert t us) ≡ value_upto k x τ us
  quiet_value k x τ t us quiet = upto_insert k x τ t us (λ y. grind (arith, nat_tests, quiet y))

  pub write_before : (k : ℕ) (x : Option V) (τ : ℕ) (t : Transaction V) (us : List (Transaction V)) → τ < t.ts →
      value_upto k x τ (insert t us) ≡ value_upto k x τ us
  write_before k x τ t us early = upto_insert k x τ t us (λ y. grind (arith, nat_tests))

  -- Those behind the place of insertion come up to the new timestamp.
  upto_here : (k : ℕ) (x : Option V) (τ : ℕ) (t u : Transaction V) (us : List (Transaction V)) → Ordered (u ∷ us) → u.ts ≤ t.ts → t.ts ≤ τ →
      all_along k x (u ∷ us) ≡ value_upto k x τ (u ∷ us)
  upto_here k x τ t u us order low high = upto_end k x τ (u ∷ us) (omega arith, All-weaker _ (λ (w : Transaction V). w.ts ≤ τ) (λ w h. omega arith) us order.0)

  -- Those with a later timestamp are not counted.
  upto_later : (k : ℕ) (x : Option V) (τ : ℕ) (u : Transaction V) (us : List (Transaction V)) → τ < u.ts → value_upto k x τ (u ∷ us) ≡ value_upto k x τ us
  upto_later k x τ u us late = grind (arith, nat_tests)

  pub write_after : (k : ℕ) (x : Option V) (τ : ℕ) (t : Transaction V) (us : List (Transaction V)) →
      AfterSkip k t us → Ordered us → Newest t us → t.ts ≤ τ → value_upto k x τ (insert t us) ≡ along k (value_upto k x t.ts us) t.ops
  write_after k x τ t [] skip order newest high = grind (arith, nat_tests)
  write_after k x τ t (u ∷ us) skip order newest high =
      cond_both (before t u) _ _ (λ new. value_upto k x τ new ≡ along k (value_upto k x t.ts (u ∷ us)) t.ops)
      (λ is.
      let late = before_newest t u newest.0 is in
      grind (arith, nat_tests, along_skip k u.ops (skip.0 late), write_after k x τ t us skip.1 order.1 newest.1 high, upto_later k x t.ts u us late))
      (λ is.
      let low = not_before t u is in
      grind (arith, nat_tests, upto_here k x τ t u us order low high, upto_here k x t.ts t u us order low (omega arith)))

  -- ---- insertion and the reads of a key

  -- The later transactions still see what they saw.
  abbrev Keeps : ℕ → Option V → Transaction V → List (Transaction V) → Type 0
  Keeps k x t [] = Unit {0}
  Keeps k x t (u ∷ us) = Keeps k x t us × (t.ts < u.ts → Sees k (all_along k x us) u.ops → Sees k (all_along k x (insert t us)) u.ops)

  pub see_insert : (k : ℕ) (x : Option V) (t : Transaction V) (us : List (Transaction V)) → Keeps k x t us → Ordered us → Newest t us →
      AllSee k x us → Sees k (value_upto k x t.ts us) t.ops → AllSee k x (insert t us)
  see_insert k x t [] keeps order newest sees new = (tt, new)
  see_insert k x t (u ∷ us) keeps order newest sees new =
      cond_both (before t u) _ _ (AllSee k x)
      (λ is.
      let late = before_newest t u newest.0 is in
      (see_insert k x t us keeps.0 order.1 newest.1 sees.0 (subst (λ (o : Option V). Sees k o t.ops) (upto_later k x t.ts u us late) new), keeps.1 late sees.1))
      (λ is. (sees, subst (λ (o : Option V). Sees k o t.ops) (sym (upto_here k x t.ts t u us order (not_before t u is) (omega arith))) new))

  pub quiet_all : (k : ℕ) (x : Option V) (t : Transaction V) (us : List (Transaction V)) → Quiet k t.ops → all_along k x (insert t us) ≡ all_along k x us
  quiet_all k x t [] quiet = quiet x
  quiet_all k x t (u ∷ us) quiet =
      cond_both (before t u) _ _ (λ new. all_along k x new ≡ all_along k x (u ∷ us))
      (λ _. ap (λ (o : Option V). along k o u.ops) (quiet_all k x t us quiet)) (λ _. quiet (all_along k x (u ∷ us)))

  pub quiet_keeps : (k : ℕ) (x : Option V) (t : Transaction V) (us : List (Transaction V)) → Quiet k t.ops → Keeps k x t us
  quiet_keeps k x t [] quiet = tt
  quiet_keeps k x t (u ∷ us) quiet = (quiet_keeps k x t us quiet, λ late saw. subst (λ (o : Option V). Sees k o u.ops) (sym (quiet_all k x t us quiet)) saw)

  pub skip_keeps : (k : ℕ) (x : Option V) (t : Transaction V) (us : List (Transaction V)) → AfterSkip k t us → Keeps k x t us
  skip_keeps k x t [] skip = tt
  skip_keeps k x t (u ∷ us) skip = (skip_keeps k x t us skip.1, λ late saw. sees_skip k u.ops (skip.0 late) (all_along k x (insert t us)))

  -- ---- the order

  all_before_then : (us : List (Transaction V)) (u w : Transaction V) → AllBefore us u → before u w ≡ true → AllBefore us w
  all_before_then [] u w all two = tt
  all_before_then (t ∷ us) u w all two = (grind (arith, nat_tests, all.0), all_before_then us u w all.1 two)

  all_before_insert : (t : Transaction V) (us : List (Transaction V)) (w : Transaction V) → before t w ≡ true → AllBefore us w → AllBefore (insert t us) w
  all_before_insert t [] w one all = (one, tt)
  all_before_insert t (u ∷ us) w one all = cond_both (before t u) _ _ (λ new. AllBefore new w) (λ _. (all.0, all_before_insert t us w one all.1)) (λ _. (one, all))

  pub sorted_insert : (t : Transaction V) (us : List (Transaction V)) → Sorted us → Newest t us → Sorted (insert t us)
  sorted_insert t [] sorted newest = (tt, tt)
  sorted_insert t (u ∷ us) sorted newest =
      cond_both (before t u) _ _ Sorted
      (λ is. (all_before_insert t us u is sorted.0, sorted_insert t us sorted.1 newest.1))
      (λ is. let first : before u t ≡ true = grind (arith, nat_tests, newest.0) in ((first, all_before_then us u t sorted.0 first), sorted))

  ordered_under : (us : List (Transaction V)) (u : Transaction V) → AllBefore us u → All (λ w. w.ts ≤ u.ts) us
  ordered_under [] u all = tt
  ordered_under (w ∷ us) u all = (grind (arith, nat_tests, all.0), ordered_under us u all.1)

  pub ordered : (us : List (Transaction V)) → Sorted us → Ordered us
  ordered [] sorted = tt
  ordered (u ∷ us) sorted = (ordered_under us u sorted.0, ordered us sorted.1)

  pub insert_shuffled : (t : Transaction V) (us : List (Transaction V)) → IsPermutation (t ∷ us) (insert t us)
  insert_shuffled t [] = IsPermutation-refl (t ∷ [])
  insert_shuffled t (u ∷ us) =
      cond_both (before t u) _ _ (IsPermutation (t ∷ (u ∷ us)))
      (λ _.
      IsPermutation-trans _ (u ∷ (t ∷ us)) _
      (IsPermutation-swap _ (u ∷ (t ∷ us)) 0 1 (omega arith) (omega arith) refl)
      (IsPermutation-cons u _ _ (insert_shuffled t us)))
      (λ _. IsPermutation-refl _)

  pub arranged_shuffled : (us : List (Transaction V)) → IsPermutation us (arranged us)
  arranged_shuffled [] = IsPermutation-refl []
  arranged_shuffled (t ∷ us) =
      IsPermutation-trans (t ∷ us) (t ∷ arranged us) (insert t (arranged us))
      (IsPermutation-cons t us (arranged us) (arranged_shuffled us))
      (insert_shuffled t (arranged us))
