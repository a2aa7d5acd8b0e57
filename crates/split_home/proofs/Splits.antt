-- A key of a split home is a key of one of the two, and a change there is a change of the split home.
use Rattle.std.proofs.Common.{◌≡◌, ℕ, zero, suc, ◌-◌, ◌<◌, ◌≤◌, Bool, true, false, cond, List, [], ◌∷◌, ◌++◌, length, Some, None, Ok, Err, Result, sym, refl, ap, ◌∙◌, arith, length-append, length-set}
use Rattle.std.specs.List.{slice_get}
use Rattle.std.proofs.lemmas.List.{set-append_left, set-append_right}
use Rattle.std.proofs.lemmas.Option.{slice_get_past}
use Rattle.std.proofs.lemmas.Bool.Decides.{nat_tests}
use Rattle.home.specs.declared.row.Cause.{Cause}
use Rattle.home.specs.declared.row.Row.{Row}
use Rattle.home.specs.declared.row.Change.{Change}
use Rattle.home.specs.Rows.{Outcome, refuses, grants}
use Rattle.home.specs.Meaning.{Meaning, after, amended_at, changed, no_key, no_place, rows_after, well_placed}
use Rattle.home.specs.Memory.{idle, parted}
use Rattle.split_home.specs.declared.Side.{Side}
use Rattle.split_home.specs.declared.Side.TheVariants.{Left, Right}
use Rattle.split_home.specs.Splits.{side_from, side_of, split_counts, split_fits, split_meaning, split_parts}

-- a key that lies on a side
by_fits : (b : Bool) (inner : Result Side Cause) (side : Side) → cond b inner (Err no_key) ≡ Ok side → (b ≡ true) × (inner ≡ Ok side)
by_fits true inner side at = (refl, at)
by_fits false inner side at = absurd (let z : ◌≡◌ {A = ℕ} 0 1 = cc in omega arith)

module _ {V : Type 0} where
  -- ---- lists

  nth_left : (xs ys : List (Row V)) (key : ℕ) → key < length xs → slice_get (xs ++ ys) key ≡ slice_get xs key
  nth_left [] ys key within = absurd (omega arith)
  nth_left (x ∷ xs) ys zero within = refl
  nth_left (x ∷ xs) ys (suc key) within = nth_left xs ys key (omega arith)

  nth_right : (xs ys : List (Row V)) (key : ℕ) → length xs ≤ key → slice_get (xs ++ ys) key ≡ slice_get ys (key - length xs)
  nth_right [] ys key past = ap (slice_get ys) (omega arith)
  nth_right (x ∷ xs) ys zero past = absurd (omega arith)
  nth_right (x ∷ xs) ys (suc key) past = nth_right xs ys key (omega arith) ∙ ap (slice_get ys) (omega arith)

  -- ---- the split home

  -- where a key lies, by the counts
  left_fits : (l r : Meaning V) (key : ℕ) → side_of l r key ≡ Ok Left → (split_fits l r ≡ true) × (key < length l.rows)
  left_fits l r key at =
      let f = by_fits (split_fits l r) (side_from (length l.rows) (length r.rows) key) Left at in
      (f.0, grind (arith, nat_tests, f.1))

  right_fits : (l r : Meaning V) (key own : ℕ) → side_of l r key ≡ Ok (Right own) → (split_fits l r ≡ true) × (length l.rows ≤ key) × (key - length l.rows ≡ own)
  right_fits l r key own at =
      let f = by_fits (split_fits l r) (side_from (length l.rows) (length r.rows) key) (Right own) at in
      (f.0, grind (arith, nat_tests, f.1), grind (arith, nat_tests, f.1))

  whole : (l r : Meaning V) → split_fits l r ≡ true → split_meaning l r ≡ record { last = l.last; rows = l.rows ++ r.rows }
  whole l r fits = ap (λ b. record { last = l.last; rows = cond b (l.rows ++ r.rows) [] }) fits

  same_count : (m : Meaning V) (key : ℕ) (o : Outcome V) → length (after m key o).rows ≡ length m.rows
  same_count m key (refuses cause) = refl
  same_count m key (grants row) = length-set m.rows key row

  -- a change on one side keeps the two together
  still_fits : (l r l' r' : Meaning V) → l'.last ≡ l.last → r'.last ≡ r.last → length l'.rows ≡ length l.rows → length r'.rows ≡ length r.rows → split_fits l' r' ≡ split_fits l r
  still_fits l r l' r' a b c d = cc

  parts_is : (l r : Meaning V) → split_fits l r ≡ true → split_parts l r ≡ parted (length l.rows)
  parts_is l r fits = ap (λ b. cond b (parted (length l.rows)) (idle l r)) fits

  counts_is : (l r : Meaning V) → split_fits l r ≡ true → split_counts l r ≡ Some (length l.rows, length r.rows)
  counts_is l r fits = ap (λ b. cond b (Some (length l.rows, length r.rows)) None) fits

  -- ---- a key on the left

  pub left_row : (l r : Meaning V) (key : ℕ) → side_of l r key ≡ Ok Left → slice_get (split_meaning l r).rows key ≡ slice_get l.rows key
  left_row l r key at =
      let f = left_fits l r key at in
      ap (λ (m : Meaning V). slice_get m.rows key) (whole l r f.0) ∙ nth_left l.rows r.rows key f.1

  left_rows : (l r : Meaning V) (key : ℕ) (o : Outcome V) → key < length l.rows → rows_after l.rows key o ++ r.rows ≡ rows_after (l.rows ++ r.rows) key o
  left_rows l r key (refuses cause) within = refl
  left_rows l r key (grants row) within = sym (set-append_left l.rows r.rows key row within)

  left_after : (l r : Meaning V) (key : ℕ) (o : Outcome V) → split_fits l r ≡ true → key < length l.rows → split_meaning (after l key o) r ≡ after (split_meaning l r) key o
  left_after l r key o fits within =
      let still : split_fits (after l key o) r ≡ true = still_fits l r (after l key o) r refl refl (same_count l key o) refl ∙ fits in
      whole (after l key o) r still ∙ ap (λ rows. record { last = l.last; rows = rows }) (left_rows l r key o within) ∙ ap (λ m. after m key o) (sym (whole l r fits))

  pub left_change : (l r : Meaning V) (key : ℕ) (change : Change V) → side_of l r key ≡ Ok Left
      → (changed (split_meaning l r) key change ≡ changed l key change)
      × (split_meaning (after l key (changed l key change)) r ≡ after (split_meaning l r) key (changed (split_meaning l r) key change))
      × (split_parts (after l key (changed l key change)) r ≡ split_parts l r)
      × (split_counts (after l key (changed l key change)) r ≡ split_counts l r)
  unfolding changed
  left_change l r key change at =
      let f = left_fits l r key at in
      let o = changed l key change in
      let same : changed (split_meaning l r) key change ≡ o = ap (λ row. cond (well_placed change) (amended_at l.last change row) (refuses no_place)) (left_row l r key at) in
      let still = still_fits l r (after l key o) r refl refl (same_count l key o) refl ∙ f.0 in (
        same,
        left_after l r key o f.0 f.1 ∙ ap (after (split_meaning l r) key) (sym same),
        parts_is (after l key o) r still ∙ ap parted (same_count l key o) ∙ sym (parts_is l r f.0),
        counts_is (after l key o) r still ∙ ap (λ n. Some (n, length r.rows)) (same_count l key o) ∙ sym (counts_is l r f.0),
      )

  -- ---- a key on the right

  pub right_row : (l r : Meaning V) (key own : ℕ) → side_of l r key ≡ Ok (Right own) → slice_get (split_meaning l r).rows key ≡ slice_get r.rows own
  right_row l r key own at =
      let f = right_fits l r key own at in
      ap (λ (m : Meaning V). slice_get m.rows key) (whole l r f.0) ∙ nth_right l.rows r.rows key f.1 ∙ ap (slice_get r.rows) f.2

  right_rows : (l r : Meaning V) (key : ℕ) (o : Outcome V) → length l.rows ≤ key → l.rows ++ rows_after r.rows (key - length l.rows) o ≡ rows_after (l.rows ++ r.rows) key o
  right_rows l r key (refuses cause) past = refl
  right_rows l r key (grants row) past = sym (set-append_right l.rows r.rows (length l.rows) key row refl past)

  right_after : (l r : Meaning V) (key : ℕ) (o : Outcome V) → split_fits l r ≡ true → length l.rows ≤ key → split_meaning l (after r (key - length l.rows) o) ≡ after (split_meaning l r) key o
  right_after l r key o fits past =
      let own = key - length l.rows in
      let still : split_fits l (after r own o) ≡ true = still_fits l r l (after r own o) refl refl refl (same_count r own o) ∙ fits in
      whole l (after r own o) still ∙ ap (λ rows. record { last = l.last; rows = rows }) (right_rows l r key o past) ∙ ap (λ m. after m key o) (sym (whole l r fits))

  pub right_change : (l r : Meaning V) (key own : ℕ) (change : Change V) → side_of l r key ≡ Ok (Right own)
      → (changed (split_meaning l r) key change ≡ changed r own change)
      × (split_meaning l (after r own (changed r own change)) ≡ after (split_meaning l r) key (changed (split_meaning l r) key change))
      × (split_parts l (after r own (changed r own change)) ≡ split_parts l r)
      × (split_counts l (after r own (changed r own change)) ≡ split_counts l r)
  unfolding changed
  right_change l r key own change at =
      let f = right_fits l r key own at in
      let o = changed r own change in
      let last : l.last ≡ r.last = grind (arith, nat_tests, f.0) in
      let same : changed (split_meaning l r) key change ≡ o = ap (λ row. cond (well_placed change) (amended_at l.last change row) (refuses no_place)) (right_row l r key own at) ∙ ap (λ n. cond (well_placed change) (amended_at n change (slice_get r.rows own)) (refuses no_place)) last in
      let left = ap (λ k. split_meaning l (after r k o)) (sym f.2) ∙ right_after l r key o f.0 f.1 in
      let still = still_fits l r l (after r own o) refl refl refl (same_count r own o) ∙ f.0 in (
        same,
        left ∙ ap (after (split_meaning l r) key) (sym same),
        parts_is l (after r own o) still ∙ sym (parts_is l r f.0),
        counts_is l (after r own o) still ∙ ap (λ n. Some (length l.rows, n)) (same_count r own o) ∙ sym (counts_is l r f.0),
      )

  -- ---- a key on neither side

  pub no_row : (l r : Meaning V) (key : ℕ) (cause : Cause) → side_of l r key ≡ Err cause → (slice_get (split_meaning l r).rows key ≡ None) × (cause ≡ no_key)
  no_row l r key cause at = by_fit (split_fits l r) at
    where
      by_fit : (b : Bool) → cond b (side_from (length l.rows) (length r.rows) key) (Err no_key) ≡ Err cause → (slice_get (cond b (l.rows ++ r.rows) []) key ≡ None) × (cause ≡ no_key)
      by_fit true at = (slice_get_past (l.rows ++ r.rows) key (simp length-append (grind (arith, nat_tests))), grind (arith, nat_tests))
      by_fit false at = (refl, cc)
