-- What the two tables hold once the homes over them have ended.
use Rattle.std.proofs.Common.{◌≡◌, ℕ, Bool, true, false, cond, List, [], ◌++◌, length, is_ok, Ok, Err, Result, sym, refl, ap, ◌∙◌, subst}
use Rattle.home.specs.declared.fault.Fault.{Fault}
use Rattle.home.specs.Meaning.{Meaning}
use Rattle.home.specs.Memory.{Memory, in_bytes, in_rows}
use Rattle.home.specs.Opening.{table_meaning}
use Rattle.row_home.specs.Opening.{row_check}
use Rattle.home.specs.declared.row.Row.{Row}
use Rattle.kinds.specs.Words.{node_reading, node_value}
use Rattle.byte_home.specs.Bytes.{byte_check, read_rows, word_rows}
use Rattle.split_home.specs.Splits.{split_check}
use Rattle.kinds.specs.declared.node.Node.{Node}
use Rattle.quotes.specs.declared.order.Order.{Order}
use Rattle.quotes.specs.Days.{Served, Tables, and_then, curve_check, far_home, morning, near_home}
use Rattle.quotes.specs.Orders.{served}

-- what of a table no call alters: nothing, where the check passed
pub rows_free : (a b : ℕ) (kept near : List (Row Node)) (check : Result (Unit {0}) Fault) (x : Unit {0}) → in_rows a kept ≡ in_rows b (cond (is_ok check) [] near) → check ≡ Ok x → kept ≡ []
rows_free a b kept near check x is ok = let h : kept ≡ cond (is_ok check) [] near = cc in h ∙ ap (λ c. cond (is_ok c) [] near) ok

pub bytes_free : (a b : ℕ) (kept far : List ℕ) (check : Result (Unit {0}) Fault) (x : Unit {0}) → ◌≡◌ {A = Memory Node} (in_bytes a kept) (in_bytes b (cond (is_ok check) [] far)) → check ≡ Ok x → kept ≡ []
bytes_free a b kept far check x is ok = let h : kept ≡ cond (is_ok check) [] far = cc in h ∙ ap (λ c. cond (is_ok c) [] far) ok

-- a table that lies wholly in its home: what the home means is what the table holds
whole_table : {X : Type 0} (p : Bool) (xs : List X) → cond p [] xs ≡ [] → cond p xs [] ≡ xs
whole_table true xs is = refl
whole_table false xs is = sym is

no_rows : read_rows node_reading [] ≡ []
unfolding word_rows
no_rows = refl

whole_bytes : (p : Bool) (bs : List ℕ) → cond p [] bs ≡ [] → cond p (read_rows node_reading bs) [] ≡ read_rows node_reading bs
whole_bytes true bs is = refl
whole_bytes false bs is = sym (ap (read_rows node_reading) is ∙ no_rows)

module _ (near : List (Row Node)) (far : List ℕ) (orders : List Order) (x y : Unit {0}) (row_ok : row_check 4294967295 near ≡ Ok x) (byte_ok : byte_check node_value far ≡ Ok y) where
  pub curve_as_split : curve_check near far ≡ split_check (near_home near) (far_home far)
  unfolding curve_check
  curve_as_split = ap (λ c. and_then c (and_then (byte_check node_value far) (split_check (near_home near) (far_home far)))) row_ok ∙ ap (λ c. and_then c (split_check (near_home near) (far_home far))) byte_ok

  -- the tables after the homes have ended
  pub tables_from : (l : Meaning Node) (p q : Bool) (last last' : ℕ) (near' : List (Row Node)) (far' : List ℕ) (Same : Type 0) → length near' ≡ length near → length far' ≡ length far → (Same → (near' ≡ near) × (far' ≡ far)) → cond p [] near' ≡ [] → cond q [] far' ≡ []
      → Served (split_check (near_home near) (far_home far)) (morning (near_home near) (far_home far) orders) l (table_meaning p last near') (table_meaning q last' (read_rows node_reading far')) Same
      → Tables (curve_check near far) (morning (near_home near) (far_home far) orders) near near' far far'
  tables_from l p q last last' near' far' Same long-near long-far same in_near in-far served =
      subst (λ c. Tables c (morning (near_home near) (far_home far) orders) near near' far far') (sym curve_as_split) (by_check (split_check (near_home near) (far_home far)) served)
    where
      by_check : (c : Result (Unit {0}) Fault) → Served c (morning (near_home near) (far_home far) orders) l (table_meaning p last near') (table_meaning q last' (read_rows node_reading far')) Same → Tables c (morning (near_home near) (far_home far) orders) near near' far far'
      by_check (Ok z) s = (sym (ap (λ xs. xs ++ cond q (read_rows node_reading far') []) (whole_table p near' in_near) ∙ ap (λ ys. near' ++ ys) (whole_bytes q far' in-far)) ∙ s.0, long-near, long-far)
      by_check (Err fault) s = same s

  -- the same, of homes that are known by what they were made of and what they lie in
  pub tables_after : (l r : Meaning Node) (p q : Bool) (last last' : ℕ) (rows near' : List (Row Node)) (bytes far' : List ℕ) (Same : Type 0)
      → l ≡ near_home near → r ≡ far_home far → near' ≡ rows → far' ≡ bytes → length near' ≡ length near → length far' ≡ length far
      → (Same → (near' ≡ near) × (far' ≡ far)) → cond p [] rows ≡ [] → cond q [] bytes ≡ []
      → Served (split_check l r) (morning l r orders) l (table_meaning p last rows) (table_meaning q last' (read_rows node_reading bytes)) Same
      → Tables (curve_check near far) (morning (near_home near) (far_home far) orders) near near' far far'
  tables_after l r p q last last' rows near' bytes far' Same is-l is-r is-near is-far long-near long-far same in_near in-far served =
      let one = subst (λ (m : Meaning Node). Served (split_check m r) (morning m r orders) l (table_meaning p last rows) (table_meaning q last' (read_rows node_reading bytes)) Same) is-l served in
      let two = subst (λ (m : Meaning Node). Served (split_check (near_home near) m) (morning (near_home near) m orders) l (table_meaning p last rows) (table_meaning q last' (read_rows node_reading bytes)) Same) is-r one in
      let three = tables_from l p q last last' rows bytes Same (ap length (sym is-near) ∙ long-near) (ap length (sym is-far) ∙ long-far) (λ s. (sym is-near ∙ (same s).0, sym is-far ∙ (same s).1)) in_near in-far two in
      subst (λ (xs : List (Row Node)). Tables (curve_check near far) (morning (near_home near) (far_home far) orders) near xs far far') (sym is-near)
      (subst (λ (ys : List ℕ). Tables (curve_check near far) (morning (near_home near) (far_home far) orders) near rows far ys) (sym is-far) three)
