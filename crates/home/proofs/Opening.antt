-- A check that goes through the rows from the first, and what it has shown where it finds nothing.
use Rattle.std.proofs.Common.{◌≡◌, ℕ, ◌+◌, ◌<◌, ◌≤◌, true, List, [], ◌∷◌, length, get_or, drop, Ok, Option, sym, refl, ap, ◌∙◌, arith}
use Rattle.std.proofs.lemmas.List.{drop_more, drop_all}
use Rattle.std.proofs.lemmas.Bool.Decides.{nat_tests}
use Rattle.home.specs.declared.row.Row.{Row}
use Rattle.home.specs.declared.row.Flaw.{Flaw}
use Rattle.home.specs.Meaning.{all_fair}
use Rattle.home.specs.Opening.{first_bad, row_flaw, unless_bad}

module _ {X : Type 0} (flaw : X → Option Flaw) where
  -- one item more
  pub first_bad_more : (xs : List X) (key : ℕ) (x : X) → key < length xs → x ≡ get_or xs key x → first_bad flaw key (drop key xs) ≡ unless_bad key (flaw x) (first_bad flaw (key + 1) (drop (key + 1) xs))
  first_bad_more xs key x within read =
      let here : drop key xs ≡ x ∷ drop (key + 1) xs = drop_more xs key x within ∙ ap (λ y. y ∷ drop (key + 1) xs) (sym read) in
      ap (first_bad flaw key) here

  -- no item left
  pub first_bad_all : (xs : List X) (key : ℕ) → length xs ≤ key → first_bad flaw key (drop key xs) ≡ Ok tt
  first_bad_all xs key past = ap (first_bad flaw key) (drop_all key xs past)

module _ {V : Type 0} where
  pub all_fair_from : (last key : ℕ) (rows : List (Row V)) → first_bad (row_flaw last) key rows ≡ Ok tt → all_fair last rows ≡ true
  all_fair_from last key [] ok = refl
  all_fair_from last key (row ∷ rows) ok = grind (arith, nat_tests, all_fair_from last (key + 1) rows)
