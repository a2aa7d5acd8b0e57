-- Two homes side by side keep the conditions on a home, where they have one last timestamp and few enough keys.
use Rattle.std.proofs.Common.{◌≡◌, ℕ, ◌+◌, Bool, true, false, cond, ◌&&◌, List, [], ◌∷◌, ◌++◌, length, refl, ap, ◌∙◌, arith, length-append}
use Rattle.std.specs.Prelude.{◌==◌}
use Rattle.std.proofs.lemmas.Bool.{and_from, and_parts}
use Rattle.std.proofs.lemmas.Bool.Decides.{nat_tests}
use Rattle.home.specs.declared.row.Row.{Row}
use Rattle.home.specs.Meaning.{Meaning, Sound, all_fair, fair}
use Rattle.home.specs.Opening.{is_count}

module _ {V : Type 0} where
  all_fair_both : (last : ℕ) (xs ys : List (Row V)) → all_fair last xs ≡ true → all_fair last ys ≡ true → all_fair last (xs ++ ys) ≡ true
  all_fair_both last [] ys one two = two
  all_fair_both last (x ∷ xs) ys one two =
      let p = and_parts (fair last x) (all_fair last xs) one in
      and_from _ _ p.0 (all_fair_both last xs ys p.1 two)

  by_fit : (l r : Meaning V) (b : Bool) → (is_count (length l.rows + length r.rows) && l.last == r.last) ≡ b → Sound l → Sound r → Sound (record { last = l.last; rows = cond b (l.rows ++ r.rows) [] })
  by_fit l r true fits sl sr =
      let same : l.last ≡ r.last = grind (arith, nat_tests) in
      let both : all_fair l.last r.rows ≡ true = ap (λ n. all_fair n r.rows) same ∙ sr.rows in
      record {
        few = simp length-append (grind (arith, nat_tests));
        ends = sl.ends;
        rows = all_fair_both l.last l.rows r.rows sl.rows both;
      }
  by_fit l r false fits sl sr = record { few = omega arith; ends = sl.ends; rows = refl }

  pub both_sound : (l r : Meaning V) → Sound l → Sound r → Sound (record { last = l.last; rows = cond (is_count (length l.rows + length r.rows) && l.last == r.last) (l.rows ++ r.rows) [] })
  both_sound l r sl sr = by_fit l r _ refl sl sr
