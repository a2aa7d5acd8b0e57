-- Orders by the calls of a home: a node that is held is there, can be written past its lease, and can be freed.
use Rattle.std.proofs.Common.{◌≡◌, ℕ, ◌+◌, ℤ, Ok, Err, sym, ap, ◌∙◌, arith}
use Rattle.std.proofs.lemmas.Bool.Decides.{nat_tests}
use Rattle.home.specs.declared.fault.Fault.{Fault}
use Rattle.home.specs.declared.row.Row.{Row}
use Rattle.home.specs.declared.row.Lease.{Lease}
use Rattle.home.specs.declared.row.Change.TheVariants.{Hold, Put, Free}
use Rattle.home.specs.Rows.{grants, lease_of}
use Rattle.home.specs.Meaning.{Meaning, Sound, after, answer, changed, looked, nothing}
use Rattle.home.proofs.Holds.{held_row}
use Rattle.home.proofs.Laws.{after_twice, changed_at, granted_from, looked_at}
use Rattle.kinds.specs.Words.{with_rate}
use Rattle.kinds.specs.declared.node.Node.{Node}
use Rattle.quotes.specs.Orders.{after_hold, let_go, quoted, withdrawn, written}

-- written at the next timestamp
pub put_held : (m : Meaning Node) (key place : ℕ) (held : Row Node) (rate : ℤ) → Sound m → changed m key (Hold place) ≡ grants held → changed (after m key (changed m key (Hold place))) key (Put place (written rate held).value (held.rts + 1)) ≡ grants (written rate held)
put_held m key place held rate s is =
    let h = held_row m key place held s is in
    let n = after m key (changed m key (Hold place)) in
    changed_at n key (Put place (written rate held).value (held.rts + 1)) held h.0 h.3 ∙ grind (arith, nat_tests)

pub free_held : (m : Meaning Node) (key place : ℕ) (held : Row Node) → Sound m → changed m key (Hold place) ≡ grants held → changed (after m key (changed m key (Hold place))) key (Free place) ≡ grants (let_go held)
free_held m key place held s is =
    let h = held_row m key place held s is in
    let n = after m key (changed m key (Hold place)) in
    changed_at n key (Free place) held h.0 h.3 ∙ grind (arith, nat_tests)

-- ---- the orders

module _ (m : Meaning Node) (key place : ℕ) where
  pub quote_done : (rate : ℤ) (held : Row Node) → changed m key (Hold place) ≡ grants held → quoted m key place rate ≡ grants (written rate held)
  unfolding quoted
  quote_done rate held is = ap (after_hold (written rate)) is

  pub withdraw_done : (held : Row Node) → changed m key (Hold place) ≡ grants held → withdrawn m key place ≡ grants (let_go held)
  unfolding withdrawn
  withdraw_done held is = ap (after_hold let_go) is

-- ---- after a hold that was answered: n is the home then

module _ (m n : Meaning Node) (key place : ℕ) (lease : Lease) (s : Sound m) (ok : Ok lease ≡ answer lease_of place key (changed m key (Hold place))) (then : n ≡ after m key (changed m key (Hold place))) where
  held : (row : Row Node) × (changed m key (Hold place) ≡ grants row) × (lease ≡ lease_of row)
  held = granted_from lease_of place key (changed m key (Hold place)) lease (sym ok)

  -- the node is there
  is_there : looked n key ≡ Ok held.0
  is_there = ap (λ x. looked x key) then ∙ looked_at (after m key (changed m key (Hold place))) key held.0 (held_row m key place held.0 s held.1).3

  pub never_gone : (fault : Fault) → Err fault ≡ looked n key → ⊥
  never_gone fault is = let h = is_there in let z : ◌≡◌ {A = ℕ} 0 1 = cc in omega arith

  -- it can be written
  puts : (row : Row Node) (rate : ℤ) (new : Node) → Ok row ≡ looked n key → new ≡ with_rate row.value rate → changed n key (Put place new (lease.rts + 1)) ≡ grants (written rate held.0)
  puts row rate new at is =
      let h = is_there in
      let same : held.0 ≡ row = cc in
      let v : new ≡ with_rate held.0.value rate = is ∙ ap (λ (x : Row Node). with_rate x.value rate) (sym same) in
      let t : lease.rts + 1 ≡ held.0.rts + 1 = ap (λ (l : Lease). l.rts + 1) held.2 in
      ap (λ x. changed x key (Put place new (lease.rts + 1))) then
      ∙ ap (λ x. changed (after m key (changed m key (Hold place))) key (Put place x (lease.rts + 1))) v
      ∙ ap (λ x. changed (after m key (changed m key (Hold place))) key (Put place (with_rate held.0.value rate) x)) t
      ∙ put_held m key place held.0 rate s held.1

  pub never_barred : (row : Row Node) (rate : ℤ) (new : Node) (fault : Fault) → Ok row ≡ looked n key → new ≡ with_rate row.value rate → Err fault ≡ answer nothing place key (changed n key (Put place new (lease.rts + 1))) → ⊥
  never_barred row rate new fault at is no' = let h = no' ∙ ap (answer nothing place key) (puts row rate new at is) in let z : ◌≡◌ {A = ℕ} 0 1 = cc in omega arith

  pub quote_after : (row : Row Node) (rate : ℤ) (new : Node) → Ok row ≡ looked n key → new ≡ with_rate row.value rate → after n key (changed n key (Put place new (lease.rts + 1))) ≡ after m key (quoted m key place rate)
  quote_after row rate new at is =
      ap (after n key) (puts row rate new at is)
      ∙ ap (λ x. after x key (grants (written rate held.0))) (then ∙ ap (after m key) held.1)
      ∙ after_twice m key held.0 (written rate held.0)
      ∙ sym (ap (after m key) (quote_done m key place rate held.0 held.1))

  -- it can be freed
  frees : changed n key (Free place) ≡ grants (let_go held.0)
  frees = ap (λ x. changed x key (Free place)) then ∙ free_held m key place held.0 s held.1

  pub withdraw_after : after n key (changed n key (Free place)) ≡ after m key (withdrawn m key place)
  withdraw_after =
      ap (after n key) frees
      ∙ ap (λ x. after x key (grants (let_go held.0))) (then ∙ ap (after m key) held.1)
      ∙ after_twice m key held.0 (let_go held.0)
      ∙ sym (ap (after m key) (withdraw_done m key place held.0 held.1))
