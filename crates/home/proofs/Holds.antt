-- What is known of a row once a hold of it was granted: it can be written past its lease.
use Rattle.std.proofs.Common.{◌≡◌, ℕ, ◌<◌, true, Some, Ok, sym, arith}
use Rattle.std.specs.List.{slice_get}
use Rattle.std.proofs.lemmas.Bool.Decides.{nat_tests}
use Rattle.home.specs.declared.row.Row.{Row}
use Rattle.home.specs.declared.row.Lease.{Lease}
use Rattle.home.specs.declared.row.Change.TheVariants.{Hold}
use Rattle.home.specs.Rows.{grants, lease_of}
use Rattle.home.specs.Meaning.{Meaning, Sound, after, answer, changed, is_place}
use Rattle.home.proofs.Calls.{fair_at}
use Rattle.home.proofs.Laws.{found_after, granted, granted_from, granted_place}

module _ {V : Type 0} (m : Meaning V) (key place : ℕ) where
  -- its lease ends before the last timestamp, and the place is its holder
  pub held_row : (held : Row V) → Sound m → changed m key (Hold place) ≡ grants held
      → (is_place place ≡ true) × (held.holder ≡ place) × (held.rts < m.last) × (slice_get (after m key (changed m key (Hold place))).rows key ≡ Some held)
  held_row held s is =
      let g = granted m key (Hold place) held is in
      let ok = fair_at m.last m.rows key g.0 s.rows g.1 in
      (granted_place m key (Hold place) held is, grind (arith, nat_tests, g.2), grind (arith, nat_tests, g.2), rw is (found_after m key (Hold place) held is))

  -- so the next timestamp is a number of the machine's
  pub hold_room : (lease : Lease) → Sound m → Ok lease ≡ answer lease_of place key (changed m key (Hold place)) → lease.rts < 9223372036854775807
  hold_room lease s is =
      let r = granted_from lease_of place key (changed m key (Hold place)) lease (sym is) in
      grind (arith, held_row r.0 s r.1)
