-- What a call is not given to alter, its rule does not alter.
use Rattle.std.proofs.Common.{◌≡◌, ℕ, Bool, length, refl}
use Rattle.coordinator.specs.Tables.{Tables, at_cursor, sheet, sought, used_of}
use Rattle.coordinator.specs.Calls.{Did, by_entry, read_call, reading, settle_call, settling}
use Rattle.serial.proofs.Seats.{by_entered, place_at}
use Rattle.serial.proofs.Rules.{read_cases, settle_cases}

module _ {V : Type 0} (t : Tables V) (place : ℕ) where
  pub read_home : (key : ℕ) → (read_call t place key).tables.home ≡ t.home
  unfolding read_call
  read_home key =
      by_entered 2 t.places (length t.entries) place key
      (λ r. (by_entry t (λ p. reading t place key p (sought key 0 (sheet place (used_of p) t.entries))) r).tables.home ≡ t.home) (λ fault _. refl)
      (λ en. read_cases t place (place_at t.places place) key (λ (d : Did V V). d.tables.home ≡ t.home) (λ fault _. refl) (λ n e is. refl) (λ row none room is. refl))

  pub settle_entries : (settle_call t place).tables.entries ≡ t.entries
  unfolding settle_call
  settle_entries =
      by_entered 7 t.places (length t.entries) place 0
      (λ r. (by_entry t (λ p. settling t place p (at_cursor t.entries place p)) r).tables.entries ≡ t.entries) (λ fault _. refl)
      (λ en. settle_cases t place (place_at t.places place) (λ (d : Did V (ℕ × Bool)). d.tables.entries ≡ t.entries)
      (λ fault _. refl) (λ is. refl) (λ e is read. refl) (λ e row is written came. refl))
