-- What a renewal wishes.
use Rattle.std.proofs.Common.{◌≡◌, ℕ, ◌+◌, ◌≤◌, min, arith}
use Rattle.coordinator.specs.Calls.{stretch_of, wish_of}

-- a sum that saturates is cut to the last timestamp all the same
pub wished : (last key ts stretch sum end wish : ℕ) → last ≤ 9223372036854775807 → stretch ≡ stretch_of key → sum ≡ min (ts + stretch) 18446744073709551615 →
    end ≡ last → wish ≡ min sum end → wish ≡ wish_of last key ts
wished last key ts stretch sum end wish ends is total at cut = omega arith
