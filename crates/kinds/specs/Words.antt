-- The words of the two kinds, and which words have a value.
--   price_word p     the ticks as a 64-bit two's complement number
--   price_value w    every word is a price
--   price_reading w  that price
--   day_of n         the day of a node, from 1 to 65,536
--   with_rate n r    the node of the same day with the rate r
--   node_of d r      the node of day d and rate r, if 1 ≤ d ≤ 65,536
--   node_word n      day × 4,294,967,296 + the rate as a 32-bit two's complement number
--   node_value w     the node whose word w is: the day is what stands above the lower 32 bits
--   node_reading w   that node, where w is a node's word; some node otherwise
--   is_node_word w   w lies from 1 × 4,294,967,296 to 65,537 × 4,294,967,296 − 1
use Rattle.std.specs.Prelude.{ℕ, ◌+◌, ◌-◌, ◌*◌, ◌/◌, ◌%◌, Bool, cond, ◌&&◌, ℤ, Some, None, Option, nat_le, nat_lt}
use Rattle.std.specs.Int.{w32, w64}
use Rattle.std.proofs.Common.{of_z, to_z}
use Rattle.kinds.specs.declared.price.Price.{Price}
use Rattle.kinds.specs.declared.node.Node.{Node}

abbrev pub price_word : Price → ℕ
price_word p = of_z w64 p.ticks

abbrev pub price_reading : ℕ → Price
price_reading w = record { ticks = to_z w64 w }

abbrev pub price_value : ℕ → Option Price
price_value w = Some (price_reading w)

abbrev pub day_of : Node → ℕ
day_of n = n.day_less_one + 1

abbrev pub with_rate : Node → ℤ → Node
with_rate n rate = record { day_less_one = n.day_less_one; rate = rate }

abbrev pub node_of : ℕ → ℤ → Option Node
node_of day rate = cond (nat_le 1 day && nat_le day 65536) (Some (record { day_less_one = day - 1; rate = rate })) None

abbrev pub node_word : Node → ℕ
node_word n = day_of n * 4294967296 + of_z w32 n.rate

abbrev pub node_value : ℕ → Option Node
node_value w = node_of (w / 4294967296) (to_z w32 (w % 4294967296))

abbrev pub node_reading : ℕ → Node
node_reading w = record { day_less_one = (w / 4294967296 - 1) % 65536; rate = to_z w32 (w % 4294967296) }

abbrev pub is_node_word : ℕ → Bool
is_node_word w = nat_le 4294967296 w && nat_lt w 281479271677952
