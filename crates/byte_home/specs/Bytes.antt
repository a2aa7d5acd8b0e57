-- Rows as bytes: seventeen to a row, each number with its most significant byte first.
--   word_row bs                  the row of seventeen bytes, with the word in the place of the value
--   row_bytes row                the seventeen bytes of such a row
--   valued f row                 the row with f of its value
--   has_room row                 the numbers of the row fit their bytes
--   row_packed packed row        the bytes of a row of a kind, if it has room in them
--   row_unpacked unpacked bs     the row of a kind, if there are seventeen bytes and the word has a value
--   word_rows bs                 the rows of a table of bytes; what is left over is no row
--   read_rows read bs            those rows, with each word read as a value
--   byte_flaw unpacked row       what is bad of a row: the lease, then the holder, then the word
--   byte_check unpacked bs       the check of a byte home
--   byte_opened unpacked bs      what a byte home means when it is made
use Rattle.std.specs.Prelude.{ℕ, ◌+◌, ◌*◌, ◌/◌, ◌%◌, Bool, cond, ◌&&◌, List, [], ◌∷◌, ◌++◌, map, length, Some, None, Ok, Err, Option, Result, ◌==◌, nat_lt, slice_index}
use Rattle.std.specs.List.{between, range_with_len}
use Rattle.home.specs.declared.fault.Fault.{Fault}
use Rattle.home.specs.declared.row.Row.{Row}
use Rattle.home.specs.declared.row.Flaw.{Flaw}
use Rattle.home.specs.declared.row.Flaw.TheVariants.{Word}
use Rattle.home.specs.Meaning.{Meaning}
use Rattle.home.specs.Opening.{first_bad, is_count, row_flaw, after_size}

abbrev pub valued : {V W : Type 0} → (V → W) → Row V → Row W
valued f row = record { value = f row.value; wts = row.wts; rts = row.rts; holder = row.holder }

-- ---- one row

-- The number of the eight bytes from `at` on.
abbrev pub eight_at : ℕ → List ℕ → ℕ
eight_at at bs = slice_index bs at * 72057594037927936 + slice_index bs (at + 1) * 281474976710656 + slice_index bs (at + 2) * 1099511627776 + slice_index bs (at + 3) * 4294967296 + slice_index bs (at + 4) * 16777216 + slice_index bs (at + 5) * 65536 + slice_index bs (at + 6) * 256 + slice_index bs (at + 7)

-- The number of the four bytes from `at` on.
abbrev pub four_at : ℕ → List ℕ → ℕ
four_at at bs = slice_index bs at * 16777216 + slice_index bs (at + 1) * 65536 + slice_index bs (at + 2) * 256 + slice_index bs (at + 3)

unfoldable pub word_row : List ℕ → Row ℕ
word_row bs = record { value = eight_at 0 bs; wts = four_at 8 bs; rts = four_at 12 bs; holder = slice_index bs 16 }

abbrev pub eight_bytes : ℕ → List ℕ
eight_bytes n = (n / 72057594037927936 % 256) ∷ (n / 281474976710656 % 256) ∷ (n / 1099511627776 % 256) ∷ (n / 4294967296 % 256) ∷ (n / 16777216 % 256) ∷ (n / 65536 % 256) ∷ (n / 256 % 256) ∷ (n % 256) ∷ []

abbrev pub four_bytes : ℕ → List ℕ
four_bytes n = (n / 16777216 % 256) ∷ (n / 65536 % 256) ∷ (n / 256 % 256) ∷ (n % 256) ∷ []

unfoldable pub row_bytes : Row ℕ → List ℕ
row_bytes row = eight_bytes row.value ++ (four_bytes row.wts ++ (four_bytes row.rts ++ (row.holder ∷ [])))

abbrev pub has_room : {V : Type 0} → Row V → Bool
has_room row = nat_lt row.wts 4294967296 && (nat_lt row.rts 4294967296 && nat_lt row.holder 256)

abbrev pub row_packed : {V : Type 0} → (V → ℕ) → Row V → Option (List ℕ)
row_packed packed row = cond (has_room row) (Some (row_bytes (valued packed row))) None

abbrev pub valued_if : {V : Type 0} → Option V → Row ℕ → Option (Row V)
valued_if None row = None
valued_if (Some value) row = Some (valued (λ _. value) row)

abbrev pub row_unpacked : {V : Type 0} → (ℕ → Option V) → List ℕ → Option (Row V)
row_unpacked unpacked bs = cond (length bs == 17) (valued_if (unpacked (word_row bs).value) (word_row bs)) None

-- ---- a table

abbrev pub row_at : List ℕ → ℕ → Row ℕ
row_at bs key = word_row (between (key * 17) (key * 17 + 17) bs)

unfoldable pub word_rows : List ℕ → List (Row ℕ)
word_rows bs = map (row_at bs) (range_with_len 0 (length bs / 17))

abbrev pub read_rows : {V : Type 0} → (ℕ → V) → List ℕ → List (Row V)
read_rows read bs = map (valued read) (word_rows bs)

-- ---- the opening

abbrev pub word_flaw : {V : Type 0} → Option V → Option Flaw
word_flaw None = Some Word
word_flaw (Some value) = None

abbrev pub or_flaw : Option Flaw → Option Flaw → Option Flaw
or_flaw None next = next
or_flaw (Some flaw) next = Some flaw

abbrev pub byte_flaw : {V : Type 0} → (ℕ → Option V) → Row ℕ → Option Flaw
byte_flaw unpacked row = or_flaw (row_flaw 4294967295 row) (word_flaw (unpacked row.value))

-- 16 for bytes that are no multiple of 17 or a count outside 1 to 65,535; then 17.
unfoldable pub byte_check : {V : Type 0} → (ℕ → Option V) → List ℕ → Result (Unit {0}) Fault
byte_check unpacked bs = after_size (is_count (length bs / 17) && length bs % 17 == 0) (first_bad (byte_flaw unpacked) 0 (word_rows bs))

abbrev pub or_skip : {V : Type 0} → Option (Row V) → List (Row V) → List (Row V)
or_skip None rows = rows
or_skip (Some row) rows = row ∷ rows

-- The rows of a kind, less those without a value: bytes that pass the check have none of these.
abbrev pub kind_rows : {V : Type 0} → (ℕ → Option V) → List (Row ℕ) → List (Row V)
kind_rows unpacked [] = []
kind_rows unpacked (row ∷ rows) = or_skip (valued_if (unpacked row.value) row) (kind_rows unpacked rows)

-- Exactly those rows, or no keys where the check fails.
abbrev pub byte_made : {V : Type 0} → (ℕ → Option V) → List ℕ → Result (Unit {0}) Fault → Meaning V
byte_made unpacked bs (Ok _) = record { last = 4294967295; rows = kind_rows unpacked (word_rows bs) }
byte_made unpacked bs (Err _) = record { last = 4294967295; rows = [] }

abbrev pub byte_opened : {V : Type 0} → (ℕ → Option V) → List ℕ → Meaning V
byte_opened unpacked bs = byte_made unpacked bs (byte_check unpacked bs)
