-- Rows as bytes: what is put together is taken apart again, and the other way round.
use Rattle.std.proofs.Common.{◌≡◌, ℕ, zero, suc, ◌+◌, ◌-◌, ◌*◌, ◌/◌, ◌<◌, ◌≤◌, Bool, true, false, cond, eqb, ◌≢◌, ◌⊎◌, List, [], ◌∷◌, ◌++◌, map, length, get_or, take, drop, set, Some, None, Option, sym, refl, ap, ◌∙◌, inl, inr, arith, rules}
use borrow.Rule.Slice.PartMut.{put_mid}
use Rattle.std.specs.List.{range_with_len}
use Rattle.std.proofs.lemmas.List.FromFn.{fill_by_all, get_or-map-range_with_len, length-map-range_with_len}
use Rattle.std.proofs.lemmas.List.{places, same_lists, get_or-drop, length-drop, length-set, length-take-le, get_or-set_same, get_or-set_other}
use Rattle.std.proofs.lemmas.Nat.{be_bytes_4, be_bytes_8, from_be_bytes-to_be_bytes_4, from_be_bytes-to_be_bytes_8}
use Rattle.std.proofs.lemmas.Slice.{between_is, between-put_mid, drop-put_mid, take-put_mid_below}
use Rattle.std.proofs.lemmas.Bool.{and_from, cases_order, cond-true, eq-eqb, eqb-true, lt-ltb}
use Rattle.std.proofs.lemmas.Bool.Decides.{nat_tests}
use Rattle.home.specs.declared.row.Row.{Row}
use Rattle.byte_home.specs.Bytes.{eight_at, four_at, has_room, row_at, row_bytes, row_packed, row_unpacked, valued, valued_if, word_row, word_rows}

pub split_is : (bs : List ℕ) (w a b h : ℕ) → length bs ≡ 17 → w ≡ eight_at 0 bs → a ≡ four_at 8 bs → b ≡ four_at 12 bs → h ≡ get_or bs 16 0 → Some (record { value = w; wts = a; rts = b; holder = h }) ≡ cond (eqb (length bs) 17) (Some (word_row bs)) None
unfolding word_row
split_is bs w a b h long we ae be he =
    let same : ◌≡◌ {A = Row ℕ} (record { value = w; wts = a; rts = b; holder = h }) (word_row bs) = cc in
    ap Some same ∙ sym (cond-true _ _ _ (eq-eqb _ _ long))

by_length : (bs : List ℕ) (row : Row ℕ) (b : Bool) → eqb (length bs) 17 ≡ b → Some row ≡ cond b (Some (word_row bs)) None → (length bs ≡ 17) × (row ≡ word_row bs)
by_length bs row true long is = (eqb-true _ _ long, cc)
by_length bs row false long is = absurd (let z : ◌≡◌ {A = ℕ} 0 1 = cc in omega arith)

pub split_from : (bs : List ℕ) (row : Row ℕ) → Some row ≡ cond (eqb (length bs) 17) (Some (word_row bs)) None → (length bs ≡ 17) × (row ≡ word_row bs)
split_from bs row is = by_length bs row _ refl is

-- ---- the parts of seventeen bytes

module _ (bs : List ℕ) (long : length bs ≡ 17) where
  -- a list of seventeen is its elements
  listed : bs ≡ map (λ k. get_or bs k 0) (range_with_len 0 17)
  listed = fill_by_all (λ k. get_or bs k 0) bs 17 0 long (λ k h. refl)

  parted : take 8 bs ++ (take 4 (drop 8 bs) ++ (take 4 (drop 12 bs) ++ (get_or bs 16 0 ∷ []))) ≡ bs
  parted = ap (λ xs. take 8 xs ++ (take 4 (drop 8 xs) ++ (take 4 (drop 12 xs) ++ (get_or xs 16 0 ∷ [])))) listed ∙ sym listed

  word_part : eight_at 0 (take 8 bs) ≡ eight_at 0 bs
  word_part = ap (λ xs. eight_at 0 (take 8 xs)) listed

  wts_part : four_at 0 (take 4 (drop 8 bs)) ≡ four_at 8 bs
  wts_part = ap (λ xs. four_at 0 (take 4 (drop 8 xs))) listed

  rts_part : four_at 0 (take 4 (drop 12 bs)) ≡ four_at 12 bs
  rts_part = ap (λ xs. four_at 0 (take 4 (drop 12 xs))) listed

-- a part of bytes is bytes
bytes_front : (n : ℕ) (bs : List ℕ) → ((i : ℕ) → get_or bs i 0 < 256) → (i : ℕ) → get_or (take n bs) i 0 < 256
bytes_front zero bs fit i = omega arith
bytes_front (suc n) [] fit i = omega arith
bytes_front (suc n) (b ∷ bs) fit zero = fit 0
bytes_front (suc n) (b ∷ bs) fit (suc i) = bytes_front n bs (λ k. fit (suc k)) i

bytes_part : (n at : ℕ) (bs : List ℕ) → ((i : ℕ) → get_or bs i 0 < 256) → (i : ℕ) → get_or (take n (drop at bs)) i 0 < 256
bytes_part n at bs fit i = bytes_front n (drop at bs) (λ k. rw get_or-drop (fit (at + k))) i

-- ---- one row

same_row : {w a b v c d : ℕ} (h : ℕ) → w ≡ v → a ≡ c → b ≡ d → ◌≡◌ {A = Row ℕ} (record { value = w; wts = a; rts = b; holder = h }) (record { value = v; wts = c; rts = d; holder = h })
same_row h p q r = cc

pub word_row_bytes : (row : Row ℕ) → row.value < 18446744073709551616 → has_room row ≡ true → word_row (row_bytes row) ≡ row
unfolding word_row row_bytes
word_row_bytes row word room =
    let a : row.wts < 4294967296 = grind (arith, nat_tests) in
    let b : row.rts < 4294967296 = grind (arith, nat_tests) in
    same_row row.holder (from_be_bytes-to_be_bytes_8 row.value word) (from_be_bytes-to_be_bytes_4 row.wts a) (from_be_bytes-to_be_bytes_4 row.rts b)

same_bytes : {xs ys zs us vs ws : List ℕ} (h : ℕ) → xs ≡ us → ys ≡ vs → zs ≡ ws → xs ++ (ys ++ (zs ++ (h ∷ []))) ≡ us ++ (vs ++ (ws ++ (h ∷ [])))
same_bytes h p q r = cc

pub row_bytes_word : (bs : List ℕ) → length bs ≡ 17 → ((i : ℕ) → get_or bs i 0 < 256) → row_bytes (word_row bs) ≡ bs
unfolding word_row row_bytes
row_bytes_word bs long fit =
    let word = be_bytes_8 (take 8 bs) (eight_at 0 bs) (length-take-le 8 bs (omega arith)) (bytes_part 8 0 bs fit) (sym (word_part bs long)) in
    let wts = be_bytes_4 (take 4 (drop 8 bs)) (four_at 8 bs) (length-take-le 4 (drop 8 bs) (omega (arith, length-drop 8 bs))) (bytes_part 4 8 bs fit) (sym (wts_part bs long)) in
    let rts = be_bytes_4 (take 4 (drop 12 bs)) (four_at 12 bs) (length-take-le 4 (drop 12 bs) (omega (arith, length-drop 12 bs))) (bytes_part 4 12 bs fit) (sym (rts_part bs long)) in
    same_bytes (get_or bs 16 0) word wts rts ∙ parted bs long

pub length_row_bytes : (row : Row ℕ) → length (row_bytes row) ≡ 17
unfolding row_bytes
length_row_bytes row = refl

pub word_small : (bs : List ℕ) → ((i : ℕ) → get_or bs i 0 < 256) → (word_row bs).value < 18446744073709551616
unfolding word_row
word_small bs fit = omega (arith, fit 0, fit 1, fit 2, fit 3, fit 4, fit 5, fit 6, fit 7)

word_room : (bs : List ℕ) → ((i : ℕ) → get_or bs i 0 < 256) → has_room (word_row bs) ≡ true
unfolding word_row
word_room bs fit =
    let a : four_at 8 bs < 4294967296 = omega (arith, fit 8, fit 9, fit 10, fit 11) in
    let b : four_at 12 bs < 4294967296 = omega (arith, fit 12, fit 13, fit 14, fit 15) in
    and_from _ _ (lt-ltb _ _ a) (and_from _ _ (lt-ltb _ _ b) (lt-ltb _ _ (fit 16)))

module _ {V : Type 0} (packed : V → ℕ) (unpacked : ℕ → Option V) where
  -- unpacking what was packed gives the row
  pub unpacked_packed : (row : Row V) → packed row.value < 18446744073709551616 → has_room row ≡ true → unpacked (packed row.value) ≡ Some row.value → row_unpacked unpacked (row_bytes (valued packed row)) ≡ Some row
  unpacked_packed row small room own =
      let apart = word_row_bytes (valued packed row) small room in
      let long = eq-eqb _ _ (length_row_bytes (valued packed row)) in
      cond-true _ _ _ long ∙ ap (λ (r : Row ℕ). valued_if (unpacked r.value) r) apart ∙ ap (λ o. valued_if o (valued packed row)) own

  -- packing what was unpacked gives the bytes
  pub packed_unpacked : (bs : List ℕ) (value : V) → length bs ≡ 17 → ((i : ℕ) → get_or bs i 0 < 256) → packed value ≡ (word_row bs).value → row_packed packed (valued (λ _. value) (word_row bs)) ≡ Some bs
  packed_unpacked bs value long fit word =
      let same : row_bytes (valued packed (valued (λ _. value) (word_row bs))) ≡ row_bytes (word_row bs) = ap (λ w. row_bytes (valued (λ _. w) (word_row bs))) word in
      cond-true _ _ _ (word_room bs fit) ∙ ap Some (same ∙ row_bytes_word bs long fit)

  pub unpacked_is : (bs : List ℕ) (value : V) → length bs ≡ 17 → unpacked (word_row bs).value ≡ Some value → row_unpacked unpacked bs ≡ Some (valued (λ _. value) (word_row bs))
  unpacked_is bs value long own = cond-true _ _ _ (eq-eqb _ _ long) ∙ ap (λ o. valued_if o (word_row bs)) own

-- ---- a table

pub length_word_rows : (bs : List ℕ) → length (word_rows bs) ≡ length bs / 17
unfolding word_rows
length_word_rows bs = length-map-range_with_len (row_at bs) 0 (length bs / 17)

pub getD_word_rows : (bs : List ℕ) (key : ℕ) (d : Row ℕ) → key < length bs / 17 → get_or (word_rows bs) key d ≡ row_at bs key
unfolding word_rows
getD_word_rows bs key d within = get_or-map-range_with_len (row_at bs) 0 (length bs / 17) key key d within (omega arith)

module _ (bs ys : List ℕ) (key k : ℕ) (within : key < length bs / 17) (long : length ys ≡ 17) (part : k ≡ 17) where
  -- the bytes after a write over the row of the key
  abbrev after_write : List ℕ
  after_write = put_mid (key * 17) k bs ys

  room : key * 17 + 17 ≤ length bs
  room = omega arith

  length_after : length after_write ≡ length bs
  length_after = let r = room in search (rules, places)

  before : (j : ℕ) → j < key → row_at after_write j ≡ row_at bs j
  before j less = let r = room in ap word_row (between_is after_write (j * 17) (j * 17 + 17) ∙ ap (drop (j * 17)) (take-put_mid_below (key * 17) k bs ys (j * 17 + 17) (omega arith) (omega arith)) ∙ sym (between_is bs (j * 17) (j * 17 + 17)))

  past : (j : ℕ) → key < j → row_at after_write j ≡ row_at bs j
  past j more = let r = room in ap (λ rest. word_row (take (j * 17 + 17 - j * 17) rest)) (drop-put_mid (key * 17) k bs ys (j * 17) (omega arith) (omega arith) (omega arith))

  here : row_at after_write key ≡ word_row ys
  here = let r = room in ap word_row (between-put_mid (key * 17) k bs ys (key * 17 + 17) (omega arith) (omega arith))

  -- each other row is as it was
  by_key : (row : Row ℕ) → word_row ys ≡ row → (j : ℕ) (d : Row ℕ) → j < length bs / 17 → (j ≡ key) ⊎ ((j < key) ⊎ (key < j)) → row_at after_write j ≡ get_or (set (word_rows bs) key row) j d
  by_key row is j d inside (inl same) =
      let l : key < length (word_rows bs) = rw length_word_rows within in
      ap (row_at after_write) same ∙ here ∙ is ∙ sym (get_or-set_same (word_rows bs) key row d l) ∙ ap (λ i. get_or (set (word_rows bs) key row) i d) (sym same)
  by_key row is j d inside (inr (inl less)) =
      let ne : j ≢ key = omega arith in
      before j less ∙ sym (getD_word_rows bs j d inside) ∙ sym (get_or-set_other (word_rows bs) key j row d ne)
  by_key row is j d inside (inr (inr more)) =
      let ne : j ≢ key = omega arith in
      past j more ∙ sym (getD_word_rows bs j d inside) ∙ sym (get_or-set_other (word_rows bs) key j row d ne)

  pub word_rows_set : (row : Row ℕ) → word_row ys ≡ row → word_rows after_write ≡ set (word_rows bs) key row
  word_rows_set row is =
      let count : length after_write / 17 ≡ length bs / 17 = ap (λ n. n / 17) length_after in
      same_lists _ _ (length_word_rows after_write ∙ count ∙ sym (length_word_rows bs) ∙ sym (length-set (word_rows bs) key row))
      (λ j d h.
      let inside : j < length bs / 17 = omega (arith, length_word_rows after_write, count) in
      let inside_after : j < length after_write / 17 = omega (arith, count) in
      getD_word_rows after_write j d inside_after ∙ by_key row is j d inside (cases_order j key))
