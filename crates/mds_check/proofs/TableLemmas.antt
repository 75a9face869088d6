-- The words of the table are what the definition gives, which is computed here; and how bytes go by them.
use Rattle.std.proofs.Common.{◌≡◌, ℕ, zero, suc, ◌+◌, ◌*◌, ◌/◌, ◌%◌, ◌^◌, ◌<◌, ◌==◌, ◌&&◌, Bool, true, List, [], ◌∷◌, length, get_or, refl, sym, ap, ◌∙◌, arith}
use Rattle.std.specs.Int.Bits.{bit_xor, xor_assoc, xor_shifted, xor_zero_r, xor_comm}
use Rattle.std.proofs.lemmas.Bool.{and_parts, eqb-true}
use Rattle.mds_check.specs.Crc.{after_bit, after_bits, after_bytes}
use Rattle.mds_check.specs.Laws.{number_of}
use Rattle.mds_check.specs.declared.table.TheConstants.{WORDS}
use Rattle.mds_check.proofs.StateLemmas.{xor_across, after_bits-xor, after_bits-add, after_bits-shl, after_bytes-number}

-- ---- the words

-- these words are the states behind the bytes from this one on, up to 255, and so many bits
is_row : ℕ → ℕ → List ℕ → Bool
is_row bits byte [] = byte == 256
is_row bits byte (word ∷ words) = word == after_bits bits byte && is_row bits (suc byte) words

-- these rows are those from this one on, up to the row of eight bytes
are_rows : ℕ → List (List ℕ) → Bool
are_rows row [] = row == 8
are_rows row (words ∷ rows) = is_row (8 * (row + 1)) 0 words && are_rows (suc row) rows

words_fit : are_rows 0 WORDS ≡ true
unfolding is_row are_rows after_bits after_bit
words_fit = refl

word_in_row : (bits byte : ℕ) (words : List ℕ) → is_row bits byte words ≡ true → (at : ℕ) → byte + at < 256 → get_or words at 0 ≡ after_bits bits (byte + at)
unfolding is_row
word_in_row bits byte [] is at within = let end : byte ≡ 256 = eqb-true byte 256 is in absurd (omega arith)
word_in_row bits byte (word ∷ words) is zero within =
    let here : byte + 0 ≡ byte = omega arith in
    eqb-true word (after_bits bits byte) (and_parts (word == after_bits bits byte) (is_row bits (suc byte) words) is).0 ∙ ap (after_bits bits) (sym here)
word_in_row bits byte (word ∷ words) is (suc at) within =
    let next : suc byte + at ≡ byte + suc at = omega arith in
    word_in_row bits (suc byte) words (and_parts (word == after_bits bits byte) (is_row bits (suc byte) words) is).1 at (omega arith) ∙ ap (after_bits bits) next

row_in_rows : (row : ℕ) (rows : List (List ℕ)) → are_rows row rows ≡ true → (at : ℕ) → row + at < 8 → is_row (8 * (row + at + 1)) 0 (get_or rows at []) ≡ true
unfolding are_rows
row_in_rows row [] is at within = let end : row ≡ 8 = eqb-true row 8 is in absurd (omega arith)
row_in_rows row (words ∷ rows) is zero within =
    let here : 8 * (row + 0 + 1) ≡ 8 * (row + 1) = omega arith in
    ap (λ (bits : ℕ). is_row bits 0 words) here ∙ (and_parts (is_row (8 * (row + 1)) 0 words) (are_rows (suc row) rows) is).0
row_in_rows row (words ∷ rows) is (suc at) within =
    let next : 8 * (row + suc at + 1) ≡ 8 * (suc row + at + 1) = omega arith in
    ap (λ (bits : ℕ). is_row bits 0 (get_or rows at [])) next
    ∙ row_in_rows (suc row) rows (and_parts (is_row (8 * (row + 1)) 0 words) (are_rows (suc row) rows) is).1 at (omega arith)

-- the word at a place of the table
pub table_word : (row byte : ℕ) → row < 8 → byte < 256 → get_or (get_or WORDS row []) byte 0 ≡ after_bits (8 * (row + 1)) byte
table_word row byte within small =
    let bits : 8 * (0 + row + 1) ≡ 8 * (row + 1) = omega arith in
    let at : 0 + byte ≡ byte = omega arith in
    word_in_row (8 * (0 + row + 1)) 0 (get_or WORDS row []) (row_in_rows 0 WORDS words_fit row (omega arith)) byte (omega arith)
    ∙ ap (λ (n : ℕ). after_bits n (0 + byte)) bits
    ∙ ap (after_bits (8 * (row + 1))) at

-- ---- bytes by their words

-- the first byte with the lowest bits of the state, and the others with the rest of it
pub first_apart : (state byte : ℕ) (bytes : List ℕ)
    → after_bytes state (byte ∷ bytes) ≡ bit_xor (after_bits (8 * suc (length bytes)) (bit_xor (state % 256) byte)) (after_bytes (state / 256) bytes)
first_apart state byte bytes =
    let bits = 8 * suc (length bytes) in
    let low = state % 256 in
    let high = state / 256 in
    let number = number_of bytes in
    let parts : state ≡ bit_xor low (high * 2 ^ 8) =
    (let whole : state ≡ high * 2 ^ 8 + low = omega arith in whole) ∙ sym (xor_shifted high 8 low (omega arith)) ∙ xor_comm (high * 2 ^ 8) low in
    let size : bits ≡ 8 + 8 * length bytes = omega arith in
    let behind = λ (n : ℕ). ap (λ (k : ℕ). after_bits k (n * 2 ^ 8)) size ∙ after_bits-add 8 (8 * length bytes) (n * 2 ^ 8) ∙ ap (after_bits (8 * length bytes)) (after_bits-shl 8 n) in
    after_bytes-number state (byte ∷ bytes)
    ∙ ap (λ (n : ℕ). after_bits bits (bit_xor n (bit_xor byte (number * 2 ^ 8)))) parts
    ∙ ap (after_bits bits) (xor_across low (high * 2 ^ 8) byte (number * 2 ^ 8))
    ∙ after_bits-xor bits (bit_xor low byte) (bit_xor (high * 2 ^ 8) (number * 2 ^ 8))
    ∙ ap (bit_xor (after_bits bits (bit_xor low byte)))
    (after_bits-xor bits (high * 2 ^ 8) (number * 2 ^ 8)
    ∙ ap (λ (n : ℕ). bit_xor n (after_bits bits (number * 2 ^ 8))) (behind high)
    ∙ ap (bit_xor (after_bits (8 * length bytes) high)) (behind number)
    ∙ sym (after_bits-xor (8 * length bytes) high number)
    ∙ sym (after_bytes-number high bytes))

-- each byte by a word of its own, and the words put together
abbrev pub by_words : ℕ → ℕ → List ℕ → ℕ
by_words so_far state [] = bit_xor so_far state
by_words so_far state (byte ∷ bytes) =
    by_words (bit_xor so_far (after_bits (8 * suc (length bytes)) (bit_xor (state % 256) byte))) (state / 256) bytes

by_words-is : (so_far state : ℕ) (bytes : List ℕ) → by_words so_far state bytes ≡ bit_xor so_far (after_bytes state bytes)
by_words-is so_far state [] = refl
by_words-is so_far state (byte ∷ bytes) =
    let word = after_bits (8 * suc (length bytes)) (bit_xor (state % 256) byte) in
    by_words-is (bit_xor so_far word) (state / 256) bytes
    ∙ xor_assoc so_far word (after_bytes (state / 256) bytes)
    ∙ ap (bit_xor so_far) (sym (first_apart state byte bytes))

pub after_bytes-words : (state : ℕ) (bytes : List ℕ) → after_bytes state bytes ≡ by_words 0 state bytes
after_bytes-words state bytes = sym (by_words-is 0 state bytes)

last_is : (so_far state : ℕ) → state ≡ 0 → bit_xor so_far state ≡ so_far
last_is so_far state none = ap (bit_xor so_far) none ∙ xor_zero_r so_far

-- eight bytes, four of them with the state
pub eight_words : (state : ℕ) (bytes : List ℕ) → state < 2 ^ 32 → length bytes ≡ 8 → bit_xor (bit_xor (bit_xor (bit_xor (bit_xor (bit_xor (bit_xor
    (after_bits 64 (bit_xor (state % 256) (get_or bytes 0 0)))
    (after_bits 56 (bit_xor (state / 256 % 256) (get_or bytes 1 0))))
    (after_bits 48 (bit_xor (state / 65536 % 256) (get_or bytes 2 0))))
    (after_bits 40 (bit_xor (state / 16777216 % 256) (get_or bytes 3 0))))
    (after_bits 32 (get_or bytes 4 0)))
    (after_bits 24 (get_or bytes 5 0)))
    (after_bits 16 (get_or bytes 6 0)))
    (after_bits 8 (get_or bytes 7 0)) ≡ after_bytes state bytes
eight_words state (b0 ∷ b1 ∷ b2 ∷ b3 ∷ b4 ∷ b5 ∷ b6 ∷ b7 ∷ []) small size =
    let s2 : state / 256 / 256 ≡ state / 65536 = omega arith in
    let s3 : state / 256 / 256 / 256 ≡ state / 16777216 = omega arith in
    let s4 : state / 256 / 256 / 256 / 256 ≡ 0 = omega arith in
    let s5 : state / 256 / 256 / 256 / 256 / 256 ≡ 0 = ap (λ (n : ℕ). n / 256) s4 in
    let s6 : state / 256 / 256 / 256 / 256 / 256 / 256 ≡ 0 = ap (λ (n : ℕ). n / 256) s5 in
    let s7 : state / 256 / 256 / 256 / 256 / 256 / 256 / 256 ≡ 0 = ap (λ (n : ℕ). n / 256) s6 in
    let s8 : state / 256 / 256 / 256 / 256 / 256 / 256 / 256 / 256 ≡ 0 = ap (λ (n : ℕ). n / 256) s7 in
    let w4 = ap (λ (n : ℕ). bit_xor (n % 256) b4) s4 in
    let w5 = ap (λ (n : ℕ). bit_xor (n % 256) b5) s5 in
    let w6 = ap (λ (n : ℕ). bit_xor (n % 256) b6) s6 in
    let w7 = ap (λ (n : ℕ). bit_xor (n % 256) b7) s7 in
    sym (after_bytes-words state (b0 ∷ b1 ∷ b2 ∷ b3 ∷ b4 ∷ b5 ∷ b6 ∷ b7 ∷ []) ∙ last_is _ (state / 256 / 256 / 256 / 256 / 256 / 256 / 256 / 256) s8 ∙ cc (s2, s3, w4, w5, w6, w7))
eight_words state _ small size = absurd (omega arith)
