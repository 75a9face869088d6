-- What the state of a check does with bits and bytes: it keeps differences.
use Rattle.std.proofs.Common.{◌≡◌, ◌≢◌, ℕ, zero, suc, ◌+◌, ◌*◌, ◌/◌, ◌%◌, ◌^◌, ◌<◌, ◌==◌, Bool, true, false, if◌then◌else◌, List, [], ◌∷◌, ◌++◌, length, get_or, take, drop, refl, sym, ap, ◌∙◌, subst, arith}
use Rattle.std.proofs.lemmas.Nat.{xor_shr, xor_mod, xor_lt, xor_comm}
use Rattle.std.specs.Int.Bits.{bit_xor, xor_assoc, xor_self, xor_zero_r, shifted_half, shifted_even}
use Rattle.std.proofs.lemmas.List.{take_more, take-append-drop}
use Rattle.mds_check.specs.Crc.{after_bit, after_bits, after_byte, after_bytes}
use Rattle.mds_check.specs.Laws.{number_of}

-- ---- differences

-- two differences of differences, taken the other way round
pub xor_across : (a b c d : ℕ) → bit_xor (bit_xor a b) (bit_xor c d) ≡ bit_xor (bit_xor a c) (bit_xor b d)
xor_across a b c d =
    xor_assoc a b (bit_xor c d)
    ∙ ap (bit_xor a) (sym (xor_assoc b c d) ∙ ap (λ (n : ℕ). bit_xor n d) (xor_comm b c) ∙ xor_assoc c b d)
    ∙ sym (xor_assoc a c (bit_xor b d))

-- numbers with no difference are the same
pub same_by_xor : (a b : ℕ) → bit_xor a b ≡ 0 → a ≡ b
same_by_xor a b none =
    sym (xor_zero_r a) ∙ ap (bit_xor a) (sym (xor_self b)) ∙ sym (xor_assoc a b b) ∙ ap (λ (n : ℕ). bit_xor n b) none

-- ---- one bit

-- what a step adds, by the bit that leaves
abbrev pub added : ℕ → ℕ
added bit = if bit == 1 then 0xEDB8_8320 else 0

-- a step halves the state, and adds to it by the bit that leaves
pub after_bit-is : (state : ℕ) → after_bit state ≡ bit_xor (state / 2) (added (state % 2))
unfolding after_bit
after_bit-is state = by_test (state % 2 == 1) where
  by_test : (odd : Bool) → (if odd then bit_xor (state / 2) 0xEDB8_8320 else state / 2) ≡ bit_xor (state / 2) (if odd then 0xEDB8_8320 else 0)
  by_test true = refl
  by_test false = sym (xor_zero_r (state / 2))

added-xor : (x y : ℕ) → x < 2 → y < 2 → added (bit_xor x y) ≡ bit_xor (added x) (added y)
added-xor zero zero a b = refl
added-xor zero (suc zero) a b = refl
added-xor (suc zero) zero a b = refl
added-xor (suc zero) (suc zero) a b = refl
added-xor (suc (suc x)) y a b = absurd (omega arith)
added-xor zero (suc (suc y)) a b = absurd (omega arith)
added-xor (suc zero) (suc (suc y)) a b = absurd (omega arith)

pub after_bit-xor : (a b : ℕ) → after_bit (bit_xor a b) ≡ bit_xor (after_bit a) (after_bit b)
after_bit-xor a b =
    after_bit-is (bit_xor a b)
    ∙ ap (λ (n : ℕ). bit_xor n (added (bit_xor a b % 2))) (xor_shr a b 1)
    ∙ ap (λ (n : ℕ). bit_xor (bit_xor (a / 2) (b / 2)) (added n)) (xor_mod a b 1)
    ∙ ap (bit_xor (bit_xor (a / 2) (b / 2))) (added-xor (a % 2) (b % 2) (omega arith) (omega arith))
    ∙ xor_across (a / 2) (b / 2) (added (a % 2)) (added (b % 2))
    ∙ ap (λ (n : ℕ). bit_xor n (bit_xor (b / 2) (added (b % 2)))) (sym (after_bit-is a))
    ∙ ap (bit_xor (after_bit a)) (sym (after_bit-is b))

after_bit-lt : (state : ℕ) → state < 2 ^ 32 → after_bit state < 2 ^ 32
after_bit-lt state small = rw (after_bit-is state) (xor_lt 32 (state / 2) (added (state % 2)) (omega arith) (by_test (state % 2 == 1))) where
  by_test : (odd : Bool) → (if odd then 0xEDB8_8320 else 0) < 2 ^ 32
  by_test true = omega arith
  by_test false = omega arith

-- only from 0 a step leads to 0: what is added has the highest bit, and half a state hasn't
after_bit-none : (state : ℕ) → state < 2 ^ 32 → after_bit state ≡ 0 → state ≡ 0
after_bit-none state small none = by_bit (state % 2) refl where
  half : state / 2 ≡ added (state % 2)
  half = same_by_xor (state / 2) (added (state % 2)) (sym (after_bit-is state) ∙ none)

  by_bit : (bit : ℕ) → state % 2 ≡ bit → state ≡ 0
  by_bit zero is = let low : state / 2 ≡ 0 = half ∙ ap added is in omega arith
  by_bit (suc zero) is = let high : state / 2 ≡ 0xEDB8_8320 = half ∙ ap added is in absurd (omega arith)
  by_bit (suc (suc bit)) is = absurd (omega arith)

-- ---- bits

pub after_bits-xor : (bits a b : ℕ) → after_bits bits (bit_xor a b) ≡ bit_xor (after_bits bits a) (after_bits bits b)
unfolding after_bits
after_bits-xor zero a b = refl
after_bits-xor (suc bits) a b = ap (after_bits bits) (after_bit-xor a b) ∙ after_bits-xor bits (after_bit a) (after_bit b)

pub after_bits-add : (m n state : ℕ) → after_bits (m + n) state ≡ after_bits n (after_bits m state)
unfolding after_bits
after_bits-add zero n state = let none : 0 + n ≡ n = omega arith in ap (λ (bits : ℕ). after_bits bits state) none
after_bits-add (suc m) n state =
    let next : suc m + n ≡ suc (m + n) = omega arith in
    ap (λ (bits : ℕ). after_bits bits state) next ∙ after_bits-add m n (after_bit state)

-- bits that are 0 leave without a trace
pub after_bits-shl : (bits n : ℕ) → after_bits bits (n * 2 ^ bits) ≡ n
unfolding after_bits
after_bits-shl zero n = omega arith
after_bits-shl (suc bits) n =
    let even : after_bit (n * 2 ^ suc bits) ≡ n * 2 ^ bits =
    after_bit-is (n * 2 ^ suc bits)
    ∙ ap (λ (bit : ℕ). bit_xor (n * 2 ^ suc bits / 2) (added bit)) (shifted_even n bits)
    ∙ xor_zero_r (n * 2 ^ suc bits / 2)
    ∙ shifted_half n bits in
    ap (after_bits bits) even ∙ after_bits-shl bits n

pub after_bits-lt : (bits state : ℕ) → state < 2 ^ 32 → after_bits bits state < 2 ^ 32
unfolding after_bits
after_bits-lt zero state small = small
after_bits-lt (suc bits) state small = after_bits-lt bits (after_bit state) (after_bit-lt state small)

pub after_bits-none : (bits state : ℕ) → state < 2 ^ 32 → after_bits bits state ≡ 0 → state ≡ 0
unfolding after_bits
after_bits-none zero state small none = none
after_bits-none (suc bits) state small none = after_bit-none state small (after_bits-none bits (after_bit state) (after_bit-lt state small) none)

-- ---- differences that last

-- two states that differ, in their lowest 32 bits alone
pub record Differ (a b : ℕ) : Type 0 where
  pub some : bit_xor a b ≢ 0
  pub small : bit_xor a b < 2 ^ 32

-- numbers of 32 bits
pub differ : (a b : ℕ) → a < 2 ^ 32 → b < 2 ^ 32 → a ≢ b → Differ a b
differ a b first second other = record {
  some = λ none. other (same_by_xor a b none);
  small = xor_lt 32 a b first second;
}

pub differ_is : (a b c d : ℕ) → bit_xor a b ≡ bit_xor c d → Differ a b → Differ c d
differ_is a b c d same apart = record {
  some = λ none. apart.some (same ∙ none);
  small = subst (λ (n : ℕ). n < 2 ^ 32) same apart.small;
}

differ_bits : (bits a b : ℕ) → Differ a b → Differ (after_bits bits a) (after_bits bits b)
differ_bits bits a b apart = record {
  some = λ none. apart.some (after_bits-none bits (bit_xor a b) apart.small (after_bits-xor bits a b ∙ none));
  small = subst (λ (n : ℕ). n < 2 ^ 32) (after_bits-xor bits a b) (after_bits-lt bits (bit_xor a b) apart.small);
}

-- ---- bytes

pub after_bytes-append : (state : ℕ) (xs ys : List ℕ) → after_bytes state (xs ++ ys) ≡ after_bytes (after_bytes state xs) ys
after_bytes-append state [] ys = refl
after_bytes-append state (x ∷ xs) ys = after_bytes-append (after_byte state x) xs ys

-- one byte more
pub after_bytes-more : (state : ℕ) (bytes : List ℕ) (at : ℕ) → at < length bytes → after_byte (after_bytes state (take at bytes)) (get_or bytes at 0) ≡ after_bytes state (take (at + 1) bytes)
after_bytes-more state bytes at within =
    sym (ap (after_bytes state) (take_more bytes at 0 within) ∙ after_bytes-append state (take at bytes) (get_or bytes at 0 ∷ []))

-- some of the bytes first, and then the others
pub after_bytes-cut : (state : ℕ) (bytes : List ℕ) (at : ℕ) → after_bytes (after_bytes state (take at bytes)) (drop at bytes) ≡ after_bytes state bytes
after_bytes-cut state bytes at =
    sym (after_bytes-append state (take at bytes) (drop at bytes)) ∙ ap (after_bytes state) (take-append-drop at bytes)

-- different states stay different
pub differ_bytes : (a b : ℕ) (bytes : List ℕ) → Differ a b → Differ (after_bytes a bytes) (after_bytes b bytes)
unfolding after_byte
differ_bytes a b [] apart = apart
differ_bytes a b (byte ∷ bytes) apart =
    let same : bit_xor a b ≡ bit_xor (bit_xor a byte) (bit_xor b byte) =
    sym (xor_across a byte b byte ∙ ap (bit_xor (bit_xor a b)) (xor_self byte) ∙ xor_zero_r (bit_xor a b)) in
    differ_bytes (after_byte a byte) (after_byte b byte) bytes
    (differ_bits 8 (bit_xor a byte) (bit_xor b byte) (differ_is a b (bit_xor a byte) (bit_xor b byte) same apart))

-- a byte that differs makes states differ
pub differ_byte : (state x y : ℕ) → Differ x y → Differ (after_byte state x) (after_byte state y)
unfolding after_byte
differ_byte state x y apart =
    let same : bit_xor x y ≡ bit_xor (bit_xor state x) (bit_xor state y) =
    sym (xor_across state x state y ∙ ap (λ (n : ℕ). bit_xor n (bit_xor x y)) (xor_self state)) in
    differ_bits 8 (bit_xor state x) (bit_xor state y) (differ_is x y (bit_xor state x) (bit_xor state y) same apart)

-- ---- bytes as a number

-- the state and the number of the bytes have their bits at the same places
pub after_bytes-number : (state : ℕ) (bytes : List ℕ) → after_bytes state bytes ≡ after_bits (8 * length bytes) (bit_xor state (number_of bytes))
unfolding after_bits after_byte
after_bytes-number state [] = sym (xor_zero_r state)
after_bytes-number state (byte ∷ bytes) =
    let n = number_of bytes in
    let size : 8 * suc (length bytes) ≡ 8 + 8 * length bytes = omega arith in
    let one : bit_xor (after_bits 8 (bit_xor state byte)) n ≡ after_bits 8 (bit_xor state (bit_xor byte (n * 2 ^ 8))) =
    ap (bit_xor (after_bits 8 (bit_xor state byte))) (sym (after_bits-shl 8 n))
    ∙ sym (after_bits-xor 8 (bit_xor state byte) (n * 2 ^ 8))
    ∙ ap (after_bits 8) (xor_assoc state byte (n * 2 ^ 8)) in
    after_bytes-number (after_byte state byte) bytes
    ∙ ap (after_bits (8 * length bytes)) one
    ∙ sym (after_bits-add 8 (8 * length bytes) (bit_xor state (bit_xor byte (n * 2 ^ 8))))
    ∙ ap (λ (bits : ℕ). after_bits bits (bit_xor state (bit_xor byte (n * 2 ^ 8)))) (sym size)

-- bytes whose numbers differ in a few bits of 32 make states differ
pub differ_number : (state : ℕ) (xs ys : List ℕ) → length xs ≡ length ys → Differ (number_of xs) (number_of ys) → Differ (after_bytes state xs) (after_bytes state ys)
differ_number state xs ys size apart =
    let n = number_of xs in
    let m = number_of ys in
    let same : bit_xor n m ≡ bit_xor (bit_xor state n) (bit_xor state m) =
    sym (xor_across state n state m ∙ ap (λ (k : ℕ). bit_xor k (bit_xor n m)) (xor_self state)) in
    let bits = 8 * length xs in
    let second : after_bytes state ys ≡ after_bits bits (bit_xor state m) =
    after_bytes-number state ys ∙ ap (λ (k : ℕ). after_bits (8 * k) (bit_xor state m)) (sym size) in
    let apart = differ_bits bits (bit_xor state n) (bit_xor state m) (differ_is n m (bit_xor state n) (bit_xor state m) same apart) in
    rw (after_bytes-number state xs, second) apart
