-- The text of a check: what stands at each place, and that different checks have different texts.
use Rattle.std.proofs.Common.{◌≡◌, ◌≢◌, ℕ, zero, suc, ◌+◌, ◌*◌, ◌-◌, ◌/◌, ◌%◌, ◌^◌, ◌<◌, ◌≤◌, Option, Some, None, IfNone, List, [], ◌∷◌, length, get_or, take, drop, refl, sym, ap, ◌∙◌, subst, arith}
use Rattle.std.proofs.lemmas.Nat.{mod-pow-add, pow-add, shr-shr}
use Rattle.std.proofs.Math.Pow.{pow_mono}
use Rattle.std.proofs.lemmas.Bool.Decides.{nat_tests}
use Rattle.std.proofs.lemmas.List.Elements.{All-from_recursion}
use Rattle.mds_journal.specs.Lines.{HasNoFeed}
use Rattle.mds_check.specs.Form.{hex_digit, digit_of, check_digits, check_text}

-- ---- digits

pub digit_low : (digit : ℕ) → digit < 10 → hex_digit digit ≡ digit + 48
unfolding hex_digit
digit_low digit low = grind (arith, nat_tests)

pub digit_high : (digit : ℕ) → 10 ≤ digit → hex_digit digit ≡ digit + 87
unfolding hex_digit
digit_high digit high = grind (arith, nat_tests)

-- different digits have different bytes
pub same_digit : (a b : ℕ) → a < 16 → b < 16 → hex_digit a ≡ hex_digit b → a ≡ b
same_digit a b first second same = grind (arith, digit_low, digit_high)

no_feed_digit : (digit : ℕ) → hex_digit digit ≢ 10
no_feed_digit digit feed = grind (arith, digit_low, digit_high)

-- ---- the whole text

-- the text by its digits
pub check_text-from : (check d0 d1 d2 d3 d4 d5 d6 d7 : ℕ)
    → d0 ≡ digit_of check 28 → d1 ≡ digit_of check 24 → d2 ≡ digit_of check 20 → d3 ≡ digit_of check 16
    → d4 ≡ digit_of check 12 → d5 ≡ digit_of check 8 → d6 ≡ digit_of check 4 → d7 ≡ digit_of check 0
    → 123 ∷ 34 ∷ 99 ∷ 114 ∷ 99 ∷ 51 ∷ 50 ∷ 34 ∷ 58 ∷ 34 ∷ d0 ∷ d1 ∷ d2 ∷ d3 ∷ d4 ∷ d5 ∷ d6 ∷ d7 ∷ 34 ∷ 125 ∷ [] ≡ check_text check
unfolding check_text
check_text-from check d0 d1 d2 d3 d4 d5 d6 d7 e0 e1 e2 e3 e4 e5 e6 e7 = rw (e0, e1, e2, e3, e4, e5, e6, e7)

pub check_text-length : (check : ℕ) → length (check_text check) ≡ 20
unfolding check_text
check_text-length check = refl

pub check_text-digits : (check : ℕ) → take 8 (drop 10 (check_text check)) ≡ check_digits check
unfolding check_text
check_text-digits check = refl

pub check_text-no_feed : (check : ℕ) → HasNoFeed (check_text check)
unfolding check_text
check_text-no_feed check =
    let at = λ (place : ℕ). no_feed_digit (check / 2 ^ place % 16) in
    All-from_recursion (λ (byte : ℕ). byte ≢ 10) (check_text check)
    (λ feed. cc, (λ feed. cc, (λ feed. cc, (λ feed. cc, (λ feed. cc, (λ feed. cc, (λ feed. cc, (λ feed. cc, (λ feed. cc, (λ feed. cc, (at 28, (at 24, (at 20, (at 16, (at 12, (at 8, (at 4, (at 0, (λ feed. cc, (λ feed. cc, tt))))))))))))))))))))

-- ---- what the digits say

-- a digit more
low_more : (m n place : ℕ) → digit_of m place ≡ digit_of n place → m % 2 ^ place ≡ n % 2 ^ place → m % 2 ^ (4 + place) ≡ n % 2 ^ (4 + place)
low_more m n place here low =
    let same = same_digit (m / 2 ^ place % 16) (n / 2 ^ place % 16) (omega arith) (omega arith) here in
    mod-pow-add m 4 place
    ∙ ap (λ (digit : ℕ). digit * 2 ^ place + m % 2 ^ place) same
    ∙ ap (λ (rest : ℕ). n / 2 ^ place % 16 * 2 ^ place + rest) low
    ∙ sym (mod-pow-add n 4 place)

-- the lowest 32 bits of a check
pub same_low_bits : (m n : ℕ) → check_text m ≡ check_text n → m % 2 ^ 32 ≡ n % 2 ^ 32
same_low_bits m n same =
    let digits : check_digits m ≡ check_digits n = sym (check_text-digits m) ∙ ap (λ (text : List ℕ). take 8 (drop 10 text)) same ∙ check_text-digits n in
    let at = λ (k : ℕ). ap (λ (all : List ℕ). get_or all k 0) digits in
    low_more m n 28 (at 0) (low_more m n 24 (at 1) (low_more m n 20 (at 2) (low_more m n 16 (at 3)
    (low_more m n 12 (at 4) (low_more m n 8 (at 5) (low_more m n 4 (at 6) (low_more m n 0 (at 7) (omega arith))))))))

-- checks of 32 bits that differ have different texts
pub checks_are_apart : (m n : ℕ) → m < 2 ^ 32 → n < 2 ^ 32 → check_text m ≡ check_text n → m ≡ n
checks_are_apart m n first second same = let low = same_low_bits m n same in omega (arith, low)

-- the digit at a place from the front
pub digit_at : (check at : ℕ) → at < 8 → get_or (check_digits check) at 0 ≡ digit_of check (28 - 4 * at)
digit_at check zero within = refl
digit_at check (suc zero) within = refl
digit_at check (suc (suc zero)) within = refl
digit_at check (suc (suc (suc zero))) within = refl
digit_at check (suc (suc (suc (suc zero)))) within = refl
digit_at check (suc (suc (suc (suc (suc zero))))) within = refl
digit_at check (suc (suc (suc (suc (suc (suc zero)))))) within = refl
digit_at check (suc (suc (suc (suc (suc (suc (suc zero))))))) within = refl
digit_at check (suc (suc (suc (suc (suc (suc (suc (suc at)))))))) within = absurd (omega arith)

-- ---- digits read one by one, from the front

pub digits_small : (check at : ℕ) → at < 8 → check < 2 ^ (4 * at) → check < 2 ^ 28
digits_small check at within small =
    let wide : 2 ^ (4 * at) ≤ 2 ^ 28 = pow_mono {i = 4 * at} {j = 28} (omega arith) in
    omega (arith, wide, small)

pub digits_more : (check value at : ℕ) → check < 2 ^ (4 * at) → value < 16 → check * 16 + value < 2 ^ (4 * (at + 1))
digits_more check value at small digit =
    let size : 4 * (at + 1) ≡ 4 * at + 4 = omega arith in
    let power : 2 ^ (4 * at + 4) ≡ 2 ^ (4 * at) * 16 = pow-add 2 (4 * at) 4 in
    subst (λ (bits : ℕ). check * 16 + value < 2 ^ bits) (sym size) (omega (arith, power, small, digit))

pub digits_next : (n check value at : ℕ) → at < 8 → check ≡ n / 2 ^ (32 - 4 * at) → value ≡ n / 2 ^ (28 - 4 * at) % 16 → check * 16 + value ≡ n / 2 ^ (32 - 4 * (at + 1))
digits_next n check value at within front digit =
    let place = 28 - 4 * at in
    let before : 32 - 4 * at ≡ place + 4 = omega arith in
    let behind : 32 - 4 * (at + 1) ≡ place = omega arith in
    let high : check ≡ n / 2 ^ place / 16 = front ∙ ap (λ (bits : ℕ). n / 2 ^ bits) before ∙ sym (shr-shr n place 4) in
    let whole : check * 16 + value ≡ n / 2 ^ place = omega (arith, high, digit) in
    whole ∙ ap (λ (bits : ℕ). n / 2 ^ bits) (sym behind)

-- the last digit ends the number
pub digits_whole : (n check at : ℕ) → at ≡ 8 → check ≡ n / 2 ^ (32 - 4 * at) → check ≡ n
digits_whole n check at end front =
    let none : 32 - 4 * at ≡ 0 = omega arith in
    let one : check ≡ n / 1 = front ∙ ap (λ (bits : ℕ). n / 2 ^ bits) none in
    omega (arith, one)

-- a byte among the digits of a check
pub digit_there : (n at : ℕ) (digits : List ℕ) → at < 8 → digits ≡ check_digits n → get_or digits at 0 ≡ digit_of n (28 - 4 * at)
digit_there n at digits within are = ap (λ (all : List ℕ). get_or all at 0) are ∙ digit_at n at within

-- what holds where there is nothing
pub where_none : (found : Option ℕ) (P : Type 0) → P → IfNone found P
where_none None P holds = holds
where_none (Some n) P holds = tt
