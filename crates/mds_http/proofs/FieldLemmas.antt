-- Values of fields, and the numbers that digits write.
use Rattle.std.proofs.Common.{◌≡◌, ◌<◌, ◌≤◌, ℕ, suc, ◌+◌, ◌*◌, ◌-◌, List, [], ◌∷◌, ◌++◌, Bool, true, length, map, drop, take, get_or, IsTrue, ◌↔◌, refl, ap, ◌∙◌, sym, arith, drop-cons, subst}
use Rattle.std.specs.List.{list_all}
use Rattle.std.specs.Char.{digit_value, is_ascii_digit, to_ascii_lowercase}
use Rattle.std.specs.Str.{str_eq_ignore_ascii_case}
use Rattle.std.specs.Str.Parse.{digits_value_after}
use Rattle.std.proofs.lemmas.Bool.Decides.{same_from_decides}
use Rattle.std.proofs.lemmas.Slice.Eq.{bytes_eq-Decides}
use Rattle.std.proofs.lemmas.List.{map-append, take_more}
use Rattle.std.proofs.lemmas.Str.{digit_value_digit}
use Rattle.std.proofs.lemmas.Bool.{and_parts}
use Rattle.std.proofs.lemmas.Str.Parse.{tells_all_ascii_digits}

-- a test of names, as the definition has it
pub same_name : (test : Bool) (a b : List ℕ) → (IsTrue test ↔ (map to_ascii_lowercase a ≡ map to_ascii_lowercase b)) → test ≡ str_eq_ignore_ascii_case a b
same_name test a b is = same_from_decides test (str_eq_ignore_ascii_case a b) is (bytes_eq-Decides (map to_ascii_lowercase a) (map to_ascii_lowercase b))

-- the headers with one more
pub headers_more : {A B : Type 0} (f : A → B) (headers : List A) (i : ℕ) (other : A) → i < length headers → map f (take (i + 1) headers) ≡ map f (take i headers) ++ f (get_or headers i other) ∷ []
headers_more f headers i other within = ap (map f) (take_more headers i other within) ∙ map-append f (take i headers) (get_or headers i other ∷ [])

-- digits more make no number less
pub digits_grow : (number : ℕ) (digits : List ℕ) → number ≤ digits_value_after 10 number digits
digits_grow number [] = omega arith
digits_grow number (digit ∷ digits) = omega (arith, digits_grow (number * 10 + digit_value digit) digits)

-- a digit more makes a number no greater than the digits that are left do
pub digit_passes : (number i : ℕ) (digits : List ℕ) → i < length digits → list_all is_ascii_digit (drop i digits) ≡ true → number * 10 + (get_or digits i 0 - 48) ≤ digits_value_after 10 number (drop i digits)
digit_passes number i digits within all =
    let parted : drop i digits ≡ get_or digits i 0 ∷ drop (suc i) digits = drop-cons digits i 0 within in
    subst (λ left. number * 10 + (get_or digits i 0 - 48) ≤ digits_value_after 10 number left) (sym parted)
    (first number (get_or digits i 0) (drop (suc i) digits) (subst (λ left. list_all is_ascii_digit left ≡ true) parted all))
  where
    first : (number digit : ℕ) (rest : List ℕ) → list_all is_ascii_digit (digit ∷ rest) ≡ true → number * 10 + (digit - 48) ≤ digits_value_after 10 number (digit ∷ rest)
    first number digit rest all =
        let is : is_ascii_digit digit ≡ true = (and_parts (is_ascii_digit digit) (list_all is_ascii_digit rest) all).0 in
        omega (arith, digit_value_digit digit (tells_all_ascii_digits.parts digit [] (rw is refl)).0, digits_grow (number * 10 + digit_value digit) rest)
