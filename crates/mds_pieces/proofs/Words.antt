-- What a word is doesn't rest on what stands behind the brace that ends it.
use Rattle.std.proofs.Common.{◌≡◌, ℕ, suc, ◌+◌, ◌-◌, Bool, true, false, cond, ◌&&◌, ◌||◌, ◌==◌, List, [], ◌∷◌, ◌++◌, length, take, drop, nat_eq, Option, Some, None, option_and_then, refl, sym, ap, ap₂, ◌∙◌, arith, length-append, subst}
use Rattle.std.proofs.lemmas.List.{take-append-le}
use Rattle.std.specs.Cmp.Lexicographic.{pointwise}
use Rattle.std.specs.List.{prefix_len}
use Rattle.std.specs.Char.{is_ascii_digit}
use Rattle.json.specs.Token.{Token, number, boolean, null, bad}
use Rattle.json.specs.Ascii.{true_text, false_text, null_text}
use Rattle.json.specs.Word.{ends_word, after_digits, after_sign, after_whole, after_fraction, after_exponent, after_number, number_before, literal, word}

abbrev pub end : List ℕ
end = 125 ∷ 93 ∷ []

module _ (post : List ℕ) where
  abbrev pub more : List ℕ
  more = 125 ∷ 44 ∷ post

  -- a part leaves the same of both texts, but for their ends, or fails at both
  abbrev Both : Option (List ℕ) → Option (List ℕ) → Type 0
  Both None p = p ≡ None
  Both (Some x) p = (v : List ℕ) × (x ≡ v ++ end) × (p ≡ Some (v ++ more))

  by_test : (b : Bool) (x y p q : Option (List ℕ)) → Both x p → Both y q → Both (cond b x y) (cond b p q)
  by_test true x y p q h k = h
  by_test false x y p q h k = k

  same_test : (b : Bool) (x y p q : List ℕ) → (v : List ℕ) × (x ≡ v ++ end) × (p ≡ v ++ more) → (v : List ℕ) × (y ≡ v ++ end) × (q ≡ v ++ more)
      → (v : List ℕ) × (cond b x y ≡ v ++ end) × (cond b p q ≡ v ++ more)
  same_test true x y p q h k = h
  same_test false x y p q h k = k

  then : (f : List ℕ → Option (List ℕ)) → ((u : List ℕ) → Both (f (u ++ end)) (f (u ++ more))) → (o p : Option (List ℕ)) → Both o p → Both (option_and_then f o) (option_and_then f p)
  then f g None p h = ap (option_and_then f) h
  then f g (Some x) p h = go (f x) (option_and_then f p) (ap f h.1) (ap (option_and_then f) h.2) (g h.0)
    where
      go : {y z : Option (List ℕ)} (o q : Option (List ℕ)) → o ≡ y → q ≡ z → Both y z → Both o q
      go {y} {z} o q e k b = subst (λ w. Both w q) (sym e) (subst (Both y) (sym k) b)

  record Digits (u : List ℕ) (n m : ℕ) : Type 0 where
    count : m ≡ n
    one : drop n (u ++ end) ≡ drop n u ++ end
    two : drop n (u ++ more) ≡ drop n u ++ more

  digits_at : (d : Bool) (x : ℕ) (xs : List ℕ) (n m : ℕ) → Digits xs n m → Digits (x ∷ xs) (cond d (1 + n) 0) (cond d (1 + m) 0)
  digits_at false x xs n m ih = record { count = refl; one = refl; two = refl }
  digits_at true x xs n m ih =
      let e : suc n ≡ 1 + n = omega arith in
      subst (λ j. Digits (x ∷ xs) j (1 + m)) e (record { count = omega (arith, ih.count); one = ih.one; two = ih.two })

  digit_run : (u : List ℕ) → Digits u (prefix_len is_ascii_digit (u ++ end)) (prefix_len is_ascii_digit (u ++ more))
  digit_run [] = record { count = refl; one = refl; two = refl }
  digit_run (x ∷ xs) = digits_at (is_ascii_digit x) x xs _ _ (digit_run xs)

  digits : (u : List ℕ) → Both (after_digits (u ++ end)) (after_digits (u ++ more))
  digits u =
      let d = digit_run u in
      let n = prefix_len is_ascii_digit (u ++ end) in
      subst (λ k. Both (after_digits (u ++ end)) (cond (k == 0) None (Some (drop k (u ++ more))))) (sym d.count)
      (by_test (n == 0) None _ None _ refl (drop n u, d.one, ap Some d.two))

  whole : (u : List ℕ) → Both (after_whole (u ++ end)) (after_whole (u ++ more))
  whole [] = refl
  whole (x ∷ xs) = by_test (x == 48) _ _ _ _ (xs, refl, refl) (digits (x ∷ xs))

  fraction : (u : List ℕ) → Both (after_fraction (u ++ end)) (after_fraction (u ++ more))
  fraction [] = ([], refl, refl)
  fraction (x ∷ xs) = by_test (x == 46) _ _ _ _ (digits xs) (x ∷ xs, refl, refl)

  signed : (u : List ℕ) → Both (after_digits (after_sign (u ++ end))) (after_digits (after_sign (u ++ more)))
  signed [] = refl
  signed (x ∷ xs) = go ((x == 45) || (x == 43))
    where
      go : (b : Bool) → Both (after_digits (cond b (xs ++ end) (x ∷ xs ++ end))) (after_digits (cond b (xs ++ more) (x ∷ xs ++ more)))
      go true = digits xs
      go false = digits (x ∷ xs)

  exponent : (u : List ℕ) → Both (after_exponent (u ++ end)) (after_exponent (u ++ more))
  exponent [] = ([], refl, refl)
  exponent (x ∷ xs) = by_test ((x == 101) || (x == 69)) _ _ _ _ (signed xs) (x ∷ xs, refl, refl)

  number_part : (u : List ℕ) → Both (after_number (u ++ end)) (after_number (u ++ more))
  unfolding after_number
  number_part [] = refl
  number_part (x ∷ xs) = then after_exponent exponent _ _ (then after_fraction fraction _ _ (go (x == 45)))
    where
      go : (b : Bool) → Both (after_whole (cond b (xs ++ end) (x ∷ xs ++ end))) (after_whole (cond b (xs ++ more) (x ∷ xs ++ more)))
      go true = whole xs
      go false = whole (x ∷ xs)

  same_ends : (v : List ℕ) → ends_word (v ++ end) ≡ ends_word (v ++ more)
  same_ends [] = refl
  same_ends (x ∷ xs) = refl

  taken : (u v : List ℕ) (r : List ℕ) → take (length (u ++ r) - length (v ++ r)) (u ++ r) ≡ take (length u - length v) u
  taken u v r =
      let n : length (u ++ r) - length (v ++ r) ≡ length u - length v = omega (arith, length-append u r, length-append v r) in
      ap (λ k. take k (u ++ r)) n ∙ take-append-le (length u - length v) u r (omega arith)

  same_number : (u : List ℕ) (o p : Option (List ℕ)) → Both o p → number_before (u ++ end) o ≡ number_before (u ++ more) p
  same_number u None p h = ap (number_before (u ++ more)) (sym h)
  same_number u (Some x) p h =
      let v = h.0 in
      ap (λ w. number_before (u ++ end) (Some w)) h.1
      ∙ ap₂ (λ b s. cond b (number s) bad) (same_ends v) (taken u v end ∙ sym (taken u v more))
      ∙ ap (number_before (u ++ more)) (sym h.2)

  both_and : (a b c d e : Bool) → (b && d) ≡ (c && e) → ((a && b) && d) ≡ ((a && c) && e)
  both_and true b c d e h = h
  both_and false b c d e h = refl

  abbrev NoEnds : List ℕ → Type 0
  NoEnds [] = Unit {0}
  NoEnds (n ∷ ns) = (nat_eq n 125 ≡ false) × NoEnds ns

  front_same : (name u : List ℕ) → NoEnds name
      → (pointwise nat_eq name (take (length name) (u ++ end)) && ends_word (drop (length name) (u ++ end)))
      ≡ (pointwise nat_eq name (take (length name) (u ++ more)) && ends_word (drop (length name) (u ++ more)))
  front_same [] u h = same_ends u
  front_same (n ∷ ns) [] h = off _ _ _ h.0 ∙ sym (off _ _ _ h.0)
    where
      off : (a b c : Bool) → a ≡ false → ((a && b) && c) ≡ false
      off a b c e = ap (λ x. (x && b) && c) e
  front_same (n ∷ ns) (x ∷ xs) h = both_and (nat_eq n x) _ _ _ _ (front_same ns xs h.1)

  same_literal : (name : List ℕ) (t : Token) (u : List ℕ) → NoEnds name → literal name t (u ++ end) ≡ literal name t (u ++ more)
  same_literal name t u h = ap (λ b. cond b t bad) (front_same name u h)

  pub word_same : (x : ℕ) (xs : List ℕ) → word (x ∷ (xs ++ end)) ≡ word (x ∷ (xs ++ more))
  unfolding word
  word_same x xs = chosen (x == 116) (x == 102) (x == 110)
    where
      u : List ℕ
      u = x ∷ xs

      chosen : (t f n : Bool)
          → cond t (literal true_text (boolean true) (u ++ end)) (cond f (literal false_text (boolean false) (u ++ end)) (cond n (literal null_text null (u ++ end)) (number_before (u ++ end) (after_number (u ++ end)))))
          ≡ cond t (literal true_text (boolean true) (u ++ more)) (cond f (literal false_text (boolean false) (u ++ more)) (cond n (literal null_text null (u ++ more)) (number_before (u ++ more) (after_number (u ++ more)))))
      chosen true f n = same_literal true_text (boolean true) u (refl, (refl, (refl, (refl, tt))))
      chosen false true n = same_literal false_text (boolean false) u (refl, (refl, (refl, (refl, (refl, tt)))))
      chosen false false true = same_literal null_text null u (refl, (refl, (refl, (refl, tt))))
      chosen false false false = same_number u _ _ (number_part u)
