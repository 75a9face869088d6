-- What a string is doesn't rest on what stands behind the quote that ends it.
use Rattle.std.proofs.Common.{◌≡◌, ℕ, ◌+◌, ◌*◌, ◌<◌, Bool, true, false, cond, ◌&&◌, ◌==◌, nat_lt, List, [], ◌∷◌, ◌++◌, length, Option, Some, None, option_and_then, refl, sym, ap, ◌∙◌, arith, subst}
use Rattle.std.proofs.lemmas.Bool.{true≢false, eqb-true, and_parts}
use Rattle.std.specs.Prelude.{⊤}
use Rattle.std.specs.Char.{is_digit, digit_value, encode_utf8}
use Rattle.json.specs.Text.{code_unit, short_escape, is_high_surrogate, is_low_surrogate, surrogate_pair, Within, plain, after_backslash, after_u, after_high, prepend, content}
use Rattle.json.specs.Word.{is_operator, is_space}
use Rattle.json.specs.Lex.{Lexeme, quote, backslash, operator, space, other, Mode, between, in_string, in_escape, lex_byte, lex}
use Rattle.mds_pieces.proofs.Words.{end}

abbrev IsNone : {A : Type 0} → Option A → Type 0
IsNone None = ⊤
IsNone (Some a) = ⊥

pub never : {A : Type 0} {a : A} → None ≡ Some a → ⊥
never e = subst IsNone e tt

abbrev mode : Within → Mode
mode plain = in_string
mode after_backslash = in_escape
mode after_u = in_string
mode (after_high h) = in_string

-- the string that begins ends within the bytes, and these are left behind it
pub record Ends (w : Within) (xs v : List ℕ) : Type 0 where
  pub left : List ℕ
  pub shorter : length left < length xs
  pub text : (r : List ℕ) → content w (xs ++ r) ≡ Some v
  pub passes : (r : List ℕ) → lex (mode w) (xs ++ r) ≡ lex between (left ++ r)

-- these bytes are first, and the string goes on behind them
goes_on : (w u : Within) (xs ys v z : List ℕ) → Ends u ys z → length ys < length xs → ((r : List ℕ) → content u (ys ++ r) ≡ Some z → content w (xs ++ r) ≡ Some v)
    → ((r : List ℕ) → lex (mode w) (xs ++ r) ≡ lex (mode u) (ys ++ r)) → Ends w xs v
goes_on w u xs ys v z h fewer texts passed = record {
  left = h.left;
  shorter = omega (arith, h.shorter);
  text = λ r. texts r (h.text r);
  passes = λ r. passed r ∙ h.passes r;
}

-- the mark of what a part prepends to the rest of the string
abbrev Behind : Within → List ℕ → List ℕ → List ℕ → List ℕ → Type 0
Behind u ys front v xs = (z : List ℕ) × Ends u ys z × (prepend front (Some z) ≡ Some v)

behind : (u : Within) (ys front v xs : List ℕ) → ((z : List ℕ) → content u (ys ++ end) ≡ Some z → Ends u ys z) → prepend front (content u (ys ++ end)) ≡ Some v → Behind u ys front v xs
behind u ys front v xs ih e = go (content u (ys ++ end)) refl e
  where
    go : (o : Option (List ℕ)) → content u (ys ++ end) ≡ o → prepend front o ≡ Some v → Behind u ys front v xs
    go None k h = absurd (never h)
    go (Some z) k h = (z, ih z k, h)

in_string_other : (o s : Bool) (x : ℕ) (ys : List ℕ) (k : Mode → List Lexeme) → lex_byte in_string (cond o operator (cond s space other)) x ys k ≡ k in_string
in_string_other true s x ys k = refl
in_string_other false true x ys k = refl
in_string_other false false x ys k = refl

passes_plain : (x : ℕ) (ys : List ℕ) → (x == 34) ≡ false → (x == 92) ≡ false → lex in_string (x ∷ ys) ≡ lex in_string ys
unfolding lex
passes_plain x ys q b =
    (λ i. lex_byte in_string (cond (q i) quote (cond (b i) backslash (cond (is_operator x) operator (cond (is_space x) space other)))) x ys (λ n. lex n ys))
    ∙ in_string_other (is_operator x) (is_space x) x ys (λ n. lex n ys)

no_quote : (x : ℕ) → is_digit x 16 ≡ true → (x == 34) ≡ false
no_quote x h = go (x == 34) (eqb-true x 34)
  where
    go : (b : Bool) → (b ≡ true → x ≡ 34) → b ≡ false
    go false f = refl
    go true f = absurd (true≢false (sym h ∙ ap (λ y. is_digit y 16) (f refl)))

no_backslash : (x : ℕ) → is_digit x 16 ≡ true → (x == 92) ≡ false
no_backslash x h = go (x == 92) (eqb-true x 92)
  where
    go : (b : Bool) → (b ≡ true → x ≡ 92) → b ≡ false
    go false f = refl
    go true f = absurd (true≢false (sym h ∙ ap (λ y. is_digit y 16) (f refl)))

hex_passes : (x : ℕ) (ys : List ℕ) → is_digit x 16 ≡ true → lex in_string (x ∷ ys) ≡ lex in_string ys
hex_passes x ys h = passes_plain x ys (no_quote x h) (no_backslash x h)

-- four digits were read
four : (a b c d u : ℕ) (ys : List ℕ) → code_unit a b c d ≡ Some u → lex in_string (a ∷ b ∷ c ∷ d ∷ ys) ≡ lex in_string ys
unfolding code_unit
four a b c d u ys e = go (is_digit a 16 && is_digit b 16 && is_digit c 16 && is_digit d 16) refl e
  where
    go : (all : Bool) → (is_digit a 16 && is_digit b 16 && is_digit c 16 && is_digit d 16) ≡ all
        → cond all (Some (digit_value a * 4096 + digit_value b * 256 + digit_value c * 16 + digit_value d)) None ≡ Some u → lex in_string (a ∷ b ∷ c ∷ d ∷ ys) ≡ lex in_string ys
    go false h k = absurd (never k)
    go true h k =
        let abc = and_parts (is_digit a 16 && is_digit b 16 && is_digit c 16) (is_digit d 16) h in
        let ab = and_parts (is_digit a 16 && is_digit b 16) (is_digit c 16) abc.0 in
        let each = and_parts (is_digit a 16) (is_digit b 16) ab.0 in
        hex_passes a _ each.0 ∙ hex_passes b _ each.1 ∙ hex_passes c _ ab.1 ∙ hex_passes d _ abc.1

abbrev Reads : Within → List ℕ → Type 0
Reads w xs = (v : List ℕ) → content w (xs ++ end) ≡ Some v → Ends w xs v

plain_byte : (x : ℕ) (xs v : List ℕ) (q b c : Bool) → (x == 34) ≡ q → (x == 92) ≡ b → nat_lt x 32 ≡ c → Reads plain xs → Reads after_backslash xs
    → cond q (Some []) (cond b (content after_backslash (xs ++ end)) (cond c None (prepend (x ∷ []) (content plain (xs ++ end))))) ≡ Some v → Ends plain (x ∷ xs) v
unfolding content lex
plain_byte x xs v true b c hq hb hc ih je e = record {
  left = xs;
  shorter = omega arith;
  text = λ r. (λ i. cond (hq i) (Some []) (cond (x == 92) (content after_backslash (xs ++ r)) (cond (nat_lt x 32) None (prepend (x ∷ []) (content plain (xs ++ r)))))) ∙ e;
  passes = λ r. (λ i. lex_byte in_string (cond (hq i) quote (cond (x == 92) backslash (cond (is_operator x) operator (cond (is_space x) space other)))) x (xs ++ r) (λ n. lex n (xs ++ r)));
}
plain_byte x xs v false true c hq hb hc ih je e =
    goes_on plain after_backslash (x ∷ xs) xs v v (je v e) (omega arith)
    (λ r k. (λ i. cond (hq i) (Some []) (cond (hb i) (content after_backslash (xs ++ r)) (cond (nat_lt x 32) None (prepend (x ∷ []) (content plain (xs ++ r)))))) ∙ k)
    (λ r. (λ i. lex_byte in_string (cond (hq i) quote (cond (hb i) backslash (cond (is_operator x) operator (cond (is_space x) space other)))) x (xs ++ r) (λ n. lex n (xs ++ r))))
plain_byte x xs v false false true hq hb hc ih je e = absurd (never e)
plain_byte x xs v false false false hq hb hc ih je e =
    let more = behind plain xs (x ∷ []) v xs ih e in
    goes_on plain plain (x ∷ xs) xs v more.0 more.1 (omega arith)
    (λ r k. (λ i. cond (hq i) (Some []) (cond (hb i) (content after_backslash (xs ++ r)) (cond (hc i) None (prepend (x ∷ []) (content plain (xs ++ r)))))) ∙ ap (prepend (x ∷ [])) k ∙ more.2)
    (λ r. passes_plain x (xs ++ r) hq hb)

escape_byte : (x : ℕ) (xs v : List ℕ) (u : Bool) (o : Option ℕ) → (x == 117) ≡ u → short_escape x ≡ o → Reads plain xs → Reads after_u xs
    → cond u (content after_u (xs ++ end)) (option_and_then (λ c. prepend (c ∷ []) (content plain (xs ++ end))) o) ≡ Some v → Ends after_backslash (x ∷ xs) v
unfolding content lex
escape_byte x xs v true o hu ho ih ju e =
    goes_on after_backslash after_u (x ∷ xs) xs v v (ju v e) (omega arith)
    (λ r k. (λ i. cond (hu i) (content after_u (xs ++ r)) (option_and_then (λ c. prepend (c ∷ []) (content plain (xs ++ r))) (short_escape x))) ∙ k) (λ r. refl)
escape_byte x xs v false None hu ho ih ju e = absurd (never e)
escape_byte x xs v false (Some c) hu ho ih ju e =
    let more = behind plain xs (c ∷ []) v xs ih e in
    goes_on after_backslash plain (x ∷ xs) xs v more.0 more.1 (omega arith)
    (λ r k. (λ i. cond (hu i) (content after_u (xs ++ r)) (option_and_then (λ c. prepend (c ∷ []) (content plain (xs ++ r))) (ho i))) ∙ ap (prepend (c ∷ [])) k ∙ more.2) (λ r. refl)

-- what four digits stand for, before the text ys
abbrev of_unit : List ℕ → ℕ → Option (List ℕ)
of_unit ys u = cond (is_high_surrogate u) (content (after_high u) ys) (cond (is_low_surrogate u) None (prepend (encode_utf8 u) (content plain ys)))

unit_ends : (a b c d u : ℕ) (xs v : List ℕ) (h l : Bool) → is_high_surrogate u ≡ h → is_low_surrogate u ≡ l → code_unit a b c d ≡ Some u → Reads plain xs → Reads (after_high u) xs
    → cond h (content (after_high u) (xs ++ end)) (cond l None (prepend (encode_utf8 u) (content plain (xs ++ end)))) ≡ Some v → Ends after_u (a ∷ b ∷ c ∷ d ∷ xs) v
unfolding content
unit_ends a b c d u xs v true l hh hl k ih jh e =
    goes_on after_u (after_high u) (a ∷ b ∷ c ∷ d ∷ xs) xs v v (jh v e) (omega arith)
    (λ r t. ap (option_and_then (of_unit (xs ++ r))) k ∙ (λ i. cond (hh i) (content (after_high u) (xs ++ r)) (cond (is_low_surrogate u) None (prepend (encode_utf8 u) (content plain (xs ++ r))))) ∙ t)
    (λ r. four a b c d u (xs ++ r) k)
unit_ends a b c d u xs v false true hh hl k ih jh e = absurd (never e)
unit_ends a b c d u xs v false false hh hl k ih jh e =
    let more = behind plain xs (encode_utf8 u) v xs ih e in
    goes_on after_u plain (a ∷ b ∷ c ∷ d ∷ xs) xs v more.0 more.1 (omega arith)
    (λ r t. ap (option_and_then (of_unit (xs ++ r))) k ∙ (λ i. cond (hh i) (content (after_high u) (xs ++ r)) (cond (hl i) None (prepend (encode_utf8 u) (content plain (xs ++ r)))))
    ∙ ap (prepend (encode_utf8 u)) t ∙ more.2)
    (λ r. four a b c d u (xs ++ r) k)

unit_read : (a b c d : ℕ) (xs v : List ℕ) (o : Option ℕ) → code_unit a b c d ≡ o → Reads plain xs → ((u : ℕ) → Reads (after_high u) xs) → option_and_then (of_unit (xs ++ end)) o ≡ Some v
    → Ends after_u (a ∷ b ∷ c ∷ d ∷ xs) v
unit_read a b c d xs v None k ih jh e = absurd (never e)
unit_read a b c d xs v (Some u) k ih jh e = unit_ends a b c d u xs v (is_high_surrogate u) (is_low_surrogate u) refl refl k ih (jh u) e

-- the second half of a pair
abbrev of_low : ℕ → List ℕ → ℕ → Option (List ℕ)
of_low h ys l = cond (is_low_surrogate l) (prepend (encode_utf8 (surrogate_pair h l)) (content plain ys)) None

abbrev of_pair : ℕ → List ℕ → Bool → Option ℕ → Option (List ℕ)
of_pair h ys p o = cond p (option_and_then (of_low h ys) o) None

low_ends : (h s y a b c d l : ℕ) (xs v : List ℕ) (low : Bool) → is_low_surrogate l ≡ low → ((s == 92) && (y == 117)) ≡ true → code_unit a b c d ≡ Some l → Reads plain xs
    → cond low (prepend (encode_utf8 (surrogate_pair h l)) (content plain (xs ++ end))) None ≡ Some v → Ends (after_high h) (s ∷ y ∷ a ∷ b ∷ c ∷ d ∷ xs) v
unfolding content lex
low_ends h s y a b c d l xs v false hl p k ih e = absurd (never e)
low_ends h s y a b c d l xs v true hl p k ih e =
    let more = behind plain xs (encode_utf8 (surrogate_pair h l)) v xs ih e in
    let both = and_parts (s == 92) (y == 117) p in
    goes_on (after_high h) plain (s ∷ y ∷ a ∷ b ∷ c ∷ d ∷ xs) xs v more.0 more.1 (omega arith)
    (λ r t. (λ i. of_pair h (xs ++ r) (p i) (k i)) ∙ (λ i. cond (hl i) (prepend (encode_utf8 (surrogate_pair h l)) (content plain (xs ++ r))) None)
    ∙ ap (prepend (encode_utf8 (surrogate_pair h l))) t ∙ more.2)
    (λ r. ap (λ z. lex in_string (z ∷ y ∷ a ∷ b ∷ c ∷ d ∷ (xs ++ r))) (eqb-true s 92 both.0) ∙ four a b c d l (xs ++ r) k)

pair_read : (h s y a b c d : ℕ) (xs v : List ℕ) (p : Bool) (o : Option ℕ) → ((s == 92) && (y == 117)) ≡ p → code_unit a b c d ≡ o → Reads plain xs → of_pair h (xs ++ end) p o ≡ Some v
    → Ends (after_high h) (s ∷ y ∷ a ∷ b ∷ c ∷ d ∷ xs) v
pair_read h s y a b c d xs v false o hp ho ih e = absurd (never e)
pair_read h s y a b c d xs v true None hp ho ih e = absurd (never e)
pair_read h s y a b c d xs v true (Some l) hp ho ih e = low_ends h s y a b c d l xs v (is_low_surrogate l) refl hp ho ih e

-- no string ends behind these digits
unit_open : (o : Option ℕ) (ys v : List ℕ) → ((u : ℕ) → of_unit ys u ≡ None) → option_and_then (of_unit ys) o ≡ Some v → ⊥
unit_open None ys v h e = never e
unit_open (Some u) ys v h e = never (sym (h u) ∙ e)

pair_open : (h : ℕ) (p : Bool) (o : Option ℕ) (ys v : List ℕ) → content plain ys ≡ None → of_pair h ys p o ≡ Some v → ⊥
pair_open h false o ys v n e = never e
pair_open h true None ys v n e = never e
pair_open h true (Some l) ys v n e = go (is_low_surrogate l) e
  where
    go : (b : Bool) → cond b (prepend (encode_utf8 (surrogate_pair h l)) (content plain ys)) None ≡ Some v → ⊥
    go false k = never k
    go true k = never (sym (ap (prepend (encode_utf8 (surrogate_pair h l))) n) ∙ k)

none_of_unit : (ys : List ℕ) (u : ℕ) → content plain ys ≡ None → content (after_high u) ys ≡ None → of_unit ys u ≡ None
none_of_unit ys u p h = go (is_high_surrogate u) (is_low_surrogate u)
  where
    go : (b c : Bool) → cond b (content (after_high u) ys) (cond c None (prepend (encode_utf8 u) (content plain ys))) ≡ None
    go true c = h
    go false true = refl
    go false false = ap (prepend (encode_utf8 u)) p

pub string_ends : (w : Within) (xs : List ℕ) → Reads w xs
unfolding content short_escape
string_ends plain [] v e = absurd (never e)
string_ends plain (x ∷ xs) v e = plain_byte x xs v (x == 34) (x == 92) (nat_lt x 32) refl refl refl (string_ends plain xs) (string_ends after_backslash xs) e
string_ends after_backslash [] v e = absurd (never e)
string_ends after_backslash (x ∷ xs) v e = escape_byte x xs v (x == 117) (short_escape x) refl refl (string_ends plain xs) (string_ends after_u xs) e
string_ends after_u [] v e = absurd (never e)
string_ends after_u (a ∷ []) v e = absurd (never e)
string_ends after_u (a ∷ b ∷ []) v e = absurd (unit_open (code_unit a b 125 93) [] v (λ u. none_of_unit [] u refl refl) e)
string_ends after_u (a ∷ b ∷ c ∷ []) v e = absurd (unit_open (code_unit a b c 125) (93 ∷ []) v (λ u. none_of_unit (93 ∷ []) u refl refl) e)
string_ends after_u (a ∷ b ∷ c ∷ d ∷ xs) v e = unit_read a b c d xs v (code_unit a b c d) refl (string_ends plain xs) (λ u. string_ends (after_high u) xs) e
string_ends (after_high h) [] v e = absurd (never e)
string_ends (after_high h) (s ∷ []) v e = absurd (never e)
string_ends (after_high h) (s ∷ y ∷ []) v e = absurd (never e)
string_ends (after_high h) (s ∷ y ∷ a ∷ []) v e = absurd (never e)
string_ends (after_high h) (s ∷ y ∷ a ∷ b ∷ []) v e = absurd (pair_open h ((s == 92) && (y == 117)) (code_unit a b 125 93) [] v refl e)
string_ends (after_high h) (s ∷ y ∷ a ∷ b ∷ c ∷ []) v e = absurd (pair_open h ((s == 92) && (y == 117)) (code_unit a b c 125) (93 ∷ []) v refl e)
string_ends (after_high h) (s ∷ y ∷ a ∷ b ∷ c ∷ d ∷ xs) v e = pair_read h s y a b c d xs v ((s == 92) && (y == 117)) (code_unit a b c d) refl refl (string_ends plain xs) e
