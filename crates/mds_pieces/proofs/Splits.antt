-- The tokens before a brace don't rest on what stands behind it.
use Rattle.std.proofs.Common.{◌≡◌, ℕ, zero, suc, ◌≤◌, Bool, true, false, List, [], ◌∷◌, ◌++◌, length, Option, Some, None, refl, sym, ap, ap₂, ◌∙◌, arith, subst}
use Rattle.std.specs.Prelude.{⊤}
use Rattle.json.specs.Token.{Token, begin_object, end_object, begin_array, end_array, key, string, number, boolean, null, bad}
use Rattle.json.specs.Text.{content, plain}
use Rattle.json.specs.Word.{word}
use Rattle.json.specs.Lex.{Lexeme, token, comma, colon, Class, quote, backslash, operator, space, other, class, operator_lexeme, string_token, Mode, between, in_word, in_string, lex_byte, lex}
use Rattle.json.specs.Lex.{Place, fresh, after_value, after_comma, after_key, begins_colon, may_begin, may_close, if_allowed, place_token, punctuate}
use Rattle.mds_pieces.proofs.Words.{end, more, word_same}
use Rattle.mds_pieces.proofs.Strings.{string_ends}

abbrev pub IsGood : Token → Type 0
IsGood begin_object = ⊤
IsGood end_object = ⊤
IsGood begin_array = ⊤
IsGood end_array = ⊤
IsGood (key s) = ⊤
IsGood (string s) = ⊤
IsGood (number s) = ⊤
IsGood (boolean b) = ⊤
IsGood null = ⊤
IsGood bad = ⊥

abbrev pub AreGood : List Token → Type 0
AreGood [] = ⊤
AreGood (t ∷ ts) = IsGood t × AreGood ts

module _ (post : List ℕ) where
  abbrev closing : List Lexeme
  closing = token end_object ∷ token end_array ∷ []

  abbrev going : List Lexeme
  going = token end_object ∷ comma ∷ lex between post

  -- both lists of tokens begin with the same ones, and go on with the brace
  pub record Split (one two : List Token) : Type 0 where
    pub first : List Token
    pub place : Place
    pub one_is : one ≡ first ++ punctuate place closing
    pub two_is : two ≡ first ++ punctuate place going

  one_more : (t : Token) (one two : List Token) → Split one two → Split (t ∷ one) (t ∷ two)
  one_more t one two h = record { first = t ∷ h.first; place = h.place; one_is = ap (λ l. t ∷ l) h.one_is; two_is = ap (λ l. t ∷ l) h.two_is }

  moved : (a b c d : List Token) → a ≡ c → b ≡ d → Split c d → Split a b
  moved a b c d e f h = record { first = h.first; place = h.place; one_is = e ∙ h.one_is; two_is = f ∙ h.two_is }

  -- wherever these lexemes come next, both split, where the first ones are good
  abbrev Splits : List Lexeme → List Lexeme → Type 0
  Splits ls ks = (p : Place) → AreGood (punctuate p ls) → Split (punctuate p ls) (punctuate p ks)

  allowed : (b : Bool) (t : Token) (next : Place) (ls ks : List Lexeme) → Splits ls ks → AreGood (if_allowed b t (λ n. punctuate n ls) next)
      → Split (if_allowed b t (λ n. punctuate n ls) next) (if_allowed b t (λ n. punctuate n ks) next)
  allowed true t next ls ks ih h = one_more t _ _ (ih next h.1)
  allowed false t next ls ks ih h = absurd h.0

  placed : (p : Place) (t : Token) (b : Bool) (ls ks : List Lexeme) → Splits ls ks → AreGood (place_token p t b (λ n. punctuate n ls))
      → Split (place_token p t b (λ n. punctuate n ls)) (place_token p t b (λ n. punctuate n ks))
  placed p begin_object b ls ks ih h = allowed (may_begin p) begin_object fresh ls ks ih h
  placed p end_object b ls ks ih h = allowed (may_close p) end_object after_value ls ks ih h
  placed p begin_array b ls ks ih h = allowed (may_begin p) begin_array fresh ls ks ih h
  placed p end_array b ls ks ih h = allowed (may_close p) end_array after_value ls ks ih h
  placed p (key s) b ls ks ih h = absurd h.0
  placed p (string s) true ls ks ih h = allowed (may_begin p) (key s) after_key ls ks ih h
  placed p (string s) false ls ks ih h = allowed (may_begin p) (string s) after_value ls ks ih h
  placed p (number s) b ls ks ih h = allowed (may_begin p) (number s) after_value ls ks ih h
  placed p (boolean v) b ls ks ih h = allowed (may_begin p) (boolean v) after_value ls ks ih h
  placed p null b ls ks ih h = allowed (may_begin p) null after_value ls ks ih h
  placed p bad b ls ks ih h = absurd h.0

  lexeme : (l : Lexeme) (ls ks : List Lexeme) → begins_colon ls ≡ begins_colon ks → Splits ls ks → Splits (l ∷ ls) (l ∷ ks)
  unfolding punctuate
  lexeme (token t) ls ks e ih p h =
      moved _ _ _ _ refl (ap (λ b. place_token p t b (λ n. punctuate n ks)) (sym e)) (placed p t (begins_colon ls) ls ks ih h)
  lexeme comma ls ks e ih fresh h = absurd h.0
  lexeme comma ls ks e ih after_value h = ih after_comma h
  lexeme comma ls ks e ih after_comma h = absurd h.0
  lexeme comma ls ks e ih after_key h = absurd h.0
  lexeme colon ls ks e ih fresh h = absurd h.0
  lexeme colon ls ks e ih after_value h = absurd h.0
  lexeme colon ls ks e ih after_comma h = absurd h.0
  lexeme colon ls ks e ih after_key h = ih fresh h

  colon_first : (l : Lexeme) (ls ks : List Lexeme) → begins_colon (l ∷ ls) ≡ begins_colon (l ∷ ks)
  colon_first (token t) ls ks = refl
  colon_first comma ls ks = refl
  colon_first colon ls ks = refl

  abbrev SameColon : Mode → List ℕ → Type 0
  SameColon m xs = begins_colon (lex m (xs ++ end)) ≡ begins_colon (lex m (xs ++ more post))

  colon_at_between : (c : Class) (x : ℕ) (xs : List ℕ) → SameColon between xs
      → begins_colon (lex_byte between c x (xs ++ end) (λ n. lex n (xs ++ end))) ≡ begins_colon (lex_byte between c x (xs ++ more post) (λ n. lex n (xs ++ more post)))
  colon_at_between quote x xs h = refl
  colon_at_between backslash x xs h = refl
  colon_at_between operator x xs h = colon_first (operator_lexeme x) _ _
  colon_at_between space x xs h = h
  colon_at_between other x xs h = refl

  colon_at_word : (c : Class) (x : ℕ) (xs : List ℕ) → SameColon between xs → SameColon in_word xs
      → begins_colon (lex_byte in_word c x (xs ++ end) (λ n. lex n (xs ++ end))) ≡ begins_colon (lex_byte in_word c x (xs ++ more post) (λ n. lex n (xs ++ more post)))
  colon_at_word quote x xs h k = k
  colon_at_word backslash x xs h k = k
  colon_at_word operator x xs h k = colon_first (operator_lexeme x) _ _
  colon_at_word space x xs h k = h
  colon_at_word other x xs h k = k

  mutual
    unfolding lex

    colon_between : (xs : List ℕ) → begins_colon (lex between (xs ++ end)) ≡ begins_colon (lex between (xs ++ more post))
    colon_between [] = refl
    colon_between (x ∷ xs) = colon_at_between (class x) x xs (colon_between xs)

    colon_word : (xs : List ℕ) → begins_colon (lex in_word (xs ++ end)) ≡ begins_colon (lex in_word (xs ++ more post))
    colon_word [] = refl
    colon_word (x ∷ xs) = colon_at_word (class x) x xs (colon_between xs) (colon_word xs)

  same_lexemes : (ls ks ms ns : List Lexeme) → ls ≡ ms → ks ≡ ns → Splits ms ns → Splits ls ks
  same_lexemes ls ks ms ns e f ih = subst (λ l. Splits l ks) (sym e) (subst (Splits ms) (sym f) ih)

  -- a string begins
  quoted : (n : ℕ) (xs : List ℕ) (o : Option (List ℕ)) → content plain (xs ++ end) ≡ o → length xs ≤ n
      → ((ys : List ℕ) → length ys ≤ n → Splits (lex between (ys ++ end)) (lex between (ys ++ more post)))
      → Splits (token (string_token o) ∷ lex in_string (xs ++ end)) (token (string_token (content plain (xs ++ more post))) ∷ lex in_string (xs ++ more post))
  unfolding punctuate
  quoted n xs None e le ih p h = absurd h.0
  quoted n xs (Some v) e le ih p h =
      let there = string_ends plain xs v e in
      same_lexemes _ _ _ _ (ap (λ l. token (string v) ∷ l) (there.passes end))
      (ap₂ (λ o l. token (string_token o) ∷ l) (there.text (more post)) (there.passes (more post)))
      (lexeme (token (string v)) _ _ (colon_between there.left) (ih there.left (omega (arith, there.shorter)))) p h

  abbrev SplitsFrom : Mode → List ℕ → Type 0
  SplitsFrom m xs = Splits (lex m (xs ++ end)) (lex m (xs ++ more post))

  at_between : (c : Class) (n x : ℕ) (xs : List ℕ) → length xs ≤ n → ((ys : List ℕ) → length ys ≤ n → SplitsFrom between ys) → SplitsFrom in_word xs
      → Splits (lex_byte between c x (xs ++ end) (λ m. lex m (xs ++ end))) (lex_byte between c x (xs ++ more post) (λ m. lex m (xs ++ more post)))
  unfolding punctuate
  at_between quote n x xs le ih jh p h = quoted n xs (content plain (xs ++ end)) refl le ih p h
  at_between backslash n x xs le ih jh p h = absurd h.0
  at_between operator n x xs le ih jh p h = lexeme (operator_lexeme x) _ _ (colon_between xs) (ih xs le) p h
  at_between space n x xs le ih jh p h = ih xs le p h
  at_between other n x xs le ih jh p h =
      let next = lexeme (token (word (x ∷ (xs ++ end)))) (lex in_word (xs ++ end)) (lex in_word (xs ++ more post)) (colon_word xs) jh p h in
      moved _ _ _ _ refl (ap (λ w. punctuate p (token w ∷ lex in_word (xs ++ more post))) (sym (word_same post x xs))) next

  at_word : (c : Class) (x : ℕ) (xs : List ℕ) → SplitsFrom between xs → SplitsFrom in_word xs
      → Splits (lex_byte in_word c x (xs ++ end) (λ m. lex m (xs ++ end))) (lex_byte in_word c x (xs ++ more post) (λ m. lex m (xs ++ more post)))
  at_word quote x xs ih jh = jh
  at_word backslash x xs ih jh = jh
  at_word operator x xs ih jh = lexeme (operator_lexeme x) _ _ (colon_between xs) ih
  at_word space x xs ih jh = ih
  at_word other x xs ih jh = jh

  mutual
    unfolding lex

    splits_between : (n : ℕ) (xs : List ℕ) → length xs ≤ n → SplitsFrom between xs
    splits_between n [] le p h = record { first = []; place = p; one_is = refl; two_is = refl }
    splits_between zero (x ∷ xs) le p h = absurd (omega arith)
    splits_between (suc n) (x ∷ xs) le p h = at_between (class x) n x xs (omega arith) (splits_between n) (splits_word n xs (omega arith)) p h

    splits_word : (n : ℕ) (xs : List ℕ) → length xs ≤ n → SplitsFrom in_word xs
    splits_word n [] le p h = record { first = []; place = p; one_is = refl; two_is = refl }
    splits_word zero (x ∷ xs) le p h = absurd (omega arith)
    splits_word (suc n) (x ∷ xs) le p h = at_word (class x) x xs (splits_between n xs (omega arith)) (splits_word n xs (omega arith)) p h

  abbrev Joined : List ℕ → List Token → Type 0
  Joined front first = punctuate fresh (lex between (front ++ more post)) ≡ first ++ end_object ∷ punctuate after_comma (lex between post)

  no_bad : (first : List Token) → AreGood (first ++ bad ∷ []) → ⊥
  no_bad [] h = h.0
  no_bad (t ∷ ts) h = no_bad ts h.1

  -- good tokens up to the brace and the bracket come before whatever stands behind the brace in place of the bracket
  pub joined : (front : List ℕ) → AreGood (punctuate fresh (lex between (front ++ end)))
      → (first : List Token) × (punctuate fresh (lex between (front ++ end)) ≡ first ++ end_object ∷ end_array ∷ []) × Joined front first
  unfolding punctuate
  joined front h = at_place s.place s.first (s.one_is) (s.two_is)
    where
      s : Split (punctuate fresh (lex between (front ++ end))) (punctuate fresh (lex between (front ++ more post)))
      s = splits_between (length front) front (omega arith) fresh h

      refused : (first : List Token) → punctuate fresh (lex between (front ++ end)) ≡ first ++ bad ∷ [] → ⊥
      refused first e = no_bad first (subst AreGood e h)

      at_place : (p : Place) (first : List Token) → punctuate fresh (lex between (front ++ end)) ≡ first ++ punctuate p closing
          → punctuate fresh (lex between (front ++ more post)) ≡ first ++ punctuate p going
          → (first : List Token) × (punctuate fresh (lex between (front ++ end)) ≡ first ++ end_object ∷ end_array ∷ []) × Joined front first
      at_place fresh first e f = (first, e, f)
      at_place after_value first e f = (first, e, f)
      at_place after_comma first e f = absurd (refused first e)
      at_place after_key first e f = absurd (refused first e)

abbrev pub NoClose : List Token → Type 0
NoClose [] = ⊥
NoClose (begin_object ∷ ts) = ⊤
NoClose (end_object ∷ ts) = ⊥
NoClose (begin_array ∷ ts) = ⊤
NoClose (end_array ∷ ts) = ⊥
NoClose (key s ∷ ts) = ⊤
NoClose (string s ∷ ts) = ⊤
NoClose (number s ∷ ts) = ⊤
NoClose (boolean b ∷ ts) = ⊤
NoClose (null ∷ ts) = ⊤
NoClose (bad ∷ ts) = ⊤

-- tokens that begin a value are the same behind a comma
pub behind_comma : (ls : List Lexeme) → NoClose (punctuate fresh ls) → punctuate after_comma ls ≡ punctuate fresh ls
unfolding punctuate
behind_comma [] h = absurd h
behind_comma (token begin_object ∷ ls) h = refl
behind_comma (token end_object ∷ ls) h = absurd h
behind_comma (token begin_array ∷ ls) h = refl
behind_comma (token end_array ∷ ls) h = absurd h
behind_comma (token (key s) ∷ ls) h = refl
behind_comma (token (string s) ∷ ls) h = go (begins_colon ls)
  where
    go : (b : Bool) → place_token after_comma (string s) b (λ n. punctuate n ls) ≡ place_token fresh (string s) b (λ n. punctuate n ls)
    go true = refl
    go false = refl
behind_comma (token (number s) ∷ ls) h = refl
behind_comma (token (boolean b) ∷ ls) h = refl
behind_comma (token null ∷ ls) h = refl
behind_comma (token bad ∷ ls) h = refl
behind_comma (comma ∷ ls) h = refl
behind_comma (colon ∷ ls) h = refl
