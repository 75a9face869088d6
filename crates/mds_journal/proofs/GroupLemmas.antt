-- The bytes of a group.
use Rattle.std.proofs.Common.{◌≡◌, ℕ, ◌+◌, ◌-◌, ◌<◌, true, false, List, [], ◌∷◌, ◌++◌, length, take, set, All, Option, Some, None, Result, Ok, Err, is_ok, is_some, OnOk, IfNone, refl, sym, ap, ◌∙◌, arith, append_assoc, length-append, length-set}
use Rattle.std.proofs.lemmas.List.{set_at}
use Rattle.std.proofs.lemmas.List.Elements.{All-push}
use Rattle.mds_journal.specs.Lines.{HasNoFeed, recovered_texts, open_lines, at_rest}
use Rattle.mds_journal.proofs.LineLemmas.{recovered_closed, open_lines-append, length-at_rest, texts_have_no_feed}

-- a file at rest stands for its texts
pub recovered-at_rest : (texts : List (List ℕ)) → All HasNoFeed texts → recovered_texts (at_rest texts) ≡ texts
recovered-at_rest texts none = recovered_closed texts 35 [] none (omega arith)

-- one line behind others, and the gate behind it
at_rest-push : (texts : List (List ℕ)) (text : List ℕ) → at_rest (texts ++ text ∷ []) ≡ open_lines texts ++ 32 ∷ (text ++ 10 ∷ 35 ∷ [])
at_rest-push texts text =
    ap (λ (bytes : List ℕ). bytes ++ 35 ∷ []) (open_lines-append texts (text ∷ []))
    ∙ append_assoc (open_lines texts) (32 ∷ (text ++ 10 ∷ [])) (35 ∷ [])
    ∙ ap (λ (bytes : List ℕ). open_lines texts ++ 32 ∷ bytes) (append_assoc text (10 ∷ []) (35 ∷ []))

-- a text, a line feed and a gate behind a file at rest, whose own gate is opened
gate_opened : (texts : List (List ℕ)) (text : List ℕ) (n : ℕ) → n ≡ length (open_lines texts) → set (at_rest texts ++ (text ++ 10 ∷ 35 ∷ [])) n 32 ≡ at_rest (texts ++ text ∷ [])
gate_opened texts text n is =
    ap (λ (bytes : List ℕ). set bytes n 32) (append_assoc (open_lines texts) (35 ∷ []) (text ++ 10 ∷ 35 ∷ []))
    ∙ set_at (open_lines texts) 35 (text ++ 10 ∷ 35 ∷ []) 32 n (sym is)
    ∙ sym (at_rest-push texts text)

-- the bytes of a group, when a line was pushed
pub record IsPushed (old new text : List ℕ) : Type 0 where
  pub whole : new ≡ at_rest (recovered_texts new)
  pub texts : recovered_texts new ≡ recovered_texts old ++ text ∷ []
  pub size : length new ≡ length old + length text + 2

pub pushed : (old laid new text : List ℕ) (n : ℕ) → old ≡ at_rest (recovered_texts old) → n ≡ length old - 1 → laid ≡ old ++ (text ++ 10 ∷ 35 ∷ []) → new ≡ set laid n 32 → HasNoFeed text → IsPushed old new text
pushed old laid new text n whole at laid_out opened none =
    let texts = recovered_texts old in
    let place : n ≡ length (open_lines texts) = omega (arith, at, ap length whole, length-at_rest texts) in
    let is : new ≡ at_rest (texts ++ text ∷ []) =
    opened ∙ ap (λ (bytes : List ℕ). set bytes n 32) (laid_out ∙ ap (λ (bytes : List ℕ). bytes ++ (text ++ 10 ∷ 35 ∷ [])) whole) ∙ gate_opened texts text n place in
    let stands : recovered_texts new ≡ texts ++ text ∷ [] =
    ap recovered_texts is ∙ recovered-at_rest (texts ++ text ∷ []) (All-push HasNoFeed texts text (texts_have_no_feed old) none) in
    record {
      whole = is ∙ ap at_rest (sym stands);
      texts = stands;
      size = omega (arith, ap length opened, length-set laid n 32, ap length laid_out, length-append old (text ++ 10 ∷ 35 ∷ []), length-append text (10 ∷ 35 ∷ []));
    }

-- the bytes of a group are some
pub some_bytes : (bytes : List ℕ) → bytes ≡ at_rest (recovered_texts bytes) → 0 < length bytes
some_bytes bytes whole = omega (arith, ap length whole, length-at_rest (recovered_texts bytes))

-- a closed gate alone is what is left
pub cleared : (bytes : List ℕ) → 0 < length bytes → set (take 1 bytes) 0 35 ≡ 35 ∷ []
cleared [] some = absurd (omega arith)
cleared (byte ∷ bytes) some = refl

alone_texts : (texts : List (List ℕ)) → length (at_rest texts) ≡ 1 → texts ≡ []
alone_texts [] one = refl
alone_texts (text ∷ texts) one = absurd (omega (arith, length-append (text ++ 10 ∷ open_lines texts) (35 ∷ [])))

-- one byte is a group with no lines
pub alone : (bytes : List ℕ) → bytes ≡ at_rest (recovered_texts bytes) → length bytes ≡ 1 → recovered_texts bytes ≡ []
alone bytes whole one = alone_texts (recovered_texts bytes) (sym (ap length whole) ∙ one)

-- and such a group is one byte
pub alone_byte : (bytes : List ℕ) → bytes ≡ at_rest (recovered_texts bytes) → recovered_texts bytes ≡ [] → length bytes ≡ 1
alone_byte bytes whole none = ap length whole ∙ ap (λ (texts : List (List ℕ)). length (at_rest texts)) none

-- what holds on success, where there was one
pub when_ok : {T E : Type 0} (r : Result T E) (P : Type 0) → is_ok r ≡ true → OnOk r P → P
when_ok (Ok x) P is holds = holds
when_ok (Err e) P is holds = absurd (cc (is))

-- what holds where there is no value
pub when_none : {T : Type 0} (o : Option T) (P : Type 0) → is_some o ≡ false → IfNone o P → P
when_none None P is holds = holds
when_none (Some x) P is holds = absurd (cc (is))
