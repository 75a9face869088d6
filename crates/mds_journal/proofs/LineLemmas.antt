-- What files of lines stand for.
use Rattle.std.proofs.Common.{◌≡◌, ◌≢◌, ◌⊎◌, inl, inr, ℕ, zero, suc, ◌+◌, ◌≤◌, ◌==◌, List, [], ◌∷◌, ◌++◌, length, take, All, refl, sym, ap, ◌∙◌, subst, arith, append_assoc, length-append}
use Rattle.std.proofs.lemmas.Bool.{cases_eq, eqb-false, ne_eqb, cond-false, cond_both}
use Rattle.std.proofs.lemmas.List.{append-nil}
use Rattle.std.proofs.lemmas.List.Elements.{All-nil, All-cons, All-head, All-tail, All-take}
use Rattle.mds_journal.specs.Lines.{HasNoFeed, with_first, whole_lines, open_texts, recovered_texts, open_lines, at_rest}

-- a byte that is no line feed
abbrev IsOther : ℕ → Type 0
IsOther byte = byte ≢ 10

-- ---- one line

-- a byte that is no line feed begins the first line
other_first : (byte : ℕ) (bytes : List ℕ) → byte ≢ 10 → whole_lines (byte ∷ bytes) ≡ with_first byte (whole_lines bytes)
other_first byte bytes other = cond-false (byte == 10) ([] ∷ whole_lines bytes) (with_first byte (whole_lines bytes)) (ne_eqb byte 10 other)

-- a text and a line feed are a line
text_line : (text rest : List ℕ) → HasNoFeed text → whole_lines (text ++ 10 ∷ rest) ≡ text ∷ whole_lines rest
text_line [] rest none = refl
text_line (c ∷ text) rest none =
    other_first c (text ++ 10 ∷ rest) (All-head IsOther c text none) ∙ ap (with_first c) (text_line text rest (All-tail IsOther c text none))

-- bytes without a line feed are no line
no_line : (text : List ℕ) → HasNoFeed text → whole_lines text ≡ []
no_line [] none = refl
no_line (c ∷ text) none = other_first c text (All-head IsOther c text none) ∙ ap (with_first c) (no_line text (All-tail IsOther c text none))

-- a whole open line in front adds its text
pub recovered_line : (text rest : List ℕ) → HasNoFeed text → recovered_texts (32 ∷ (text ++ 10 ∷ rest)) ≡ text ∷ recovered_texts rest
recovered_line text rest none = ap (λ (lines : List (List ℕ)). open_texts (with_first 32 lines)) (text_line text rest none)

-- an open line with no line feed stands for nothing
pub recovered_torn : (text : List ℕ) → HasNoFeed text → recovered_texts (32 ∷ text) ≡ []
recovered_torn text none = ap (λ (lines : List (List ℕ)). open_texts (with_first 32 lines)) (no_line text none)

shut_first : (gate : ℕ) (lines : List (List ℕ)) → gate ≢ 32 → open_texts (with_first gate lines) ≡ []
shut_first gate [] shut = refl
shut_first gate (line ∷ lines) shut = cond-false (gate == 32) (line ∷ open_texts lines) [] (ne_eqb gate 32 shut)

-- behind a gate that isn't open nothing counts
pub recovered_shut : (gate : ℕ) (rest : List ℕ) → gate ≢ 32 → recovered_texts (gate ∷ rest) ≡ []
recovered_shut gate rest shut =
    cond_both (gate == 10) ([] ∷ whole_lines rest) (with_first gate (whole_lines rest)) (λ (lines : List (List ℕ)). open_texts lines ≡ [])
    (λ feed. refl) (λ other. shut_first gate (whole_lines rest) shut)

-- ---- many lines

-- open lines and a rest stand for the texts of the lines and what the rest stands for
pub recovered_lines : (texts : List (List ℕ)) (rest : List ℕ) → All HasNoFeed texts → recovered_texts (open_lines texts ++ rest) ≡ texts ++ recovered_texts rest
recovered_lines [] rest none = refl
recovered_lines (text ∷ texts) rest none =
    ap (λ (bytes : List ℕ). recovered_texts (32 ∷ bytes)) (append_assoc text (10 ∷ open_lines texts) rest)
    ∙ recovered_line text (open_lines texts ++ rest) (All-head HasNoFeed text texts none)
    ∙ ap (λ (more : List (List ℕ)). text ∷ more) (recovered_lines texts rest (All-tail HasNoFeed text texts none))

-- the same, where the rest stands for nothing
pub recovered_end : (texts : List (List ℕ)) (end : List ℕ) → All HasNoFeed texts → recovered_texts end ≡ [] → recovered_texts (open_lines texts ++ end) ≡ texts
recovered_end texts end none nothing =
    recovered_lines texts end none ∙ ap (λ (more : List (List ℕ)). texts ++ more) nothing ∙ append-nil texts

-- no other texts fit
pub recovered_is : (file end : List ℕ) (texts : List (List ℕ)) → All HasNoFeed texts → file ≡ open_lines texts ++ end → recovered_texts end ≡ [] → recovered_texts file ≡ texts
recovered_is file end texts none split nothing = ap recovered_texts split ∙ recovered_end texts end none nothing

-- a closed gate ends them, whatever stands behind it
pub recovered_closed : (texts : List (List ℕ)) (gate : ℕ) (rest : List ℕ) → All HasNoFeed texts → gate ≢ 32 → recovered_texts (open_lines texts ++ gate ∷ rest) ≡ texts
recovered_closed texts gate rest none shut = recovered_end texts (gate ∷ rest) none (recovered_shut gate rest shut)

pub open_lines-append : (xs ys : List (List ℕ)) → open_lines (xs ++ ys) ≡ open_lines xs ++ open_lines ys
open_lines-append [] ys = refl
open_lines-append (x ∷ xs) ys =
    ap (λ (bytes : List ℕ). 32 ∷ (x ++ 10 ∷ bytes)) (open_lines-append xs ys)
    ∙ ap (λ (bytes : List ℕ). 32 ∷ bytes) (sym (append_assoc x (10 ∷ open_lines xs) (open_lines ys)))

pub length-at_rest : (texts : List (List ℕ)) → length (at_rest texts) ≡ length (open_lines texts) + 1
length-at_rest texts = length-append (open_lines texts) (35 ∷ [])

-- ---- no text that counts has a line feed

with_no_feed : (byte : ℕ) (lines : List (List ℕ)) → byte ≢ 10 → All HasNoFeed lines → All HasNoFeed (with_first byte lines)
with_no_feed byte [] other none = All-nil HasNoFeed
with_no_feed byte (line ∷ lines) other none =
    All-cons HasNoFeed (byte ∷ line) lines (All-cons IsOther byte line other (All-head HasNoFeed line lines none)) (All-tail HasNoFeed line lines none)

lines_have_no_feed : (bytes : List ℕ) → All HasNoFeed (whole_lines bytes)
lines_have_no_feed [] = All-nil HasNoFeed
lines_have_no_feed (byte ∷ bytes) =
    cond_both (byte == 10) ([] ∷ whole_lines bytes) (with_first byte (whole_lines bytes)) (All HasNoFeed)
    (λ feed. All-cons HasNoFeed [] (whole_lines bytes) (All-nil IsOther) (lines_have_no_feed bytes))
    (λ other. with_no_feed byte (whole_lines bytes) (eqb-false byte 10 other) (lines_have_no_feed bytes))

open_have_no_feed : (lines : List (List ℕ)) → All HasNoFeed lines → All HasNoFeed (open_texts lines)
open_have_no_feed [] none = All-nil HasNoFeed
open_have_no_feed ([] ∷ lines) none = All-nil HasNoFeed
open_have_no_feed ((gate ∷ text) ∷ lines) none =
    cond_both (gate == 32) (text ∷ open_texts lines) [] (All HasNoFeed)
    (λ is. All-cons HasNoFeed text (open_texts lines) (All-tail IsOther gate text (All-head HasNoFeed (gate ∷ text) lines none)) (open_have_no_feed lines (All-tail HasNoFeed (gate ∷ text) lines none)))
    (λ shut. All-nil HasNoFeed)

pub texts_have_no_feed : (file : List ℕ) → All HasNoFeed (recovered_texts file)
texts_have_no_feed file = open_have_no_feed (whole_lines file) (lines_have_no_feed file)

-- ---- a file is open lines and an end

-- bytes up to the first line feed, and those behind it
pub record FirstFeed (bytes : List ℕ) : Type 0 where
  pub line : List ℕ
  pub rest : List ℕ
  pub split : bytes ≡ line ++ 10 ∷ rest
  pub none : HasNoFeed line

pub first_feed : (bytes : List ℕ) → HasNoFeed bytes ⊎ FirstFeed bytes
first_feed [] = inl (All-nil IsOther)
first_feed (c ∷ bytes) = elim (cases_eq c 10) [
  | inl feed ↦ inr (record { line = []; rest = bytes; split = ap (λ (b : ℕ). b ∷ bytes) feed; none = All-nil IsOther })
  | inr other ↦ elim (first_feed bytes) [
    | inl none ↦ inl (All-cons IsOther c bytes other none)
    | inr first ↦ inr (record { line = c ∷ first.line; rest = first.rest; split = ap (λ (l : List ℕ). c ∷ l) first.split; none = All-cons IsOther c first.line other first.none })
  ]
]

pub record Parts (file : List ℕ) : Type 0 where
  pub end : List ℕ
  pub split : file ≡ open_lines (recovered_texts file) ++ end
  pub nothing : recovered_texts end ≡ []

end_parts : (file : List ℕ) → recovered_texts file ≡ [] → Parts file
end_parts file none = record { end = file; split = ap (λ (texts : List (List ℕ)). open_lines texts ++ file) (sym none); nothing = none }

line_parts : (line rest : List ℕ) → HasNoFeed line → Parts rest → Parts (32 ∷ (line ++ 10 ∷ rest))
line_parts line rest none p =
    let texts : recovered_texts (32 ∷ (line ++ 10 ∷ rest)) ≡ line ∷ recovered_texts rest = recovered_line line rest none in
    record {
      end = p.end;
      split =
          ap (λ (bytes : List ℕ). 32 ∷ (line ++ 10 ∷ bytes)) p.split
          ∙ ap (λ (bytes : List ℕ). 32 ∷ bytes) (sym (append_assoc line (10 ∷ open_lines (recovered_texts rest)) p.end))
          ∙ ap (λ (all : List (List ℕ)). open_lines all ++ p.end) (sym texts);
      nothing = p.nothing;
    }

parts_within : (n : ℕ) (file : List ℕ) → length file ≤ n → Parts file
parts_within n [] short = record { end = []; split = refl; nothing = refl }
parts_within zero (gate ∷ bytes) short = absurd (omega arith)
parts_within (suc n) (gate ∷ bytes) short = elim (cases_eq gate 32) [
  | inl is_open ↦ subst (λ (g : ℕ). Parts (g ∷ bytes)) (sym is_open) (elim (first_feed bytes) [
    | inl none ↦ end_parts (32 ∷ bytes) (recovered_torn bytes none)
    | inr first ↦ subst (λ (all : List ℕ). Parts (32 ∷ all)) (sym first.split)
        (line_parts first.line first.rest first.none (parts_within n first.rest (omega (arith, ap length first.split, length-append first.line (10 ∷ first.rest)))))
  ])
  | inr shut ↦ end_parts (gate ∷ bytes) (recovered_shut gate bytes shut)
]

pub parts : (file : List ℕ) → Parts file
parts file = parts_within (length file) file (omega arith)

-- the front of an end that stands for nothing stands for nothing
pub front_nothing : (n : ℕ) (end : List ℕ) → recovered_texts end ≡ [] → recovered_texts (take n end) ≡ []
front_nothing zero end nothing = refl
front_nothing (suc n) [] nothing = refl
front_nothing (suc n) (gate ∷ bytes) nothing = elim (cases_eq gate 32) [
  | inl is_open ↦ subst (λ (g : ℕ). recovered_texts (g ∷ take n bytes) ≡ []) (sym is_open) (elim (first_feed bytes) [
    | inl none ↦ recovered_torn (take n bytes) (All-take IsOther n bytes none)
    | inr first ↦
        let texts : recovered_texts (gate ∷ bytes) ≡ first.line ∷ recovered_texts first.rest =
        ap (λ (g : ℕ). recovered_texts (g ∷ bytes)) is_open ∙ ap (λ (all : List ℕ). recovered_texts (32 ∷ all)) first.split ∙ recovered_line first.line first.rest first.none in
        absurd (cc (texts, nothing))
  ])
  | inr shut ↦ recovered_shut gate (take n bytes) shut
]
