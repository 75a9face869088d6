-- What is found behind the gate of a journal.
use Rattle.std.proofs.Common.{◌≡◌, ◌≢◌, ◌⊎◌, inl, inr, ◌∙◌, ℕ, ◌<◌, ◌==◌, List, [], ◌∷◌, ◌++◌, length, drop, All, Option, Some, None, IfSome, true, false, refl, sym, ap, subst, arith, append_assoc, length-append}
use Rattle.std.proofs.lemmas.Bool.{cond-false, ne_eqb}
use Rattle.std.proofs.lemmas.List.{append-nil, drop_at}
use Rattle.std.proofs.lemmas.List.Elements.{All-head, All-nil, All-push, All-tail}
use Rattle.mds_table.specs.Json.{max_bytes}
use Rattle.mds_check.specs.Form.{CheckState, IsCheckOf, IsText, behind_text, behind_texts}
use Rattle.mds_check.proofs.GroupLemmas.{behind_more}
use Rattle.mds_groups.specs.Form.{check_of}
use Rattle.mds_groups.specs.Behind.{BeginWithGroup}
use Rattle.mds_groups.proofs.BehindLemmas.{check_length, no_check, one_group, other_check, with_check}
use Rattle.mds_journal.specs.Lines.{HasNoFeed, lines_behind, open_lines, open_texts, recovered_texts, whole_lines, with_first}
use Rattle.mds_journal.specs.Opening.{IsTooLong}
use Rattle.mds_journal.specs.Stream.{CountsFirst, HandsOut, IsStreamFault, OpensGate, StandsForNothing}
use Rattle.mds_journal.specs.declared.stream.StreamError.{StreamError}
use Rattle.mds_journal.proofs.StreamLemmas.{counts_first}
use Rattle.mds_retention.specs.Telling.{Gives}
use Rattle.mds_retention.proofs.Telling.{gives_more}
use Rattle.mds_commands.specs.Gate.{HandsOutGroup, HasNoGroup, IsLong, TellsOpenBehind}
use Rattle.mds_commands.specs.Taking.{IsShort}

abbrev first_of : List (List ℕ) → List ℕ
first_of [] = []
first_of (line ∷ lines) = line

-- ---- a line that is too long

-- bytes that begin with a text have no whole line, or a first one that begins with it
long_line : (text rest : List ℕ) → HasNoFeed text
    → (whole_lines (text ++ rest) ≡ []) ⊎ ((back : List ℕ) × (lines : List (List ℕ)) × (whole_lines (text ++ rest) ≡ (text ++ back) ∷ lines))
long_line [] rest none = by_lines (whole_lines rest) refl where
  by_lines : (lines : List (List ℕ)) → whole_lines rest ≡ lines
      → (whole_lines rest ≡ []) ⊎ ((back : List ℕ) × (more : List (List ℕ)) × (whole_lines rest ≡ back ∷ more))
  by_lines [] is = inl is
  by_lines (line ∷ lines) is = inr (line, lines, is)
long_line (c ∷ text) rest none =
    let Other : ℕ → Type 0 = λ byte. byte ≢ 10 in
    let first : whole_lines (c ∷ (text ++ rest)) ≡ with_first c (whole_lines (text ++ rest)) =
    cond-false (c == 10) ([] ∷ whole_lines (text ++ rest)) (with_first c (whole_lines (text ++ rest))) (ne_eqb c 10 (All-head Other c text none)) in
    elim (long_line text rest (All-tail Other c text none)) [
      | inl nothing ↦ inl (first ∙ ap (with_first c) nothing)
      | inr more ↦ inr (more.0, more.1, first ∙ ap (with_first c) more.2)
    ]

-- so the first line that counts is as long as that, if any does
pub long_first : (limit : ℕ) (bytes next : List ℕ) (more : List (List ℕ)) → IsTooLong limit bytes → recovered_texts bytes ≡ next ∷ more → limit < length next
long_first limit bytes next more long is =
    let text = long.0 in
    let rest = long.1 in
    let gate : recovered_texts (32 ∷ (text ++ rest)) ≡ next ∷ more = ap recovered_texts (sym long.2) ∙ is in
    elim (long_line text rest long.3) [
      | inl nothing ↦ absurd (none_there (sym (ap (λ (lines : List (List ℕ)). open_texts (with_first 32 lines)) nothing) ∙ gate))
      | inr line ↦ let same : (text ++ line.0) ∷ open_texts line.1 ≡ next ∷ more = sym (ap (λ (lines : List (List ℕ)). open_texts (with_first 32 lines)) line.2) ∙ gate in
          omega (arith, long.4, ap length (ap first_of same), length-append text line.0)
    ] where
      none_there : [] ≡ next ∷ more → ⊥
      none_there is = cc

-- ---- groups before such a line

-- behind lines that are texts no group ends, where the next one is too long
pub long_ends : (lines xs back : List (List ℕ)) → lines ≡ xs ++ back → All IsText xs → ((line : List ℕ) (more : List (List ℕ)) → back ≡ line ∷ more → max_bytes < length line)
    → (texts : List (List ℕ)) (next : List ℕ) (more : List (List ℕ)) → BeginWithGroup lines texts (next ∷ more) → All IsShort (texts ++ next ∷ []) → ⊥
long_ends lines xs back split are long texts next more group short =
    go xs texts are short (sym split ∙ group.split ∙ append_assoc texts (check_of texts ∷ []) (next ∷ more)) where
      check : List ℕ
      check = check_of texts

      go : (xs ts : List (List ℕ)) → All IsText xs → All IsShort (ts ++ next ∷ []) → xs ++ back ≡ ts ++ check ∷ next ∷ more → ⊥
      go [] [] are short is = omega (arith, long check (next ∷ more) is, check_length texts)
      go [] (t ∷ ts) are short is = omega (arith, long t (ts ++ check ∷ next ∷ more) is, All-head IsShort t (ts ++ next ∷ []) short)
      go (x ∷ xs) [] are short is = All-head IsText x xs are (ap length (ap first_of is) ∙ check_length texts)
      go (x ∷ xs) (t ∷ ts) are short is =
          go xs ts (All-tail IsText x xs are) (All-tail IsShort t (ts ++ next ∷ []) short) (ap (drop 1) is)

-- ---- the lines of a group, one by one

-- these lines of known bytes were read, texts that aren't too long, and the check is behind them
pub record SoFar (known left : Option (List ℕ)) (check : CheckState) : Type 0 where
  pub lines : List (List ℕ)
  pub given : Gives known lines left
  pub are : All IsText lines
  pub short : All IsShort lines
  pub check_is : check ≡ behind_texts lines

-- a text more
pub text_more : (known middle left : Option (List ℕ)) (old new : CheckState) (line : List ℕ) → SoFar known middle old → HandsOut middle line left → IsShort line → IsText line
    → new ≡ behind_text old line → SoFar known left new
text_more known middle left old new line far out short is taken = record {
  lines = far.lines ++ line ∷ [];
  given = gives_more known middle left far.lines line far.given (counts_first middle left line out);
  are = All-push IsText far.lines line far.are is;
  short = All-push IsShort far.lines line far.short short;
  check_is = taken ∙ ap (λ (w : CheckState). behind_text w line) far.check_is ∙ sym (behind_more far.lines line);
}

-- the lines so far, one more, and what is left
split_at : (known middle left : Option (List ℕ)) (lines : List (List ℕ)) (line bytes : List ℕ) → known ≡ Some bytes → Gives known lines middle → CountsFirst middle line left
    → (rest : List ℕ) × (left ≡ Some rest) × (recovered_texts bytes ≡ lines ++ line ∷ recovered_texts rest)
split_at None middle left lines line bytes is given out = absurd (never is) where
  never : None ≡ Some bytes → ⊥
  never is = cc
split_at (Some known) None left lines line bytes is given out = absurd given
split_at (Some known) (Some middle) None lines line bytes is given out = absurd out
split_at (Some known) (Some middle) (Some rest) lines line bytes is given out =
    (rest, refl, subst (λ (w : Option (List ℕ)). IfSome w (λ b. recovered_texts b ≡ lines ++ line ∷ recovered_texts rest)) is (given ∙ ap (λ (w : List (List ℕ)). lines ++ w) out))

-- the check of these texts
pub group_found : (known middle left : Option (List ℕ)) (check : CheckState) (line : List ℕ) → SoFar known middle check → HandsOut middle line left → IsCheckOf check line
    → HandsOutGroup known left
group_found None middle left check line far out fits = tt
group_found (Some bytes) middle left check line far out fits =
    let at = split_at (Some bytes) middle left far.lines line bytes refl far.given (counts_first middle left line out) in
    let is : IsCheckOf (behind_texts far.lines) line = subst (λ (w : CheckState). IsCheckOf w line) far.check_is fits in
    subst (λ (w : Option (List ℕ)). HandsOutGroup (Some bytes) w) (sym at.1)
    (far.lines, far.short, with_check (recovered_texts bytes) far.lines line (recovered_texts at.0) far.are is at.2)

-- a line as long as that, which is another
pub other_found : (known middle left : Option (List ℕ)) (check : CheckState) (line : List ℕ) → SoFar known middle check → HandsOut middle line left → length line ≡ 20
    → (IsCheckOf check line → ⊥) → HasNoGroup known
other_found None middle left check line far out long differs = tt
other_found (Some bytes) middle left check line far out long differs =
    let at = split_at (Some bytes) middle left far.lines line bytes refl far.given (counts_first middle left line out) in
    λ texts next more group short. other_check (recovered_texts bytes) far.lines line (recovered_texts at.0) far.are long
    (λ is. differs (subst (λ (w : CheckState). IsCheckOf w line) (sym far.check_is) is)) at.2 texts (next ∷ more) group

-- no line more
pub none_found : (known left : Option (List ℕ)) (check : CheckState) → SoFar known left check → StandsForNothing left → HasNoGroup known
none_found None left check far none = tt
none_found (Some bytes) None check far none = absurd far.given
none_found (Some bytes) (Some rest) check far none =
    let all : recovered_texts bytes ≡ far.lines = far.given ∙ ap (λ (w : List (List ℕ)). far.lines ++ w) none ∙ append-nil far.lines in
    λ texts next more group short. no_check (recovered_texts bytes) (subst (λ (w : List (List ℕ)). All IsText w) (sym all) far.are) texts (next ∷ more) group

-- one that is too long
pub long_found : (known left : Option (List ℕ)) (check : CheckState) → SoFar known left check → IfSome left (IsTooLong max_bytes) → HasNoGroup known
long_found None left check far long = tt
long_found (Some bytes) None check far long = absurd far.given
long_found (Some bytes) (Some rest) check far long =
    long_ends (recovered_texts bytes) far.lines (recovered_texts rest) far.given far.are (λ line more is. long_first max_bytes rest line more long is)

-- ---- behind the gate

-- what was read behind the gate, which was opened
module _ (old opened : Option (List ℕ)) (opens : OpensGate old opened) where
  -- no group
  pub none_behind : HasNoGroup opened → TellsOpenBehind old false
  none_behind = by old opened opens where
    by : (old opened : Option (List ℕ)) → OpensGate old opened → HasNoGroup opened → TellsOpenBehind old false
    by None opened opens none = tt
    by (Some bytes) None opens none = absurd opens
    by (Some bytes) (Some rest) opens none =
        λ has. none has.0 has.1 has.2 (subst (λ (w : List (List ℕ)). BeginWithGroup w has.0 (has.1 ∷ has.2)) (sym opens) has.3) has.4

  -- a group, and a line
  pub line_behind : (middle left : Option (List ℕ)) (line : List ℕ) → HandsOutGroup opened middle → HandsOut middle line left → IsShort line → TellsOpenBehind old true
  line_behind middle left line group out short = by old opened middle left opens group (counts_first middle left line out) where
    by : (old opened middle left : Option (List ℕ)) → OpensGate old opened → HandsOutGroup opened middle → CountsFirst middle line left → TellsOpenBehind old true
    by None opened middle left opens group out = tt
    by (Some bytes) None middle left opens group out = absurd opens
    by (Some bytes) (Some all) None left opens group out = absurd group
    by (Some bytes) (Some all) (Some some) None opens group out = absurd out
    by (Some bytes) (Some all) (Some some) (Some rest) opens group out = (
      group.0,
      line,
      recovered_texts rest,
      subst (λ (w : List (List ℕ)). BeginWithGroup w group.0 (line ∷ recovered_texts rest)) opens
          (subst (λ (w : List (List ℕ)). BeginWithGroup (recovered_texts all) group.0 w) out group.2),
      All-push IsShort group.0 line group.1 short,
    )

  -- a group, and a line that isn't short, or none
  only_group : (middle : Option (List ℕ)) → HandsOutGroup opened middle
      → IfSome middle (λ rest. (next : List ℕ) (more : List (List ℕ)) → recovered_texts rest ≡ next ∷ more → IsShort next → ⊥) → TellsOpenBehind old false
  only_group middle group never = by old opened middle opens group never where
    last_short : (texts : List (List ℕ)) (next : List ℕ) → All IsShort (texts ++ next ∷ []) → IsShort next
    last_short [] next short = All-head IsShort next [] short
    last_short (text ∷ texts) next short = last_short texts next (All-tail IsShort text (texts ++ next ∷ []) short)

    no_line : (bytes all rest : List ℕ) → recovered_texts all ≡ lines_behind bytes → HandsOutGroup (Some all) (Some rest)
        → ((next : List ℕ) (more : List (List ℕ)) → recovered_texts rest ≡ next ∷ more → IsShort next → ⊥)
        → (texts : List (List ℕ)) (next : List ℕ) (more : List (List ℕ)) → BeginWithGroup (lines_behind bytes) texts (next ∷ more) → All IsShort (texts ++ next ∷ []) → ⊥
    no_line bytes all rest opens group never texts next more has short =
        let here = subst (λ (w : List (List ℕ)). BeginWithGroup w texts (next ∷ more)) (sym opens) has in
        let same = (one_group (recovered_texts all) group.0 (recovered_texts rest) texts (next ∷ more) group.2 here).1 in
        never next more same (last_short texts next short)

    by : (old opened middle : Option (List ℕ)) → OpensGate old opened → HandsOutGroup opened middle
        → IfSome middle (λ rest. (next : List ℕ) (more : List (List ℕ)) → recovered_texts rest ≡ next ∷ more → IsShort next → ⊥) → TellsOpenBehind old false
    by None opened middle opens group never = tt
    by (Some bytes) None middle opens group never = absurd opens
    by (Some bytes) (Some all) None opens group never = absurd group
    by (Some bytes) (Some all) (Some rest) opens group never = λ has. no_line bytes all rest opens group never has.0 has.1 has.2 has.3 has.4

  pub end_behind : (middle : Option (List ℕ)) → HandsOutGroup opened middle → StandsForNothing middle → TellsOpenBehind old false
  end_behind middle group none = only_group middle group (by middle none) where
    not_both : (lines : List (List ℕ)) (next : List ℕ) (more : List (List ℕ)) → lines ≡ [] → lines ≡ next ∷ more → ⊥
    not_both [] next more none is = cc
    not_both (line ∷ lines) next more none is = cc

    by : (middle : Option (List ℕ)) → StandsForNothing middle → IfSome middle (λ rest. (next : List ℕ) (more : List (List ℕ)) → recovered_texts rest ≡ next ∷ more → IsShort next → ⊥)
    by None none = tt
    by (Some rest) none =
        λ next more is short. not_both (recovered_texts rest) next more none is

  pub long_behind : (middle : Option (List ℕ)) → HandsOutGroup opened middle → IfSome middle (IsTooLong max_bytes) → TellsOpenBehind old false
  long_behind middle group long = only_group middle group (by middle long) where
    by : (middle : Option (List ℕ)) → IfSome middle (IsTooLong max_bytes) → IfSome middle (λ rest. (next : List ℕ) (more : List (List ℕ)) → recovered_texts rest ≡ next ∷ more → IsShort next → ⊥)
    by None long = tt
    by (Some rest) long =
        λ next more is short. omega (arith, long_first max_bytes rest next more long is, short)

-- an open line that is too long, before the gate could be opened
pub long_gate : (known : Option (List ℕ)) → IfSome known (IsTooLong max_bytes) → TellsOpenBehind known false
long_gate None long = tt
long_gate (Some bytes) long =
    let same : lines_behind bytes ≡ recovered_texts bytes = ap lines_behind long.2 ∙ ap recovered_texts (sym long.2) in
    λ has. long_ends (lines_behind bytes) [] (lines_behind bytes) refl (All-nil IsText)
    (λ line more is. long_first max_bytes bytes line more long (sym same ∙ is)) has.0 has.1 has.2 has.3 has.4

-- ---- behind the lines of a journal

-- what is left behind the lines
pub left_of : (lines : List (List ℕ)) (bytes rest : List ℕ) → bytes ≡ open_lines lines ++ rest → drop (length (open_lines lines)) bytes ≡ rest
left_of lines bytes rest is = ap (λ (w : List ℕ). drop (length (open_lines lines)) w) is ∙ drop_at (open_lines lines) rest _ refl

-- ---- errors that are passed on

-- where lines can't be read on for a line that is too long, it is
is_long : (number limit : ℕ) (known : Option (List ℕ)) (error : StreamError) → IsStreamFault number limit known error → IsLong error → IfSome known (IsTooLong limit)
is_long number limit known error why long =
    (subst (λ (w : StreamError). IsStreamFault number limit known w) long.1 why).1

-- a line that is too long, where a group is read
pub long_in_group : (known left : Option (List ℕ)) (check : CheckState) (number : ℕ) (error : StreamError) → SoFar known left check → IsStreamFault number max_bytes left error → IsLong error → HasNoGroup known
long_in_group known left check number error far why long = long_found known left check far (is_long number max_bytes left error why long)

-- where the gate is opened
pub long_at_gate : (known : Option (List ℕ)) (number : ℕ) (error : StreamError) → IsStreamFault number max_bytes known error → IsLong error → TellsOpenBehind known false
long_at_gate known number error why long = long_gate known (is_long number max_bytes known error why long)

-- behind a group
pub long_at_line : (old opened middle : Option (List ℕ)) (number : ℕ) (error : StreamError) → OpensGate old opened → HandsOutGroup opened middle → IsStreamFault number max_bytes middle error → IsLong error
    → TellsOpenBehind old false
long_at_line old opened middle number error opens group why long = long_behind old opened opens middle group (is_long number max_bytes middle error why long)
