-- What stands behind a place in a journal.
use Rattle.std.proofs.Common.{◌≡◌, ◌∙◌, ℕ, List, [], ◌∷◌, ◌++◌, length, drop, All, Option, Some, None, refl, sym, ap, subst, append_assoc}
use Rattle.std.proofs.lemmas.List.{append_cancel_left, take_at, take-append-drop}
use Rattle.std.proofs.lemmas.List.Elements.{All-tail}
use Rattle.mds_file.specs.Followed.{IsRest}
use Rattle.mds_journal.specs.Lines.{HasNoFeed, recovered_texts, open_lines}
use Rattle.mds_journal.proofs.LineLemmas.{open_lines-append, parts, recovered_end, texts_have_no_feed}
use Rattle.mds_retention.specs.Place.{Begins}
use Rattle.mds_retention.specs.Telling.{Gives}

-- what is left behind a front
drop_front : (front rest : List ℕ) → drop (length front) (front ++ rest) ≡ rest
drop_front front rest =
    append_cancel_left front (drop (length front) (front ++ rest)) rest
    (ap (λ all. all ++ drop (length front) (front ++ rest)) (sym (take_at front rest (length front) refl)) ∙ take-append-drop (length front) (front ++ rest))

-- the last of some lines that have no line feed within
free_behind : (lines more : List (List ℕ)) → All HasNoFeed (lines ++ more) → All HasNoFeed more
free_behind [] more free = free
free_behind (line ∷ lines) more free = free_behind lines more (All-tail HasNoFeed line (lines ++ more) free)

-- what counts behind the first lines of known bytes
lines_behind : (bytes : List ℕ) (lines more : List (List ℕ)) → recovered_texts bytes ≡ lines ++ more → recovered_texts (drop (length (open_lines lines)) bytes) ≡ more
lines_behind bytes lines more is =
    let of = parts bytes in
    let split : bytes ≡ open_lines lines ++ (open_lines more ++ of.end) =
    of.split ∙ ap (λ all. open_lines all ++ of.end) is ∙ ap (λ all. all ++ of.end) (open_lines-append lines more) ∙ append_assoc (open_lines lines) (open_lines more) of.end in
    let left : drop (length (open_lines lines)) bytes ≡ open_lines more ++ of.end = ap (λ all. drop (length (open_lines lines)) all) split ∙ drop_front (open_lines lines) (open_lines more ++ of.end) in
    let Free : List (List ℕ) → Type 0 = λ all. All HasNoFeed all in
    ap recovered_texts left ∙ recovered_end more of.end (free_behind lines more (subst Free is (texts_have_no_feed bytes))) of.nothing

-- the lines before a place count first, and what is read from there on behind them
pub gives_behind : (content known : Option (List ℕ)) (lines : List (List ℕ)) → Begins lines content → IsRest (length (open_lines lines)) content known → Gives content lines known
gives_behind None known lines begins is = tt
gives_behind (Some bytes) known lines begins is =
    let left : recovered_texts (drop (length (open_lines lines)) bytes) ≡ begins.0 = lines_behind bytes lines begins.0 begins.1 in
    subst (λ (w : Option (List ℕ)). Gives (Some bytes) lines w) (sym is) (begins.1 ∙ ap (λ more. lines ++ more) (sym left))
