-- Lemmas on the lines of the text.
use Rattle.std.proofs.Common.{◌≡◌, ◌≤◌, ◌∙◌, ℕ, List, [], ◌∷◌, ap, drop, length, refl}
use Rattle.std.proofs.lemmas.List.{drop_all}
use Rattle.mds_metrics.specs.declared.line.Line.{Line}
use Rattle.mds_metrics.specs.Text.{lines_text}

-- without a line there is no text, whatever the numbers are
no_lines : (values : List ℕ) → lines_text [] values ≡ []
no_lines [] = refl
no_lines (value ∷ values) = refl

-- past the last line there is none
pub past_lines : (lines : List Line) (at : ℕ) (values : List ℕ) → length lines ≤ at → lines_text (drop at lines) values ≡ []
past_lines lines at values past = ap (λ left. lines_text left values) (drop_all at lines past) ∙ no_lines values
