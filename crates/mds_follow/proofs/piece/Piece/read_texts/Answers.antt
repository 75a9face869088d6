use Rattle.std.proofs.Common.{◌-◌, ◌/◌, length, take, drop, refl, sym, ap, ◌∙◌}
use Rattle.mds_follow.specs.Pieces.{texts_in}
use Rattle.mds_follow.specs.declared.piece.Piece.{Piece}
use Rattle.mds_follow.proofs.PieceLemmas.{both_read, left_in, left_out, texts_of_both}
use Rattle.mds_follow.proofs.piece.Piece.read_texts.Goals as goal
use Rattle.mds_follow.proofs.piece.Piece.read_texts.Goals.{then-is_err, else-is_err}

-- the numbers stay
pub returns-clause-numbers : goal.returns-clause-numbers
returns-clause-numbers g c =
    elim c.if-is_err.branch [
      | then-is_err w ↦ ap (λ (p : Piece). p.numbers) w.self-is ∙ c.read_both-ones.ensures.numbers
      | else-is_err w ↦ ap (λ (p : Piece). p.numbers) w.self-is ∙ c.read_both-ones.ensures.numbers
    ]

-- nothing is kept behind a line that tells no request
pub returns-clause-read : goal.returns-clause-read
returns-clause-read g c =
    let lines = c.args.lines.now in
    let at = length lines / 2 in
    let new = c.read_both-ones.new.self in
    let one = c.read_both-ones.result.0 in
    let other = c.read_both-ones.result.1 in
    let ones = new.first.requests.items in
    let others = new.second.requests.items in
    let front = texts_in (take at lines) in
    let behind = texts_in (take (length lines - at) (drop at lines)) in
    let read = c.read_both-ones.ensures in
    elim c.if-is_err.branch [
      | then-is_err w ↦
          let is = left_out w.clear.new.self.requests.items others one (sym c.is_err.ensures.value ∙ w.if-is_err.true) w.clear.ensures in
          rw (w.self-is, c.first_of.ensures, ← texts_of_both lines at) (both_read front behind ones others w.clear.new.self.requests.items one other read.first read.second is.0 is.1)
      | else-is_err w ↦
          let is = left_in others others one (sym c.is_err.ensures.value ∙ w.if-is_err.false) refl in
          rw (w.self-is, c.first_of.ensures, ← texts_of_both lines at) (both_read front behind ones others others one other read.first read.second is.0 is.1)
    ]
