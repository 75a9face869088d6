use Rattle.std.proofs.Common.{◌≡◌, ◌≤◌, Vec, Global, List, ℕ, length, sym, ap, subst, arith}
use Rattle.mds_follow.specs.Pieces.{texts_in, requests_in, IsReadFrom, StandBehind}
use Rattle.mds_follow.proofs.PieceLemmas.{goes_further, is_ahead}
use Rattle.mds_follow.proofs.ahead.Ahead.read.Goals as goal

-- what was read of the lines is a piece
pub returns-clause-next : goal.returns-clause-next
returns-clause-next g c =
    let seen = g.D.Device.seen in
    let is_true = g.D.Device.is_true in
    let ahead = c.read_groups-end.new.self in
    let end = c.read_groups-end.result in
    let lines = c.read_groups-end.ensures.lines in
    let piece = c.read.new.self in
    let texts = texts_in ahead.lines.items in
    let same : ahead.next.numbers.items ≡ piece.numbers.items = sym (ap (λ (v : Vec ℕ Global). v.items) c.read.ensures.numbers) in
    let read : IsReadFrom texts end piece = rw c.deref.ensures.value at c.read.ensures.read in
    let fewer : length (requests_in piece) ≤ length ahead.lines.items = rw c.deref.ensures.value at c.read.ensures.fewer in
    record {
      numbered = omega (arith, fewer, lines.numbered, ap (λ (w : List ℕ). length w) same);
      further = goes_further texts end piece _ read lines.further;
      ahead = λ before has.
          is_ahead seen is_true ahead.reader before texts end piece (subst (λ (w : List ℕ). StandBehind seen is_true ahead.reader before texts w end) same (lines.behind before has)) read;
    }
