use Rattle.std.proofs.Common.{◌≡◌, ◌∙◌, ℕ, List, Vec, Global, Result, length, ap, subst, arith}
use Rattle.std.proofs.lemmas.List.{length-map}
use Rattle.mds_entries.specs.declared.entry.EntryFault.{EntryFault}
use Rattle.mds_follow.specs.Pieces.{AreRead, requests_in, texts_in}
use Rattle.mds_follow.proofs.PieceLemmas.{all_read_from, few_lines, some_read_from, text_behind}
use Rattle.mds_follow.proofs.piece.Piece.read.Goals as goal
use Rattle.mds_follow.proofs.piece.Piece.read.Goals.{in-Ok, in-Err}

-- there are no more requests than lines
pub len-requires : goal.len-requires
len-requires g c =
    omega (arith, c.requires.few, few_lines c.args.lines.now (requests_in c.read_texts-told.new.self) c.read_texts-told.result c.read_texts-told.ensures.read)

-- a text behind them tells none, so its number stands there
pub fault_at-requires : goal.fault_at-requires
fault_at-requires g c other =
    let lines = c.args.lines.now in
    let told = requests_in c.read_texts-told.new.self in
    let Read : Result (Unit {0}) EntryFault → Type 0 = λ w. AreRead (texts_in lines) told w in
    let behind = text_behind (texts_in lines) told c.in-Err.fault (subst Read c.in-Err.is c.read_texts-told.ensures.read) other in
    let all : length c.deref.result.now ≡ length c.args.self.now.numbers.items =
    ap (λ (w : List ℕ). length w) (c.deref.ensures.value ∙ ap (λ (v : Vec ℕ Global). v.items) c.read_texts-told.ensures.numbers) in
    omega (arith, behind, all, c.len.ensures, c.requires.numbered, length-map lines (λ line. line.items))

pub returns-clause-fewer : goal.returns-clause-fewer
returns-clause-fewer g c = few_lines c.args.lines.now (requests_in c.read_texts-told.new.self) c.read_texts-told.result c.read_texts-told.ensures.read

pub returns-clause-read : goal.returns-clause-read
returns-clause-read g c =
    let lines = c.args.lines.now in
    let told = requests_in c.read_texts-told.new.self in
    let Read : Result (Unit {0}) EntryFault → Type 0 = λ w. AreRead (texts_in lines) told w in
    elim c.match-told.branch [
      | in-Ok w ↦ all_read_from (texts_in lines) c.args.end _ (subst Read w.in-Ok.is c.read_texts-told.ensures.read) w.self-is
      | in-Err w ↦ some_read_from (texts_in lines) c.args.end _ w.in-Err.fault w.fault_at.result (subst Read w.in-Err.is c.read_texts-told.ensures.read) (rw (w.deref.ensures.value, w.len.ensures) at w.fault_at.ensures) w.self-is
    ]
