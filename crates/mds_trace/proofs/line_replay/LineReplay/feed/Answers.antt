use Rattle.std.proofs.Common.{◌++◌, ap, ◌∙◌}
use Rattle.mds_trace.specs.Feeding.{Feeding}
use Rattle.mds_trace.proofs.FeedingLemmas.{after_piece, feeding_after}
use Rattle.mds_trace.proofs.line_replay.LineReplay.feed.Goals as goal

pub invariant_of-self : goal.invariant_of-self
invariant_of-self c =
    let inside = c.self.inside in
    let fed = after_piece c.feed.result inside.lines c.feed.new.self (inside.lines.bytes ++ c.args.piece.now) inside.replayer c.feed.new.taker c.self.invariant
    c.feed.ensures.fed c.feed.ensures.taken c.feed.ensures.kept c.feed.ensures.again in
    fed.replayed

pub returns-clause-fed : goal.returns-clause-fed
returns-clause-fed c =
    let inside = c.self.inside in
    let fed = after_piece c.feed.result inside.lines c.feed.new.self (inside.lines.bytes ++ c.args.piece.now) inside.replayer c.feed.new.taker c.self.invariant
    c.feed.ensures.fed c.feed.ensures.taken c.feed.ensures.kept c.feed.ensures.again in
    let tables = fed.tables ∙ ap (λ (seen : Feeding). seen.tables) c.self.view_is in
    let opening = fed.opening ∙ ap (λ (seen : Feeding). seen.opening) c.self.view_is in
    let bytes = ap (λ (seen : Feeding). seen.stream.bytes) c.self.view_is in
    feeding_after c.feed.result c.args.self.now c.feed.new.taker.tables c.feed.new.taker.opening c.feed.new.self inside.lines.bytes c.args.piece.now tables opening bytes c.feed.ensures.fed

pub returns-clause-tables : goal.returns-clause-tables
returns-clause-tables c =
    let inside = c.self.inside in
    let fed = after_piece c.feed.result inside.lines c.feed.new.self (inside.lines.bytes ++ c.args.piece.now) inside.replayer c.feed.new.taker c.self.invariant
    c.feed.ensures.fed c.feed.ensures.taken c.feed.ensures.kept c.feed.ensures.again in
    fed.tables ∙ ap (λ (seen : Feeding). seen.tables) c.self.view_is

pub returns-clause-opening : goal.returns-clause-opening
returns-clause-opening c =
    let inside = c.self.inside in
    let fed = after_piece c.feed.result inside.lines c.feed.new.self (inside.lines.bytes ++ c.args.piece.now) inside.replayer c.feed.new.taker c.self.invariant
    c.feed.ensures.fed c.feed.ensures.taken c.feed.ensures.kept c.feed.ensures.again in
    fed.opening ∙ ap (λ (seen : Feeding). seen.opening) c.self.view_is
