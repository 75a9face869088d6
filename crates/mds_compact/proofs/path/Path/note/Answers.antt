use Rattle.std.proofs.Common.{◌≡◌, ◌∙◌, [], ◌∷◌, is_some, sym, ap, arith}
use Rattle.mds_core.specs.declared.request.Request.TheVariants.{Report}
use Rattle.mds_compact.specs.contracts.path.Path.{the_view}
use Rattle.mds_compact.specs.Compaction.{position_count}
use Rattle.mds_compact.specs.Path.{Way, way_to}
use Rattle.mds_compact.proofs.Taken.{none_noted, event_noted, counts_one, counts_none, positions_few}
use Rattle.mds_compact.proofs.path.Path.note.Goals as goal

pub returns-in_default : goal.returns-in_default
returns-in_default c = λ requests few is. is ∙ sym (none_noted requests c.args.request.now c.in_default.ensures)

pub returns-then-is_some : goal.returns-then-is_some
returns-then-is_some c = λ requests few is.
    let event = c.in-Some.event.now in
    let way = the_view c.self.inside in
    let known : way ≡ way_to requests = c.self.view_is ∙ is in
    let one : position_count (Report event ∷ []) ≡ 1 = counts_one event (sym (c.is_some.ensures ∙ ap is_some c.position.ensures) ∙ c.if-is_some.true) in
    let before : c.self.inside.positions ≡ position_count requests = ap (λ (w : Way). w.positions) known in
    let less = positions_few requests in
    event_noted requests c.args.request.now event way c.time.result c.saturating_add-self-inside.result c.in-Some.ensures known c.time.ensures.time (omega (arith, c.saturating_add-self-inside.ensures))

pub returns-else-is_some : goal.returns-else-is_some
returns-else-is_some c = λ requests few is.
    let event = c.in-Some.event.now in
    let way = the_view c.self.inside in
    let known : way ≡ way_to requests = c.self.view_is ∙ is in
    let none : position_count (Report event ∷ []) ≡ 0 = counts_none event (sym (c.is_some.ensures ∙ ap is_some c.position.ensures) ∙ c.if-is_some.false) in
    event_noted requests c.args.request.now event way c.time.result c.self.inside.positions c.in-Some.ensures known c.time.ensures.time (omega arith)
