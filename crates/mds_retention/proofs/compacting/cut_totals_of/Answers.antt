use Rattle.std.proofs.Common.{◌∙◌, ◌++◌, ◌∷◌, [], ap, rules}
use Rattle.std.proofs.lemmas.List.{take_all}
use Rattle.mds_core.specs.History.{requests_of}
use Rattle.mds_compact.proofs.Items.{next_item}
use Rattle.mds_retention.specs.Copying.{cut_totals}
use Rattle.mds_retention.proofs.Left.{contained_at, events_told, named_at, none_told, totals_more}
use Rattle.mds_retention.proofs.compacting.cut_totals_of.Goals as goal

pub loop-cut-init : goal.loop-cut-init
loop-cut-init c = λ history marks is. search rules

pub loop-cut-preserved : goal.loop-cut-preserved
loop-cut-preserved c = λ history marks is.
    let cuts = c.args.cuts.now in
    let i = c.loop-cut.cut-index in
    let cut = c.cut-item.result in
    let items = next_item cuts i cut c.loop-cut-test.true c.cut-item.is in
    let events = events_told (requests_of history cut.key) c.in-Some.events (c.in-Some.ensures cuts history marks is (named_at cuts i cut items.1)) in
    c.in_ok-push.ensures.items ∙ ap (λ all. all ++ record { cut = cut; events = c.in-Some.events } ∷ []) (c.loop-cut.invariant history marks is)
    ∙ totals_more history cuts i cut c.in-Some.events items.0 events

pub returns-in_default-clause-fault : goal.returns-in_default-clause-fault
returns-in_default-clause-fault c = λ history marks is.
    let cuts = c.args.cuts.now in
    let i = c.loop-cut.cut-index in
    let cut = c.cut-item.result in
    let items = next_item cuts i cut c.loop-cut-test.true c.cut-item.is in
    (cut, contained_at cuts i cut items.1, none_told (requests_of history cut.key) (c.in_default.ensures cuts history marks is (named_at cuts i cut items.1)))

pub returns-clause-totals : goal.returns-clause-totals
returns-clause-totals c = λ history marks is. c.loop-cut.invariant history marks is ∙ ap (cut_totals history) (take_all c.loop-cut.cut-index c.args.cuts.now c.loop-cut-test.false)
