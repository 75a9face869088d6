use Rattle.std.proofs.Common.{refl, sym, ◌∙◌, arith}
use Rattle.std.proofs.lemmas.Option.{slice_get-get_or}
use Rattle.mds_batch.specs.Texts.{event_text}
use Rattle.mds_http.proofs.ListTexts.{commas_first, commas_grow}
use Rattle.mds_http.proofs.response.body.add_events.Goals as goal

pub loop-at-init : goal.loop-at-init
loop-at-init c =
    rw (c.in_ok-add_event.ensures, c.copy-event.ensures, commas_first event_text c.args.list.now.events c.in-Some.first (sym c.get.ensures ∙ c.in-Some.is)) refl

pub unreachable-requires : goal.unreachable-requires
unreachable-requires c =
    c.in_default-get.not-Some _
    (c.get-in-loop-at.ensures ∙ slice_get-get_or c.args.list.now.events c.loop-at.at c.in-Some.first (omega (arith, c.loop-at-test.true, c.len-at-end.ensures)))

pub loop-at-preserved : goal.loop-at-preserved
loop-at-preserved c =
    commas_grow event_text c.args.list.now.events c.loop-at.at c.in-Some-get.next _ _ _ _ c.loop-at.auto.at (sym c.get-in-loop-at.ensures ∙ c.in-Some-get.is)
    c.loop-at.invariant c.in_ok-push_str.ensures.bytes (rw c.copy_to.ensures at c.in_ok-add_event-2.ensures)
