use Rattle.std.proofs.Common.{◌≡◌, Some, sym, ap, ◌∙◌}
use Rattle.mds_core.specs.declared.request.Request.TheVariants.{Report}
use Rattle.mds_batch.specs.declared.item.EventItem.TheVariants.{Event}
use Rattle.mds_pieces.proofs.Items.{fault_there, no_fault_there, asks_for}
use Rattle.mds_pieces.proofs.join.put_item.Goals as goal

pub returns-in-Some : goal.returns-in-Some
returns-in-Some c =
    fault_there c.kept_items.result.now c.args.items.now c.args.at c.index-kept_items-at.result c.kept_items.ensures c.requires c.index-kept_items-at.is c.in-Some.fault
    (sym c.fault.ensures ∙ c.in-Some.is)

pub unreachable-requires : goal.unreachable-requires
unreachable-requires c =
    let asked = c.ask.ensures in
    let right =
    no_fault_there c.kept_items.result.now c.args.items.now c.args.at c.index-kept_items-at.result c.kept_items.ensures c.requires c.index-kept_items-at.is asked.0
    (sym c.fault.ensures ∙ c.in_default.is) asked.1 in
    let event = asks_for asked.0 c.ask.result c.ask.new.request right asked.2 in
    c.in_default-request.not-Report event.0 event.2

pub returns : goal.returns
returns c =
    let asked = c.ask.ensures in
    let right =
    no_fault_there c.kept_items.result.now c.args.items.now c.args.at c.index-kept_items-at.result c.kept_items.ensures c.requires c.index-kept_items-at.is asked.0
    (sym c.fault.ensures ∙ c.in_default.is) asked.1 in
    let event = asks_for asked.0 c.ask.result c.ask.new.request right asked.2 in
    let requests : Report event.0 ≡ Report c.in-Report.event = sym event.2 ∙ c.in-Report.is in
    let same : event.0 ≡ c.in-Report.event = cc in
    asked.1 ∙ ap Some (event.1 ∙ ap Event same ∙ sym c.put_event.ensures)
