use Rattle.std.proofs.Common.{◌≡◌, subst, rules}
use Rattle.mds_batch.specs.Items.{IsEventItem}
use Rattle.mds_batch.specs.Batch.{IsItemText}
use Rattle.mds_batch.specs.declared.item.EventItem.TheVariants as event
use Rattle.mds_batch.specs.declared.item.ItemFault.{ItemFault}
use Rattle.mds_batch.specs.declared.item.ItemFault.TheVariants.{Missing}
use Rattle.mds_batch.specs.declared.member.Member.TheVariants.{EventId}
use Rattle.mds_entries.proofs.EntryLemmas.{fault_tells_none, batch_fault, batch_tells_none}
use Rattle.mds_entries.proofs.entry.read_registration.Goals as goal

pub returns-then-not-has_no_id-clause-fault : goal.returns-then-not-has_no_id-clause-fault
returns-then-not-has_no_id-clause-fault c =
    fault_tells_none c.args.line.now c.args.fault c.requires (search rules)

pub returns-in_err-items-clause-fault : goal.returns-in_err-items-clause-fault
returns-in_err-items-clause-fault c =
    let same : c.args.fault ≡ Missing EventId = search rules in
    let is = subst (λ (w : ItemFault). IsItemText IsEventItem c.args.line.now (event.Fault w)) same c.requires in
    let wrong = batch_fault c.args.line.now is _ c.in_err-items.ensures.fault in
    search rules

pub returns-clause-fault : goal.returns-clause-fault
returns-clause-fault c =
    let same : c.args.fault ≡ Missing EventId = search rules in
    let is = subst (λ (w : ItemFault). IsItemText IsEventItem c.args.line.now (event.Fault w)) same c.requires in
    batch_tells_none c.args.line.now is c.in_ok-items.items.items c.in_ok-items.ensures.items (rw c.as_slice.ensures.value at c.in-None.ensures.none)
