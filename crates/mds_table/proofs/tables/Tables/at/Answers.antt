use Rattle.std.proofs.Common.{rules}
use Rattle.std.proofs.lemmas.List.Sorted.{IsPartitionPoint-from_clause}
use Rattle.mds_table.specs.Tables.{has_started}
use Rattle.mds_table.proofs.InForce.{started_in_front, one_started, split_in_force}
use Rattle.mds_table.proofs.tables.Tables.at.Goals as goal

pub overflow_sub-started : goal.overflow_sub-started
overflow_sub-started c =
    let entries = c.self.inside.entries.items in
    let started = c.partition_point-started.result in
    let point = IsPartitionPoint-from_clause (has_started c.args.time) c.deref.result.now started c.partition_point-started.ensures.partitioned
    (rw c.deref.ensures.value (started_in_front entries c.args.time c.self.invariant)) (λ a r q k. search rules) in
    one_started entries c.args.time started c.self.invariant (rw c.deref.ensures.value at point)

pub returns : goal.returns
returns c =
    let entries = c.self.inside.entries.items in
    let started = c.partition_point-started.result in
    let point = IsPartitionPoint-from_clause (has_started c.args.time) c.deref.result.now started c.partition_point-started.ensures.partitioned
    (rw c.deref.ensures.value (started_in_front entries c.args.time c.self.invariant)) (λ a r q k. search rules) in
    let within = rw c.deref.ensures.value at c.partition_point-started.ensures.bound in
    rw (← c.self.view_is) (split_in_force entries c.args.time started c.index-entry.result.now c.self.invariant within (rw c.deref.ensures.value at point) c.index-entry.ensures)
