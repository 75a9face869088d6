use Rattle.std.proofs.Common.{[]}
use Rattle.std.proofs.lemmas.List.{append-nil}
use Rattle.mds_batch.proofs.TypeLemmas.{few_named}
use Rattle.mds_batch.proofs.types.TypeList.are_few.Goals as goal

pub returns-then-self : goal.returns-then-self
returns-then-self c = λ items holds. let are = rw c.if-self.true at holds in rw c.is_empty.ensures (few_named items c.args.self.now.names.items are)

pub returns-else-self : goal.returns-else-self
returns-else-self c = λ items holds. let none = rw c.if-self.false at holds in rw (c.if-self.false, ← append-nil items) (none [])
