use Rattle.std.proofs.Common.{◌∷◌, sym, ◌∙◌, append_assoc, arith}
use Rattle.mds_batch.proofs.TypeLemmas.{one_more_name, too_many_types, one_without_name}
use Rattle.mds_batch.proofs.types.TypeListSequenceUnit.take.Goals as goal
use Rattle.mds_batch.proofs.types.TypeListSequenceUnit.take.Goals.{in_default-via-in-Some+then-self+else-len-lt-MAX_EVENT_TYPES, in_default-via-in-Some+else-self, in_default-via-in_default}

pub returns-in-Some-clause-taken : goal.returns-in-Some-clause-taken
returns-in-Some-clause-taken c =
    let read = c.in_ok-name.ensures.read in (
      read.0,
      read.1,
      λ _ found holds.
          let are = rw c.if-self.true at holds in
          rw (c.if-self.true, c.push.ensures.items) (one_more_name found read.0 c.args.self.now.names.items c.in-Some.name are (omega arith) (sym read.2 ∙ c.in-Some.is)),
    )

pub returns-in_default-clause-taken : goal.returns-in_default-clause-taken
returns-in_default-clause-taken c =
    let read = c.in_ok-name.ensures.read in (
      read.0,
      read.1,
      λ _ found holds more. elim c.in_default.branch [
        | in_default-via-in-Some+then-self+else-len-lt-MAX_EVENT_TYPES w ↦
            let are = rw w.if-self.true at holds in
            too_many_types found read.0 more c.args.self.now.names.items are (omega arith)
        | in_default-via-in-Some+else-self w ↦ let none = rw w.if-self.false at holds in rw append_assoc (none (read.0 ∷ more))
        | in_default-via-in_default w ↦ one_without_name found read.0 more (sym read.2 ∙ w.in_default.is)
      ],
    )
