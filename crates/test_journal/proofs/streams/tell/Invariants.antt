use Rattle.mds_journal.specs.Stream.{IsStream}
use Rattle.test_journal.proofs.streams.tell.Given as goal

abbrev pub invariant-loop : goal.invariant-loop
invariant-loop l = IsStream l.stream
