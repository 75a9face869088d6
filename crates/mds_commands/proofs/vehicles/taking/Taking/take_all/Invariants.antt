use Rattle.std.proofs.Common.{◌-◌, ◌^◌}
use Rattle.mds_journal.specs.Stream.{lines_given}
use Rattle.mds_commands.specs.Taking.{IsTaking, TakesOn}
use Rattle.mds_commands.proofs.vehicles.taking.Taking.take_all.Given as goal

-- whatever was taken before, the lines since were taken too
abbrev pub invariant-lines : goal.invariant-lines
invariant-lines g l = record {
  taking : IsTaking l.self;
  taken : TakesOn g.R.Read.remaining l.initial.self l.self;
}

abbrev pub decreases-lines : goal.decreases-lines
decreases-lines g l = 2 ^ 64 - lines_given l.self.lines
