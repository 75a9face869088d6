use Rattle.std.proofs.Common.{take}
use Rattle.mds_groups.specs.Stream.{texts_held}
use Rattle.mds_commands.specs.Taking.{TakesTexts}
use Rattle.mds_commands.proofs.vehicles.taking.take_group.Given as goal

-- the requests of the texts so far were taken
abbrev pub invariant-loop-at : goal.invariant-loop-at
invariant-loop-at l = TakesTexts (texts_held (take l.at l.group.texts.items)) l.initial.roster l.roster
