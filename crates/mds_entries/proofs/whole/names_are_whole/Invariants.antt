use Rattle.std.proofs.Common.{take, All}
use Rattle.mds_table.specs.TypeName.{IsTypeName}
use Rattle.mds_entries.proofs.whole.names_are_whole.Given as goal

abbrev pub invariant-loop-name : goal.invariant-loop-name
invariant-loop-name l = All IsTypeName (take l.name-index l.names)
