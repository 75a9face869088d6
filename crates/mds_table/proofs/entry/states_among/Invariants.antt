use Rattle.std.proofs.Common.{All, map, take}
use Rattle.serde_json.specs.View.{view}
use Rattle.mds_table.specs.TableFile.{IsStateName}
use Rattle.mds_table.specs.Entry.{AreMarked}
use Rattle.mds_table.proofs.entry.states_among.Given as goal

-- the values so far name states, and these are marked
abbrev pub invariant-loop-value : goal.invariant-loop-value
invariant-loop-value l = record {
  form : All IsStateName (take l.value-index (map view l.values));
  marked : AreMarked (take l.value-index (map view l.values)) l.states;
}
