use Rattle.std.proofs.Common.{◌+◌, ◌<◌, ◌≤◌, List, length, Some}
use mathlib.Core.List.{IsPrefix}
use Rattle.mds_core.specs.declared.key.Key.{Key}
use Rattle.mds_core.specs.declared.request.Request.{Request}
use Rattle.mds_shard.specs.Walk.{IsWalkOf}
use Rattle.mds_shard.proofs.walk.walk_back.Given as goal

-- the walk stands at a place of the history, each step further back
abbrev pub invariant-loop-step : goal.invariant-loop-step
invariant-loop-step g l = record {
  within : l.place < length l.past.requests;
  nears : l.place + l._step ≤ l.from;
  few : length (g.E.TakesEvents.events l.list) ≤ length (g.E.TakesEvents.events l.initial.list) + l._step;
  room : g.E.TakesEvents.room l.initial.list + length (g.E.TakesEvents.events l.initial.list)
      ≤ g.E.TakesEvents.room l.list + length (g.E.TakesEvents.events l.list);
  walk : (seen : List Request) (key : Key) → IsPrefix seen l.past.requests
      → IsWalkOf seen key (Some l.from) (g.E.TakesEvents.events l.initial.list)
      → IsWalkOf seen key (Some l.place) (g.E.TakesEvents.events l.list);
}
