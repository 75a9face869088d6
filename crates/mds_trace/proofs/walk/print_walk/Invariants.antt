use Rattle.std.proofs.Common.{drop, string_bytes}
use Rattle.mds_trace.specs.Session.{KeepsEvents}
use Rattle.mds_trace.proofs.WalkLemmas.{IsUnderway}
use Rattle.mds_trace.proofs.walk.print_walk.Given as goal

-- the events are kept, and the commands so far were carried out
abbrev pub invariant-loop-command : goal.invariant-loop-command
invariant-loop-command g l = record {
  kept : KeepsEvents l.initial.session l.session;
  underway : IsUnderway l.initial.session l.script (drop l.command-index l.script) l.session.place (g.W.Write.contents l.initial.writer)
      (g.W.Write.contents l.writer) (string_bytes l.page);
}
