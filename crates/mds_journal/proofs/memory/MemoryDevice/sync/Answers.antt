use Rattle.std.proofs.Common.{reverse, not, ap, ◌∙◌}
use Rattle.mds_journal.specs.declared.memory.Call.TheVariants.{Sync}
use Rattle.mds_journal.proofs.CallLemmas.{sync_follows, elapses_with, outcome_with, call_kept}
use Rattle.mds_journal.proofs.memory.MemoryDevice.sync.Goals as goal

pub returns-clause-crash : goal.returns-clause-crash
returns-clause-crash c = λ is f left.
    let calls = c.args.self.now.calls.items in
    let first = c.args.self.now.first.items in
    let grown = call_kept calls c.push.new.self.items (Sync) _ (c.is_err.ensures.negation ∙ ap not c.if-is_err.false) c.push.ensures.items in
    sync_follows first (reverse calls) f (outcome_with first calls c.push.new.self.items Sync f grown left)

pub returns-clause-time : goal.returns-clause-time
returns-clause-time c = λ is.
    let calls = c.args.self.now.calls.items in
    let first = c.args.self.now.first.items in
    let grown = call_kept calls c.push.new.self.items (Sync) _ (c.is_err.ensures.negation ∙ ap not c.if-is_err.false) c.push.ensures.items in
    elapses_with first calls c.push.new.self.items (Sync) grown
