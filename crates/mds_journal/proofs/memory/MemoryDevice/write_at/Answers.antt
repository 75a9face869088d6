use Rattle.std.proofs.Common.{◌≤◌, ℕ, List, length, arith, subst, reverse, not, ap, ◌∙◌}
use Rattle.mds_journal.specs.Device.{Torn}
use Rattle.mds_journal.specs.Calls.{contents}
use Rattle.mds_journal.specs.declared.memory.Call.TheVariants.{Write}
use Rattle.mds_journal.proofs.CallLemmas.{write_follows, elapses_with, outcome_with, call_kept}
use Rattle.mds_journal.proofs.memory.MemoryDevice.write_at.Goals as goal

pub returns-clause-crash : goal.returns-clause-crash
returns-clause-crash c = λ is f left.
    let calls = c.args.self.now.calls.items in
    let first = c.args.self.now.first.items in
    let grown = call_kept calls c.push.new.self.items (Write c.args.at c.in-Ok-from_slice.kept) _ (c.is_err.ensures.negation ∙ ap not c.if-is_err.false) c.push.ensures.items in
    let within : c.args.at ≤ length (contents first (reverse calls)) = omega (arith, c.requires.within tt, ap length c.args.self.now.same) in
    let from = write_follows first (reverse calls) c.args.at c.in-Ok-from_slice.kept within f (outcome_with first calls c.push.new.self.items (Write c.args.at c.in-Ok-from_slice.kept) f grown left) in
    (from.0, from.1, subst (λ (bytes : List ℕ). Torn c.args.at (length bytes) from.0 f) c.in-Ok-from_slice.ensures.items from.2)

pub returns-clause-time : goal.returns-clause-time
returns-clause-time c = λ is.
    let calls = c.args.self.now.calls.items in
    let first = c.args.self.now.first.items in
    let grown = call_kept calls c.push.new.self.items (Write c.args.at c.in-Ok-from_slice.kept) _ (c.is_err.ensures.negation ∙ ap not c.if-is_err.false) c.push.ensures.items in
    elapses_with first calls c.push.new.self.items (Write c.args.at c.in-Ok-from_slice.kept) grown
