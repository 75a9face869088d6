use Rattle.std.proofs.Common.{◌≢◌, IfErr, rules}
use Rattle.std.proofs.lemmas.Result.{IfErr-weaker}
use Rattle.mds_trace.specs.declared.session_fault.SessionFault.TheVariants.{Memory}
use Rattle.mds_trace.specs.Session.{AreOpenFrom, IsFaultOf}
use Rattle.mds_trace.proofs.SessionLemmas.{not_open}
use Rattle.mds_trace.proofs.session.Session.open.Goals as goal

pub returns-in_err-check_events-clause-refused : goal.returns-in_err-check_events-clause-refused
returns-in_err-check_events-clause-refused c =
    let fault : IfErr c.from_residual.result (IsFaultOf c.args.tables c.args.opening c.args.events.items) = search rules in
    IfErr-weaker c.from_residual.result (IsFaultOf c.args.tables c.args.opening c.args.events.items)
    (λ fault. fault ≢ Memory → AreOpenFrom c.args.tables c.args.opening c.args.events.items → ⊥)
    (λ fault is. not_open c.args.tables c.args.opening c.args.events.items fault is) fault
