use Rattle.std.proofs.Common.{sym, subst}
use Rattle.mds_steps.specs.Reached.{AreReached}
use Rattle.mds_steps.proofs.Sets.{reached_none}
use Rattle.mds_steps.proofs.reach.forward.Goals as goal

pub returns-in-Err : goal.returns-in-Err
returns-in-Err c =
    subst (AreReached c.args.table.now c.args.set.now c.args.types.now) (sym c.empty.ensures) (reached_none _ _ _ _ c.in-Err.ensures.stuck.0 c.in-Err.ensures.stuck.1)
