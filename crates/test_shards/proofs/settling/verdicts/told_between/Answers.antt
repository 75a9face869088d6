use Rattle.mds_core.proofs.RunLaws.{lawful_runs}
use Rattle.test_shards.proofs.settling.verdicts.told_between.Goals as goal

pub told-found-requires : goal.told-found-requires
told-found-requires c = rw (c.history.ensures, ← c.in_ok-copy.ensures) (lawful_runs _ _ _ _ c.in_ok-fleet.ensures.run)
