-- Why workers stopped.
use Rattle.std.specs.Prelude.{ℕ, List, codes}
use Rattle.mds_pool.specs.declared.pool.PoolCause.{PoolCause}
use Rattle.mds_pool.specs.declared.pool.PoolCause.TheVariants.{Memory, Accept}

-- the word for a cause
abbrev pub pool_cause_text : PoolCause → List ℕ
pool_cause_text Memory = codes "memory"
pool_cause_text Accept = codes "accept"
