-- Why items weren't replayed by several workers.
use Rattle.std.specs.Prelude.{◌≡◌, ◌⊎◌, ◌<◌, ◌≤◌, ℕ, List, codes}
use Rattle.mds_trace.specs.declared.workers.WithFault.{WithFault}
use Rattle.mds_trace.specs.declared.workers.WithFault.TheVariants.{Memory, BadWorkers}

-- how many workers there may be
abbrev pub max_workers : ℕ
max_workers = 64

-- a replay may have so many workers
abbrev pub IsWorkerCount : ℕ → Type 0
IsWorkerCount workers = (1 ≤ workers) × (workers ≤ max_workers)

-- no replay has so many workers
abbrev pub IsBadCount : ℕ → Type 0
IsBadCount workers = (workers ≡ 0) ⊎ (max_workers < workers)

-- the words of the fault
abbrev pub with_fault_text : WithFault → List ℕ
with_fault_text Memory = codes "out of memory"
with_fault_text BadWorkers = codes "bad_workers"
