-- The words of verdicts.
use Rattle.std.specs.Prelude.{ℕ, List, ◌++◌, codes, decimal, Bool, true, false}
use Rattle.mds_table.specs.State.{name_of}
use Rattle.mds_core.specs.Refusal.{refusal_text}
use Rattle.mds_batch.specs.Items.{item_fault_text}
use Rattle.mds_trace.specs.declared.report.Verdict.{Verdict}
use Rattle.mds_trace.specs.declared.report.Verdict.TheVariants.{Accepted, Refused}
use Rattle.mds_trace.specs.declared.report.Verdict.TheVariants.{NoOpening, Fault}

-- a verdict accepts
abbrev pub accepts : Verdict → Bool
accepts (Accepted state) = true
accepts (Refused refusal) = false
accepts (NoOpening at) = false
accepts (Fault fault) = false

-- what is said of an item
abbrev pub verdict_text : Verdict → List ℕ
verdict_text (Accepted state) = codes "ok " ++ name_of state
verdict_text (Refused refusal) = codes "refused " ++ refusal_text refusal
verdict_text (NoOpening at) = codes "refused no_opening " ++ decimal at
verdict_text (Fault fault) = codes "fault " ++ item_fault_text fault
