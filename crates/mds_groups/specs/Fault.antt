-- What is said of a file that is no journal of whole groups.
use Rattle.std.specs.Prelude.{ℕ, List, ◌++◌, codes}
use Rattle.std.specs.Fmt.{decimal}
use Rattle.mds_journal.specs.Fault.{journal_fault_text}
use Rattle.mds_groups.specs.declared.fault.GroupFault.{GroupFault}
use Rattle.mds_groups.specs.declared.fault.GroupFault.TheVariants.{Damaged, Journal}

abbrev pub group_fault_text : GroupFault → List ℕ
group_fault_text (Damaged line) = codes "damaged " ++ decimal line
group_fault_text (Journal fault) = journal_fault_text fault
