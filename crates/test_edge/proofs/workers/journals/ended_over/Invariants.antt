use Rattle.std.proofs.Common.{length}
use Rattle.mds_journal.specs.Lines.{recovered_texts}
use Rattle.mds_follow.specs.Disk.{IsTold}
use Rattle.test_edge.proofs.workers.journals.ended_over.Given as goal

abbrev pub ghosts-ended-L-Ledger : goal.ghosts-ended-L-Ledger
ghosts-ended-L-Ledger g a = record { name = a.opening.first.name; parts = a.opening.first.parts }

abbrev pub ghosts-ended-L-NamedLedger : goal.ghosts-ended-L-NamedLedger
ghosts-ended-L-NamedLedger g a = record { tables = a.opening.tables }

abbrev pub ghosts-ended-M-Ledger : goal.ghosts-ended-M-Ledger
ghosts-ended-M-Ledger g a = record { name = a.opening.second.name; parts = a.opening.second.parts }

abbrev pub ghosts-ended-M-NamedLedger : goal.ghosts-ended-M-NamedLedger
ghosts-ended-M-NamedLedger g a = record { tables = a.opening.tables }

abbrev pub ghosts-ended-L-Logged : goal.ghosts-ended-L-Logged
ghosts-ended-L-Logged g a = record { log = a.opening.first.log }

abbrev pub ghosts-ended-L-Marked : goal.ghosts-ended-L-Marked
ghosts-ended-L-Marked g a = record { marks = a.opening.first.marks }

abbrev pub ghosts-ended-M-Logged : goal.ghosts-ended-M-Logged
ghosts-ended-M-Logged g a = record { log = a.opening.second.log }

abbrev pub ghosts-ended-M-Marked : goal.ghosts-ended-M-Marked
ghosts-ended-M-Marked g a = record { marks = a.opening.second.marks }

abbrev pub ghosts-ended-J-Logged : goal.ghosts-ended-J-Logged
ghosts-ended-J-Logged g a = record { log = a.log }

abbrev pub ghosts-ended-J-RecordLog : goal.ghosts-ended-J-RecordLog
ghosts-ended-J-RecordLog g a = record {
  start = length a.reader.opening.device.calls.items;
  held = IsTold (recovered_texts a.reader.opening.device.bytes.items);
}
