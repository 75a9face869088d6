use Rattle.std.proofs.Common.{length}
use Rattle.mds_journal.specs.Lines.{recovered_texts}
use Rattle.mds_follow.specs.Disk.{IsTold}
use Rattle.test_follow.proofs.journals.ended_over.Given as goal

abbrev pub ghosts-end_in-L-Ledger : goal.ghosts-end_in-L-Ledger
ghosts-end_in-L-Ledger g a = record { name = a.first.name; parts = a.first.parts }

abbrev pub ghosts-end_in-L-NamedLedger : goal.ghosts-end_in-L-NamedLedger
ghosts-end_in-L-NamedLedger g a = record { tables = a.tables }

abbrev pub ghosts-end_in-M-Ledger : goal.ghosts-end_in-M-Ledger
ghosts-end_in-M-Ledger g a = record { name = a.second.name; parts = a.second.parts }

abbrev pub ghosts-end_in-M-NamedLedger : goal.ghosts-end_in-M-NamedLedger
ghosts-end_in-M-NamedLedger g a = record { tables = a.tables }

abbrev pub ghosts-end_in-L-Logged : goal.ghosts-end_in-L-Logged
ghosts-end_in-L-Logged g a = record { log = a.first.log }

abbrev pub ghosts-end_in-L-Marked : goal.ghosts-end_in-L-Marked
ghosts-end_in-L-Marked g a = record { marks = a.first.marks }

abbrev pub ghosts-end_in-M-Logged : goal.ghosts-end_in-M-Logged
ghosts-end_in-M-Logged g a = record { log = a.second.log }

abbrev pub ghosts-end_in-M-Marked : goal.ghosts-end_in-M-Marked
ghosts-end_in-M-Marked g a = record { marks = a.second.marks }

abbrev pub ghosts-end_in-J-Logged : goal.ghosts-end_in-J-Logged
ghosts-end_in-J-Logged g a = record { log = a.log }

abbrev pub ghosts-end_in-J-RecordLog : goal.ghosts-end_in-J-RecordLog
ghosts-end_in-J-RecordLog g a = record {
  start = length a.reader.opening.device.calls.items;
  held = IsTold (recovered_texts a.reader.opening.device.bytes.items);
}
