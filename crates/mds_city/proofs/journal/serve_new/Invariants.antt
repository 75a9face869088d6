use Rattle.mds_journal.specs.Lines.{recovered_texts}
use Rattle.mds_follow.specs.Disk.{IsTold}
use Rattle.mds_city.proofs.journal.serve_new.Given as goal

abbrev pub ghosts-serve_reader-L-Ledger : goal.ghosts-serve_reader-L-Ledger
ghosts-serve_reader-L-Ledger g a = record { name = a.opening.first.name; parts = a.opening.first.parts }

abbrev pub ghosts-serve_reader-L-NamedLedger : goal.ghosts-serve_reader-L-NamedLedger
ghosts-serve_reader-L-NamedLedger g a = record { tables = a.opening.tables }

abbrev pub ghosts-serve_reader-M-Ledger : goal.ghosts-serve_reader-M-Ledger
ghosts-serve_reader-M-Ledger g a = record { name = a.opening.second.name; parts = a.opening.second.parts }

abbrev pub ghosts-serve_reader-M-NamedLedger : goal.ghosts-serve_reader-M-NamedLedger
ghosts-serve_reader-M-NamedLedger g a = record { tables = a.opening.tables }

abbrev pub ghosts-serve_reader-L-Logged : goal.ghosts-serve_reader-L-Logged
ghosts-serve_reader-L-Logged g a = record { log = a.opening.first.log }

abbrev pub ghosts-serve_reader-L-Marked : goal.ghosts-serve_reader-L-Marked
ghosts-serve_reader-L-Marked g a = record { marks = a.opening.first.marks }

abbrev pub ghosts-serve_reader-M-Logged : goal.ghosts-serve_reader-M-Logged
ghosts-serve_reader-M-Logged g a = record { log = a.opening.second.log }

abbrev pub ghosts-serve_reader-M-Marked : goal.ghosts-serve_reader-M-Marked
ghosts-serve_reader-M-Marked g a = record { marks = a.opening.second.marks }

abbrev pub ghosts-serve_reader-J-Logged : goal.ghosts-serve_reader-J-Logged
ghosts-serve_reader-J-Logged g a = record { log = a.log }

abbrev pub ghosts-serve_reader-J-RecordLog : goal.ghosts-serve_reader-J-RecordLog
ghosts-serve_reader-J-RecordLog g a = record {
  start = g.H.Journal.Device.moment a.reader.opening.device;
  held = IsTold (recovered_texts (g.H.Journal.Device.seen a.reader.opening.device));
}
