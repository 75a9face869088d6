use Rattle.test_faces.proofs.connections.seats.seen_over.Given as goal

abbrev pub ghosts-seen_in-L-Ledger : goal.ghosts-seen_in-L-Ledger
ghosts-seen_in-L-Ledger g a = record { name = a.first.name; parts = a.first.parts }

abbrev pub ghosts-seen_in-L-NamedLedger : goal.ghosts-seen_in-L-NamedLedger
ghosts-seen_in-L-NamedLedger g a = record { tables = a.tables }

abbrev pub ghosts-seen_in-M-Ledger : goal.ghosts-seen_in-M-Ledger
ghosts-seen_in-M-Ledger g a = record { name = a.second.name; parts = a.second.parts }

abbrev pub ghosts-seen_in-M-NamedLedger : goal.ghosts-seen_in-M-NamedLedger
ghosts-seen_in-M-NamedLedger g a = record { tables = a.tables }

abbrev pub ghosts-seen_in-L-Logged : goal.ghosts-seen_in-L-Logged
ghosts-seen_in-L-Logged g a = record { log = a.first.log }

abbrev pub ghosts-seen_in-L-Marked : goal.ghosts-seen_in-L-Marked
ghosts-seen_in-L-Marked g a = record { marks = a.first.marks }

abbrev pub ghosts-seen_in-M-Logged : goal.ghosts-seen_in-M-Logged
ghosts-seen_in-M-Logged g a = record { log = a.second.log }

abbrev pub ghosts-seen_in-M-Marked : goal.ghosts-seen_in-M-Marked
ghosts-seen_in-M-Marked g a = record { marks = a.second.marks }
