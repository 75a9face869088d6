use Rattle.test_books.proofs.books.told_anew.Given as goal

abbrev pub ghosts-told_in-L-Ledger : goal.ghosts-told_in-L-Ledger
ghosts-told_in-L-Ledger g a = record { name = a.first.name; parts = a.first.parts }

abbrev pub ghosts-told_in-L-NamedLedger : goal.ghosts-told_in-L-NamedLedger
ghosts-told_in-L-NamedLedger g a = record { tables = a.tables }

abbrev pub ghosts-told_in-M-Ledger : goal.ghosts-told_in-M-Ledger
ghosts-told_in-M-Ledger g a = record { name = a.second.name; parts = a.second.parts }

abbrev pub ghosts-told_in-M-NamedLedger : goal.ghosts-told_in-M-NamedLedger
ghosts-told_in-M-NamedLedger g a = record { tables = a.tables }

abbrev pub ghosts-told_in-L-Logged : goal.ghosts-told_in-L-Logged
ghosts-told_in-L-Logged g a = record { log = a.first.log }

abbrev pub ghosts-told_in-L-Marked : goal.ghosts-told_in-L-Marked
ghosts-told_in-L-Marked g a = record { marks = a.first.marks }

abbrev pub ghosts-told_in-M-Logged : goal.ghosts-told_in-M-Logged
ghosts-told_in-M-Logged g a = record { log = a.second.log }

abbrev pub ghosts-told_in-M-Marked : goal.ghosts-told_in-M-Marked
ghosts-told_in-M-Marked g a = record { marks = a.second.marks }
