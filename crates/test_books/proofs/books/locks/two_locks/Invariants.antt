use Rattle.test_books.proofs.books.locks.two_locks.Given as goal

abbrev pub ghosts-in_two_locks-L-Ledger : goal.ghosts-in_two_locks-L-Ledger
ghosts-in_two_locks-L-Ledger g a = record { name = a.first.name; parts = a.first.parts }

abbrev pub ghosts-in_two_locks-L-NamedLedger : goal.ghosts-in_two_locks-L-NamedLedger
ghosts-in_two_locks-L-NamedLedger g a = record { tables = a.tables }

abbrev pub ghosts-in_two_locks-M-Ledger : goal.ghosts-in_two_locks-M-Ledger
ghosts-in_two_locks-M-Ledger g a = record { name = a.second.name; parts = a.second.parts }

abbrev pub ghosts-in_two_locks-M-NamedLedger : goal.ghosts-in_two_locks-M-NamedLedger
ghosts-in_two_locks-M-NamedLedger g a = record { tables = a.tables }

abbrev pub ghosts-in_two_locks-L-Logged : goal.ghosts-in_two_locks-L-Logged
ghosts-in_two_locks-L-Logged g a = record { log = a.first.log }

abbrev pub ghosts-in_two_locks-L-Marked : goal.ghosts-in_two_locks-L-Marked
ghosts-in_two_locks-L-Marked g a = record { marks = a.first.marks }

abbrev pub ghosts-in_two_locks-M-Logged : goal.ghosts-in_two_locks-M-Logged
ghosts-in_two_locks-M-Logged g a = record { log = a.second.log }

abbrev pub ghosts-in_two_locks-M-Marked : goal.ghosts-in_two_locks-M-Marked
ghosts-in_two_locks-M-Marked g a = record { marks = a.second.marks }
