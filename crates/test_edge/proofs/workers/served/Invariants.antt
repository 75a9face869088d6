use Rattle.test_edge.proofs.workers.served.Given as goal

abbrev pub ghosts-serve_new-L-Ledger : goal.ghosts-serve_new-L-Ledger
ghosts-serve_new-L-Ledger g a = record { name = a.opening.first.name; parts = a.opening.first.parts }

abbrev pub ghosts-serve_new-L-NamedLedger : goal.ghosts-serve_new-L-NamedLedger
ghosts-serve_new-L-NamedLedger g a = record { tables = a.opening.tables }

abbrev pub ghosts-serve_new-M-Ledger : goal.ghosts-serve_new-M-Ledger
ghosts-serve_new-M-Ledger g a = record { name = a.opening.second.name; parts = a.opening.second.parts }

abbrev pub ghosts-serve_new-M-NamedLedger : goal.ghosts-serve_new-M-NamedLedger
ghosts-serve_new-M-NamedLedger g a = record { tables = a.opening.tables }

abbrev pub ghosts-serve_new-L-Logged : goal.ghosts-serve_new-L-Logged
ghosts-serve_new-L-Logged g a = record { log = a.opening.first.log }

abbrev pub ghosts-serve_new-L-Marked : goal.ghosts-serve_new-L-Marked
ghosts-serve_new-L-Marked g a = record { marks = a.opening.first.marks }

abbrev pub ghosts-serve_new-M-Logged : goal.ghosts-serve_new-M-Logged
ghosts-serve_new-M-Logged g a = record { log = a.opening.second.log }

abbrev pub ghosts-serve_new-M-Marked : goal.ghosts-serve_new-M-Marked
ghosts-serve_new-M-Marked g a = record { marks = a.opening.second.marks }
