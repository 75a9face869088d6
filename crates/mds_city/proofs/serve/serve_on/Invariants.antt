use Rattle.mds_city.proofs.serve.serve_on.Given as goal

abbrev pub ghosts-serve_book-L-Ledger : goal.ghosts-serve_book-L-Ledger
ghosts-serve_book-L-Ledger g a = record { name = a.opening.first.name; parts = a.opening.first.parts }

abbrev pub ghosts-serve_book-L-NamedLedger : goal.ghosts-serve_book-L-NamedLedger
ghosts-serve_book-L-NamedLedger g a = record { tables = a.opening.tables }

abbrev pub ghosts-serve_book-M-Ledger : goal.ghosts-serve_book-M-Ledger
ghosts-serve_book-M-Ledger g a = record { name = a.opening.second.name; parts = a.opening.second.parts }

abbrev pub ghosts-serve_book-M-NamedLedger : goal.ghosts-serve_book-M-NamedLedger
ghosts-serve_book-M-NamedLedger g a = record { tables = a.opening.tables }

abbrev pub ghosts-serve_book-L-Logged : goal.ghosts-serve_book-L-Logged
ghosts-serve_book-L-Logged g a = record { log = a.opening.first.log }

abbrev pub ghosts-serve_book-L-Marked : goal.ghosts-serve_book-L-Marked
ghosts-serve_book-L-Marked g a = record { marks = a.opening.first.marks }

abbrev pub ghosts-serve_book-M-Logged : goal.ghosts-serve_book-M-Logged
ghosts-serve_book-M-Logged g a = record { log = a.opening.second.log }

abbrev pub ghosts-serve_book-M-Marked : goal.ghosts-serve_book-M-Marked
ghosts-serve_book-M-Marked g a = record { marks = a.opening.second.marks }
