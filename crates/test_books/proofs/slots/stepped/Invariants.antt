use Rattle.test_books.proofs.slots.stepped.Given as goal

abbrev pub ghosts-steps_in-L-Ledger : goal.ghosts-steps_in-L-Ledger
ghosts-steps_in-L-Ledger g a = record { name = a.blank.name; parts = a.blank.parts }

abbrev pub ghosts-steps_in-L-NamedLedger : goal.ghosts-steps_in-L-NamedLedger
ghosts-steps_in-L-NamedLedger g a = record { tables = a.tables }

abbrev pub ghosts-steps_in-L-Logged : goal.ghosts-steps_in-L-Logged
ghosts-steps_in-L-Logged g a = record { log = a.blank.log }

abbrev pub ghosts-steps_in-L-Marked : goal.ghosts-steps_in-L-Marked
ghosts-steps_in-L-Marked g a = record { marks = a.blank.marks }
