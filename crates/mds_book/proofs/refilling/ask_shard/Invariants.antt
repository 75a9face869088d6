use Rattle.std.proofs.Common.{◌≡◌, [], take}
use Rattle.mds_book.specs.Sights.{rules_in}
use Rattle.mds_book.specs.Refilling.{AreAccepted, AreKeptOf, Asks, told_of}
use Rattle.mds_book.proofs.refilling.ask_shard.Given as goal

-- those of the requests so far are asked and noted
abbrev pub invariant-loop-request : goal.invariant-loop-request
invariant-loop-request g l = record {
  kept : AreKeptOf g.F.NoteForm.number g.F.NoteForm.is_within g.row.N l.part.sight.seen l.notes.list;
  asks : Asks (rules_in g.L.NamedLedger.tables g.row.N) (record { part = l.fn.part; notes = [] }) (take l.request-index l.fn.requests)
      (told_of g.F.NoteForm.number g.F.NoteForm.tells l.part l.notes.list);
  accepted : AreAccepted g.row.N l.fn.part (take l.request-index l.fn.requests) l.part;
  at : l.at ≡ l.request-index;
}
