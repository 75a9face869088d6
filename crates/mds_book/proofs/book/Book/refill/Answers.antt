use Rattle.std.proofs.Common.{◌≡◌, ◌++◌, ◌∙◌, inl, inr, List, length, refl, sym, ap, subst, arith}
use Rattle.mds_table.specs.Tables.{Tables}
use Rattle.mds_log.specs.Log.{requests}
use Rattle.mds_book.specs.Seats.{Seated}
use Rattle.mds_book.specs.Refilling.{IsRefusedAt, IsRefusedIn}
use Rattle.mds_book.specs.declared.refilling.RefillFault.TheVariants.{Refused}
use Rattle.mds_book.specs.Notes.{seen_by}
use Rattle.mds_book.proofs.NotesTold.{kept_three, seen_both, told_length}
use Rattle.mds_book.proofs.Trues.{requests_length, requests_prefix}
use Rattle.mds_book.proofs.Refills.{of_either, part_lengths, true_first, true_second}
use Rattle.mds_book.proofs.book.Book.refill.Goals as goal

-- the seat has asked all that it has seen
pub ask_both-ones-requires-clause-first : goal.ask_both-ones-requires-clause-first
ask_both-ones-requires-clause-first g c κs within =
    let Asked : Seated → Type 0 = λ s. s.first ≡ length s.first_seen in
    subst Asked (sym c.seat.view_is) c.requires.first ∙ requests_length c.seat.inside.first.sight.seen

pub ask_both-ones-requires-clause-second : goal.ask_both-ones-requires-clause-second
ask_both-ones-requires-clause-second g c κs within =
    let Asked : Seated → Type 0 = λ s. s.second ≡ length s.second_seen in
    subst Asked (sym c.seat.view_is) c.requires.second ∙ requests_length c.seat.inside.second.sight.seen

-- there is room for the notes of all requests
pub add-requires : goal.add-requires
add-requires g c =
    let asked = c.ask_both-ones in
    omega (
      arith,
      c.in-Ok.ensures.room,
      told_length g.L.SharedNote.NoteForm.number g.L.SharedNote.NoteForm.tells asked.new.first asked.result.0.notes.list,
      asked.ensures.first.asks.few,
      part_lengths c.args.requests.now,
    )

pub add-requires-2 : goal.add-requires-2
add-requires-2 g c =
    let asked = c.ask_both-ones in
    omega (
      arith,
      c.in-Ok.ensures.room,
      told_length g.L.SharedNote.NoteForm.number g.L.SharedNote.NoteForm.tells asked.new.first asked.result.0.notes.list,
      told_length g.L.SharedNote.NoteForm.number g.L.SharedNote.NoteForm.tells asked.new.second asked.result.1.notes.list,
      asked.ensures.first.asks.few,
      asked.ensures.second.asks.few,
      part_lengths c.args.requests.now,
      c.add.ensures.room,
    )

-- the notes stay true to what the seat saw of either shard
pub invariant_of-seat-2 : goal.invariant_of-seat-2
invariant_of-seat-2 g c =
    let asked = c.ask_both-ones in
    let ones = asked.result.0.notes.list in
    let others = asked.result.1.notes.list in
    let listed : c.add-2.new.self.list ≡ (c.seat.inside.notes.list ++ ones) ++ others =
    c.add-2.ensures.list ∙ ap (λ w. w ++ others) (c.add.ensures.list ∙ ap (λ w. w ++ ones) c.reserve.ensures.list) in
    let kept = kept_three asked.new.first asked.new.second (seen_by (requests c.seat.inside.first.sight.seen) (requests c.seat.inside.second.sight.seen))
    (seen_by (requests asked.new.first.sight.seen) (requests asked.new.second.sight.seen)) c.add-2.new.self.list c.seat.invariant.2 c.tell.ensures
    (seen_both (requests c.seat.inside.first.sight.seen) (requests asked.new.first.sight.seen) (requests c.seat.inside.second.sight.seen) (requests asked.new.second.sight.seen)
    (requests_prefix c.seat.inside.first.sight.seen asked.new.first.sight.seen asked.ensures.first.asks.begins)
    (requests_prefix c.seat.inside.second.sight.seen asked.new.second.sight.seen asked.ensures.second.asks.begins))
    asked.ensures.first_kept asked.ensures.second_kept refl refl listed in (
      true_first _ c.seat.invariant.0 asked.ensures.first asked.ensures.second.of_shard kept.1,
      true_second _ c.seat.invariant.1 asked.ensures.second asked.ensures.first.of_shard kept.1,
      kept.0,
    )

-- what either thread was refused
pub returns-clause-refused : goal.returns-clause-refused
returns-clause-refused g c =
    let asked = c.ask_both-ones in
    let told = c.args.requests.now in
    let tables = c.args.self.now.tables in
    let seat = c.args.seat.now in
    of_either asked.result.0.asked asked.result.1.asked c.first_stop.result
    (λ stop. stop.fault ≡ Refused → IsRefusedIn g.L.NamedLedger.tables 0 (requests c.seat.inside.first.sight.seen) told stop.at)
    (λ stop. stop.fault ≡ Refused → IsRefusedIn g.M.NamedLedger.tables 1 (requests c.seat.inside.second.sight.seen) told stop.at)
    (λ stop. stop.fault ≡ Refused → IsRefusedAt tables seat told stop.at)
    (λ stop refused why.
    let By : Tables → Type 0 = λ t. IsRefusedIn t 0 (requests c.seat.inside.first.sight.seen) told stop.at in
    let Seen : Seated → Type 0 = λ s. IsRefusedIn tables 0 s.first_seen told stop.at in
    inl (subst Seen c.seat.view_is (subst By (sym asked.ensures.tables.0) (refused why))))
    (λ stop refused why.
    let By : Tables → Type 0 = λ t. IsRefusedIn t 1 (requests c.seat.inside.second.sight.seen) told stop.at in
    let Seen : Seated → Type 0 = λ s. IsRefusedIn tables 1 s.second_seen told stop.at in
    inr (subst Seen c.seat.view_is (subst By (sym asked.ensures.tables.1) (refused why))))
    c.first_stop.ensures.err asked.ensures.first.refused asked.ensures.second.refused
