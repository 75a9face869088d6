-- The entries of a lawful history: each is accepted after those before it.
use Rattle.std.proofs.Common.{◌≡◌, ◌↔◌, ℕ, ◌+◌, ◌<◌, ◌≤◌, ◌∙◌, List, ◌∷◌, ◌++◌, length, take, drop, Bool, true, IsTrue, refl, sym, ap, subst, arith, length-take-le}
use Rattle.std.specs.Prelude.{slice_get, Some}
use Rattle.std.proofs.lemmas.List.{take-append-drop, drop_more}
use Rattle.std.proofs.lemmas.Option.{get_or_from_slice_get, slice_get_within}
use Rattle.mds_table.specs.Tables.{Tables}
use Rattle.mds_core.specs.declared.request.Request.{Request}
use Rattle.mds_core.specs.declared.reply.Outcome.{Outcome}
use Rattle.mds_core.specs.declared.reply.Outcome.TheVariants.{Done, Seen, Refused}
use Rattle.mds_core.specs.declared.reply.Reply.{Reply}
use Rattle.mds_core.specs.History.{requests_of, key_of}
use Rattle.mds_core.specs.Answer.{Answers, Gives}
use Rattle.mds_core.specs.Lawful.{IsLawful}
use Rattle.mds_core.specs.Headline.{is_done}
use Rattle.mds_core.proofs.Histories.{entry_gives}
use Rattle.mds_core.proofs.Outcomes.{answer_one}
use Rattle.mds_settle.specs.declared.note.Note.{Note}
use Rattle.mds_settle.specs.Settled.{HasRightReply, IsStored}

-- a history at one of its entries
split_at : (history : List Request) (place : ℕ) (request : Request) → slice_get history place ≡ Some request → history ≡ take place history ++ request ∷ drop (place + 1) history
split_at history place request get =
    let within = slice_get_within history place request get in
    sym (take-append-drop place history) ∙ ap (λ rest. take place history ++ rest) (drop_more history place request within)
    ∙ ap (λ entry. take place history ++ entry ∷ drop (place + 1) history) (get_or_from_slice_get history place request request get)

-- an accepted request is answered Done
done_is : (outcome : Outcome) → is_done outcome ≡ true → outcome ≡ Done
done_is Done done = refl
done_is (Seen standing) done = cc
done_is (Refused refusal) done = cc

-- in a lawful history the accepted note of an entry is answered
pub stored_is_answered : (tables : Tables) (history : List Request) (note : Note) → IsLawful tables history → is_done note.reply.outcome ≡ true → IsStored history note
    → HasRightReply tables history note
stored_is_answered tables history note lawful done stored =
    let place = note.reply.place in
    let request = note.request in
    let key = key_of request in
    let within : place < length history = slice_get_within history place request stored in
    let P : List Request → Type 0 = λ requests. IsLawful tables requests in
    let gives = entry_gives tables (take place history) request (drop (place + 1) history) (subst P (split_at history place request stored) lawful) in
    let Q : Outcome → Type 0 = λ outcome. Gives tables (requests_of (take place history) key) request outcome in
    record {
      within = omega arith;
      answer = record { place = sym (length-take-le place history (omega arith)); outcome = subst Q (sym (done_is note.reply.outcome done)) gives };
    }

-- a note is answered exactly where its reply is the answer after as many entries as its place says
pub answered_exactly : (tables : Tables) (history before : List Request) (note : Note) (reply : Reply) (same : Bool) → note.reply.place ≤ length history
    → before ≡ take note.reply.place history → Answers tables before note.request reply → (IsTrue same ↔ (reply ≡ note.reply)) → IsTrue same ↔ HasRightReply tables history note
answered_exactly tables history before note reply same within is answer exact =
    let P : List Request → Type 0 = λ requests. Answers tables requests note.request reply in
    let here = subst P is answer in
    let Q : Reply → Type 0 = λ r. Answers tables (take note.reply.place history) note.request r in (
      λ yes. record { within = within; answer = subst Q (exact.0 yes) here },
      λ answered. exact.1 (answer_one tables (take note.reply.place history) note.request reply note.reply here answered.answer),
    )
