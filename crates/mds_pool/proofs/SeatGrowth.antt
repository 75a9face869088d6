-- How a seat grows.
use Rattle.std.proofs.Common.{◌≡◌, ◌∙◌, ◌+◌, ◌==◌, ◌&&◌, ◌||◌, ◌++◌, ℕ, List, [], ◌∷◌, Bool, true, false, cond, if◌then◌else◌, arith, ap, subst, sym, refl}
use Rattle.std.specs.Prelude.{Option, Some, None, count_by}
use Rattle.std.proofs.lemmas.List.{append-nil, append_assoc}
use Rattle.std.proofs.lemmas.List.Sums.{sum_by-append}
use Rattle.std.proofs.lemmas.Bool.Decides.{nat_tests}
use mathlib.Core.List.{IsPrefix}
use Rattle.mds_log.proofs.Lists.{prefix_self, prefix_trans}
use Rattle.mds_table.specs.Tables.{Tables}
use Rattle.mds_core.specs.declared.request.Request.{Request}
use Rattle.mds_core.specs.declared.reply.Reply.{Reply}
use Rattle.mds_core.specs.declared.key.Key.{Key}
use Rattle.mds_core.specs.Reported.{Reported}
use Rattle.mds_core.specs.History.{key_of}
use Rattle.mds_core.specs.Headline.{is_done}
use Rattle.mds_core.specs.Answer.{next}
use Rattle.mds_core.specs.declared.reply.Outcome.{Outcome}
use Rattle.mds_core.specs.declared.reply.Outcome.TheVariants.{Done, Seen, Refused}
use Rattle.mds_settle.specs.declared.note.Note.{Note}
use Rattle.mds_book.specs.Shards.{shard_of}
use Rattle.mds_book.specs.Seats.{IsCalled, IsListed, Seated, notes_of_call, rise_of, seen_in, seen_after}
use Rattle.mds_face.specs.Seats.{HasGrown, SeatCalls, accepted_notes}

-- the accepted notes of two lists are those of one and of the other
notes_of_both : (shard : ℕ) (one other : List Note) → accepted_notes shard (one ++ other) ≡ accepted_notes shard one + accepted_notes shard other
notes_of_both shard one other = sum_by-append (λ (note : Note). cond ((shard == note.shard) && is_done note.reply.outcome) 1 0) one other

pub seat_stays : (seat : Seated) → HasGrown seat seat
seat_stays seat = record {
  more = [];
  notes = sym (append-nil seat.notes);
  first = omega arith;
  second = omega arith;
  keeps_all = refl;
  first_seen = prefix_self seat.first_seen;
  second_seen = prefix_self seat.second_seen;
}

pub seat_twice : (a b c : Seated) → HasGrown a b → HasGrown b c → HasGrown a c
seat_twice a b c one two = record {
  more = one.more ++ two.more;
  notes = two.notes ∙ ap (λ notes. notes ++ two.more) one.notes ∙ append_assoc a.notes one.more two.more;
  first = omega (arith, one.first, two.first, notes_of_both 0 one.more two.more);
  second = omega (arith, one.second, two.second, notes_of_both 1 one.more two.more);
  keeps_all = two.keeps_all ∙ one.keeps_all;
  first_seen = prefix_trans a.first_seen b.first_seen c.first_seen one.first_seen two.first_seen;
  second_seen = prefix_trans a.second_seen b.second_seen c.second_seen one.second_seen two.second_seen;
}

-- a call that may be noted counts one in its shard exactly where its note does
counted : {X : Type 0} (p : X → Bool) (x : X) (same done all : Bool) → p x ≡ (same && done)
    → (if same then (if done then 1 else 0) else 0) ≡ count_by p (if all || done then x ∷ [] else [])
counted p x true true true is = rw is refl
counted p x true true false is = rw is refl
counted p x true false true is = rw is refl
counted p x true false false is = refl
counted p x false true true is = rw is refl
counted p x false true false is = rw is refl
counted p x false false true is = rw is refl
counted p x false false false is = refl

-- what a call adds to the count of a shard is what its note, if it has one, adds to the accepted notes there
noted_rises : (shard : ℕ) (all : Bool) (request : Request) (reply : Reply)
    → rise_of shard (shard_of (key_of request)) reply ≡ accepted_notes shard (notes_of_call all request reply)
noted_rises shard all request reply =
    counted (λ (note : Note). (shard == note.shard) && is_done note.reply.outcome) (record { shard = shard_of (key_of request); request = request; reply = reply })
    (shard == shard_of (key_of request)) (is_done reply.outcome) all refl

-- the history after a call begins with the one before it
next_begins : (before : List Request) (request : Request) (outcome : Outcome) → IsPrefix before (next before request outcome)
next_begins before request Done = (request ∷ [], refl)
next_begins before request (Seen standing) = prefix_self before
next_begins before request (Refused refusal) = prefix_self before

-- what had been seen of a shard is a beginning of what is seen of it after a call, in this shard or in another
seen_begins : (shard number : ℕ) (before : List Request) (request : Request) (reply : Reply) (old : List Request) → (shard ≡ number → IsPrefix old before)
    → IsPrefix old (seen_after shard number before request reply old)
seen_begins shard number before request reply old begins = by_test (shard == number) refl where
  by_test : (b : Bool) → (shard == number) ≡ b → IsPrefix old (if b then next before request reply.outcome else old)
  by_test true same = prefix_trans old before (next before request reply.outcome) (begins (grind (arith, nat_tests))) (next_begins before request reply.outcome)
  by_test false other = prefix_self old

-- a call adds to the counts, to the notes and to what is seen
pub call_grows : (tables : Tables) (seat : Seated) (request : Request) (reply : Reply) (new : Seated) → IsCalled tables seat request reply new → HasGrown seat new
call_grows tables seat request reply new called = subst (λ after. HasGrown seat after) (sym called.seat) (record {
  more = notes_of_call seat.keeps_all request reply;
  notes = refl;
  first = ap (λ n. seat.first + n) (noted_rises 0 seat.keeps_all request reply);
  second = ap (λ n. seat.second + n) (noted_rises 1 seat.keeps_all request reply);
  keeps_all = refl;
  first_seen = seen_begins 0 (shard_of (key_of request)) called.before request reply seat.first_seen (λ same. subst (λ number. IsPrefix (seen_in seat number) called.before) (sym same) called.seen);
  second_seen = seen_begins 1 (shard_of (key_of request)) called.before request reply seat.second_seen (λ same. subst (λ number. IsPrefix (seen_in seat number) called.before) (sym same) called.seen);
})

pub seat_called : (tables : Tables) (old : Seated) (request : Request) (reply : Option Reply) (new : Seated) → SeatCalls tables old request reply new → HasGrown old new
seat_called tables old request (Some reply) new calls = call_grows tables old request reply new calls.0
seat_called tables old request None new calls = subst (λ seat. HasGrown old seat) (sym calls.0) (seat_stays old)

-- what had been seen of a shard is a beginning of what is seen where the seat has looked into it, or into another
sight_begins : (shard number : ℕ) (before old : List Request) → (shard ≡ number → IsPrefix old before) → IsPrefix old (if shard == number then before else old)
sight_begins shard number before old begins = by_test (shard == number) refl where
  by_test : (b : Bool) → (shard == number) ≡ b → IsPrefix old (if b then before else old)
  by_test true same = begins (grind (arith, nat_tests))
  by_test false other = prefix_self old

-- a list of a vehicle's events adds to what is seen
pub seat_listed : (tables : Tables) (old : Seated) (key : Key) (events : Option (List Reported)) (new : Seated) → IsListed tables old key events new → HasGrown old new
seat_listed tables old key events new listed = subst (λ after. HasGrown old after) (sym listed.seat) (record {
  more = [];
  notes = sym (append-nil old.notes);
  first = omega arith;
  second = omega arith;
  keeps_all = refl;
  first_seen = sight_begins 0 (shard_of key) listed.before old.first_seen (λ same. subst (λ number. IsPrefix (seen_in old number) listed.before) (sym same) listed.seen);
  second_seen = sight_begins 1 (shard_of key) listed.before old.second_seen (λ same. subst (λ number. IsPrefix (seen_in old number) listed.before) (sym same) listed.seen);
})

-- both, for a search
pub ruleset seat_growth = (seat_stays, seat_twice)
