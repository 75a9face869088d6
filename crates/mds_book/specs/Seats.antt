-- What a caller's seat knows.
use Rattle.std.specs.Prelude.{◌≡◌, ℕ, ◌+◌, ◌==◌, ◌||◌, ◌++◌, ◌∷◌, [], List}
use Rattle.std.specs.Prelude.{Bool, Option, true, false, if◌then◌else◌}
use mathlib.Core.List.{IsPrefix}
use Rattle.mds_table.specs.Tables.{Tables}
use Rattle.mds_core.specs.declared.key.Key.{Key}
use Rattle.mds_core.specs.declared.request.Request.{Request}
use Rattle.mds_core.specs.declared.request.Request.TheVariants.{Register, Report, Look}
use Rattle.mds_core.specs.declared.reply.Reply.{Reply}
use Rattle.mds_core.specs.Reported.{Reported}
use Rattle.mds_core.specs.Machine.{events_in}
use Rattle.mds_core.specs.History.{key_of}
use Rattle.mds_core.specs.Headline.{is_done}
use Rattle.mds_core.specs.Lawful.{IsLawful}
use Rattle.mds_core.specs.Answer.{Answers, next}
use Rattle.mds_settle.specs.declared.note.Note.{Note}
use Rattle.mds_book.specs.declared.seat.Keep.{Keep}
use Rattle.mds_book.specs.declared.seat.Keep.TheVariants.{All, Accepted}
use Rattle.mds_book.specs.Shards.{shard_of, AreOfShard, count_of}
use Rattle.mds_book.specs.Sights.{next_turn}

-- how many of the seat's calls were accepted in each shard, its notes, whether it notes every call
-- or the accepted ones, what it saw of each shard's history, and how many turns it had there
pub record Seated : Type 0 where
  pub first : ℕ
  pub second : ℕ
  pub notes : List Note
  pub keeps_all : Bool
  pub first_seen : List Request
  pub second_seen : List Request
  pub first_turns : ℕ
  pub second_turns : ℕ

-- which calls are noted
abbrev pub keeps_all : Keep → Bool
keeps_all All = true
keeps_all Accepted = false

-- a seat that was told nothing
abbrev pub new_seat : Bool → Seated
new_seat all = record {
  first = 0;
  second = 0;
  notes = [];
  keeps_all = all;
  first_seen = [];
  second_seen = [];
  first_turns = 0;
  second_turns = 0;
}

-- how many of the seat's calls were accepted in this shard; none in a shard that isn't there
abbrev pub accepted_in : Seated → ℕ → ℕ
accepted_in seat shard = if shard == 0 then seat.first else (if shard == 1 then seat.second else 0)

-- what the seat saw of the history of this shard; nothing of a shard that isn't there
abbrev pub seen_in : Seated → ℕ → List Request
seen_in seat shard =
    if shard == 0 then seat.first_seen else (if shard == 1 then seat.second_seen else [])

-- what a shard's count rises by, for a call in the shard of this number
abbrev pub rise_of : ℕ → ℕ → Reply → ℕ
rise_of shard number reply = if shard == number then count_of reply.outcome else 0

-- a call is noted where every call is, and else where it was accepted
abbrev pub notes_of_call : Bool → Request → Reply → List Note
notes_of_call all request reply =
    if all || is_done reply.outcome
    then record { shard = shard_of (key_of request); request = request; reply = reply } ∷ []
    else []

-- what a seat has seen of a shard after a call in the shard of this number, whose history was
-- `before`
abbrev pub seen_after : ℕ → ℕ → List Request → Request → Reply → List Request → List Request
seen_after shard number before request reply old =
    if shard == number then next before request reply.outcome else old

-- the turns that a seat had at a shard, after one in the shard of this number
abbrev pub turns_after : ℕ → ℕ → ℕ → ℕ
turns_after shard number turns = if shard == number then next_turn turns else turns

-- the seat after a call that was answered after the history `before`: only the count of the
-- vehicle's shard rises, the note stands behind the others, and the seat had one turn there, and
-- has seen that shard's history with what the call added
abbrev pub after_call : Seated → List Request → Request → Reply → Seated
after_call seat before request reply = record {
  first = seat.first + rise_of 0 (shard_of (key_of request)) reply;
  second = seat.second + rise_of 1 (shard_of (key_of request)) reply;
  notes = seat.notes ++ notes_of_call seat.keeps_all request reply;
  keeps_all = seat.keeps_all;
  first_seen = seen_after 0 (shard_of (key_of request)) before request reply seat.first_seen;
  second_seen = seen_after 1 (shard_of (key_of request)) before request reply seat.second_seen;
  first_turns = turns_after 0 (shard_of (key_of request)) seat.first_turns;
  second_turns = turns_after 1 (shard_of (key_of request)) seat.second_turns;
}

-- a call of a seat, which has one turn at the vehicle's shard: the reply is the answer after a
-- history `before` of the shard, which begins with all that the seat had seen of it; the seat has
-- then seen that history, with its own request at the end where it was accepted
pub record IsCalled (tables : Tables) (old : Seated) (request : Request) (reply : Reply)
    (new : Seated) : Type 0 where
  pub before : List Request
  pub seen : IsPrefix (seen_in old (shard_of (key_of request))) before
  pub lawful : IsLawful tables before
  pub of_shard : AreOfShard (shard_of (key_of request)) before
  pub answer : Answers tables before request reply
  pub seat : new ≡ after_call old before request reply

-- the seat after a turn at the shard of this number, whose history it has then seen
abbrev pub after_sight : Seated → ℕ → List Request → Seated
after_sight seat number before = record {
  first = seat.first;
  second = seat.second;
  notes = seat.notes;
  keeps_all = seat.keeps_all;
  first_seen = if 0 == number then before else seat.first_seen;
  second_seen = if 1 == number then before else seat.second_seen;
  first_turns = turns_after 0 number seat.first_turns;
  second_turns = turns_after 1 number seat.second_turns;
}

-- a list of a vehicle's events for a seat, which has one turn at its shard: they are those of a
-- history `before` of the shard, which begins with all that the seat had seen of it; the seat has
-- then seen that history
pub record IsListed (tables : Tables) (old : Seated) (key : Key) (found : Option (List Reported))
    (new : Seated) : Type 0 where
  pub before : List Request
  pub seen : IsPrefix (seen_in old (shard_of key)) before
  pub lawful : IsLawful tables before
  pub of_shard : AreOfShard (shard_of key) before
  pub events : found ≡ events_in before key
  pub seat : new ≡ after_sight old (shard_of key) before

-- the request is a look
abbrev pub is_look : Request → Bool
is_look (Register key) = false
is_look (Report event) = false
is_look (Look key) = true
