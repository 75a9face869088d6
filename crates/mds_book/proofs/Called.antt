-- What a call tells a seat of its shard, and how the seat stays true to both shards.
use Rattle.std.proofs.Common.{◌≡◌, ◌≢◌, ℕ, ◌+◌, ◌++◌, List, sym, ap, ◌∙◌, subst, arith, add-zero}
use mathlib.Core.List.{IsPrefix}
use Rattle.mds_table.specs.Tables.{Tables}
use Rattle.mds_core.specs.declared.request.Request.{Request}
use Rattle.mds_core.specs.declared.reply.Reply.{Reply}
use Rattle.mds_core.specs.History.{key_of}
use Rattle.mds_core.specs.Lawful.{IsLawful}
use Rattle.mds_core.specs.Answer.{Answers, next}
use Rattle.mds_log.specs.Log.{Acceptance, requests}
use Rattle.mds_book.specs.Shards.{shard_of, AreOfShard, count_of}
use Rattle.mds_book.specs.Seats.{Seated, notes_of_call, rise_of, seen_after, seen_in, turns_after, IsCalled}
use Rattle.mds_book.specs.Sights.{Parted, ShardRules, next_turn, rules_in}
use Rattle.mds_book.specs.Turns.{IsStepped}
use Rattle.mds_book.proofs.Slots.{requests_after}
use Rattle.mds_book.proofs.Trues.{requests_prefix}

-- what a seat has seen of a shard after its own call there
pub seen_after_step : {rules : ShardRules} {old new : Parted} {request : Request} {reply : Reply} → (step : IsStepped rules old request reply new)
    → requests new.sight.seen ≡ next (requests step.log) request reply.outcome
seen_after_step {rules} {old} {new} {request} {reply} step =
    ap (λ (w : List Acceptance). requests w) step.called.goes_on ∙ requests_after step.log old.mark request reply.outcome

-- a seat after a call in the shard of this number, whose history was `before`
abbrev pub called_seat : ℕ → Seated → List Request → Request → Reply → Seated
called_seat number seat before request reply = record {
  first = seat.first + rise_of 0 number reply;
  second = seat.second + rise_of 1 number reply;
  notes = seat.notes ++ notes_of_call seat.keeps_all request reply;
  keeps_all = seat.keeps_all;
  first_seen = seen_after 0 number before request reply seat.first_seen;
  second_seen = seen_after 1 number before request reply seat.second_seen;
  first_turns = turns_after 0 number seat.first_turns;
  second_turns = turns_after 1 number seat.second_turns;
}

-- a call in the shard of this number
called_in : {known : Tables} {rules : ShardRules} {old new : Seated} {part after : Parted} {request : Request} {reply : Reply}
    → known ≡ rules.tables → shard_of (key_of request) ≡ rules.number → (step : IsStepped rules part request reply after) → seen_in old rules.number ≡ requests part.sight.seen
    → new ≡ called_seat rules.number old (requests step.log) request reply → IsCalled known old request reply new
called_in {known} {rules} {old} {new} {part} {after} {request} {reply} is here step saw seat =
    let before : List Request = requests step.log in
    let IsLawfulBy : Tables → Type 0 = λ t. IsLawful t before in
    let AnswersBy : Tables → Type 0 = λ t. Answers t before request reply in
    let IsSeen : List Request → Type 0 = λ w. IsPrefix w before in
    let SeenIn : ℕ → Type 0 = λ n. IsPrefix (seen_in old n) before in
    let OfShard : ℕ → Type 0 = λ n. AreOfShard n before in
    let SeatIn : ℕ → Type 0 = λ n. new ≡ called_seat n old before request reply in
    record {
      before = before;
      seen = subst SeenIn (sym here) (subst IsSeen (sym saw) (requests_prefix part.sight.seen step.log step.called.seen));
      lawful = subst IsLawfulBy (sym is) step.lawful;
      of_shard = subst OfShard (sym here) step.of_shard;
      answer = subst AnswersBy (sym is) step.answer;
      seat = subst SeatIn (sym here) seat;
    }

-- a call in the first shard, of a seat that has this part of it
pub called_first : {known tables : Tables} {old new : Seated} {part after : Parted} {request : Request} {reply : Reply}
    → known ≡ tables → shard_of (key_of request) ≡ 0 → (step : IsStepped (rules_in tables 0) part request reply after)
    → part.count ≡ old.first → part.sight.turns ≡ old.first_turns → requests part.sight.seen ≡ old.first_seen
    → new.first ≡ after.count → new.first_turns ≡ after.sight.turns → new.first_seen ≡ requests after.sight.seen
    → new.second ≡ old.second → new.notes ≡ old.notes ++ notes_of_call old.keeps_all request reply → new.keeps_all ≡ old.keeps_all
    → new.second_seen ≡ old.second_seen → new.second_turns ≡ old.second_turns → IsCalled known old request reply new
called_first {known} {tables} {old} {new} {part} {after} {request} {reply} is here step counted turned saw count turns sees second notes keeps other waits =
    let first_is : new.first ≡ old.first + count_of reply.outcome = count ∙ (step.called.count ∙ ap (λ (n : ℕ). n + count_of reply.outcome) counted) in
    let second_is : new.second ≡ old.second + 0 = second ∙ sym (add-zero old.second) in
    let turns_is : new.first_turns ≡ next_turn old.first_turns = turns ∙ (step.called.turn ∙ ap next_turn turned) in
    let seen_is : new.first_seen ≡ next (requests step.log) request reply.outcome = sees ∙ seen_after_step step in
    called_in is here step (sym saw) (λ i. record {
      first = first_is i;
      second = second_is i;
      notes = notes i;
      keeps_all = keeps i;
      first_seen = seen_is i;
      second_seen = other i;
      first_turns = turns_is i;
      second_turns = waits i;
    })

-- a call in the second shard
pub called_second : {known tables : Tables} {old new : Seated} {part after : Parted} {request : Request} {reply : Reply}
    → known ≡ tables → shard_of (key_of request) ≡ 1 → (step : IsStepped (rules_in tables 1) part request reply after)
    → part.count ≡ old.second → part.sight.turns ≡ old.second_turns → requests part.sight.seen ≡ old.second_seen
    → new.second ≡ after.count → new.second_turns ≡ after.sight.turns → new.second_seen ≡ requests after.sight.seen
    → new.first ≡ old.first → new.notes ≡ old.notes ++ notes_of_call old.keeps_all request reply → new.keeps_all ≡ old.keeps_all
    → new.first_seen ≡ old.first_seen → new.first_turns ≡ old.first_turns → IsCalled known old request reply new
called_second {known} {tables} {old} {new} {part} {after} {request} {reply} is here step counted turned saw count turns sees first notes keeps other waits =
    let first_is : new.first ≡ old.first + 0 = first ∙ sym (add-zero old.first) in
    let second_is : new.second ≡ old.second + count_of reply.outcome = count ∙ (step.called.count ∙ ap (λ (n : ℕ). n + count_of reply.outcome) counted) in
    let turns_is : new.second_turns ≡ next_turn old.second_turns = turns ∙ (step.called.turn ∙ ap next_turn turned) in
    let seen_is : new.second_seen ≡ next (requests step.log) request reply.outcome = sees ∙ seen_after_step step in
    called_in is here step (sym saw) (λ i. record {
      first = first_is i;
      second = second_is i;
      notes = notes i;
      keeps_all = keeps i;
      first_seen = other i;
      second_seen = seen_is i;
      first_turns = waits i;
      second_turns = turns_is i;
    })

-- one shard isn't the other
pub not_one : (number : ℕ) → number ≡ 0 → number ≢ 1
not_one number zero one = omega arith

pub not_zero : (number : ℕ) → number ≡ 1 → number ≢ 0
not_zero number one zero = omega arith
