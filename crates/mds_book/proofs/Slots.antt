-- How the history of a shard of a book goes on, and its log with it.
use Rattle.std.proofs.Common.{◌≡◌, ℕ, ◌+◌, List, [], ◌∷◌, length, refl, ap, sym, subst, ◌∙◌, arith, length-append, Result, Ok, Err, IfOk}
use Rattle.std.proofs.lemmas.List.{map-append}
use Rattle.std.proofs.lemmas.List.Elements.{All-push}
use Rattle.mds_table.specs.Tables.{Tables}
use Rattle.mds_core.specs.declared.request.Request.{Request}
use Rattle.mds_core.specs.declared.reply.Reply.{Reply}
use Rattle.mds_core.specs.declared.reply.Outcome.{Outcome}
use Rattle.mds_core.specs.declared.reply.Outcome.TheVariants.{Done, Seen, Refused}
use Rattle.mds_core.specs.History.{key_of}
use Rattle.mds_core.specs.Headline.{is_done}
use Rattle.mds_core.specs.Machine.{Machine, Steps}
use Rattle.mds_core.specs.Answer.{Answers, next}
use Rattle.mds_core.specs.Lawful.{IsLawful}
use Rattle.mds_log.specs.Log.{Acceptance, requests}
use Rattle.mds_book.specs.Shards.{shard_of, AreOfShard, count_of}
use Rattle.mds_book.specs.Books.{IsShardOf}
use Rattle.mds_book.specs.Sights.{Parted, log_after, rules_in}
use Rattle.mds_book.specs.Turns.{IsShown, IsStepped}
use Rattle.std.specs.declared.alloc.AllocError.{AllocError}

-- it is longer by one where a request was accepted
pub length-next : (history : List Request) (request : Request) (outcome : Outcome) → length (next history request outcome) ≡ length history + count_of outcome
length-next history request Done = length-append history (request ∷ [])
length-next history request (Seen standing) = omega arith
length-next history request (Refused refusal) = omega arith

-- its vehicles stay those of the shard
pub of_shard_next : (number : ℕ) (history : List Request) (request : Request) (outcome : Outcome) → AreOfShard number history → shard_of (key_of request) ≡ number
    → AreOfShard number (next history request outcome)
of_shard_next number history request Done all is = All-push (λ r. shard_of (key_of r) ≡ number) history request all is
of_shard_next number history request (Seen standing) all is = all
of_shard_next number history request (Refused refusal) all is = all

-- the log after a call asks for the history after it
pub requests_after : (log : List Acceptance) (mark : ℕ) (request : Request) (outcome : Outcome)
    → requests (log_after log mark request (is_done outcome)) ≡ next (requests log) request outcome
requests_after log mark request Done = map-append (λ (one : Acceptance). one.request) log (record { tag = mark; request = request } ∷ [])
requests_after log mark request (Seen standing) = refl
requests_after log mark request (Refused refusal) = refl

-- what stands behind a lock stays so by a step
pub slot_next : (tables : Tables) (number : ℕ) (old new : Machine) (total grown : ℕ) (log longer : List Acceptance) (mark : ℕ) (request : Request) (reply : Reply)
    → Steps old request reply new → old.tables ≡ tables → AreOfShard number old.history → total ≡ length old.history → requests log ≡ old.history
    → shard_of (key_of request) ≡ number → grown ≡ total + count_of reply.outcome → longer ≡ log_after log mark request (is_done reply.outcome)
    → (new.tables ≡ tables) × AreOfShard number new.history × (grown ≡ length new.history) × (requests longer ≡ new.history)
slot_next tables number old new total grown log longer mark request reply step is all counted whole here more goes_on =
    let of_shard : AreOfShard number (next old.history request reply.outcome) = of_shard_next number old.history request reply.outcome all here in
    let long : length new.history ≡ length (next old.history request reply.outcome) = ap length step.history in
    let asked : requests longer ≡ next (requests log) request reply.outcome =
    ap (λ (w : List Acceptance). requests w) goes_on ∙ requests_after log mark request reply.outcome in
    let same : next (requests log) request reply.outcome ≡ next old.history request reply.outcome = ap (λ (w : List Request). next w request reply.outcome) whole in (
      step.tables ∙ is,
      subst (AreOfShard number) (sym step.history) of_shard,
      omega (arith, long, length-next old.history request reply.outcome),
      asked ∙ (same ∙ sym step.history),
    )

-- what a slot's step tells is what the shard behind its lock answers
stepped_of : {tables : Tables} {number : ℕ} {old new : Parted} {before after : Machine} {request : Request} {reply : Reply}
    → IsShardOf tables number before → Steps before request reply after → IsShown old before.history request reply new
    → IsStepped (rules_in tables number) old request reply new
stepped_of {tables} {number} {old} {new} {before} {after} {request} {reply} is step shown =
    let Lawful : Tables → Type 0 = λ t. IsLawful t before.history in
    let Answer : Tables → Type 0 = λ t. Answers t before.history request reply in
    let LawfulIn : List Request → Type 0 = λ w. IsLawful tables w in
    let AnswerIn : List Request → Type 0 = λ w. Answers tables w request reply in
    record {
      log = shown.log;
      lawful = subst LawfulIn (sym shown.whole) (subst Lawful is.over is.lawful);
      of_shard = subst (AreOfShard number) (sym shown.whole) is.of_shard;
      answer = subst AnswerIn (sym shown.whole) (subst Answer is.over step.answer);
      called = shown.called;
    }

pub stepped_if : {tables : Tables} {number : ℕ} {before : Machine} (old new : Parted) (after : Machine) (request : Request) (result : Result Reply AllocError)
    → IsShardOf tables number before → IfOk result (λ reply. Steps before request reply after) → IfOk result (λ reply. IsShown old before.history request reply new)
    → IfOk result (λ reply. IsStepped (rules_in tables number) old request reply new)
stepped_if old new after request (Ok reply) is step shown = stepped_of is step shown
stepped_if old new after request (Err error) is step shown = tt

-- the lemmas on the history, for a search
pub ruleset slot_steps = (length-next, of_shard_next)
