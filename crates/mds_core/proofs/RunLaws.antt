-- What holds of whole runs.
use Rattle.std.proofs.Common.{◌≡◌, ℕ, suc, zero, List, [], ◌∷◌, ◌++◌, length, take, map, filter, Some, slice_get, Bool, true, false, cond, append_assoc, refl, sym, ◌∙◌, ap, subst}
use Rattle.std.specs.List.{All, zip}
use Rattle.std.proofs.lemmas.List.{append-nil}
use Rattle.std.proofs.lemmas.List.Elements.{All-nil, All-cons}
use Rattle.mds_table.specs.Tables.{Tables}
use Rattle.mds_core.specs.declared.key.Key.{Key}
use Rattle.mds_core.specs.declared.request.Request.{Request}
use Rattle.mds_core.specs.declared.request.Request.TheVariants.{Register, Report, Look}
use Rattle.mds_core.specs.declared.reply.Outcome.{Outcome}
use Rattle.mds_core.specs.declared.reply.Outcome.TheVariants.{Done, Seen, Refused}
use Rattle.mds_core.specs.declared.reply.Reply.{Reply}
use Rattle.mds_core.specs.Reported.{Reported}
use Rattle.mds_core.specs.History.{requests_of, key_of, same_key, state_of}
use Rattle.mds_core.specs.Answer.{Answers, Gives, next}
use Rattle.mds_core.specs.Run.{IsRun}
use Rattle.mds_core.specs.Lawful.{IsLawful}
use Rattle.mds_core.specs.Headline.{is_done, done_of, IsDoneExactly, AcceptsExactly}
use Rattle.mds_core.specs.Laws.{outcomes_of, IsRunOfItself}
use Rattle.mds_core.proofs.Standings.{state_of-push}
use Rattle.mds_core.proofs.Outcomes.{answer_one, outcome_one}
use Rattle.mds_core.proofs.Histories.{entry_gives, lawful_next, requests_of-next_other, requests_of-next_same, requests_of-push_same, same_key_is, same_key_refl}

-- a run from a lawful history leaves a lawful one
lawful_after : (tables : Tables) (old requests : List Request) (replies : List Reply) (new : List Request) → IsLawful tables old → IsRun tables old requests replies new → IsLawful tables new
lawful_after tables old [] [] new lawful run = rw run lawful
lawful_after tables old (request ∷ requests) (reply ∷ replies) new lawful run =
    lawful_after tables (next old request reply.outcome) requests replies new (lawful_next tables old request reply.outcome lawful run.0.outcome) run.1
lawful_after tables old [] (reply ∷ replies) new lawful run = absurd run
lawful_after tables old (request ∷ requests) [] new lawful run = absurd run

pub lawful_runs : (tables : Tables) (requests : List Request) (replies : List Reply) (new : List Request) → IsRun tables [] requests replies new → IsLawful tables new
lawful_runs tables requests replies new run = lawful_after tables [] requests replies new (λ key. tt) run

pub one_run : (tables : Tables) (old requests : List Request) (a b : List Reply) (new other : List Request)
    → IsRun tables old requests a new → IsRun tables old requests b other → (a ≡ b) × (new ≡ other)
one_run tables old [] [] [] new other first second = (refl, first ∙ sym second)
one_run tables old [] [] (b ∷ bs) new other first second = absurd second
one_run tables old [] (a ∷ rest) b new other first second = absurd first
one_run tables old (request ∷ requests) [] b new other first second = absurd first
one_run tables old (request ∷ requests) (a ∷ rest) [] new other first second = absurd second
one_run tables old (request ∷ requests) (a ∷ rest) (b ∷ others) new other first second =
    let same = answer_one tables old request a b first.0 second.0 in
    let P : Reply → Type 0 = λ reply. IsRun tables (next old request reply.outcome) requests others other in
    let tail = one_run tables (next old request a.outcome) requests rest others new other first.1 (subst P (sym same) second.1) in
    ((λ i. same i ∷ tail.0 i), tail.1)

-- a run has a reply to each request
pub run_length : (tables : Tables) (old requests : List Request) (replies : List Reply) (new : List Request) → IsRun tables old requests replies new
    → length replies ≡ length requests
run_length tables old [] [] new is = refl
run_length tables old [] (reply ∷ replies) new is = absurd is
run_length tables old (request ∷ requests) [] new is = absurd is
run_length tables old (request ∷ requests) (reply ∷ replies) new is = ap suc (run_length tables (next old request reply.outcome) requests replies new is.1)

-- with what was answered Done before, a request is Done exactly where the answer says so
done_exactly : (tables : Tables) (before : List Request) (request : Request) (outcome : Outcome) → Gives tables (requests_of before (key_of request)) request outcome
    → IsDoneExactly tables before request outcome
done_exactly tables before (Register key) outcome gives =
    let P : Outcome → Type 0 = λ o. Gives tables (requests_of before key) (Register key) o in
    (λ done. subst P done gives, λ none. outcome_one tables (requests_of before key) (Register key) outcome Done gives none)
done_exactly tables before (Report event) outcome gives =
    let P : Outcome → Type 0 = λ o. Gives tables (requests_of before event.key) (Report event) o in (
      λ done. subst P done gives,
      λ may. outcome_one tables (requests_of before event.key) (Report event) outcome Done gives may,
    )
done_exactly tables before (Look key) outcome gives =
    let P : Outcome → Type 0 = λ o. Gives tables (requests_of before key) (Look key) o in
    λ done. subst P done gives

-- so it is of an answer
pub answer_exactly : (tables : Tables) (history : List Request) (request : Request) (reply : Reply) → Answers tables history request reply
    → IsDoneExactly tables history request reply.outcome
answer_exactly tables history request reply answers = done_exactly tables history request reply.outcome answers.outcome

-- the next history, and then what was answered Done of the rest
next-done_of : (old : List Request) (request : Request) (reply : Reply) (rest : List (Request × Reply))
    → old ++ done_of ((request, reply) ∷ rest) ≡ next old request reply.outcome ++ done_of rest
next-done_of old request reply rest = by_outcome reply.outcome where
  by_outcome : (outcome : Outcome) → old ++ map (λ one. one.0) (cond (is_done outcome) ((request, reply) ∷ filter (λ one. is_done one.1.outcome) rest) (filter (λ one. is_done one.1.outcome) rest)) ≡ next old request outcome ++ done_of rest
  by_outcome Done = sym (append_assoc old (request ∷ []) (done_of rest))
  by_outcome (Seen standing) = refl
  by_outcome (Refused refusal) = refl

-- in a run from an old history, each request is Done exactly where it is acceptable after that history and what was Done since
each_exactly : (tables : Tables) (old requests : List Request) (replies : List Reply) (new : List Request) → IsRun tables old requests replies new
    → (i : ℕ) (request : Request) (reply : Reply) → slice_get (zip requests replies) i ≡ Some (request, reply)
    → IsDoneExactly tables (old ++ done_of (take i (zip requests replies))) request reply.outcome
each_exactly tables old [] replies new run i request reply is = cc
each_exactly tables old (first ∷ requests) [] new run i request reply is = absurd run
each_exactly tables old (first ∷ requests) (told ∷ replies) new run zero request reply is =
    let pair : (first, told) ≡ (request, reply) = cc in
    let P : Request × Reply → Type 0 = λ one. IsDoneExactly tables (old ++ []) one.0 one.1.outcome in
    subst P pair (rw append-nil (done_exactly tables old first told.outcome run.0.outcome))
each_exactly tables old (first ∷ requests) (told ∷ replies) new run (suc i) request reply is =
    let P : List Request → Type 0 = λ before. IsDoneExactly tables before request reply.outcome in
    subst P (sym (next-done_of old first told (take i (zip requests replies))))
    (each_exactly tables (next old first told.outcome) requests replies new run.1 i request reply is)

-- a run from an old history leaves it with what was Done behind it
history_exactly : (tables : Tables) (old requests : List Request) (replies : List Reply) (new : List Request) → IsRun tables old requests replies new
    → new ≡ old ++ done_of (zip requests replies)
history_exactly tables old [] [] new run = run ∙ sym (append-nil old)
history_exactly tables old [] (reply ∷ replies) new run = absurd run
history_exactly tables old (request ∷ requests) [] new run = absurd run
history_exactly tables old (request ∷ requests) (reply ∷ replies) new run =
    history_exactly tables (next old request reply.outcome) requests replies new run.1 ∙ sym (next-done_of old request reply (zip requests replies))

pub accepts_exactly : (tables : Tables) (requests : List Request) (replies : List Reply) (new : List Request) → IsRun tables [] requests replies new
    → AcceptsExactly tables requests replies new
accepts_exactly tables requests replies new run = record {
  count = run_length tables [] requests replies new run;
  each = each_exactly tables [] requests replies new run;
  left = history_exactly tables [] requests replies new run;
}

-- the rest of a lawful history runs on from the entries before it, and each request is answered Done
runs_on : (tables : Tables) (before rest : List Request) → IsLawful tables (before ++ rest)
    → (replies : List Reply) × IsRun tables before rest replies (before ++ rest) × All (λ reply. reply.outcome ≡ Done) replies
runs_on tables before [] lawful = ([], append-nil before, All-nil (λ reply. reply.outcome ≡ Done))
runs_on tables before (request ∷ rest) lawful =
    let reply : Reply = record { place = length before; outcome = Done } in
    let P : List Request → Type 0 = λ history. IsLawful tables history in
    let same : (before ++ request ∷ []) ++ rest ≡ before ++ request ∷ rest = append_assoc before (request ∷ []) rest in
    let later = runs_on tables (before ++ request ∷ []) rest (subst P (sym same) lawful) in
    let Q : List Request → Type 0 = λ history. IsRun tables (before ++ request ∷ []) rest later.0 history in (
      reply ∷ later.0,
      (record { place = refl; outcome = entry_gives tables before request rest lawful }, subst Q same later.1),
      All-cons (λ reply. reply.outcome ≡ Done) reply later.0 refl later.2,
    )

-- every lawful history is a run of itself
pub run_of_itself : (tables : Tables) (history : List Request) → IsLawful tables history → IsRunOfItself tables history
run_of_itself tables history lawful =
    let ran = runs_on tables [] history lawful in
    record { replies = ran.0; run = ran.1; done = ran.2; exactly = accepts_exactly tables history ran.0 history ran.1 }

-- a run of the requests of one vehicle, by its own list alone
IsOwnRun : Tables → List Request → List Request → List Outcome → List Request → Type 0
IsOwnRun tables old [] [] new = new ≡ old
IsOwnRun tables old (request ∷ requests) (outcome ∷ outcomes) new = Gives tables old request outcome × IsOwnRun tables (next old request outcome) requests outcomes new
IsOwnRun tables old [] (outcome ∷ outcomes) new = ⊥
IsOwnRun tables old (request ∷ requests) [] new = ⊥

-- it has one end
one_own_run : (tables : Tables) (old requests : List Request) (a b : List Outcome) (new other : List Request)
    → IsOwnRun tables old requests a new → IsOwnRun tables old requests b other → (a ≡ b) × (new ≡ other)
unfolding IsOwnRun
one_own_run tables old [] [] [] new other first second = (refl, first ∙ sym second)
one_own_run tables old [] [] (b ∷ bs) new other first second = absurd second
one_own_run tables old [] (a ∷ rest) b new other first second = absurd first
one_own_run tables old (request ∷ requests) [] b new other first second = absurd first
one_own_run tables old (request ∷ requests) (a ∷ rest) [] new other first second = absurd second
one_own_run tables old (request ∷ requests) (a ∷ rest) (b ∷ others) new other first second =
    let same = outcome_one tables old request a b first.0 second.0 in
    let P : Outcome → Type 0 = λ outcome. IsOwnRun tables (next old request outcome) requests others other in
    let tail = one_own_run tables (next old request a) requests rest others new other first.1 (subst P (sym same) second.1) in
    ((λ i. same i ∷ tail.0 i), tail.1)

-- what a run does for one vehicle is a run of its own requests
narrowed : (tables : Tables) (key : Key) (old requests : List Request) (replies : List Reply) (new : List Request) → IsRun tables old requests replies new
    → IsOwnRun tables (requests_of old key) (requests_of requests key) (outcomes_of key (zip requests replies)) (requests_of new key)
unfolding IsOwnRun
narrowed tables key old [] [] new run = ap (λ history. requests_of history key) run
narrowed tables key old [] (reply ∷ replies) new run = absurd run
narrowed tables key old (request ∷ requests) [] new run = absurd run
narrowed tables key old (request ∷ requests) (reply ∷ replies) new run =
    by_key (same_key (key_of request) key) refl (narrowed tables key (next old request reply.outcome) requests replies new run.1) where
      theirs : List (Request × Reply)
      theirs = filter (λ one. same_key (key_of one.0) key) (zip requests replies)

      by_key : (b : Bool) → same_key (key_of request) key ≡ b
          → IsOwnRun tables (requests_of (next old request reply.outcome) key) (requests_of requests key) (outcomes_of key (zip requests replies)) (requests_of new key)
          → IsOwnRun tables (requests_of old key) (cond b (request ∷ requests_of requests key) (requests_of requests key)) (map (λ one. one.1.outcome) (cond b ((request, reply) ∷ theirs) theirs)) (requests_of new key)
      by_key false other rest =
          let P : List Request → Type 0 = λ before. IsOwnRun tables before (requests_of requests key) (outcomes_of key (zip requests replies)) (requests_of new key) in
          subst P (requests_of-next_other old request reply.outcome key other) rest
      by_key true same rest =
          let P : List Request → Type 0 = λ before. IsOwnRun tables before (requests_of requests key) (outcomes_of key (zip requests replies)) (requests_of new key) in
          let Q : Key → Type 0 = λ k. Gives tables (requests_of old k) request reply.outcome in
          (subst Q (same_key_is (key_of request) key same) run.0.outcome, subst P (requests_of-next_same old request reply.outcome key same) rest)

pub agreed : (tables : Tables) (key : Key) (requests others : List Request) (replies answers : List Reply) (new other : List Request)
    → requests_of requests key ≡ requests_of others key → IsRun tables [] requests replies new → IsRun tables [] others answers other
    → (outcomes_of key (zip requests replies) ≡ outcomes_of key (zip others answers)) × (requests_of new key ≡ requests_of other key)
agreed tables key requests others replies answers new other same first second =
    let P : List Request → Type 0 = λ asked. IsOwnRun tables [] asked (outcomes_of key (zip others answers)) (requests_of other key) in
    one_own_run tables [] (requests_of requests key) (outcomes_of key (zip requests replies)) (outcomes_of key (zip others answers)) (requests_of new key) (requests_of other key)
    (narrowed tables key [] requests replies new first) (subst P (sym same) (narrowed tables key [] others answers other second))

-- after an accepted event a vehicle holds the state that it reports
pub reported_held : (history : List Request) (event : Reported) → state_of (requests_of (next history (Report event) Done) event.key) ≡ event.state
reported_held history event = rw (requests_of-push_same history (Report event) event.key (same_key_refl event.key)) (state_of-push (requests_of history event.key) event)
