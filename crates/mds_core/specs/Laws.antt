-- What holds of the answers, the histories and the runs.
use Rattle.std.specs.Prelude.{◌≡◌, ◌⊎◌, ◌++◌, List, [], map, filter, false}
use Rattle.std.specs.List.{All, zip}
use Rattle.mds_table.specs.Tables.{Tables}
use Rattle.mds_core.specs.declared.key.Key.{Key}
use Rattle.mds_core.specs.declared.request.Request.{Request}
use Rattle.mds_core.specs.declared.request.Request.TheVariants.{Report}
use Rattle.mds_core.specs.declared.reply.Outcome.{Outcome}
use Rattle.mds_core.specs.declared.reply.Outcome.TheVariants.{Done}
use Rattle.mds_core.specs.declared.reply.Reply.{Reply}
use Rattle.mds_core.specs.Reported.{Reported}
use Rattle.mds_core.specs.History.{key_of, requests_of, same_key, state_of}
use Rattle.mds_core.specs.Answer.{Answers, IsOutcomeFor, next}
use Rattle.mds_core.specs.Run.{IsRun}
use Rattle.mds_core.specs.Lawful.{IsLawful}
use Rattle.mds_core.specs.Headline.{AcceptsExactly, IsDoneExactly}

-- a request has one outcome, by the accepted requests of its vehicle alone
abbrev pub DependsOnOwn : Type 0
DependsOnOwn =
    (tables : Tables) (history other : List Request) (request : Request) (a b : Reply)
    → requests_of history (key_of request) ≡ requests_of other (key_of request)
    → Answers tables history request a → Answers tables other request b
    → a.outcome ≡ b.outcome

-- a request has one answer
abbrev pub AnswersAreOne : Type 0
AnswersAreOne =
    (tables : Tables) (history : List Request) (request : Request) (a b : Reply)
    → Answers tables history request a → Answers tables history request b → a ≡ b

-- an answer has an outcome that there is for such a request
abbrev pub AnswersAreOfTheirKind : Type 0
AnswersAreOfTheirKind =
    (tables : Tables) (history : List Request) (request : Request) (reply : Reply)
    → Answers tables history request reply → IsOutcomeFor request reply.outcome

-- an answer is Done exactly where the request is acceptable after the history
abbrev pub AnswersAcceptExactly : Type 0
AnswersAcceptExactly =
    (tables : Tables) (history : List Request) (request : Request) (reply : Reply)
    → Answers tables history request reply → IsDoneExactly tables history request reply.outcome

-- a list of requests has one run
abbrev pub RunsAreOne : Type 0
RunsAreOne =
    (tables : Tables) (old requests : List Request) (a b : List Reply) (new other : List Request)
    → IsRun tables old requests a new → IsRun tables old requests b other → (a ≡ b) × (new ≡ other)

-- a request changes the own list of no other vehicle
abbrev pub KeepsOthers : Type 0
KeepsOthers =
    (history : List Request) (request : Request) (reply : Reply) (key : Key)
    → same_key (key_of request) key ≡ false
    → requests_of (next history request reply.outcome) key ≡ requests_of history key

-- the history that a run leaves is lawful
abbrev pub RunsAreLawful : Type 0
RunsAreLawful =
    (tables : Tables) (requests : List Request) (replies : List Reply) (new : List Request)
    → IsRun tables [] requests replies new → IsLawful tables new

-- lawful histories with no vehicle in common are lawful one after the other
abbrev pub JoinsApart : Type 0
JoinsApart =
    (tables : Tables) (first second : List Request)
    → IsLawful tables first → IsLawful tables second
    → ((key : Key) → (requests_of first key ≡ []) ⊎ (requests_of second key ≡ []))
    → IsLawful tables (first ++ second)

-- a run from nothing accepts exactly what is acceptable, place by place, and leaves what it
-- accepted
abbrev pub RunsAcceptExactly : Type 0
RunsAcceptExactly =
    (tables : Tables) (requests : List Request) (replies : List Reply) (new : List Request)
    → IsRun tables [] requests replies new → AcceptsExactly tables requests replies new

-- a run from nothing in which each request is answered Done, so that it leaves the requests
-- themselves, and accepts exactly what is acceptable
pub record IsRunOfItself (tables : Tables) (history : List Request) : Type 0 where
  pub replies : List Reply
  pub run : IsRun tables [] history replies history
  pub done : All (λ reply. reply.outcome ≡ Done) replies
  pub exactly : AcceptsExactly tables history replies history

-- every lawful history is a run of itself
abbrev pub LawfulHistoriesRun : Type 0
LawfulHistoriesRun =
    (tables : Tables) (history : List Request)
    → IsLawful tables history → IsRunOfItself tables history

-- once an event is accepted, its vehicle holds the state that it reports
abbrev pub HoldsReported : Type 0
HoldsReported =
    (history : List Request) (event : Reported)
    → state_of (requests_of (next history (Report event) Done) event.key) ≡ event.state

-- the outcomes of a vehicle's requests, in their order
abbrev pub outcomes_of : Key → List (Request × Reply) → List Outcome
outcomes_of key answered =
    map (λ one. one.1.outcome) (filter (λ one. same_key (key_of one.0) key) answered)

-- two runs from nothing whose requests of a vehicle are the same, in the same order, give it the
-- same outcomes and the same own list, whatever stands between
abbrev pub SchedulesAgree : Type 0
SchedulesAgree =
    (tables : Tables) (key : Key) (requests others : List Request)
    (replies answers : List Reply) (new other : List Request)
    → requests_of requests key ≡ requests_of others key
    → IsRun tables [] requests replies new → IsRun tables [] others answers other
    → (outcomes_of key (zip requests replies) ≡ outcomes_of key (zip others answers))
    × (requests_of new key ≡ requests_of other key)
