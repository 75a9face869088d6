-- What becomes of each request of a run, by its place in the list.
use Rattle.std.specs.Prelude.{◌≡◌, ◌≢◌, ◌↔◌, ℕ, List, [], length, take, map}
use Rattle.std.specs.Prelude.{filter, Some, slice_get, Bool, true, false}
use Rattle.std.specs.List.{zip}
use Rattle.mds_table.specs.Tables.{Tables}
use Rattle.mds_core.specs.declared.request.Request.{Request}
use Rattle.mds_core.specs.declared.request.Request.TheVariants.{Register, Report, Look}
use Rattle.mds_core.specs.declared.reply.Outcome.{Outcome}
use Rattle.mds_core.specs.declared.reply.Outcome.TheVariants.{Done, Seen, Refused}
use Rattle.mds_core.specs.declared.reply.Reply.{Reply}
use Rattle.mds_core.specs.History.{requests_of}
use Rattle.mds_core.specs.Answer.{IsAcceptable}

-- a request was answered Done
abbrev pub is_done : Outcome → Bool
is_done Done = true
is_done (Seen standing) = false
is_done (Refused refusal) = false

-- of requests with their replies, the requests that were answered Done, in their order
abbrev pub done_of : List (Request × Reply) → List Request
done_of answered = map (λ one. one.0) (filter (λ one. is_done one.1.outcome) answered)

-- with what was answered Done before: a registration is Done exactly where there is nothing of its
-- vehicle, an event exactly where it is acceptable to its vehicle's own list, and a look never
abbrev pub IsDoneExactly : Tables → List Request → Request → Outcome → Type 0
IsDoneExactly tables before (Register key) outcome =
    (outcome ≡ Done) ↔ (requests_of before key ≡ [])
IsDoneExactly tables before (Report event) outcome =
    (outcome ≡ Done) ↔ IsAcceptable tables (requests_of before event.key) event
IsDoneExactly tables before (Look key) outcome = outcome ≢ Done

-- so it is at each place of a list of requests, and the history is the requests answered Done
pub record AcceptsExactly (tables : Tables) (requests : List Request) (replies : List Reply)
    (history : List Request) : Type 0 where
  pub count : length replies ≡ length requests
  pub each : (i : ℕ) (request : Request) (reply : Reply)
      → slice_get (zip requests replies) i ≡ Some (request, reply)
      → IsDoneExactly tables (done_of (take i (zip requests replies))) request reply.outcome
  pub left : history ≡ done_of (zip requests replies)
