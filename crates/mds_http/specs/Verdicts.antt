-- What is said of the items of a POST: replies stand for the items that aren't faults, in turn.
use Rattle.std.specs.Prelude.{ℕ, List, [], ◌∷◌, Option, Some, None, option_map}
use Rattle.std.specs.List.{filter_map, enumerate_from}
use Rattle.mds_core.specs.declared.reply.Outcome.{Outcome}
use Rattle.mds_core.specs.declared.reply.Outcome.TheVariants.{Done, Seen, Refused}
use Rattle.mds_core.specs.declared.reply.Reply.{Reply}
use Rattle.mds_batch.specs.declared.item.ItemFault.{ItemFault}
use Rattle.mds_http.specs.declared.response.failure.Cause.{Cause}
use Rattle.mds_http.specs.declared.response.failure.Cause.TheVariants as cause
use Rattle.mds_http.specs.declared.response.failure.Failure.{Failure}

-- why an item with such an outcome wasn't accepted, if it wasn't
abbrev pub cause_of : Outcome → Option Cause
cause_of Done = None
cause_of (Seen standing) = None
cause_of (Refused refusal) = Some (cause.Refused refusal)

-- why each item wasn't accepted, if it wasn't: what is wrong with it, or else what the next reply
-- says. An item that is no fault and has no reply found no memory: it is the first of which nothing
-- is said
abbrev pub verdicts : List (Option ItemFault) → List Reply → List (Option Cause)
verdicts [] replies = []
verdicts (Some fault ∷ items) replies = Some (cause.Fault fault) ∷ verdicts items replies
verdicts (None ∷ items) [] = []
verdicts (None ∷ items) (reply ∷ replies) = cause_of reply.outcome ∷ verdicts items replies

-- the failure of the item of an index, if it wasn't accepted
abbrev pub failure_at : ℕ × Option Cause → Option Failure
failure_at said = option_map (λ cause. record { index = said.0; cause = cause }) said.1

-- the failures among items of which the first has this index, in order of index
abbrev pub failures_from : ℕ → List (Option Cause) → List Failure
failures_from index said = filter_map failure_at (enumerate_from index said)
