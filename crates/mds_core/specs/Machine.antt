-- What contracts see of a machine, and what each of its calls says: the plain machine, a shard, a
-- shard behind its lock and a desk cite these same words.
use Rattle.std.specs.Prelude.{◌≡◌, List, [], ◌∷◌, Option, Some, None}
use Rattle.mds_table.specs.Tables.{Tables}
use Rattle.mds_core.specs.declared.key.Key.{Key}
use Rattle.mds_core.specs.declared.request.Request.{Request}
use Rattle.mds_core.specs.declared.reply.Reply.{Reply}
use Rattle.mds_core.specs.declared.reply.Standing.{Standing}
use Rattle.mds_core.specs.Reported.{Reported}
use Rattle.mds_core.specs.History.{requests_of, reports}
use Rattle.mds_core.specs.Known.{standing_if}
use Rattle.mds_core.specs.Answer.{Answers, MayBeDone, next}

-- what decides, and the requests that were accepted
pub record Machine : Type 0 where
  pub tables : Tables
  pub history : List Request

-- a step: the reply answers the request after the history, which goes on by it
pub record Steps (old : Machine) (request : Request) (reply : Reply) (new : Machine) : Type 0 where
  pub answer : Answers old.tables old.history request reply
  pub history : new.history ≡ next old.history request reply.outcome
  pub tables : new.tables ≡ old.tables

-- a step that isn't made: the request would be accepted, and there is no memory to keep it
pub record LacksMemory (old : Machine) (request : Request) (new : Machine) : Type 0 where
  pub may_be_done : MayBeDone old.tables old.history request
  pub unchanged : new ≡ old

-- where a vehicle stands after a history, if it is registered
abbrev pub standing_in : List Request → Key → Option Standing
standing_in history key = standing_if (requests_of history key)

-- the events that were accepted, in their order, of a vehicle with these accepted requests, if it
-- is registered
abbrev pub events_if : List Request → Option (List Reported)
events_if [] = None
events_if (request ∷ rest) = Some (reports (request ∷ rest))

-- the events of a vehicle that a history has, if it is registered
abbrev pub events_in : List Request → Key → Option (List Reported)
events_in history key = events_if (requests_of history key)
