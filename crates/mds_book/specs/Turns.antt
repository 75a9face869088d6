-- What a seat's turn at a shard tells of its part of the shard.
use Rattle.std.specs.Prelude.{◌≡◌, ◌+◌, ◌≤◌, List}
use mathlib.Core.List.{IsPrefix}
use Rattle.mds_core.specs.declared.request.Request.{Request}
use Rattle.mds_core.specs.declared.reply.Reply.{Reply}
use Rattle.mds_core.specs.Headline.{is_done}
use Rattle.mds_core.specs.Lawful.{IsLawful}
use Rattle.mds_core.specs.Answer.{Answers}
use Rattle.mds_log.specs.Log.{Acceptance, requests}
use Rattle.mds_book.specs.Shards.{AreOfShard, count_of}
use Rattle.mds_book.specs.Sights.{Parted, ShardRules, log_after, next_turn}

-- a call's turn: the part has seen this whole log, and what the call has added to it, and counts it
-- where it was accepted; the reply's place is no less than what was counted
pub record HasCalled (old : Parted) (log : List Acceptance) (request : Request)
    (reply : Reply) (new : Parted) : Type 0 where
  pub seen : IsPrefix old.sight.seen log
  pub goes_on : new.sight.seen ≡ log_after log old.mark request (is_done reply.outcome)
  pub turn : new.sight.turns ≡ next_turn old.sight.turns
  pub count : new.count ≡ old.count + count_of reply.outcome
  pub mark : new.mark ≡ old.mark
  pub place : old.count ≤ reply.place

-- the log that was seen is as long as the shard's history
pub record IsShown (old : Parted) (history : List Request) (request : Request)
    (reply : Reply) (new : Parted) : Type 0 where
  pub log : List Acceptance
  pub whole : requests log ≡ history
  pub called : HasCalled old log request reply new

-- what was seen is lawful, and the reply is the answer after it
pub record IsStepped (rules : ShardRules) (old : Parted) (request : Request)
    (reply : Reply) (new : Parted) : Type 0 where
  pub log : List Acceptance
  pub lawful : IsLawful rules.tables (requests log)
  pub of_shard : AreOfShard rules.number (requests log)
  pub answer : Answers rules.tables (requests log) request reply
  pub called : HasCalled old log request reply new

-- a turn that asks nothing: the part has seen the whole log, which is lawful
pub record HasLooked (rules : ShardRules) (old new : Parted) : Type 0 where
  pub seen : IsPrefix old.sight.seen new.sight.seen
  pub lawful : IsLawful rules.tables (requests new.sight.seen)
  pub of_shard : AreOfShard rules.number (requests new.sight.seen)
  pub turn : new.sight.turns ≡ next_turn old.sight.turns
  pub count : new.count ≡ old.count
  pub mark : new.mark ≡ old.mark
