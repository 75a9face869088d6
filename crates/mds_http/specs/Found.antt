-- What a desk found of what a request asks for, as plain data.
use Rattle.std.specs.Prelude.{ℕ, List, [], Vec, map, Option, Some, None, option_map, count_by}
use Rattle.mds_table.specs.declared.row.Row.{Row}
use Rattle.mds_table.specs.Tables.{Tables}
use Rattle.mds_core.specs.declared.reply.Standing.{Standing}
use Rattle.mds_core.specs.declared.reply.Outcome.{Outcome}
use Rattle.mds_core.specs.declared.reply.Outcome.TheVariants.{Done, Seen, Refused}
use Rattle.mds_core.specs.declared.reply.Reply.{Reply}
use Rattle.mds_core.specs.Reported.{Reported}
use Rattle.mds_core.specs.Headline.{is_done}
use Rattle.mds_http.specs.declared.response.found.Found.{Found}
use Rattle.mds_http.specs.declared.response.found.Found.TheVariants as found

-- what was found: nothing, the replies to the items of a POST, the reply to a look, the events of a
-- vehicle, or tables
pub data Finding : Type 0 where
  Nothing : Finding
  Replies : List Reply → Finding
  One : Reply → Finding
  History : Option (List Reported) → Finding
  Rows : Tables → Finding

-- the tables that are listed by their starting times and their rows
abbrev pub tables_of : {A : Type 0} → List (ℕ × Vec Row A) → Tables
tables_of listed = map (λ entry. (entry.0, entry.1.items)) listed

-- what was found as plain data
abbrev pub finding_in : Found → Finding
finding_in found.Nothing = Nothing
finding_in (found.Replies replies) = Replies replies.items
finding_in (found.One reply) = One reply
finding_in (found.History list) = History (option_map (λ list. list.events) list)
finding_in (found.Rows listed) = Rows (tables_of listed.items)

-- the replies to items: none where something else was found
abbrev pub replies_in : Finding → List Reply
replies_in (Replies replies) = replies
replies_in finding = []

-- the standing that an outcome shows
abbrev pub standing_seen : Outcome → Option Standing
standing_seen Done = None
standing_seen (Seen standing) = Some standing
standing_seen (Refused refusal) = None

-- the standing that a look saw: none where the vehicle isn't registered, or something else was
-- found
abbrev pub standing_in : Finding → Option Standing
standing_in (One reply) = standing_seen reply.outcome
standing_in finding = None

-- the events of a vehicle: none where it isn't registered, or something else was found
abbrev pub events_in : Finding → Option (List Reported)
events_in (History events) = events
events_in finding = None

-- the tables: none where something else was found
abbrev pub tables_in : Finding → Tables
tables_in (Rows tables) = tables
tables_in finding = []

-- how many of the replies accept
abbrev pub accepted_in : List Reply → ℕ
accepted_in replies = count_by (λ reply. is_done reply.outcome) replies
