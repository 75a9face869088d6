-- Of which history a roster tells.
use Rattle.std.specs.Prelude.{◌≡◌, List, [], ◌∷◌, ◌++◌, map, Option, Some, None}
use Rattle.std.specs.List.{filter_map}
use Rattle.std.specs.Map.{keys_of}
use Rattle.indexmap.specs.IndexMap.{insert_entry}
use Rattle.mds_table.specs.Tables.{Tables}
use Rattle.mds_core.specs.declared.key.Key.{Key}
use Rattle.mds_core.specs.declared.event_name.EventName.{EventName}
use Rattle.mds_core.specs.declared.request.Request.{Request}
use Rattle.mds_core.specs.declared.request.Request.TheVariants.{Register, Report, Look}
use Rattle.mds_core.specs.declared.reply.Standing.{Standing}
use Rattle.mds_core.specs.Reported.{Reported}
use Rattle.mds_core.specs.History.{same_key, requests_of, reports, standing_of}
use Rattle.mds_core.specs.Known.{standing_if}
use Rattle.mds_core.specs.Lawful.{IsLawful}
use Rattle.mds_core.specs.Answer.{MayBeDone}
use Rattle.mds_known.specs.Kept.{value_of, PutsValue}
use Rattle.mds_commands.specs.declared.roster.Roster.{Roster}

-- where the vehicles stand
abbrev pub Standings : Type 0
Standings = List (Key × Standing)

-- the vehicle that a request registers, if it registers one
abbrev pub registration_of : Request → Option Key
registration_of (Register key) = Some key
registration_of (Report event) = None
registration_of (Look key) = None

-- the vehicles registered, in the order of their registrations
abbrev pub registered_in : List Request → List Key
registered_in history = filter_map registration_of history

-- each vehicle registered and where it stands, in the order of their registrations
abbrev pub standings_in : List Request → List (Key × Standing)
standings_in history =
    map (λ key. (key, standing_of (requests_of history key))) (registered_in history)

-- what names an event among all events
abbrev pub name_of : Reported → EventName
name_of event = record { key = event.key; id = event.id }

-- the names of the events reported, in their order
abbrev pub names_in : List Request → List EventName
names_in history = map name_of (reports history)

-- this is the roster over the tables of a lawful history: where each vehicle stands after it, their
-- order, and its events' names
pub record IsRosterOf (tables : Tables) (history : List Request) (roster : Roster) : Type 0 where
  pub over : roster.tables ≡ tables
  pub lawful : IsLawful tables history
  pub standings : (key : Key)
      → value_of roster.known.entries key ≡ standing_if (requests_of history key)
  pub order : keys_of roster.known.entries ≡ registered_in history
  pub named : roster.known.names ≡ names_in history

-- whichever history the roster was of, the request is accepted after it, and the roster now is of
-- both
abbrev pub Accepts : Request → Roster → Roster → Type 0
Accepts request old new = (tables : Tables) (history : List Request) → IsRosterOf tables history old
    → MayBeDone tables history request × IsRosterOf tables (history ++ request ∷ []) new

-- whichever history the roster was of, the request isn't accepted after it, and the roster now is
-- of the same
abbrev pub Refuses : Request → Roster → Roster → Type 0
Refuses request old new = (tables : Tables) (history : List Request) → IsRosterOf tables history old
    → (MayBeDone tables history request → ⊥) × IsRosterOf tables history new

-- whichever history the roster was of, the request would be accepted after it, and the roster now
-- is of the same
abbrev pub LacksRoom : Request → Roster → Roster → Type 0
LacksRoom request old new =
    (tables : Tables) (history : List Request)
    → IsRosterOf tables history old
    → MayBeDone tables history request × IsRosterOf tables history new

-- the vehicle stands so now, in its place or behind all others, and every other as before
pub record PutsStanding (key : Key) (standing : Standing) (old new : Standings) : Type 0 where
  pub found : PutsValue key standing old new
  pub entries : new ≡ insert_entry same_key old key standing
