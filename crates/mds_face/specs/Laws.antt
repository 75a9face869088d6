-- What holds of the definitions, whatever desk there is.
use Rattle.std.specs.Prelude.{◌≡◌, List, length, take}
use Rattle.mds_table.specs.Tables.{Tables}
use Rattle.mds_core.specs.declared.key.Key.{Key}
use Rattle.mds_core.specs.declared.request.Request.{Request}
use Rattle.mds_core.specs.declared.request.Request.TheVariants.{Look}
use Rattle.mds_core.specs.declared.reply.Reply.{Reply}
use Rattle.mds_core.specs.Answer.{Answers}
use Rattle.mds_core.specs.History.{requests_of}
use Rattle.mds_core.specs.Machine.{Machine, events_in}
use Rattle.mds_core.specs.Run.{IsRun}
use Rattle.mds_http.specs.Asked as asked
use Rattle.mds_http.specs.Found as finding
use Rattle.mds_http.specs.Answer.{answer_to}
use Rattle.mds_face.specs.Desk.{AreCalls, FleetCalls}

-- the calls that a fleet answers are a run from its history: of as many requests, the first ones,
-- as there are replies
abbrev pub FleetsRun : Type 0
FleetsRun =
    (old new : Machine) (requests : List Request) (replies : List Reply)
    → AreCalls FleetCalls old requests replies new
    → IsRun old.tables old.history (take (length replies) requests) replies new.history

-- two histories agree on a vehicle
abbrev pub AgreeOn : Key → List Request → List Request → Type 0
AgreeOn key history other = requests_of history key ≡ requests_of other key

-- histories that agree on a vehicle give a look at it the same answer, to the byte, and so they do
-- a list of its events
pub record RestsOnItsVehicle (tables : Tables) (key : Key) (history other : List Request)
    : Type 0 where
  pub look : (a b : Reply) → Answers tables history (Look key) a → Answers tables other (Look key) b
      → answer_to (asked.One key) (finding.One a) ≡ answer_to (asked.One key) (finding.One b)
  pub events : answer_to (asked.History key) (finding.History (events_in history key))
      ≡ answer_to (asked.History key) (finding.History (events_in other key))

-- whatever the vehicle and the histories are
abbrev pub LooksRestOnTheirVehicle : Type 0
LooksRestOnTheirVehicle =
    (tables : Tables) (key : Key) (history other : List Request)
    → AgreeOn key history other → RestsOnItsVehicle tables key history other
