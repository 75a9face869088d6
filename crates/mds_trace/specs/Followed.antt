-- What a replay keeps of each vehicle while it goes over the items.
use Rattle.std.specs.Prelude.{◌≡◌, ℕ, List, [], ◌∷◌, map, Bool, false}
use Rattle.std.specs.List.{AllZip, list_any}
use Rattle.mds_table.specs.Tables.{Tables}
use Rattle.mds_core.specs.declared.event_name.EventName.{EventName}
use Rattle.mds_core.specs.declared.key.Key.{Key}
use Rattle.mds_core.specs.Reported.{Reported}
use Rattle.mds_core.specs.History.{same_key}
use Rattle.mds_batch.specs.declared.item.EventItem.{EventItem}
use Rattle.mds_trace.specs.declared.followed.Followed.{Followed}
use Rattle.mds_trace.specs.declared.report.Opening.{Opening}
use Rattle.mds_trace.specs.declared.report.Verdict.{Verdict}
use Rattle.mds_trace.specs.declared.report.VehicleEnd.{VehicleEnd}
use Rattle.mds_trace.specs.Items.{events_of, vehicles_of}
use Rattle.mds_trace.specs.Replay.{prior_of, accepted_of, standing_after}
use Rattle.mds_trace.specs.Replay.{AreOpeningsOf, AreVerdicts}

-- this is what is kept of a vehicle with these accepted events
pub record IsFollowed (opening : Opening) (tables : Tables) (key : Key) (prior : List Reported)
    (vehicle : Followed) : Type 0 where
  pub openings : AreOpeningsOf opening tables prior vehicle.openings
  pub standing : vehicle.standing ≡ standing_after opening key prior

-- where a vehicle ends of which this is kept
abbrev pub end_at : Key × Followed → VehicleEnd
end_at entry = record { key = entry.0; openings = entry.1.openings; standing = entry.1.standing }

-- no key stands twice
abbrev pub AreApart : {K : Type 0} → (K → K → Bool) → List K → Type 0
AreApart same [] = Unit {0}
AreApart same (key ∷ keys) = (list_any (same key) keys ≡ false) × AreApart same keys

-- the entries of a map are those of these keys, in this order, and each value is one that its key
-- may hold
abbrev pub AreEntries : {K V : Type 0} → (K → V → Type 0) → List K → List (K × V) → Type 0
AreEntries Holds keys entries =
    AllZip (λ key entry. (entry.0 ≡ key) × Holds key entry.1) keys entries

-- what names an event among all events
abbrev pub name_of : Reported → EventName
name_of event = record { key = event.key; id = event.id }

-- this is what is kept of the vehicles that were mentioned, and the names of the accepted events
pub record AreFollowed (opening : Opening) (tables : Tables) (mentioned : List Key)
    (accepted : List Reported) (entries : List (Key × Followed)) (names : List EventName)
    : Type 0 where
  pub apart : AreApart same_key mentioned
  pub unknown : (key : Key) → list_any (same_key key) mentioned ≡ false → prior_of key accepted ≡ []
  pub vehicles : AreEntries
      (λ key vehicle. IsFollowed opening tables key (prior_of key accepted) vehicle)
      mentioned entries
  pub named : names ≡ map name_of accepted

-- the verdicts on the items so far, and what is kept of their vehicles
pub record IsReplayed (opening : Opening) (tables : Tables) (items : List EventItem)
    (lines : List Verdict) (entries : List (Key × Followed)) (names : List EventName) : Type 0 where
  pub verdicts : AreVerdicts opening tables items lines
  pub vehicles : AreFollowed opening tables (vehicles_of (events_of items))
      (accepted_of items lines) entries names
