-- What is printed of a roster.
use Rattle.std.specs.Prelude.{ℕ, Bool, true, false, List, ◌++◌, length, codes, decimal}
use Rattle.std.specs.List.{flat_map}
use Rattle.uuid.specs.Text.{hyphenated_text, lower}
use Rattle.mds_table.specs.State.{name_of}
use Rattle.mds_table.specs.Tables.{Tables}
use Rattle.mds_core.specs.declared.key.Key.{Key}
use Rattle.mds_core.specs.declared.request.Request.{Request}
use Rattle.mds_core.specs.declared.reply.Standing.{Standing}
use Rattle.mds_core.specs.History.{reports}
use Rattle.mds_io.specs.Page.{with_newline}
use Rattle.mds_commands.specs.declared.roster.Roster.{Roster}
use Rattle.mds_commands.specs.Roster.{IsRosterOf, registered_in, standings_in}

-- the line of a vehicle: its key, the state that it holds, and how many of its events were accepted
abbrev pub vehicle_line : Key × Standing → List ℕ
vehicle_line vehicle =
    codes "vehicle " ++ hyphenated_text lower vehicle.0.provider
    ++ codes " " ++ hyphenated_text lower vehicle.0.device ++ codes " "
    ++ name_of vehicle.1.state ++ codes " " ++ decimal vehicle.1.events

-- the last line
abbrev pub totals_line : ℕ → ℕ → List ℕ
totals_line registrations events =
    codes "registrations " ++ decimal registrations ++ codes " events " ++ decimal events

-- a line for each vehicle
abbrev pub vehicle_lines : List (Key × Standing) → List ℕ
vehicle_lines vehicles = flat_map (λ vehicle. with_newline (vehicle_line vehicle)) vehicles

-- all that is printed of a history: where each vehicle stands, in the order of registration, and
-- how many of each there are
abbrev pub listing_text : List Request → List ℕ
listing_text history =
    vehicle_lines (standings_in history)
    ++ with_newline (totals_line (length (registered_in history)) (length (reports history)))

-- the line of a journal's lines and groups
abbrev pub counts_line : ℕ → ℕ → List ℕ
counts_line lines groups = codes "lines " ++ decimal lines ++ codes " groups " ++ decimal groups

-- all that is printed of a journal with this history: the listing, and how many lines and groups it
-- has, where that is asked for
abbrev pub printed_text : Bool → List Request → ℕ → ℕ → List ℕ
printed_text false history lines groups = listing_text history
printed_text true history lines groups =
    listing_text history ++ with_newline (counts_line lines groups)

-- the roster is that of some history
abbrev pub IsRosterOfSome : Roster → Type 0
IsRosterOfSome roster =
    (tables : Tables) × (history : List Request) × IsRosterOf tables history roster
