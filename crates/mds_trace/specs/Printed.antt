-- What a session prints: its start, and what the commands of a script print, a line each.
use Rattle.std.specs.Prelude.{◌≡◌, ◌<◌, ◌+◌, ◌⊎◌, ℕ, List, [], ◌∷◌, ◌++◌, length}
use Rattle.std.specs.Prelude.{codes, decimal, Option, Some, None, Bool, true, false}
use Rattle.std.specs.List.{take_while, flat_map}
use Rattle.mds_table.specs.declared.state.State.{State}
use Rattle.mds_table.specs.State.{name_of}
use Rattle.mds_steps.specs.StateSet.{AreInCodeOrder, names_of}
use Rattle.mds_trace.specs.declared.session.Place.{Place}
use Rattle.mds_trace.specs.declared.session.Halt.{Halt}
use Rattle.mds_trace.specs.declared.session.Halt.TheVariants.{AtEnd, AtStart}
use Rattle.mds_trace.specs.SessionFault.{halt_text}
use Rattle.mds_trace.specs.Walk.{Walk}
use Rattle.mds_trace.specs.Session.{state_at, ArePossible, IsStep, IsFirstLater, IsPresentChain}
use Rattle.mds_io.specs.Page.{AppendsFront, AppendsUpTo, with_newline}
use Rattle.mds_io.specs.declared.page.PrintError.{PrintError}
use Rattle.mds_io.specs.declared.page.PrintError.TheVariants as write
use Rattle.mds_trace.specs.declared.script.Move.{Move}
use Rattle.mds_trace.specs.declared.script.Move.TheVariants.{Step, Back, Next, Run}
use Rattle.mds_trace.specs.declared.script.ScriptCommand.{ScriptCommand}
use Rattle.mds_trace.specs.declared.script.ScriptCommand.TheVariants.{Move as Moves, Chain, Quit}
use Rattle.mds_trace.specs.declared.line.CountsLine.{CountsLine}
use Rattle.mds_trace.specs.declared.line.Line.{Line}
use Rattle.mds_trace.specs.declared.line.Line.TheVariants as line

-- the first line: how many of the vehicle's events were accepted, and how many refused
abbrev pub counts_line : ℕ → ℕ → List ℕ
counts_line events refused =
    codes "events " ++ decimal events ++ codes " refused " ++ decimal refused

-- the line of a place: the event, how many of its types are passed, the state held before it, and
-- the states possible
abbrev pub place_line : Place → State → List State → List ℕ
place_line place state possible =
    decimal place.event ++ codes " " ++ decimal place.passed ++ codes " "
    ++ name_of state ++ codes " possible " ++ names_of possible

-- the line of a chain: its states, with a space between
abbrev pub chain_line : List State → List ℕ
chain_line [] = []
chain_line (first ∷ rest) = name_of first ++ flat_map (λ state. codes " " ++ name_of state) rest

-- the words of a line
abbrev pub line_text : Line → List ℕ
line_text (line.Place place state possible) = place_line place state possible
line_text (line.Halt halt) = halt_text halt
line_text (line.Chain chain) = chain_line chain.states.items
line_text line.Unknown = codes "unknown command"

-- the session at another place
abbrev pub moved_to : Walk → Place → Walk
moved_to walk to =
    record { tables = walk.tables; opening = walk.opening; events = walk.events; place = to }

-- the line of the place at which a session stands
abbrev pub IsPlaceLine : Walk → List ℕ → Type 0
IsPlaceLine walk text =
    (possible : List State) × AreInCodeOrder possible × ArePossible walk possible
    × (text ≡ place_line walk.place (state_at walk) possible)

-- a move leads to a place
abbrev pub LeadsTo : Walk → Move → Place → Type 0
LeadsTo walk Step to = IsStep walk.events walk.place to
LeadsTo walk Back to = IsStep walk.events to walk.place
LeadsTo walk Next to =
    (walk.place.event < length walk.events)
    × (to ≡ record { event = walk.place.event + 1; passed = 0 })
LeadsTo walk (Run state) to = IsFirstLater walk state to

-- why a move that leads nowhere halts
abbrev pub halt_of : Move → Halt
halt_of Step = AtEnd
halt_of Back = AtStart
halt_of Next = AtEnd
halt_of (Run state) = AtEnd

-- what a move prints, and where the session then stands: it goes to the place to which the move
-- leads, and that place is told; where the move leads nowhere it stays, and why is told
abbrev pub PrintsMove : Walk → Move → Place → List ℕ → Type 0
PrintsMove walk move to text =
    (LeadsTo walk move to × IsPlaceLine (moved_to walk to) text)
    ⊎ (((place : Place) → LeadsTo walk move place → ⊥)
    × (to ≡ walk.place) × (text ≡ halt_text (halt_of move)))

-- what is printed of the chain: the least one of the present event, or that the session is at the
-- end
abbrev pub PrintsChain : Walk → List ℕ → Type 0
PrintsChain walk text =
    ((states : List State) × IsPresentChain walk states × (text ≡ chain_line states))
    ⊎ ((walk.place.event ≡ length walk.events) × (text ≡ halt_text AtEnd))

-- what a line of the script prints, and where the session then stands; a quit prints nothing, not
-- even a line
abbrev pub Prints : Walk → Option ScriptCommand → Place → List ℕ → Type 0
Prints walk (Some (Moves move)) to text = PrintsMove walk move to text
Prints walk (Some Chain) to text = (to ≡ walk.place) × PrintsChain walk text
Prints walk (Some Quit) to text = ⊥
Prints walk None to text = (to ≡ walk.place) × (text ≡ codes "unknown command")

-- what commands print, one after the other, and where the session then stands
abbrev pub PrintsAll : Walk → List (Option ScriptCommand) → Place → List ℕ → Type 0
PrintsAll walk [] to text = (to ≡ walk.place) × (text ≡ [])
PrintsAll walk (command ∷ rest) to text =
    (next : Place) × (first : List ℕ) × (others : List ℕ) × Prints walk command next first
    × PrintsAll (moved_to walk next) rest to others × (text ≡ with_newline first ++ others)

-- a line says something else than quit
abbrev pub goes_on : Option ScriptCommand → Bool
goes_on (Some (Moves move)) = true
goes_on (Some Chain) = true
goes_on (Some Quit) = false
goes_on None = true

-- the commands of a script that are carried out: those before the first quit
abbrev pub before_quit : List (Option ScriptCommand) → List (Option ScriptCommand)
before_quit script = take_while goes_on script

-- all that a script prints, and where the session then stands
abbrev pub PrintsScript : Walk → List (Option ScriptCommand) → Place → List ℕ → Type 0
PrintsScript walk script to text = PrintsAll walk (before_quit script) to text

-- the first of a script's commands print a text of which this is so
abbrev pub PrintsSome : Walk → List (Option ScriptCommand) → (List ℕ → Type 0) → Type 0
PrintsSome walk script OfText =
    (done : List (Option ScriptCommand)) × (rest : List (Option ScriptCommand))
    × (before_quit script ≡ done ++ rest)
    × ((to : Place) × (text : List ℕ) × PrintsAll walk done to text × OfText text)

-- a front went out of what the first of a script's commands print; for want of memory maybe all of
-- it
abbrev pub PrintsFront : PrintError → Walk → List (Option ScriptCommand)
    → Option (List ℕ) → Option (List ℕ) → Type 0
PrintsFront write.Device walk script old new = PrintsSome walk script (AppendsFront old new)
PrintsFront write.Memory walk script old new = PrintsSome walk script (AppendsUpTo old new)

-- what is printed before a script is read: how many events were accepted and how many refused, and
-- the first place
abbrev pub PrintsStart : Walk → CountsLine → List ℕ → Type 0
PrintsStart walk counts text =
    (place : List ℕ) × IsPlaceLine walk place
    × (text ≡ with_newline (counts_line counts.events counts.refused) ++ with_newline place)
