-- The debugger's script: its lines, and what they say.
use Rattle.std.specs.Prelude.{◌≡◌, ◌≢◌, ◌⊎◌, ℕ, List, [], ◌∷◌, ◌++◌, codes, Option, Some, None}
use Rattle.std.specs.List.{All, AllZip, flat_map}
use Rattle.mds_table.specs.State.{name_of}
use Rattle.mds_lines.specs.Stream.{HasNoFeed}
use Rattle.mds_io.specs.Page.{with_newline}
use Rattle.mds_trace.specs.declared.script.Move.{Move}
use Rattle.mds_trace.specs.declared.script.Move.TheVariants.{Step, Back, Next, Run}
use Rattle.mds_trace.specs.declared.script.ScriptCommand.{ScriptCommand}
use Rattle.mds_trace.specs.declared.script.ScriptCommand.TheVariants.{Move as Moves, Chain, Quit}

-- the text of a move
abbrev pub move_text : Move → List ℕ
move_text Step = codes "step"
move_text Back = codes "back"
move_text Next = codes "next"
move_text (Run state) = codes "run " ++ name_of state

-- the text of a command
abbrev pub command_text : ScriptCommand → List ℕ
command_text (Moves move) = move_text move
command_text Chain = codes "chain"
command_text Quit = codes "quit"

-- a line says the command that has its text, and none where no command has
abbrev pub IsCommandOf : List ℕ → Option ScriptCommand → Type 0
IsCommandOf line (Some command) = line ≡ command_text command
IsCommandOf line None = (command : ScriptCommand) → line ≢ command_text command

-- the lines of some bytes, without their line feeds: each has one, and the last may lack it where
-- it isn't empty
pub record AreLines (bytes : List ℕ) (lines : List (List ℕ)) : Type 0 where
  pub no_feed : All HasNoFeed lines
  pub joined : (bytes ≡ flat_map with_newline lines)
      ⊎ ((front : List (List ℕ)) × (last : List ℕ)
      × (last ≢ []) × (lines ≡ front ++ last ∷ []) × (bytes ≡ flat_map with_newline front ++ last))

-- what the lines of some bytes say, one after the other
abbrev pub IsScript : List ℕ → List (Option ScriptCommand) → Type 0
IsScript bytes script =
    (lines : List (List ℕ)) × AreLines bytes lines × AllZip IsCommandOf lines script
