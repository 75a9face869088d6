-- What the words of the command line ask for.
use Rattle.std.specs.Prelude.{◌≡◌, ◌≢◌, ◌⊎◌, ◌↔◌, ℕ, List, [], ◌∷◌, drop, Option, Some}
use Rattle.std.specs.Prelude.{None, Result, true, codes, option_map, unwrap_or, IfOk, IsTrue}
use Rattle.std.specs.Str.Parse.{digits_value, without_leading_plus}
use Rattle.clap.specs.declared.builder.action.ArgAction.TheVariants.{Append, SetTrue}
use Rattle.clap.specs.declared.builder.command.Command.{Command as Form}
use Rattle.clap.specs.declared.builder.value_parser.ValueParser.TheVariants.{Unsigned}
use Rattle.clap.specs.Words.{App, IsUnsignedIn, Row, Rule, Text, all_of, app_of, fault_of}
use Rattle.clap.specs.Words.{first_of, new_app, new_rule, takes, with_rule, subcommand_of}
use Rattle.clap.specs.Words.{with_subcommand}
use Rattle.mds_args.specs.declared.cuts.CutWords.{CutWords}
use Rattle.mds_args.specs.declared.words.Command.{Command}
use Rattle.mds_args.specs.declared.words.Command.TheVariants.{Serve, Replay, Debug, Table, Vehicles}
use Rattle.mds_args.specs.declared.words.Command.TheVariants.{Compact, Events}

-- a positional word of this name, which must be there
abbrev pub word_rule : Text → Rule
word_rule name = record (new_rule name) { required = true }

-- an argument that goes by its name behind two hyphens
abbrev pub long_rule : Text → Rule
long_rule name = record (new_rule name) { long = Some name }

-- an option of this name, which takes one value
abbrev pub option_rule : Text → Rule
option_rule name = record (long_rule name) { value_names = 1 }

-- the option `--table`
abbrev pub table_rule : Rule
table_rule = option_rule (codes "table")

-- the option `--journal`
abbrev pub journal_rule : Rule
journal_rule = option_rule (codes "journal")

-- a flag of this name
abbrev pub flag_rule : Text → Rule
flag_rule name = record (long_rule name) { action = Some SetTrue }

-- an option of this name, which takes a number of this range
abbrev pub number_rule : Text → ℕ → ℕ → Rule
number_rule name least most = record (option_rule name) { parser = Some (Unsigned least most) }

-- an option that must be there, which takes a number up to this one
abbrev pub needed_number_rule : Text → ℕ → Rule
needed_number_rule name most = record (number_rule name 0 most) { required = true }

-- the most that a port's number, the connections of each worker and the number of workers may be
abbrev pub max_port : ℕ
max_port = 65535

abbrev pub max_each : ℕ
max_each = 1000000

abbrev pub max_workers : ℕ
max_workers = 64

-- the option `--workers`, which is this number where it isn't given
abbrev pub workers_rule : Text → Rule
workers_rule number =
    record (number_rule (codes "workers") 1 max_workers) { defaults = number ∷ [] }

-- the option `--each`
abbrev pub each_rule : Rule
each_rule = number_rule (codes "each") 0 max_each

-- the option `--metrics`
abbrev pub metrics_rule : Rule
metrics_rule = number_rule (codes "metrics") 1 max_port

-- the command `serve`, with its numbers, the flag and the options
abbrev pub serve_app : App
serve_app =
    with_rule (with_rule (with_rule (with_rule (with_rule (with_rule (with_rule
    (new_app (codes "serve")) (needed_number_rule (codes "port") max_port)) each_rule)
    (flag_rule (codes "until-stopped"))) (workers_rule (codes "4"))) table_rule) journal_rule)
    metrics_rule

-- the command `replay`, with its file, the table's option, the flags and the number of workers
abbrev pub replay_app : App
replay_app =
    with_rule (with_rule (with_rule (with_rule (with_rule (with_rule (new_app (codes "replay"))
    (word_rule (codes "FILE"))) table_rule) (flag_rule (codes "any"))) (flag_rule (codes "lines")))
    (flag_rule (codes "unlimited"))) (workers_rule (codes "1"))

-- the command `debug`, with its file, its vehicle's provider and device, and the option
abbrev pub debug_app : App
debug_app =
    with_rule (with_rule (with_rule (with_rule (new_app (codes "debug")) (word_rule (codes "FILE")))
    (word_rule (codes "PROVIDER"))) (word_rule (codes "DEVICE"))) table_rule

-- the command `table`, with the option
abbrev pub table_app : App
table_app = with_rule (new_app (codes "table")) table_rule

-- the command `vehicles`, with its file, the option and the flag
abbrev pub vehicles_app : App
vehicles_app =
    with_rule (with_rule (with_rule (new_app (codes "vehicles")) (word_rule (codes "FILE")))
    table_rule) (flag_rule (codes "check"))

-- the greatest time that an event may have
abbrev pub max_time : ℕ
max_time = 9007199254740991

-- the option `--before`
abbrev pub before_rule : Rule
before_rule = number_rule (codes "before") 0 max_time

-- the option `--cut`, which takes three words each time that it's given
abbrev pub cut_rule : Rule
cut_rule = record (long_rule (codes "cut")) { value_names = 3; action = Some Append }

-- the command `compact`, with both files and the options
abbrev pub compact_app : App
compact_app =
    with_rule (with_rule (with_rule (with_rule (with_rule (with_rule (new_app (codes "compact"))
    (word_rule (codes "OLD"))) (word_rule (codes "NEW"))) before_rule) cut_rule)
    (flag_rule (codes "follow"))) table_rule

-- the command `events`, with its file, and its vehicle's provider and device
abbrev pub events_app : App
events_app =
    with_rule (with_rule (with_rule (new_app (codes "events")) (word_rule (codes "FILE")))
    (word_rule (codes "PROVIDER"))) (word_rule (codes "DEVICE"))

-- the program with no command yet, which must be given one, and with its version
abbrev pub bare_app : App
bare_app =
    record {
      top = record (new_app (codes "mds_city")).top
          { subcommand_required = true; has_version = true };
      subs = [];
    }

-- the program with its commands
abbrev pub program_app : App
program_app =
    with_subcommand (with_subcommand (with_subcommand (with_subcommand (with_subcommand
    (with_subcommand (with_subcommand bare_app serve_app.top) replay_app.top) debug_app.top)
    table_app.top) vehicles_app.top) compact_app.top) events_app.top

-- where there was memory, `clap` is told of this app
abbrev pub IsTold : {E : Type 0} → App → Result Form E → Type 0
IsTold app form = IfOk form (λ told. app_of told ≡ app)

-- the name of a command
abbrev pub name_of : Command → Text
name_of (Serve port each workers table journal metrics) = codes "serve"
name_of (Replay file table any lines unlimited workers) = codes "replay"
name_of (Debug file provider device table) = codes "debug"
name_of (Table table) = codes "table"
name_of (Vehicles file table check) = codes "vehicles"
name_of (Compact old new before cuts follow table) = codes "compact"
name_of (Events file provider device) = codes "events"

-- the value is a text that is this number, one of this range
abbrev pub IsNumber : ℕ → ℕ → Option Text → ℕ → Type 0
IsNumber least most None number = ⊥
IsNumber least most (Some text) number =
    IsUnsignedIn least most text × (number ≡ digits_value 10 (without_leading_plus text))

-- there is no value, or it is no number of this range
abbrev pub HasNoNumber : ℕ → ℕ → Option Text → Type 0
HasNoNumber least most value = (number : ℕ) → IsNumber least most value number → ⊥

-- the flag `--until-stopped` is set
abbrev pub GoesOn : List Row → Type 0
GoesOn values = first_of (codes "until-stopped") values ≡ Some (codes "true")

-- so many connections each worker answers: as many as `--each` says and the flag isn't set, or the
-- flag is and `--each` isn't given
abbrev pub IsEach : List Row → Option ℕ → Type 0
IsEach values (Some each) =
    IsNumber 0 max_each (first_of (codes "each") values) each × (GoesOn values → ⊥)
IsEach values None = (first_of (codes "each") values ≡ None) × GoesOn values

-- neither is so
abbrev pub LacksEach : List Row → Type 0
LacksEach values = (each : Option ℕ) → IsEach values each → ⊥

-- figures are told at this port: that of the number that is given, or at none where none is
abbrev pub IsMetrics : List Row → Option ℕ → Type 0
IsMetrics values (Some port) = IsNumber 1 max_port (first_of (codes "metrics") values) port
IsMetrics values None = first_of (codes "metrics") values ≡ None

-- the number of that port is out of its range
abbrev pub LacksMetrics : List Row → Type 0
LacksMetrics values = (metrics : Option ℕ) → IsMetrics values metrics → ⊥

-- the port's number or the number of workers is missing or out of its range, or how many
-- connections each worker answers isn't told, or the number of the port for figures is out of its
-- range
abbrev pub LacksNumber : List Row → Type 0
LacksNumber values =
    HasNoNumber 0 max_port (first_of (codes "port") values)
    ⊎ LacksEach values
    ⊎ HasNoNumber 1 max_workers (first_of (codes "workers") values)
    ⊎ LacksMetrics values

-- a flag of this name is set
abbrev pub IsSet : Text → List Row → Type 0
IsSet name values = first_of name values ≡ Some (codes "true")

-- lines without limits are asked for, and no lines
abbrev pub LacksLines : List Row → Type 0
LacksLines values = IsSet (codes "unlimited") values × (IsSet (codes "lines") values → ⊥)

-- the file is missing, or the number of workers is missing or out of its range, or the flag for
-- lines is missing beside the one for lines without limits
abbrev pub LacksFileOrWorkers : List Row → Type 0
LacksFileOrWorkers values =
    (first_of (codes "FILE") values ≡ None)
    ⊎ HasNoNumber 1 max_workers (first_of (codes "workers") values)
    ⊎ LacksLines values

-- events are old before this time: that which is given, or none are where none is
abbrev pub IsBefore : List Row → Option ℕ → Type 0
IsBefore values (Some time) = IsNumber 0 max_time (first_of (codes "before") values) time
IsBefore values None = first_of (codes "before") values ≡ None

-- the time is out of its range
abbrev pub LacksBefore : List Row → Type 0
LacksBefore values = (before : Option ℕ) → IsBefore values before → ⊥

-- the most events that a cut may name
abbrev pub max_events : ℕ
max_events = 1000000000000

-- the first three of these words are a vehicle's provider and device, and how many events stay
abbrev pub IsFirstCut : List Text → CutWords → Type 0
IsFirstCut (provider ∷ device ∷ number ∷ words) cut =
    (cut.provider.now ≡ provider) × (cut.device.now ≡ device)
    × IsNumber 0 max_events (Some number) cut.events
IsFirstCut words cut = ⊥

-- these words are those of these cuts, three of each, in order
abbrev pub AreCuts : List Text → List CutWords → Type 0
AreCuts words [] = words ≡ []
AreCuts words (cut ∷ cuts) = IsFirstCut words cut × AreCuts (drop 3 words) cuts

-- the values of `--cut` are those of these cuts
abbrev pub HasCuts : List Row → List CutWords → Type 0
HasCuts values cuts = AreCuts (unwrap_or (all_of (codes "cut") values) []) cuts

-- the values that were found are those of this command; it has no table or journal where none was
-- given, and a flag that is set is true
abbrev pub HasValues : List Row → Command → Type 0
HasValues values (Serve port each workers table journal metrics) =
    IsNumber 0 max_port (first_of (codes "port") values) port
    × IsEach values each
    × IsNumber 1 max_workers (first_of (codes "workers") values) workers
    × (first_of (codes "table") values ≡ option_map (λ path. path.now) table)
    × (first_of (codes "journal") values ≡ option_map (λ path. path.now) journal)
    × IsMetrics values metrics
HasValues values (Replay file table any lines unlimited workers) =
    (first_of (codes "FILE") values ≡ Some file.now)
    × (first_of (codes "table") values ≡ option_map (λ path. path.now) table)
    × (IsTrue any ↔ IsSet (codes "any") values)
    × (IsTrue lines ↔ IsSet (codes "lines") values)
    × (IsTrue unlimited ↔ IsSet (codes "unlimited") values)
    × (IsTrue unlimited → IsTrue lines)
    × IsNumber 1 max_workers (first_of (codes "workers") values) workers
HasValues values (Debug file provider device table) =
    (first_of (codes "FILE") values ≡ Some file.now)
    × (first_of (codes "PROVIDER") values ≡ Some provider.now)
    × (first_of (codes "DEVICE") values ≡ Some device.now)
    × (first_of (codes "table") values ≡ option_map (λ path. path.now) table)
HasValues values (Table table) =
    first_of (codes "table") values ≡ option_map (λ path. path.now) table
HasValues values (Vehicles file table check) =
    (first_of (codes "FILE") values ≡ Some file.now)
    × (first_of (codes "table") values ≡ option_map (λ path. path.now) table)
    × (IsTrue check ↔ IsSet (codes "check") values)
HasValues values (Compact old new before cuts follow table) =
    (first_of (codes "OLD") values ≡ Some old.now)
    × (first_of (codes "NEW") values ≡ Some new.now)
    × IsBefore values before
    × HasCuts values cuts.items
    × (before ≡ None → cuts.items ≢ [])
    × (IsTrue follow ↔ IsSet (codes "follow") values)
    × (IsTrue follow → cuts.items ≡ [])
    × (first_of (codes "table") values ≡ option_map (λ path. path.now) table)
HasValues values (Events file provider device) =
    (first_of (codes "FILE") values ≡ Some file.now)
    × (first_of (codes "PROVIDER") values ≡ Some provider.now)
    × (first_of (codes "DEVICE") values ≡ Some device.now)

-- one of these arguments has no value
abbrev pub LacksOneOf : List Text → List Row → Type 0
LacksOneOf [] values = ⊥
LacksOneOf (name ∷ names) values = (first_of name values ≡ None) ⊎ LacksOneOf names values

-- a command's name and the values of its arguments are those of this command
abbrev pub Asks : Option (Text × List Row) → Command → Type 0
Asks None command = ⊥
Asks (Some found) command = (found.0 ≡ name_of command) × HasValues found.1 command

-- the command and the values that were found are those of no command
abbrev pub AsksNothing : Option (Text × List Row) → Type 0
AsksNothing found = (command : Command) → Asks found command → ⊥

-- the words ask for this command, and `clap` finds no fault in them
abbrev pub IsAskedBy : List Text → Command → Type 0
IsAskedBy words command =
    Asks (subcommand_of program_app words) command × (fault_of program_app words ≡ [])

-- `clap` takes the words, and they ask for some command
abbrev pub AreTaken : List Text → Type 0
AreTaken words =
    (takes program_app words ≡ true) × (AsksNothing (subcommand_of program_app words) → ⊥)
