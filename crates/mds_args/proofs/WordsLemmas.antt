-- Lemmas on what the words ask for.
use Rattle.std.proofs.Common.{◌≡◌, ℕ, List, [], false, inl, inr, sym, ap, ap₂, subst, ◌∙◌, Bor, codes}
use Rattle.std.specs.Prelude.{IfErr, Option, Some, None, Result, Ok, Err, true, option_map}
use Rattle.clap.specs.Words.{AddsArg, AddsSubcommand, App, Row, Rule, Text, app_of, fault_of, first_of, first_value, kind_of, rows_of, rule_of, subcommand_of}
use Rattle.clap.specs.Words.{with_rule, with_subcommand}
use Rattle.clap.specs.declared.builder.command.Command.{Command}
use Rattle.clap.specs.declared.builder.command.Command.TheViews.{out-Command}
use Rattle.clap.specs.declared.builder.arg.Arg.{Arg}
use Rattle.clap.specs.declared.error.Error.{Error}
use Rattle.clap.specs.declared.error.kind.ErrorKind.TheVariants.{OutOfMemory}
use Rattle.clap.specs.declared.parser.matches.Found.{Found}
use Rattle.clap.proofs.SimpleLemmas.{is_false}
use Rattle.clap.proofs.WalkLemmas.{both, first_value-rows}
use Rattle.mds_args.specs.Error.{IsCause, SaysMissing}
use Rattle.mds_args.specs.Words.{AsksNothing, GoesOn, HasNoNumber, IsTold, LacksEach, LacksMetrics, max_port, program_app}

-- the text that was read of an argument is the first of its values
pub text_of_rows : (found : Found) (id : Text) (read : Option (Bor (List ℕ)))
    → option_map (λ text. text.now) read ≡ first_value found id → first_of id (rows_of found) ≡ option_map (λ text. text.now) read
text_of_rows found id read same = sym (same ∙ first_value-rows found id)

-- a command that is told of one argument more has its rule more
pub adds_rule : (old : Command) (arg : Arg) (new : Command) (app : App) → AddsArg old arg new → arg.global ≡ false → app_of old ≡ app
    → app_of new ≡ with_rule app (rule_of arg)
adds_rule old arg new app adds local was = adds.shape local ∙ ap (λ a. with_rule a (rule_of arg)) was

-- the same where the rule is known as another
pub told_rule : {E : Type 0} (form : Result Command E) (app : App) (rule known : Rule) → rule ≡ known → IsTold (with_rule app rule) form
    → IsTold (with_rule app known) form
told_rule form app rule known same told = subst (λ r. IsTold (with_rule app r) form) same told

-- a command whose shape is plain has no global argument
no_globals : (command : Command) → (app_of command).top.is_plain ≡ true → (out-Command command).has_globals ≡ false
no_globals command plain = is_false _ (both _ _ (both _ _ (both _ _ plain).1).1).0

-- a command that is told of a plain one has its shape more
pub adds_command : (old sub new : Command) (app of_sub : App) → AddsSubcommand old sub new → app_of old ≡ app → app_of sub ≡ of_sub
    → of_sub.top.is_plain ≡ true → app_of new ≡ with_subcommand app of_sub.top
adds_command old sub new app of_sub adds was is plain =
    adds.shape (no_globals sub (ap (λ (a : App). a.top.is_plain) is ∙ plain)) ∙ ap₂ (λ (a b : App). with_subcommand a b.top) was is

-- an error that there is no command is a cause, where `clap` finds no fault in the words
pub is_cause : {T : Type 0} (result : Result T Error) (words : List Text) → fault_of program_app words ≡ []
    → IfErr result (SaysMissing (subcommand_of program_app words)) → IfErr result (IsCause words)
is_cause (Ok command) words free says = tt
is_cause (Err error) words free (inl memory) = inl (inl memory)
is_cause (Err error) words free (inr (none, missing)) = inr (free, none, missing)

-- such an error is the want of memory where some command is asked for
pub is_memory : {T : Type 0} (A : Type 0) (result : Result T Error) (found : Option (Text × List Row)) → IfErr result (SaysMissing found)
    → IfErr result (λ error. A → (AsksNothing found → ⊥) → kind_of error ≡ OutOfMemory)
is_memory A (Ok command) found says = tt
is_memory A (Err error) found (inl memory) = λ _ _. memory
is_memory A (Err error) found (inr (none, missing)) = λ _ asked. absurd (asked none)

-- by both options it isn't told how many connections each worker answers
pub both_told : (values : List Row) (text : Text) → GoesOn values → first_of (codes "each") values ≡ Some text → LacksEach values
both_told values text goes_on given (Some each) is = is.1 goes_on
both_told values text goes_on given None is = let none = is.0 in cc

-- where a number is given for the port of figures, and it is none of its range, no port is meant
pub no_metrics : (values : List Row) (text : Text) → first_of (codes "metrics") values ≡ Some text
    → HasNoNumber 1 max_port (first_of (codes "metrics") values) → LacksMetrics values
no_metrics values text given none (Some port) is = none port is
no_metrics values text given none None is = let absent = is in cc
