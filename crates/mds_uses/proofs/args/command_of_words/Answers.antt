use Rattle.std.proofs.Common.{◌==◌, rules, refl, sym, subst, codes, false, true, map, slice_index, List, Some, None, [], ◌∷◌, ◌≡◌}
use Rattle.std.proofs.lemmas.Result.{IfErr-weaker, IfOk-weaker}
use Rattle.clap.specs.Words.{Text, subcommand_of, takes}
use Rattle.clap.proofs.OnLiterals.{clap_on_literals}
use Rattle.mds_args.specs.declared.words.Command.{Command}
use Rattle.mds_args.specs.declared.words.Command.TheVariants.{Serve, Replay, Debug, Table, Vehicles, Compact, Events}
use Rattle.mds_args.specs.Words.{AreTaken, Asks, IsAskedBy, HasValues, name_of, program_app}
use Rattle.mds_uses.proofs.args.command_of_words.Goals as goal

abbrev words : List Text
words = codes "mds_city" ∷ codes "table" ∷ []

found : subcommand_of program_app words ≡ Some (codes "table", [])
unfolding clap_on_literals
found = refl

is_taken : takes program_app words ≡ true
unfolding clap_on_literals
is_taken = refl

-- a name that is `table` begins with a t
begins_alike : (name : Text) → codes "table" ≡ name → (slice_index name 0 == 116) ≡ true
begins_alike name named = subst (λ text. (slice_index text 0 == 116) ≡ true) named refl

-- the command of this name that has no values
only_table : (command : Command) → codes "table" ≡ name_of command → HasValues [] command → command ≡ Table None
unfolding clap_on_literals
only_table (Serve port each workers table journal metrics) named has = let bad : false ≡ true = begins_alike _ named in absurd (cc bad)
only_table (Replay file table any lines unlimited workers) named has = let bad : false ≡ true = begins_alike _ named in absurd (cc bad)
only_table (Debug file provider device table) named has = let bad : false ≡ true = begins_alike _ named in absurd (cc bad)
only_table (Table None) named has = refl
only_table (Table (Some path)) named has = absurd (cc has)
only_table (Vehicles file table check) named has = let bad : false ≡ true = begins_alike _ named in absurd (cc bad)
only_table (Compact old new before cuts follow table) named has = let bad : false ≡ true = begins_alike _ named in absurd (cc bad)
only_table (Events file provider device) named has = let bad : false ≡ true = begins_alike _ named in absurd (cc bad)

asks_table : Asks (subcommand_of program_app words) (Table None)
unfolding clap_on_literals
asks_table = subst (λ told. Asks told (Table None)) (sym found) (refl, refl)

pub returns : goal.returns
returns c =
    let same : map (λ word. word.now) c.as_slice.result.now ≡ words = search rules in
    let only = λ (command : Command) (asked : IsAskedBy words command).
    let is = subst (λ told. Asks told command) found asked.0 in only_table command is.0 is.1 in
    let taken : AreTaken words = (is_taken, λ nothing. nothing (Table None) asks_table) in
    record {
      ok = IfOk-weaker c.parse_words.result _ _ (λ command asked. only command (subst (λ texts. IsAskedBy texts command) same asked)) c.parse_words.ensures.ok;
      err = IfErr-weaker c.parse_words.result _ _ (λ error says. says (subst AreTaken (sym same) taken)) c.parse_words.ensures.err;
    }
