use Rattle.std.proofs.Common.{◌≡◌, refl, rules}
use Rattle.clap.specs.Words.{app_of}
use Rattle.mds_args.specs.Words.{bare_app}
use Rattle.mds_args.proofs.words.program_form.Goals as goal

pub returns : goal.returns
returns c =
    let bare : app_of c.subcommand_required-form.result ≡ bare_app = search rules in
    let with_serve = c.with_command-with_serve.ensures _ _ bare c.serve_form.ensures refl in
    let with_replay = c.with_command-with_replay.ensures _ _ with_serve c.replay_form.ensures refl in
    let with_debug = c.with_command-with_debug.ensures _ _ with_replay c.debug_form.ensures refl in
    let with_table = c.with_command-with_table_command.ensures _ _ with_debug c.table_form.ensures refl in
    let with_vehicles = c.with_command-with_vehicles.ensures _ _ with_table c.vehicles_form.ensures refl in
    let with_compact = c.with_command-with_compact.ensures _ _ with_vehicles c.compact_form.ensures refl in
    c.with_command.ensures _ _ with_compact c.events_form.ensures refl
