use Rattle.std.proofs.Common.{rules, subst, sym, ℕ}
use Rattle.std.specs.Option.{option_map}
use Rattle.mds_args.specs.declared.words.Command.{Command}
use Rattle.mds_commands.specs.declared.commands.ReplayOptions.{ReplayOptions}
use Rattle.mds_commands.specs.Change.{change_of}
use Rattle.mds_city.specs.Host.{FileHost, HostFiles, ServerHost, StandardInput}
use Rattle.mds_city.specs.Follow.{FollowHost}
use Rattle.mds_city.specs.declared.follow.FollowAsked.{FollowAsked}
use Rattle.mds_city.specs.Outcome.{Outcome, outcome_of}
use Rattle.mds_city.specs.Program.{Carries, CarriesCuts, CarriesFollow, CarriesReplay, CarriesServe, CutAsked}
use Rattle.mds_city.proofs.program.carry_out.Goals as goal

pub returns-in-Replay : goal.returns-in-Replay
returns-in-Replay g c =
    let files : FileHost _ = record { opens = g.O.Opens.opens c.args.files.now; bytes = g.O.File.Read.remaining } in
    let all : HostFiles _ _ = record {
      opener = files;
      maker = record { names = g.O.MakesFiles.names_file c.args.files.now; may_stand = g.O.New.NewName.may_stand; is_true = g.O.New.NewName.is_true; keeps = g.O.New.NewName.keeps; is_taken = g.O.New.NewName.is_taken; is_over = g.O.New.NewName.is_over };
    } in
    let host : ServerHost _ _ = record { listens = g.O.Listens.listens c.args.files.now; opens_journal = g.O.OpensJournals.opens_journal c.args.files.now } in
    let input : StandardInput _ = record { bytes = g.I.Read.remaining; reader = c.args.input } in
    let journals : FollowHost _ = record { follows = g.O.FollowsJournals.follows c.args.files.now; content = g.O.Followed.Followed.content; is_all = g.O.Followed.Followed.is_all } in
    let outcome : Outcome = outcome_of c.replay_asked.result
    (change_of (g.W.Write.contents c.args.out.now) (g.W.Write.contents c.replay_asked.new.out))
    (change_of (g.E.Write.contents c.args.faults.now) (g.E.Write.contents c.replay_asked.new.faults)) in
    subst (λ (command : Command). Carries all journals host input command outcome) (sym c.in-Replay.is) (λ limited.
    let came = c.replay_asked.ensures limited in (
      came.0,
      came.1,
      subst (λ (options : ReplayOptions). CarriesReplay files input options c.in-Replay.file.now came.0 outcome) c.options_of-options.ensures came.2,
    ))

pub returns-in-Vehicles : goal.returns-in-Vehicles
returns-in-Vehicles g c =
    let files : FileHost _ = record { opens = g.O.Opens.opens c.args.files.now; bytes = g.O.File.Read.remaining } in
    let all : HostFiles _ _ = record {
      opener = files;
      maker = record { names = g.O.MakesFiles.names_file c.args.files.now; may_stand = g.O.New.NewName.may_stand; is_true = g.O.New.NewName.is_true; keeps = g.O.New.NewName.keeps; is_taken = g.O.New.NewName.is_taken; is_over = g.O.New.NewName.is_over };
    } in
    let host : ServerHost _ _ = record { listens = g.O.Listens.listens c.args.files.now; opens_journal = g.O.OpensJournals.opens_journal c.args.files.now } in
    let input : StandardInput _ = record { bytes = g.I.Read.remaining; reader = c.args.input } in
    let journals : FollowHost _ = record { follows = g.O.FollowsJournals.follows c.args.files.now; content = g.O.Followed.Followed.content; is_all = g.O.Followed.Followed.is_all } in
    let outcome : Outcome = outcome_of c.list_vehicles.result
    (change_of (g.W.Write.contents c.args.out.now) (g.W.Write.contents c.list_vehicles.new.out))
    (change_of (g.E.Write.contents c.args.faults.now) (g.E.Write.contents c.list_vehicles.new.faults)) in
    subst (λ (command : Command). Carries all journals host input command outcome) (sym c.in-Vehicles.is) c.list_vehicles.ensures

pub returns-in-Debug : goal.returns-in-Debug
returns-in-Debug g c =
    let files : FileHost _ = record { opens = g.O.Opens.opens c.args.files.now; bytes = g.O.File.Read.remaining } in
    let all : HostFiles _ _ = record {
      opener = files;
      maker = record { names = g.O.MakesFiles.names_file c.args.files.now; may_stand = g.O.New.NewName.may_stand; is_true = g.O.New.NewName.is_true; keeps = g.O.New.NewName.keeps; is_taken = g.O.New.NewName.is_taken; is_over = g.O.New.NewName.is_over };
    } in
    let host : ServerHost _ _ = record { listens = g.O.Listens.listens c.args.files.now; opens_journal = g.O.OpensJournals.opens_journal c.args.files.now } in
    let input : StandardInput _ = record { bytes = g.I.Read.remaining; reader = c.args.input } in
    let journals : FollowHost _ = record { follows = g.O.FollowsJournals.follows c.args.files.now; content = g.O.Followed.Followed.content; is_all = g.O.Followed.Followed.is_all } in
    let outcome : Outcome = outcome_of c.debug_file.result
    (change_of (g.W.Write.contents c.args.out.now) (g.W.Write.contents c.debug_file.new.out))
    (change_of (g.E.Write.contents c.args.faults.now) (g.E.Write.contents c.debug_file.new.faults)) in
    subst (λ (command : Command). Carries all journals host input command outcome) (sym c.in-Debug.is) c.debug_file.ensures

pub returns-in-Compact : goal.returns-in-Compact
returns-in-Compact g c =
    let files : FileHost _ = record { opens = g.O.Opens.opens c.args.files.now; bytes = g.O.File.Read.remaining } in
    let all : HostFiles _ _ = record {
      opener = files;
      maker = record { names = g.O.MakesFiles.names_file c.args.files.now; may_stand = g.O.New.NewName.may_stand; is_true = g.O.New.NewName.is_true; keeps = g.O.New.NewName.keeps; is_taken = g.O.New.NewName.is_taken; is_over = g.O.New.NewName.is_over };
    } in
    let host : ServerHost _ _ = record { listens = g.O.Listens.listens c.args.files.now; opens_journal = g.O.OpensJournals.opens_journal c.args.files.now } in
    let input : StandardInput _ = record { bytes = g.I.Read.remaining; reader = c.args.input } in
    let journals : FollowHost _ = record { follows = g.O.FollowsJournals.follows c.args.files.now; content = g.O.Followed.Followed.content; is_all = g.O.Followed.Followed.is_all } in
    let outcome : Outcome = outcome_of c.compact_asked.result
    (change_of (g.W.Write.contents c.args.out.now) (g.W.Write.contents c.compact_asked.new.out))
    (change_of (g.E.Write.contents c.args.faults.now) (g.E.Write.contents c.compact_asked.new.faults)) in
    subst (λ (command : Command). Carries all journals host input command outcome) (sym c.in-Compact.is) (
      λ cuts. subst (λ (asked : CutAsked). CarriesCuts all (option_map (λ named. named.now) c.in-Compact.table) asked outcome) (search rules) (c.compact_asked.ensures.cut cuts),
      λ follows. subst (λ (asked : FollowAsked). CarriesFollow all journals (option_map (λ named. named.now) c.in-Compact.table) asked outcome) (search rules) (c.compact_asked.ensures.beside follows),
    )

pub returns-in-Events : goal.returns-in-Events
returns-in-Events g c =
    let files : FileHost _ = record { opens = g.O.Opens.opens c.args.files.now; bytes = g.O.File.Read.remaining } in
    let all : HostFiles _ _ = record {
      opener = files;
      maker = record { names = g.O.MakesFiles.names_file c.args.files.now; may_stand = g.O.New.NewName.may_stand; is_true = g.O.New.NewName.is_true; keeps = g.O.New.NewName.keeps; is_taken = g.O.New.NewName.is_taken; is_over = g.O.New.NewName.is_over };
    } in
    let host : ServerHost _ _ = record { listens = g.O.Listens.listens c.args.files.now; opens_journal = g.O.OpensJournals.opens_journal c.args.files.now } in
    let input : StandardInput _ = record { bytes = g.I.Read.remaining; reader = c.args.input } in
    let journals : FollowHost _ = record { follows = g.O.FollowsJournals.follows c.args.files.now; content = g.O.Followed.Followed.content; is_all = g.O.Followed.Followed.is_all } in
    let outcome : Outcome = outcome_of c.print_events.result
    (change_of (g.W.Write.contents c.args.out.now) (g.W.Write.contents c.print_events.new.out))
    (change_of (g.E.Write.contents c.args.faults.now) (g.E.Write.contents c.print_events.new.faults)) in
    subst (λ (command : Command). Carries all journals host input command outcome) (sym c.in-Events.is) c.print_events.ensures

pub returns-in-Serve : goal.returns-in-Serve
returns-in-Serve g c =
    let files : FileHost _ = record { opens = g.O.Opens.opens c.args.files.now; bytes = g.O.File.Read.remaining } in
    let all : HostFiles _ _ = record {
      opener = files;
      maker = record { names = g.O.MakesFiles.names_file c.args.files.now; may_stand = g.O.New.NewName.may_stand; is_true = g.O.New.NewName.is_true; keeps = g.O.New.NewName.keeps; is_taken = g.O.New.NewName.is_taken; is_over = g.O.New.NewName.is_over };
    } in
    let host : ServerHost _ _ = record { listens = g.O.Listens.listens c.args.files.now; opens_journal = g.O.OpensJournals.opens_journal c.args.files.now } in
    let input : StandardInput _ = record { bytes = g.I.Read.remaining; reader = c.args.input } in
    let journals : FollowHost _ = record { follows = g.O.FollowsJournals.follows c.args.files.now; content = g.O.Followed.Followed.content; is_all = g.O.Followed.Followed.is_all } in
    let outcome : Outcome = outcome_of c.serve_named.result
    (change_of (g.W.Write.contents c.args.out.now) (g.W.Write.contents c.serve_named.new.out))
    (change_of (g.E.Write.contents c.args.faults.now) (g.E.Write.contents c.serve_named.new.faults)) in
    let asked : ℕ → Type 0 = λ each. CarriesServe host (record { bytes = g.O.File.Read.remaining; file = c.file_if_named-table.result })
    (option_map (λ named. named.now) c.in-Serve.journal) (record { port = c.in-Serve.port; workers = c.in-Serve.workers; each = each; metrics = c.in-Serve.metrics }) outcome in
    subst (λ (command : Command). Carries all journals host input command outcome) (sym c.in-Serve.is)
    (c.file_if_named-table.result, search rules, subst asked c.connections_each.ensures c.serve_named.ensures)
