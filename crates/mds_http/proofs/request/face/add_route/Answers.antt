use Rattle.std.proofs.Common.{◌≡◌, ◌∙◌, sym, true, false}
use Rattle.matchit.specs.Route.{parse_route}
use Rattle.mds_http.proofs.RouteLemmas.{inserts_memory, inserts_route}
use Rattle.mds_http.proofs.request.face.add_route.Goals as goal
use Rattle.mds_http.proofs.request.face.add_route.Goals.{in-OutOfMemory, in_default}

pub returns-in-Ok : goal.returns-in-Ok
returns-in-Ok c = inserts_route (parse_route c.args.text.now) c.args.route c.args.router.now c.insert.new.self c.in-Ok.field-0 c.requires c.in-Ok.ensures

pub prove-unreachable-requires : goal.prove-unreachable-requires
prove-unreachable-requires c =
    let told = inserts_memory (parse_route c.args.text.now) c.args.route c.args.router.now c.insert.new.self c.in-Err.error c.requires c.in-Err.ensures in
    elim c.match-matches.branch [
      | in-OutOfMemory w ↦ let no : true ≡ false = sym w.matches-is ∙ c.if-prove.true in cc
      | in_default w ↦ w.in_default.not-OutOfMemory told
    ]
