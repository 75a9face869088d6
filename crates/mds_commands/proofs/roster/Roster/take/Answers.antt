use Rattle.std.proofs.Common.{◌<◌, inl, inr, length, refl, sym, rules, arith}
use Rattle.std.below.core.specs.declared.int.usize.TheConstants.{MAX}
use Rattle.mds_core.specs.History.{key_of, requests_of, reports}
use Rattle.mds_commands.specs.declared.roster.Roster.{Roster}
use Rattle.mds_commands.specs.Roster.{LacksRoom}
use Rattle.mds_commands.proofs.Pushed.{roster_push, roster_same, own_few, names_count, may_be_done, not_done}
use Rattle.mds_commands.proofs.roster.Roster.take.Goals as goal

pub returns-in_ok-keep-in-Done-clause-taken : goal.returns-in_ok-keep-in-Done-clause-taken
returns-in_ok-keep-in-Done-clause-taken c = λ tables history is.
    let roster = c.args.self.now in
    let request = c.args.request.now in
    let own = requests_of history (key_of request) in
    let known = c.known_of-place.ensures tables history is in
    let may = may_be_done tables history request roster c.decide.result is (c.decide.ensures own known) c.in-Done.is in
    let few : length (reports own) < MAX = omega (arith, own_few history (key_of request), names_count tables history roster is, c.events-events.ensures.count, c.events-events.ensures.small) in
    let stands = c.standing_after-standing.ensures own known.standing few in
    (may, roster_push tables history request roster _ c.standing_after-standing.result is may stands c.in_ok-keep-in-Done.ensures.vehicles c.in_ok-keep-in-Done.ensures.names refl)

pub returns-in_err-keep-in-Done-clause-memory : goal.returns-in_err-keep-in-Done-clause-memory
returns-in_err-keep-in-Done-clause-memory c =
    let roster = c.args.self.now in
    let request = c.args.request.now in
    let now : Roster = record { tables = roster.tables; known = c.keep.new.known } in
    let lacks : LacksRoom request roster now = λ tables history is. (
      may_be_done tables history request roster c.decide.result is (c.decide.ensures (requests_of history (key_of request)) (c.known_of-place.ensures tables history is)) c.in-Done.is,
      roster_same tables history roster now is refl c.in_err-keep-in-Done.ensures.unchanged.entries c.in_err-keep-in-Done.ensures.unchanged.names,
    ) in
    search rules

pub returns-in-Seen : goal.returns-in-Seen
returns-in-Seen c = record {
  taken = λ tables history is. (
    not_done tables history c.args.request.now c.args.self.now c.decide.result is (c.decide.ensures (requests_of history (key_of c.args.request.now)) (c.known_of-place.ensures tables history is))
        (λ done. elim c.in-Seen.is [ inl seen ↦ let no = sym seen.1 in cc | inr refused ↦ let no = sym refused.1 in cc ]),
    is,
  );
  memory = tt;
}
