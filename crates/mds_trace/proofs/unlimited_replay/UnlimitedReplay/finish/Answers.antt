use Rattle.std.proofs.Common.{◌≡◌, List, map, sym, ◌∙◌, ap, subst, arith}
use Rattle.std.specs.List.{AllZip}
use Rattle.mds_trace.specs.declared.report.VehicleEnd.{VehicleEnd}
use Rattle.mds_trace.specs.Items.{events_of, vehicles_of}
use Rattle.mds_trace.specs.Replay.{accepted_of, IsEnd}
use Rattle.mds_trace.specs.Followed.{end_at}
use Rattle.mds_trace.specs.UnlimitedReplay.{ReplayingAll}
use Rattle.mds_trace.proofs.Ends.{ends_from}
use Rattle.mds_trace.proofs.unlimited_replay.UnlimitedReplay.finish.Goals as goal

pub returns : goal.returns
returns c = λ items lines took.
    let opening = c.args.self.opening in
    let tables = c.args.self.tables in
    let mentioned = vehicles_of (events_of items) in
    let vehicles_are : c.self.inside.vehicles.entries ≡ c.args.self.vehicles = ap (λ (seen : ReplayingAll). seen.vehicles) c.self.view_is in
    let accepted_is : c.self.inside.accepted ≡ c.args.self.accepted = ap (λ (seen : ReplayingAll). seen.accepted) c.self.view_is in
    let refused_is : c.self.inside.refused ≡ c.args.self.refused = ap (λ (seen : ReplayingAll). seen.refused) c.self.view_is in
    let Are : List VehicleEnd → Type 0 = λ ends. AllZip (IsEnd opening tables (accepted_of items lines)) mentioned ends in
    record {
      verdicts = took.replayed.verdicts;
      vehicles = subst Are (sym (c.in_ok-vehicles.ensures ∙ ap (map end_at) vehicles_are)) (ends_from opening tables _ mentioned _ took.replayed.vehicles.vehicles);
      accepted = accepted_is ∙ took.accepted;
      all = omega (arith, accepted_is, refused_is, took.all);
    }
