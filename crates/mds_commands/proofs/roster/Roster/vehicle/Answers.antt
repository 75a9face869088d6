use Rattle.std.proofs.Common.{sym}
use Rattle.mds_commands.proofs.Pushed.{vehicle_at, no_vehicle_at}
use Rattle.mds_commands.proofs.roster.Roster.vehicle.Goals as goal

pub returns-in-Some : goal.returns-in-Some
returns-in-Some c = λ tables history is.
    sym (vehicle_at tables history c.args.self.now c.args.place c.in-Some.key.now c.in-Some.standing.now is (sym c.in-Some.ensures.entry) c.in-Some.ensures.value)

pub returns-in-None : goal.returns-in-None
returns-in-None c = λ tables history is. sym (no_vehicle_at tables history c.args.self.now c.args.place is (sym c.in-None.ensures.entry))
