use Rattle.std.proofs.Common.{arith}
use Rattle.mds_waiting.proofs.LeastLemmas.{HasLeft-from_eldest, fewer_held, if_none, nothing_held, somebody_left}
use Rattle.mds_waiting.proofs.waiting.Waiting.make_room.Goals as goal

pub returns-in_err-key-clause-room : goal.returns-in_err-key-clause-room
returns-in_err-key-clause-room g c =
    let none = nothing_held c.args.self.now c.in_err-key.ensures.none in
    if_none c.from_residual.result (omega (arith, none))

pub returns-clause-left : goal.returns-clause-left
returns-clause-left g c =
    HasLeft-from_eldest c.args.self.now c.take.new.self c.in_ok-key.key c.take.result c.in_ok-key.ensures.eldest
    c.take.ensures.taken c.take.ensures.slots

pub returns-clause-room : goal.returns-clause-room
returns-clause-room g c =
    somebody_left c.args.self.now c.in_ok-key.key c.take.result _ c.in_ok-key.ensures.eldest c.take.ensures.taken

pub returns-clause-fewer : goal.returns-clause-fewer
returns-clause-fewer g c =
    fewer_held c.args.self.now c.take.new.self c.in_ok-key.key c.take.result c.in_ok-key.ensures.eldest
    c.take.ensures.taken c.take.ensures.slots
