use Rattle.std.proofs.Common.{◌≡◌, length, refl, arith}
use Rattle.mds_waiting.specs.Waiting.{HasRoom}
use Rattle.mds_waiting.proofs.AdmissionLemmas.{HasRoom-leaves, length-have_left}
use Rattle.mds_waiting.proofs.LeastLemmas.{none_then}
use Rattle.mds_waiting.proofs.waiting.Waiting.key_for.Goals.{then-not-has_room, else-not-has_room}
use Rattle.mds_waiting.proofs.waiting.Waiting.key_for.Goals as goal

pub returns-clause-room : goal.returns-clause-room
returns-clause-room g c =
    let room : HasRoom c.if-not-has_room.self c.args.count = elim c.if-not-has_room.branch [
      | then-not-has_room w ↦ rw w.self-is w.clear_room.ensures.room
      | else-not-has_room w ↦ rw w.self-is (c.has_room.ensures.0 w.if-not-has_room.false)
    ] in
    HasRoom-leaves c.args.count _ _ room c.clear_key.ensures.left

pub returns-clause-memory : goal.returns-clause-memory
returns-clause-memory g c =
    let same : length c.if-not-has_room.self ≡ length c.args.self.now = elim c.if-not-has_room.branch [
      | then-not-has_room w ↦ rw w.self-is (length-have_left w.clear_room.ensures.left.0 c.args.count _ _ w.clear_room.ensures.left.1)
      | else-not-has_room w ↦ rw w.self-is refl
    ] in
    none_then c.clear_key.result c.clear_key.ensures.memory (λ less. omega (arith, less))
