use Rattle.std.proofs.Common.{refl}
use Rattle.std.proofs.lemmas.Grind.{put_two}
use Rattle.mds_batch.proofs.texts.EventJson.write_json.Goals as goal

pub returns : goal.returns
returns g c plain ok =
    let front = rw (c.key.ensures, c.id-id.ensures, c.types.ensures.types) at (c.in_ok-write.ensures.writes plain refl) in
    let back = rw (c.key.ensures, c.position.ensures, c.time-time.ensures.time, c.state-state.ensures) at (c.write-2.ensures.writes front.plain ok) in
    put_two _ _ _ _ _ _ _ front back refl
