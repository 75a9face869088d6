use Rattle.std.proofs.Common.{◌≡◌, length, slice_get, Some, map, sym, subst, refl}
use Rattle.std.proofs.lemmas.Option.{slice_get_read}
use Rattle.mds_trace.specs.Items.{events_of, vehicles_of}
use Rattle.mds_trace.specs.Replay.{accepted_of, IsEnd}
use Rattle.mds_trace.specs.Parts.{worker_of, as_seen}
use Rattle.mds_trace.proofs.Collected.{own_end}
use Rattle.mds_trace.proofs.collect.end_in.Goals as goal

pub returns : goal.returns
returns c = λ tables items lines are put.
    let parts = c.args.parts.now in
    let key = c.args.key.now in
    let part = c.index-parts-worker_of.result in
    let worker = worker_of (length parts) key in
    let its : slice_get parts worker ≡ Some part =
    subst (λ w. slice_get parts w ≡ Some part) c.worker_of.ensures.number (slice_get_read parts _ c.worker_of.result part refl c.worker_of.ensures.within c.index-parts-worker_of.is) in
    let share = are worker part its in
    let seen = map (as_seen (length parts) worker) items in
    let followed = c.vehicle_at-vehicle.ensures tables (vehicles_of (events_of seen)) (accepted_of seen share.1.lines) share.0 share.1.replayed.vehicles in
    subst (λ end. IsEnd c.args.opening tables (accepted_of items lines) key end) (sym c.end_of.ensures)
    (own_end c.args.opening tables items parts lines are put key part its share.0 share.1 c.vehicle_at-vehicle.result followed)
