use Rattle.std.proofs.Common.{◌+◌, List, [], ◌∷◌, ◌++◌, take, sym, subst}
use Rattle.std.specs.List.{AllZip}
use Rattle.mds_core.specs.declared.key.Key.{Key}
use Rattle.mds_trace.specs.declared.report.VehicleEnd.{VehicleEnd}
use Rattle.mds_trace.specs.Parts.{IsEndIn}
use Rattle.mds_trace.proofs.Places.{take_push, all_push}
use Rattle.mds_trace.proofs.collect.ends_in.Goals as goal

pub loop-key-preserved : goal.loop-key-preserved
loop-key-preserved c =
    let keys = c.as_slice-key-items.result.now in
    let Is = IsEndIn c.args.opening c.args.parts.now in
    let Are : List Key → List VehicleEnd → Type 0 = λ some ends. AllZip Is some ends in
    subst (λ ends. Are (take (c.loop-key.key-index + 1) keys) ends) (sym {A = List VehicleEnd} c.in_ok-push.ensures.items)
    (subst (λ some. Are some (c.loop-key.ends.items ++ c.end_in.result ∷ [])) (take_push keys c.loop-key.key-index c.key-item.result c.loop-key-test.true c.key-item.is)
    (all_push Is (take c.loop-key.key-index keys) c.loop-key.ends.items c.key-item.result c.end_in.result c.loop-key.invariant c.end_in.ensures))
