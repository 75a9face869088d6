use Rattle.std.proofs.Common.{◌≡◌, ℕ, length, sym, subst, arith}
use Rattle.mds_waiting.specs.Least.{IsLeastBelow}
use Rattle.mds_waiting.proofs.LeastLemmas.{IsLeastBelow-more}
use Rattle.mds_waiting.proofs.least.find_least.Goals as goal

pub loop-key-preserved : goal.loop-key-preserved
loop-key-preserved g c =
    rw c.lesser_of-best.ensures
    (IsLeastBelow-more c.args.order c.args.slots.now c.loop-key.key c.loop-key.best c.index-slots-key.result c.time_in.result
    (omega arith) c.index-slots-key.is (sym c.time_in.ensures) c.loop-key.invariant)

pub returns : goal.returns
returns g c =
    let all : c.loop-key.key ≡ length c.args.slots.now = omega arith in
    subst (λ (high : ℕ). IsLeastBelow c.args.order c.args.slots.now high c.loop-key.best) all c.loop-key.invariant
