use Rattle.mds_shard.proofs.shard.Shard.find.Goals as goal

pub returns-in-Some : goal.returns-in-Some
returns-in-Some g c =
    let kept = rw (← c.in-Some.ensures.value) at (c.self.invariant.standings c.args.key.now) in
    rw (← c.self.view_is) kept

pub returns-in-None : goal.returns-in-None
returns-in-None g c =
    let kept = rw (← c.in-None.ensures.value) at (c.self.invariant.standings c.args.key.now) in
    rw (← c.self.view_is) kept
