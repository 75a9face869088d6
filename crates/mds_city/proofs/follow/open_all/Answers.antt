use Rattle.mds_city.proofs.follow.open_all.Goals as goal

pub returns-clause-ok : goal.returns-clause-ok
returns-clause-ok g c =
    let found = c.in-Some.ensures in
    record { first = found.0; second = found.1; third = found.2; fourth = found.3; behind = c.in-Some-follow.ensures; new = c.in_ok-name.ensures.named }
