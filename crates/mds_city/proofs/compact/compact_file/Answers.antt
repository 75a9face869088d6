use Rattle.std.proofs.Common.{inr}
use Rattle.mds_city.proofs.compact.compact_file.Goals as goal

pub returns-in-Ok-compact-clause-ok : goal.returns-in-Ok-compact-clause-ok
returns-in-Ok-compact-clause-ok g c =
    let found = c.in-Some.ensures in (
      c.in-Some.readings,
      record { first = found.0; second = found.1; third = found.2; fourth = found.3 },
      c.in_ok-name.name,
      c.compact.new.name,
      c.in_ok-name.ensures.named,
      c.in-Ok-compact.ensures.made,
      λ keeps. (c.in-Ok-compact.ensures.over keeps, c.in-Ok-compact.ensures.free keeps),
    )

pub returns-clause-err : goal.returns-clause-err
returns-clause-err g c =
    let found = c.in-Some.ensures in
    inr (inr (
      c.in-Err.error,
      (
        c.in-Some.readings,
        record { first = found.0; second = found.1; third = found.2; fourth = found.3 },
        c.in-Err.ensures.fault,
        c.in_ok-name.name,
        c.compact.new.name,
        c.in_ok-name.ensures.named,
        c.in-Err.ensures.crash,
        λ keeps. (c.in-Err.ensures.over keeps, c.in-Err.ensures.order keeps),
      ),
      c.problem_of.ensures,
    ))
