use Rattle.std.proofs.Common.{map}
use Rattle.mds_args.proofs.AskedLemmas.{counted}
use Rattle.mds_city.proofs.ProgramLemmas.{has_workers}
use Rattle.mds_city.proofs.program.run.Goals as goal

pub carry_out-requires-after_bounds : goal.carry_out-requires-after_bounds
carry_out-requires-after_bounds g c κs within =
    has_workers c.in-Ok.command (counted (map g.S.AsStr.text c.args.words.now) c.in-Ok.command c.in-Ok.ensures.ok)
