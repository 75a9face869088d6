use Rattle.std.proofs.Common.{rules, ◌≢◌, length}
use Rattle.mds_http.proofs.BodyLaws.{several_listed}
use Rattle.mds_http.proofs.response.body.tables_body.Goals.{in_default-via-then-tables-lt1, in_default-via-else-tables-lt1+else-tables-lt2}
use Rattle.mds_http.proofs.response.body.tables_body.Goals as goal

pub returns-in_default : goal.returns-in_default
returns-in_default c =
    let several : length c.args.tables.now ≢ 1 = elim c.in_default.branch [
      | in_default-via-then-tables-lt1 w ↦ search rules
      | in_default-via-else-tables-lt1+else-tables-lt2 w ↦ search rules
    ] in
    rw (several_listed c.args.tables.now several) c.format-in_default.ensures.ok
