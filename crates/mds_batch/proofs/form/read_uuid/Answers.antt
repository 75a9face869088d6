use Rattle.std.proofs.Common.{◌∙◌, rules}
use Rattle.mds_batch.proofs.FormLemmas.{result_ok-is}
use Rattle.mds_batch.proofs.form.read_uuid.Goals as goal
use Rattle.mds_batch.proofs.form.read_uuid.Goals.{in-Text, in_default}

pub returns-clause-read : goal.returns-clause-read
returns-clause-read c = elim c.match-branch-2.branch [
  | in-Text w ↦
      let head = rw w.in-Text.is at c.in_ok-text.ensures.head in
      (head.0, head.1, rw head.2 (w.result-is ∙ w.ok.ensures.value ∙ result_ok-is w.try_parse.result _ w.try_parse.ensures.ok w.try_parse.ensures.bytes))
  | in_default w ↦ search rules
]
