use Rattle.std.proofs.Common.{◌∙◌}
use Rattle.mds_batch.proofs.FormLemmas.{result_ok-is}
use Rattle.mds_http.proofs.request.target.uuid_of.Goals as goal

pub returns : goal.returns
returns c = c.ok.ensures.value ∙ result_ok-is c.try_parse.result _ c.try_parse.ensures.ok c.try_parse.ensures.bytes
