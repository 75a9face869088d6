use Rattle.mds_check.proofs.FormLemmas.{check_text-from}
use Rattle.mds_check.proofs.form.check_text.Goals as goal

pub returns : goal.returns
returns c =
    check_text-from c.args.check c.digit.result c.digit-2.result c.digit-3.result c.digit-4.result c.digit-5.result c.digit-6.result c.digit-7.result c.digit-8.result
    c.digit.ensures c.digit-2.ensures c.digit-3.ensures c.digit-4.ensures c.digit-5.ensures c.digit-6.ensures c.digit-7.ensures c.digit-8.ensures
