use Rattle.std.proofs.Common.{◌≡◌, rules, subst}
use Rattle.std.proofs.lemmas.Result.{IfOk-weaker}
use Rattle.mds_entries.proofs.EntryLemmas.{lines_tell_one_request}
use Rattle.mds_entries.specs.Entry.{Tells}
use Rattle.mds_uses.proofs.entries.lay_out_and_read.Goals as goal

pub returns : goal.returns
returns c =
    let line = c.in_ok-line.line.now in
    let tells : Tells line c.args.request.now = search rules in
    let same : c.as_bytes.result.now ≡ line = search rules in
    IfOk-weaker c.read.result _ _ (λ read is. lines_tell_one_request line read c.args.request.now (subst (λ bytes. Tells bytes read) same is) tells)
    c.read.ensures.request
