use Rattle.std.proofs.Common.{◌≡◌, get_or, sym, ◌∙◌, subst, arith}
use Rattle.std.proofs.lemmas.List.{take_all}
use Rattle.std.proofs.lemmas.List.Elements.{All-more, All-same}
use Rattle.mds_table.specs.TypeName.{IsTypeName}
use Rattle.mds_entries.proofs.whole.names_are_whole.Goals as goal

pub loop-name-preserved : goal.loop-name-preserved
loop-name-preserved c =
    let names = c.args.names.now in
    let same : c.as_bytes.result.now ≡ get_or names c.loop-name.name-index c.name-item.result = c.as_bytes.ensures.bytes ∙ c.name-item.is in
    let here = subst IsTypeName same c.as_bytes.ensures.name in
    All-more IsTypeName names c.loop-name.name-index c.name-item.result (omega arith) c.loop-name.invariant here

pub returns : goal.returns
returns c =
    let names = c.args.names.now in
    All-same IsTypeName names _ (sym (take_all c.loop-name.name-index names (omega arith))) c.loop-name.invariant
