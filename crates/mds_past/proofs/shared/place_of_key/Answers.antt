use Rattle.std.proofs.Common.{[], ◌∷◌, Some, ap, sym, ◌∙◌, arith}
use Rattle.std.proofs.lemmas.Option.{slice_get_read}
use Rattle.mds_core.proofs.Histories.{same_key_is}
use Rattle.mds_past.proofs.Lists.{slice_get-behind}
use Rattle.mds_past.proofs.shared.place_of_key.Goals as goal

pub returns-then-eq-clause-place : goal.returns-then-eq-clause-place
returns-then-eq-clause-place c =
    slice_get_read c.args.keys.now.items c.len.result c.args.number c.index.result.now (c.len.ensures ∙ c.args.keys.now.ok.0) c.if-number-len.true c.index.ensures
    ∙ ap Some (same_key_is c.index.result.now c.args.key.now (sym c.eq.ensures ∙ c.if-eq.true))

pub returns-clause-place : goal.returns-clause-place
returns-clause-place c =
    rw c.in-Ok.ensures.items (slice_get-behind c.args.keys.now.items (c.args.key.now ∷ []) c.len-place.result 0 (omega (arith, c.len-place.ensures ∙ c.args.keys.now.ok.0)))
