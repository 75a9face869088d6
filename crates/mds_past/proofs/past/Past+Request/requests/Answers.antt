use Rattle.std.proofs.Common.{◌∙◌, sym, ap, arith}
use Rattle.std.proofs.lemmas.List.{map-id}
use Rattle.mds_past.proofs.past.Past+Request.requests.Goals as goal

pub as_slice-requires : goal.as_slice-requires
as_slice-requires c = omega (arith, c.self.invariant.pieces, c.self.invariant.most, c.self.invariant.fits)

pub returns : goal.returns
returns c = c.as_slice.ensures ∙ sym (map-id c.self.inside.kept.items) ∙ ap (λ past. past.requests) c.self.view_is
