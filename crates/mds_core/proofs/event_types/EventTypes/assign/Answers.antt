use Rattle.std.proofs.Common.{◌≡◌, replicate, ◌∙◌, ap}
use Rattle.mds_core.specs.EventTypes.{blank_type}
use Rattle.mds_core.proofs.Blanks.{are_padded, all_blank}
use Rattle.mds_core.proofs.event_types.EventTypes.assign.Goals as goal

pub invariant_of-self : goal.invariant_of-self
invariant_of-self c =
    let inside = c.self.inside in
    let cleared : c.fill.new.self ≡ replicate inside.count blank_type =
    c.fill.ensures.after (λ name same. same) ∙ ap (λ n. replicate n c.default.result) c.self.invariant.count ∙ ap (λ name. replicate inside.count name) c.default.ensures in
    rw (c.copy_from_slice.ensures.after, cleared, all_blank inside.names inside.count c.self.invariant) (are_padded c.args.types.now c.requires)
