use Rattle.mds_core.proofs.Blanks.{are_padded}
use Rattle.mds_core.proofs.event_types.EventTypes.of.Goals as goal

pub invariant_of-result : goal.invariant_of-result
invariant_of-result c = rw (c.copy_from_slice.ensures.after, c.default-names.ensures) (are_padded c.args.types.now c.requires)
