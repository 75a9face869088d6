use Rattle.mds_batch.proofs.KeptLemmas.{kept_all, kept_more, items_stay, items_more, on_err}
use Rattle.mds_batch.proofs.items.EventItemsTakesItems.take.Goals as goal

pub returns-in_err-kept-clause-kept : goal.returns-in_err-kept-clause-kept
returns-in_err-kept-clause-kept c =
    on_err c.from_residual.result _ (λ before items same. items_stay c.self.inside.names.items c.of.new.names.items c.self.inside.items.items
    c.in_err-kept.ensures.grown c.self.invariant c.args.self.now before items c.self.view_is same)

pub invariant_of-self-in_err-push : goal.invariant_of-self-in_err-push
invariant_of-self-in_err-push c =
    rw c.in_err-push.ensures.items
    (kept_all c.self.inside.names.items c.of.new.names.items c.self.inside.items.items c.in_ok-kept.ensures.grown c.self.invariant)

pub returns-in_err-push-clause-kept : goal.returns-in_err-push-clause-kept
returns-in_err-push-clause-kept c =
    on_err c.from_residual-in_err-push.result _ (λ before items same. rw c.in_err-push.ensures.items
    (items_stay c.self.inside.names.items c.of.new.names.items c.self.inside.items.items c.in_ok-kept.ensures.grown c.self.invariant
    c.args.self.now before items c.self.view_is same))

pub invariant_of-self-2 : goal.invariant_of-self-2
invariant_of-self-2 c =
    rw c.in_ok-push.ensures.items
    (kept_more c.self.inside.names.items c.of.new.names.items c.self.inside.items.items c.in_ok-kept.ensures.grown c.self.invariant
    c.in_ok-kept.kept c.in_ok-kept.ensures.kept.0)

pub returns-clause-taken : goal.returns-clause-taken
returns-clause-taken c before items same few =
    rw c.in_ok-push.ensures.items
    (items_more c.self.inside.names.items c.of.new.names.items c.self.inside.items.items c.in_ok-kept.ensures.grown c.self.invariant
    c.args.self.now before items c.self.view_is same c.in_ok-kept.kept c.args.item.now c.in_ok-kept.ensures.kept.1)
