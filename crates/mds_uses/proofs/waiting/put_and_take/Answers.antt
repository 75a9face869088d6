use Rattle.std.proofs.Common.{◌≡◌, ℕ, zero, suc, List, [], ◌∷◌, Option, Some, None, slice_get, slice_set, sym, ◌∙◌, ap}
use Rattle.mds_uses.proofs.waiting.put_and_take.Goals as goal

-- an empty slot that was filled and emptied again is as it was
emptied_again : {X : Type 0} (slots : List (Option X)) (key : ℕ) (x : X) → slice_get slots key ≡ Some None → slice_set (slice_set slots key (Some x)) key None ≡ slots
emptied_again [] key x vacant = cc
emptied_again (slot ∷ slots) zero x vacant = let empty : slot ≡ None = cc in ap (λ one. one ∷ slots) (sym empty)
emptied_again (slot ∷ slots) (suc key) x vacant = ap (λ rest. slot ∷ rest) (emptied_again slots key x vacant)

pub returns-clause-others : goal.returns-clause-others
returns-clause-others g c =
    let filled : c.put.new.self ≡ slice_set c.args.waiting.now c.args.key (Some c.args.waiter) = c.put.ensures in
    c.take.ensures.slots ∙ ap (λ slots. slice_set slots c.args.key None) filled ∙ emptied_again c.args.waiting.now c.args.key c.args.waiter c.requires.vacant
