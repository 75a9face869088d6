use Rattle.std.proofs.Common.{◌≡◌, ◌<◌, ◌+◌, ◌∷◌, ◌++◌, ◌∙◌, [], List, length, take, drop, get_or, sym, ap, arith, append_assoc, length-drop}
use Rattle.std.proofs.lemmas.List.{get_or-drop, take_more}
use Rattle.std.proofs.lemmas.Option.{get_or_from_slice_get}
use Rattle.mds_core.specs.declared.request.Request.{Request}
use Rattle.mds_book.proofs.copies.Copies.take.Goals as goal

-- the next request stands behind those so far
pub loop-done-preserved : goal.loop-done-preserved
loop-done-preserved g c =
    let history : List Request = c.args.past.now.requests in
    let rest : List Request = drop c.args.from history in
    let done = c.loop-done.done in
    let pushed = c.in_ok-push.ensures.pushed in
    let request : Request = pushed.0 in
    let within : done < length rest = omega (arith, length-drop c.args.from history, c.loop-done-test.true, c.requires.within) in
    let same : get_or rest done request ≡ request =
    get_or-drop c.args.from history done request ∙ get_or_from_slice_get history (c.args.from + done) request request pushed.1 in
    let longer : take (done + 1) rest ≡ take done rest ++ request ∷ [] = take_more rest done request within ∙ ap (λ r. take done rest ++ r ∷ []) same in
    pushed.2
    ∙ (ap (λ w. w ++ request ∷ []) c.loop-done.invariant
    ∙ (append_assoc c.args.self.now (take done rest) (request ∷ []) ∙ ap (λ w. c.args.self.now ++ w) (sym longer)))
