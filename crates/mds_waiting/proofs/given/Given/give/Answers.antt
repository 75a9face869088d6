use Rattle.std.proofs.Common.{◌≡◌, ℕ, ◌+◌, List, ◌++◌, length, take, drop, sym, ap, ◌∙◌, take_at, rules}
use Rattle.std.proofs.lemmas.List.{drop-drop, take-append-drop, take_rest}
use Rattle.mds_waiting.proofs.given.Given.give.Goals as goal

-- bytes in front, behind which the rest stands
joined : (copied room items : List ℕ) (count given : ℕ) → copied ≡ take given (drop count items) → length copied ≡ given
    → take given (copied ++ drop given room) ++ drop (count + given) items ≡ drop count items
joined copied room items count given is len =
    ap (λ (l : List ℕ). l ++ drop (count + given) items) (take_at copied (drop given room) given len ∙ is)
    ∙ ap (λ (l : List ℕ). take given (drop count items) ++ l) (sym (drop-drop given count items))
    ∙ take-append-drop given (drop count items)

pub returns-clause-given : goal.returns-clause-given
returns-clause-given c =
    let is : c.copy_from_slice.new.self ≡ take c.min-count.result (drop c.self.inside.count c.self.inside.bytes.items) =
    c.copy_from_slice.ensures.after
    ∙ ap (λ (l : List ℕ). take c.min-count.result l) (take_rest c.deref.result.now c.self.inside.count)
    ∙ ap (λ (l : List ℕ). take c.min-count.result (drop c.self.inside.count l)) c.deref.ensures.value in
    let len : length c.copy_from_slice.new.self ≡ c.min-count.result = search rules in
    joined _ c.args.room.now c.self.inside.bytes.items c.self.inside.count c.min-count.result is len ∙ c.self.view_is
