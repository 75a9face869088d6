use Rattle.std.proofs.Common.{◌≡◌, ℕ, suc, ◌<◌, List, ◌∷◌, ◌++◌, Vec, Global, length, map, get_or, take, drop, drop-cons, sym, ap, ◌∙◌, subst, arith}
use Rattle.std.proofs.lemmas.List.{map-append, take-append-drop}
use Rattle.mds_check.specs.Form.{IsChecked}
use Rattle.mds_check.proofs.group.is_checked.Goals as goal

-- the lines before one, it, and those behind it
around : {X : Type 0} (f : X → List ℕ) (xs : List X) (at : ℕ) (x : X) → at < length xs → x ≡ get_or xs at x
    → map f xs ≡ map f (take at xs) ++ f x ∷ map f (drop (suc at) xs)
around f xs at x within is =
    let rest : drop at xs ≡ x ∷ drop (suc at) xs = drop-cons xs at x within ∙ ap (λ y. y ∷ drop (suc at) xs) (sym is) in
    ap (map f) (sym (take-append-drop at xs) ∙ ap (λ more. take at xs ++ more) rest) ∙ map-append f (take at xs) (x ∷ drop (suc at) xs)

pub returns-then-not-take : goal.returns-then-not-take
returns-then-not-take c =
    let lines = c.args.lines.now in
    let at = c.loop-line.line-index in
    let text = λ (line : Vec ℕ Global). line.items in
    let whole = around text lines at c.line-item.result (omega arith) c.line-item.is in
    let given = λ (checked : IsChecked (map text lines)).
    rw (← c.deref.ensures.value) at (subst IsChecked whole checked) in
    (λ yes. absurd cc, λ checked. absurd (c.if-not-take.ensures.unfit (map text (take at lines)) (map text (drop (suc at) lines)) c.loop-line.invariant (given checked)))
