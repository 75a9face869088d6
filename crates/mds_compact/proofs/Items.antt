-- A list, one item after another.
use Rattle.std.proofs.Common.{◌≡◌, ℕ, ◌+◌, ◌<◌, List, [], ◌∷◌, ◌++◌, length, take, drop, get_or, sym, ◌∙◌, ap, add-one, drop-cons}
use Rattle.std.proofs.lemmas.List.{take_more}

-- with the next item
pub next_item : {A : Type 0} (all : List A) (i : ℕ) (item : A) → i < length all → item ≡ get_or all i item
    → (take (i + 1) all ≡ take i all ++ item ∷ []) × (drop i all ≡ item ∷ drop (i + 1) all)
next_item all i item within is =
    let last = ap (λ one. take i all ++ one ∷ []) (sym is) in
    let first = ap (λ one. one ∷ drop (i + 1) all) (sym is) in
    (take_more all i item within ∙ last, rw (add-one, drop-cons all i item) (rw add-one at first))
