-- How a copy of a history goes on.
use Rattle.std.proofs.Common.{◌≡◌, ℕ, zero, suc, ◌+◌, ◌≤◌, ◌⊎◌, inl, inr, List, [], ◌∷◌, ◌++◌, length, take, drop, take-add, length-drop, refl, ap, sym, ◌∙◌, subst, arith}
use Rattle.std.proofs.lemmas.List.{length-take-le}
use mathlib.Core.List.{IsPrefix}
use Rattle.mds_table.specs.Tables.{Tables}
use Rattle.mds_core.specs.declared.request.Request.{Request}
use Rattle.mds_core.specs.Lawful.{IsLawful}
use Rattle.mds_log.specs.Log.{Acceptance, requests}
use Rattle.mds_log.proofs.Lists.{prefix_self, prefix_whole}
use Rattle.mds_book.specs.Shards.{AreOfShard}
use Rattle.mds_book.specs.Copying.{Progressed, IsPiece, IsCopied, max_piece}
use Rattle.mds_book.proofs.Trues.{requests_prefix, requests_length}

-- so many of the first are as before where the list is longer
pub take_longer : {X : Type 0} (n : ℕ) (xs ys : List X) → IsPrefix xs ys → n ≤ length xs → take n ys ≡ take n xs
take_longer zero xs ys begins within = refl
take_longer (suc n) [] ys begins within = absurd (omega arith)
take_longer (suc n) (x ∷ xs) [] begins within = absurd (cc (begins.1))
take_longer (suc n) (x ∷ xs) (y ∷ ys) begins within =
    let rest = take_longer n xs ys (begins.0, cc (begins.1)) (omega arith) in
    let heads : y ≡ x = cc (begins.1) in
    cc (heads, rest)

-- so many from a place on are a piece
pub piece_of : (from size : ℕ) (history : List Request) → from + size ≤ length history → size ≤ max_piece → (size ≡ 0 → from ≡ length history)
    → IsPiece from history (take size (drop from history)) × (length (take size (drop from history)) ≡ size)
piece_of from size history within short none =
    let many : length (take size (drop from history)) ≡ size = length-take-le size (drop from history) (omega (arith, within, length-drop from history)) in (
      record {
        here = ap (λ n. take n (drop from history)) (sym many);
        short = omega (arith, short, many);
        none = λ empty. none (sym many ∙ ap length empty);
      },
      many,
    )

-- a piece that follows what was copied
pub copied_more : (seen longer piece : List Request) (from count : ℕ) → IsPrefix seen longer → from ≤ length seen → IsPiece from longer piece → count ≡ from + length piece
    → take count longer ≡ take from seen ++ piece
copied_more seen longer piece from count begins within is many =
    ap (λ n. take n longer) many ∙ (take-add from (length piece) longer
    ∙ (ap (λ w. w ++ take (length piece) (drop from longer)) (take_longer from seen longer begins within) ∙ ap (λ w. take from seen ++ w) (sym is.here)))

-- a piece of the whole history is copied, of which a beginning had been seen
pub is_copied : (tables : Tables) (number : ℕ) (old : Progressed) (piece : List Request) (new : Progressed) (front log : List Acceptance) (history : List Request)
    → requests front ≡ old.seen → IsPrefix front log → requests log ≡ history → old.count ≤ length old.seen → IsLawful tables history → AreOfShard number history
    → IsPiece old.count history piece → new ≡ record { seen = history; count = old.count + length piece } → IsCopied tables number old piece new
is_copied tables number old piece new front log history saw begins whole within lawful of_shard next is =
    let longer : IsPrefix old.seen history = rw (← saw, ← whole) (requests_prefix front log begins) in
    let made : IsCopied tables number old piece (record { seen = history; count = old.count + length piece }) = record {
      seen = longer;
      lawful = lawful;
      of_shard = of_shard;
      next = next;
      count = refl;
      copied = copied_more old.seen history piece old.count (old.count + length piece) longer within next refl;
    } in
    let Made : Progressed → Type 0 = λ progress. IsCopied tables number old piece progress in
    subst Made (sym is) made

-- a beginning begins as many of the first as it has, and more
begins_first : {X : Type 0} (n : ℕ) (xs ys : List X) → IsPrefix xs ys → length xs ≤ n → IsPrefix xs (take n ys)
begins_first n [] ys begins short = (take n ys, refl)
begins_first zero (x ∷ xs) ys begins short = absurd (omega arith)
begins_first (suc n) (x ∷ xs) [] begins short = absurd (cc (begins.1))
begins_first (suc n) (x ∷ xs) (y ∷ ys) begins short =
    let rest = begins_first n xs ys (begins.0, cc (begins.1)) (omega arith) in
    let heads : x ≡ y = cc (begins.1) in
    (rest.0, cc (heads, rest.1))

-- of two beginnings of one history, the one that is no longer than what was copied of the other was copied
pub was_copied : (seen front : List Acceptance) (count : ℕ) → IsPrefix seen front ⊎ IsPrefix front seen → count ≤ length (requests seen) → length front ≤ count
    → IsPrefix (requests front) (take count (requests seen))
was_copied seen front count (inr shorter) within short =
    begins_first count (requests front) (requests seen) (requests_prefix front seen shorter) (omega (arith, short, requests_length front))
was_copied seen front count (inl longer) within short =
    let same : seen ≡ front = prefix_whole seen front longer (omega (arith, within, short, requests_length seen)) in
    begins_first count (requests front) (requests seen) (subst (λ (w : List Acceptance). IsPrefix (requests w) (requests seen)) same (prefix_self (requests seen)))
    (omega (arith, short, requests_length front))
