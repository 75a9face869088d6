-- Elements of pieces of one size.
use Rattle.std.proofs.Common.{◌≡◌, ℕ, zero, suc, ◌+◌, ◌*◌, ◌<◌, ◌≤◌, ◌++◌, List, [], ◌∷◌, length, refl, ap, ◌∙◌, arith, append_assoc}
use Rattle.std.specs.Prelude.{slice_get, Some, Vec}
use Rattle.std.specs.List.{All}
use Rattle.std.proofs.Math.Nat.{lt_of_mul-lt-mul_right}
use Rattle.std.proofs.lemmas.List.{length-append}
use Rattle.std.proofs.lemmas.List.Concat.{flat_map-cons}
use Rattle.std.proofs.lemmas.List.Elements.{All-head, All-tail}
use Rattle.mds_past.specs.Pieces.{joined}
use Rattle.mds_past.proofs.Lists.{slice_get-append, slice_get-behind}

module _ {T A : Type 0} (size : ℕ) where
  abbrev HasSize : Vec T A → Type 0
  HasSize piece = length piece.items ≡ size

  joined-cons : (piece : Vec T A) (pieces : List (Vec T A)) → joined (piece ∷ pieces) ≡ piece.items ++ joined pieces
  joined-cons piece pieces = flat_map-cons (λ (one : Vec T A). one.items) piece pieces

  -- so many elements they have
  pub length-joined : (full : List (Vec T A)) → All HasSize full → length (joined full) ≡ length full * size
  length-joined [] are = omega arith
  length-joined (piece ∷ full) are =
      rw (joined-cons piece full)
      (omega (arith, length-append piece.items (joined full), All-head HasSize piece full are, length-joined full (All-tail HasSize piece full are)))

  -- an element of a full piece
  pub in_full : (full : List (Vec T A)) (last : List T) (number place : ℕ) (piece : Vec T A) → All HasSize full → slice_get full number ≡ Some piece → place < size
      → slice_get (joined full ++ last) (number * size + place) ≡ slice_get piece.items place
  in_full [] last number place piece are is within = absurd cc
  in_full (first ∷ full) last zero place piece are is within =
      let one : length first.items ≡ size = All-head HasSize first full are in
      let same : first ≡ piece = cc in
      rw (joined-cons first full, append_assoc)
      (slice_get-append first.items (joined full ++ last) (0 * size + place) (omega arith)
      ∙ (let at_place : 0 * size + place ≡ place = omega arith in rw (at_place, same) refl))
  in_full (first ∷ full) last (suc number) place piece are is within =
      let one : length first.items ≡ size = All-head HasSize first full are in
      rw (joined-cons first full, append_assoc)
      (slice_get-behind first.items (joined full ++ last) (suc number * size + place) (number * size + place) (omega arith)
      ∙ in_full full last number place piece (All-tail HasSize first full are) is within)

  -- a place past all full pieces lies in the piece behind them
  number_behind : (full : List (Vec T A)) (last : List T) (number place : ℕ) → All HasSize full → length last ≤ size → number * size + place < length (joined full ++ last)
      → length full ≤ number → length full ≡ number
  number_behind full last number place are few inside past =
      let whole : length (joined full ++ last) ≡ length full * size + length last = length-append (joined full) last ∙ ap (λ n. n + length last) (length-joined full are) in
      let less : number * size < (length full + 1) * size = omega arith in
      let next : number < length full + 1 = lt_of_mul-lt-mul_right size less in
      omega arith

  pub within_last : (full : List (Vec T A)) (last : List T) (number place : ℕ) → All HasSize full → length last ≤ size → number * size + place < length (joined full ++ last)
      → length full ≤ number → place < length last
  within_last full last number place are few inside past =
      let whole : length (joined full ++ last) ≡ length full * size + length last = length-append (joined full) last ∙ ap (λ n. n + length last) (length-joined full are) in
      let same : length full * size ≡ number * size = ap (λ n. n * size) (number_behind full last number place are few inside past) in
      omega arith

  -- an element of the last piece
  pub in_last : (full : List (Vec T A)) (last : List T) (number place : ℕ) → All HasSize full → length last ≤ size → number * size + place < length (joined full ++ last)
      → length full ≤ number → slice_get (joined full ++ last) (number * size + place) ≡ slice_get last place
  in_last full last number place are few inside past =
      slice_get-behind (joined full) last (number * size + place) place
      (rw (length-joined full are, number_behind full last number place are few inside past) refl)
