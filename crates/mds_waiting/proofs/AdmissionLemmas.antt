-- What stays where connections leave for one more.
use Rattle.std.proofs.Common.{◌≡◌, inl, inr, ℕ, zero, suc, ◌≤◌, List, [], ◌∷◌, ◌++◌, length, Option, Some, None, refl, ap, ◌∙◌, arith}
use Rattle.std.specs.Prelude.{slice_set}
use Rattle.std.proofs.lemmas.List.{length-set}
use Rattle.std.proofs.lemmas.List.Sums.{sum_by_push}
use Rattle.std.proofs.lemmas.Option.{get_or_from_slice_get}
use Rattle.mds_waiting.specs.declared.waiter.Waiter.{Waiter}
use Rattle.mds_waiting.specs.Waiting.{HasRoom, HaveLeftFor, LeavesKey, held_bytes, weight}
use Rattle.mds_waiting.proofs.SlotLemmas.{emptied}

module _ {S : Type 0} where
  -- there are as many keys as before
  pub length-have_left : (n count : ℕ) (old new : List (Option (Waiter S))) → HaveLeftFor n count old new → length new ≡ length old
  length-have_left zero count old new same = ap length same
  length-have_left (suc n) count old new left =
      ap length left.4.3 ∙ length-set left.0 left.4.0 None ∙ length-have_left n count old left.0 left.2

  -- no more is held where one left for a key
  held-leaves : (old new : List (Option (Waiter S))) → LeavesKey old new → held_bytes new ≤ held_bytes old
  held-leaves old new (inl (inl same)) = let is : held_bytes new ≡ held_bytes old = ap held_bytes same in omega arith
  held-leaves old new (inl (inr grown)) =
      let is : held_bytes new ≡ held_bytes (old ++ None ∷ []) = ap held_bytes grown in
      let more = sum_by_push weight old None in
      omega arith
  held-leaves old new (inr left) =
      let eldest = left.1.1 in
      let is : held_bytes new ≡ held_bytes (slice_set old left.1.0 None) = ap held_bytes left.1.2 in
      let sum = emptied weight refl old left.1.0 eldest.waiter
      (get_or_from_slice_get old left.1.0 (Some eldest.waiter) None eldest.there) in
      omega arith

  -- so the room for one more stays
  pub HasRoom-leaves : (count : ℕ) (old new : List (Option (Waiter S))) → HasRoom old count → LeavesKey old new → HasRoom new count
  HasRoom-leaves count old new room left = let less = held-leaves old new left in omega (arith, room)
