-- What is recorded of one vehicle.
use Rattle.std.proofs.Common.{◌≡◌, ℕ, ◌==◌, ◌<◌, List, [], ◌∷◌, Option, Some, None, Bool, true, false, refl, sym, ap, ◌∙◌, subst, arith}
use Rattle.std.proofs.lemmas.Bool.Decides.{nat_tests}
use mathlib.Core.List.{IsPrefix}
use Rattle.mds_core.specs.declared.key.Key.{Key}
use Rattle.mds_core.specs.declared.request.Request.{Request}
use Rattle.mds_core.specs.History.{key_of, same_key, requests_of}
use Rattle.mds_core.proofs.Histories.{same_key_is}
use Rattle.mds_book.specs.Shards.{shard_of, part}
use Rattle.mds_book.specs.Seats.{Seated, seen_in}
use Rattle.mds_book.specs.Copying.{Progressed, copied_in}
use Rattle.mds_book.proofs.CopiedOf.{of_vehicle_prefix}
use Rattle.mds_follow.specs.Parts.{Follows, Covers, CoversVehicle, CoversAbout}

-- a request about a vehicle is of the vehicle's shard
of_its_shard : (request : Request) (key : Key) → same_key (key_of request) key ≡ true → (shard_of (key_of request) == shard_of key) ≡ true
of_its_shard request key same =
    let is : key_of request ≡ key = same_key_is (key_of request) key same in
    let number : shard_of (key_of request) ≡ shard_of key = ap shard_of is in
    grind (arith, nat_tests)

-- one request more: it is of the vehicle and of its shard, or not of the vehicle
one_more : (request : Request) (rest : List Request) (key : Key) → requests_of (part (shard_of key) rest) key ≡ requests_of rest key
    → (about here : Bool) → same_key (key_of request) key ≡ about → (shard_of (key_of request) == shard_of key) ≡ here
    → requests_of (part (shard_of key) (request ∷ rest)) key ≡ requests_of (request ∷ rest) key
one_more request rest key so_far true true about here = rw (here, about) (ap (λ w. request ∷ w) so_far)
one_more request rest key so_far false true about here = rw (here, about) so_far
one_more request rest key so_far false false about here = rw (here, about) so_far
one_more request rest key so_far true false about here = absurd (let both : true ≡ false = sym (of_its_shard request key about) ∙ here in cc)

-- of a vehicle its shard's part has all requests
pub of_part : (recorded : List Request) (key : Key) → requests_of (part (shard_of key) recorded) key ≡ requests_of recorded key
of_part [] key = refl
of_part (request ∷ rest) key = one_more request rest key (of_part rest key) (same_key (key_of request) key) (shard_of (key_of request) == shard_of key) refl refl

-- what is recorded of all that a seat saw has all that it saw of a vehicle
pub covers_vehicle : (key : Key) (seat : Seated) (recorded : List Request) → Covers seat recorded → CoversVehicle key seat recorded
covers_vehicle key seat recorded covers =
    let number = shard_of key in
    let of_shard : IsPrefix (seen_in seat number) (part number recorded) = by_number number in
    subst (λ (w : List Request). IsPrefix (requests_of (seen_in seat number) key) w) (of_part recorded key) (of_vehicle_prefix (seen_in seat number) (part number recorded) key of_shard) where
      by_test : (number : ℕ) (is_zero is_one : Bool) → (number == 0) ≡ is_zero → (number == 1) ≡ is_one → IsPrefix (seen_in seat number) (part number recorded)
      by_test number true is_one zero one =
          let here : number ≡ 0 = grind (arith, nat_tests) in subst (λ (n : ℕ). IsPrefix (seen_in seat n) (part n recorded)) (sym here) covers.first
      by_test number false true zero one =
          let here : number ≡ 1 = grind (arith, nat_tests) in subst (λ (n : ℕ). IsPrefix (seen_in seat n) (part n recorded)) (sym here) covers.second
      by_test number false false zero one = rw (zero, one) (part number recorded, refl)

      by_number : (number : ℕ) → IsPrefix (seen_in seat number) (part number recorded)
      by_number number = by_test number (number == 0) (number == 1) refl refl

-- and so it has what is asked about a vehicle, or about every one
pub covers_about : (about : Option Key) (seat : Seated) (recorded : List Request) → Covers seat recorded → CoversAbout about seat recorded
covers_about None seat recorded covers = covers
covers_about (Some key) seat recorded covers = covers_vehicle key seat recorded covers

-- what was copied of a shard is its part of what is recorded
copied_part : (recorded : List Request) (first second : Progressed) (number : ℕ) → number < 2 → Follows 0 recorded first → Follows 1 recorded second
    → copied_in first second number ≡ part number recorded
copied_part recorded first second number small follows others = by_test (number == 0) refl where
  by_test : (is_zero : Bool) → (number == 0) ≡ is_zero → copied_in first second number ≡ part number recorded
  by_test true zero = let here : number ≡ 0 = grind (arith, nat_tests) in subst (λ (n : ℕ). copied_in first second n ≡ part n recorded) (sym here) (sym follows)
  by_test false zero = let here : number ≡ 1 = grind (arith, nat_tests) in subst (λ (n : ℕ). copied_in first second n ≡ part n recorded) (sym here) (sym others)

-- where all that a seat has seen of a vehicle was copied of its shard, it is recorded
pub copied_covers : (key : Key) (seat : Seated) (recorded : List Request) (first second : Progressed) → shard_of key < 2 → Follows 0 recorded first → Follows 1 recorded second
    → IsPrefix (requests_of (seen_in seat (shard_of key)) key) (requests_of (copied_in first second (shard_of key)) key) → CoversVehicle key seat recorded
copied_covers key seat recorded first second small follows others has =
    let whole : requests_of (copied_in first second (shard_of key)) key ≡ requests_of recorded key =
    ap (λ w. requests_of w key) (copied_part recorded first second (shard_of key) small follows others) ∙ of_part recorded key in
    subst (λ (w : List Request). IsPrefix (requests_of (seen_in seat (shard_of key)) key) w) whole has
