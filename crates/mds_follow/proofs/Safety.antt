-- What is recorded stays so after each crash.
use Rattle.std.proofs.Common.{◌≡◌, ◌⊎◌, inl, inr, ℕ, zero, suc, ◌<◌, ◌≤◌, List, [], ◌∷◌, ◌++◌, length, take, drop, Some, slice_get, refl, sym, ap, ◌∙◌, subst, arith, take-append-drop}
use Rattle.std.proofs.lemmas.List.{map-append}
use mathlib.Core.List.{IsPrefix}
use Rattle.mds_core.specs.declared.request.Request.{Request}
use Rattle.mds_log.specs.Log.{Acceptance, requests}
use Rattle.mds_log.proofs.Lists.{prefix_trans}
use Rattle.mds_book.proofs.Trues.{requests_prefix}
use Rattle.mds_book.proofs.Copying.{take_longer}
use Rattle.mds_follow.specs.Record.{IsBeforeOrAfter, Passes, recorded_at, IsSafe}

-- the requests up to a place begin all of them
front_begins : (n : ℕ) (told : List Acceptance) → IsPrefix (requests (take n told)) (requests told)
front_begins n told = requests_prefix (take n told) told (drop n told, take-append-drop n told)

-- what is recorded stays so where a crash may leave a group besides
pub safe_step : {F : Type 0} (moment : F → ℕ) (left_since : F → ℕ → List Request → Type 0) (old new : F) (P : List Request → Type 0) (told : List Acceptance) (group : List Request)
    → Passes moment left_since old new P → ((c : List Request) → P c → IsBeforeOrAfter (requests told) group c) → IsSafe (left_since old) (moment old) told
    → IsSafe (left_since new) (moment new) told
safe_step moment left_since old new P told group passes may safe place one here =
    let was = safe place one here in
    (omega (arith, was.0, passes.later), λ c left. by_case c was.1 (passes.before one.tag c was.0 left)) where
      front : List Request
      front = requests (take (suc place) told)

      by_time : (c : List Request) → IsBeforeOrAfter (requests told) group c → IsPrefix front c
      by_time c (inl same) = subst (IsPrefix front) (sym same) (front_begins (suc place) told)
      by_time c (inr same) =
          let longer : IsPrefix front (requests told ++ group) = prefix_trans front (requests told) (requests told ++ group) (front_begins (suc place) told) (group, refl) in
          subst (IsPrefix front) (sym same) longer

      by_case : (c : List Request) → ((d : List Request) → left_since old one.tag d → IsPrefix front d) → left_since old one.tag c ⊎ P c → IsPrefix front c
      by_case c was (inl left) = was c left
      by_case c was (inr now) = by_time c (may c now)

-- an element of two lists is one of the first or of the second
either_list : {X : Type 0} (xs ys : List X) (place : ℕ) (x : X) → slice_get (xs ++ ys) place ≡ Some x
    → ((slice_get xs place ≡ Some x) × (place < length xs)) ⊎ ((k : ℕ) × (slice_get ys k ≡ Some x))
either_list [] ys place x is = inr (place, is)
either_list (w ∷ xs) ys zero x is = inl (is, omega arith)
either_list {X = X} (w ∷ xs) ys (suc place) x is = later (either_list xs ys place x is) where
  later : ((slice_get xs place ≡ Some x) × (place < length xs)) ⊎ ((k : ℕ) × (slice_get ys k ≡ Some x))
      → ((slice_get (w ∷ xs) (suc place) ≡ Some x) × (suc place < length (w ∷ xs))) ⊎ ((k : ℕ) × (slice_get ys k ≡ Some x))
  later (inl (here, below)) = inl (here, omega (arith, below))
  later (inr there) = inr there

-- each of a group has its moment
moment_of : (now : ℕ) (group : List Request) (k : ℕ) (one : Acceptance) → slice_get (recorded_at now group) k ≡ Some one → one.tag ≡ now
moment_of now [] k one is = absurd cc
moment_of now (request ∷ rest) zero one is = cc (is)
moment_of now (request ∷ rest) (suc k) one is = moment_of now rest k one is

-- a group asks its requests
group_requests : (now : ℕ) (group : List Request) → requests (recorded_at now group) ≡ group
group_requests now [] = refl
group_requests now (request ∷ rest) = ap (λ w. request ∷ w) (group_requests now rest)

-- what is recorded asks for the group behind the others
pub recorded_requests : (now : ℕ) (told : List Acceptance) (group : List Request) → requests (told ++ recorded_at now group) ≡ requests told ++ group
recorded_requests now told group =
    map-append (λ (one : Acceptance). one.request) told (recorded_at now group) ∙ ap (λ w. requests told ++ w) (group_requests now group)

-- a group is recorded, and a crash at this moment leaves it
pub safe_more : (left : ℕ → List Request → Type 0) (now : ℕ) (told : List Acceptance) (group : List Request) → IsSafe left now told
    → ((c : List Request) → left now c → c ≡ requests told ++ group) → IsSafe left now (told ++ recorded_at now group)
safe_more left now told group safe only place one here = by_list (either_list told (recorded_at now group) place one here) where
  all : List Acceptance
  all = told ++ recorded_at now group

  Reads : List Acceptance → Type 0
  Reads front = (one.tag ≤ now) × ((c : List Request) → left one.tag c → IsPrefix (requests front) c)

  by_list : ((slice_get told place ≡ Some one) × (place < length told)) ⊎ ((k : ℕ) × (slice_get (recorded_at now group) k ≡ Some one)) → Reads (take (suc place) all)
  by_list (inl (was, below)) =
      let same : take (suc place) all ≡ take (suc place) told = take_longer (suc place) told all (recorded_at now group, refl) (omega (arith, below)) in
      subst Reads (sym same) (safe place one was)
  by_list (inr (k, new)) =
      let tag : one.tag ≡ now = moment_of now group k one new in
      let front : IsPrefix (requests (take (suc place) all)) (requests told ++ group) = rw (← recorded_requests now told group) (front_begins (suc place) all) in (
        omega (arith, tag),
        λ c is_left.
            let at_now : left now c = subst (λ (t : ℕ). left t c) tag is_left in
            subst (IsPrefix (requests (take (suc place) all))) (sym (only c at_now)) front,
      )
