-- Where the requests about a vehicle end in a history.
use Rattle.std.proofs.Common.{◌≡◌, ◌⊎◌, inl, inr, ℕ, zero, suc, ◌+◌, ◌<◌, ◌≤◌, take, drop, List, [], ◌∷◌, ◌++◌, length, Some, true, cond, refl, sym, ◌∙◌, ap, arith, length-append}
use Rattle.std.specs.Prelude.{slice_get}
use Rattle.std.proofs.lemmas.Bool.{cases_lt}
use Rattle.std.proofs.lemmas.List.{take-append-drop}
use Rattle.mds_core.specs.declared.key.Key.{Key}
use Rattle.mds_core.specs.declared.request.Request.{Request}
use Rattle.mds_core.specs.History.{key_of, same_key, requests_of}
use Rattle.mds_core.proofs.Histories.{same_key_refl, requests_of-append}
use Rattle.mds_shard.specs.Replay.{IsEndOf, IsLastPlace}

-- a list of no elements is empty
none_of : {X : Type 0} (xs : List X) → length xs ≡ 0 → xs ≡ []
none_of [] none = refl
none_of (x ∷ xs) none = absurd (omega arith)

-- what is left of a list from a place on begins with the element that stands there
drop_at : {X : Type 0} (xs : List X) (place : ℕ) (x : X) → slice_get xs place ≡ Some x → drop place xs ≡ x ∷ drop (suc place) xs
drop_at [] place x is = absurd cc
drop_at (y ∷ xs) zero x is = cc (is)
drop_at (y ∷ xs) (suc place) x is = drop_at xs place x is

-- and of that at an earlier place, at the difference
drop_from : {X : Type 0} (xs : List X) (earlier place : ℕ) (x : X) → earlier ≤ place → slice_get xs place ≡ Some x → (front : List X) × (drop earlier xs ≡ front ++ x ∷ drop (suc place) xs)
drop_from xs zero place x le is = (take place xs, sym (take-append-drop place xs) ∙ ap (λ w. take place xs ++ w) (drop_at xs place x is))
drop_from [] (suc earlier) place x le is = absurd cc
drop_from (y ∷ xs) (suc earlier) zero x le is = absurd (omega arith)
drop_from (y ∷ xs) (suc earlier) (suc place) x le is = drop_from xs earlier place x (omega arith) is

-- of a vehicle without requests the end is the beginning
pub ends_at_none : (history : List Request) (key : Key) → requests_of history key ≡ [] → IsEndOf history key 0
ends_at_none history key none = record { none = none; least = λ place is. omega arith }

same_as_key : (request : Request) (key : Key) → key_of request ≡ key → same_key (key_of request) key ≡ true
same_as_key request key about = ap (λ k. same_key (key_of request) k) (sym about) ∙ same_key_refl (key_of request)

-- the requests about a vehicle in a list with one of them in its midst
count_with : (front : List Request) (request : Request) (back : List Request) (key : Key) → same_key (key_of request) key ≡ true
    → length (requests_of (front ++ request ∷ back) key) ≡ length (requests_of front key) + suc (length (requests_of back key))
count_with front request back key same =
    let head : requests_of (request ∷ back) key ≡ request ∷ requests_of back key = ap (λ b. cond b (request ∷ requests_of back key) (requests_of back key)) same in
    ap length (requests_of-append front (request ∷ back) key) ∙ (length-append (requests_of front key) (requests_of (request ∷ back) key)
    ∙ ap (λ w. length (requests_of front key) + length w) head)

-- behind a vehicle's last request there is none, and it itself stands before the end
pub ends_behind_last : (history : List Request) (key : Key) (place : ℕ) → IsLastPlace history key place → IsEndOf history key (suc place)
ends_behind_last history key place is =
    let request = is.request in
    let back = drop (suc place) history in
    let same : same_key (key_of request) key ≡ true = same_as_key request key is.about in
    let whole : history ≡ take place history ++ request ∷ back = sym (take-append-drop place history) ∙ ap (λ w. take place history ++ w) (drop_at history place request is.is) in
    let counted = count_with (take place history) request back key same in
    let one_more : length (requests_of history key) ≡ length (requests_of (take place history) key) + 1 =
    ap length is.last ∙ length-append (requests_of (take place history) key) (request ∷ []) in
    let no_more : length (requests_of back key) ≡ 0 = omega (arith, counted, one_more, ap (λ w. length (requests_of w key)) whole) in record {
      none = none_of (requests_of back key) no_more;
      least = λ earlier none. before earlier none (cases_lt place earlier);
    } where
      before : (earlier : ℕ) → requests_of (drop earlier history) key ≡ [] → (place < earlier) ⊎ (earlier ≤ place) → suc place ≤ earlier
      before earlier none (inl less) = omega arith
      before earlier none (inr le) =
          let same : same_key (key_of is.request) key ≡ true = same_as_key is.request key is.about in
          let split = drop_from history earlier place is.request le is.is in
          let counted = count_with split.0 is.request (drop (suc place) history) key same in
          absurd (omega (arith, counted, ap (λ w. length (requests_of w key)) split.1, ap length none))
