-- What was copied of one vehicle.
use Rattle.std.proofs.Common.{◌≡◌, ℕ, ◌+◌, ◌-◌, ◌≤◌, List, [], ◌∷◌, ◌++◌, length, take, drop, sym, ap, ◌∙◌, subst, arith, append-nil}
use mathlib.Core.List.{IsPrefix}
use Rattle.std.proofs.lemmas.List.{take-append-drop, drop-drop}
use Rattle.mds_core.specs.declared.key.Key.{Key}
use Rattle.mds_core.specs.declared.request.Request.{Request}
use Rattle.mds_core.specs.History.{requests_of}
use Rattle.mds_core.proofs.Histories.{requests_of-append}
use Rattle.mds_log.specs.Log.{Acceptance, requests}
use Rattle.mds_shard.specs.Replay.{IsEndOf}
use Rattle.mds_book.specs.Copying.{Progressed, copied_requests}
use Rattle.mds_book.proofs.Copying.{take_longer}
use Rattle.mds_book.proofs.Trues.{requests_prefix}

-- where two lists behind each other are empty, so is the second
second_empty : {X : Type 0} (xs ys : List X) → xs ++ ys ≡ [] → ys ≡ []
second_empty [] ys none = none
second_empty (x ∷ xs) ys none = absurd cc

-- behind a place from which on no request is about the vehicle none is
none_further : (history : List Request) (key : Key) (end place : ℕ) → end ≤ place → requests_of (drop end history) key ≡ [] → requests_of (drop place history) key ≡ []
none_further history key end place le none =
    let more = place - end in
    let rest = drop end history in
    let here : drop more rest ≡ drop place history = drop-drop more end history ∙ ap (λ n. drop n history) (let sum : end + (place - end) ≡ place = omega arith in sum) in
    let split : requests_of (take more rest) key ++ requests_of (drop more rest) key ≡ [] =
    sym (requests_of-append (take more rest) (drop more rest) key) ∙ (ap (λ w. requests_of w key) (take-append-drop more rest) ∙ none) in
    ap (λ w. requests_of w key) (sym here) ∙ second_empty (requests_of (take more rest) key) (requests_of (drop more rest) key) split

-- then all requests about the vehicle stand before that place
all_before : (history : List Request) (key : Key) (place : ℕ) → requests_of (drop place history) key ≡ [] → requests_of history key ≡ requests_of (take place history) key
all_before history key place none =
    ap (λ w. requests_of w key) (sym (take-append-drop place history)) ∙ (requests_of-append (take place history) (drop place history) key
    ∙ (ap (λ w. requests_of (take place history) key ++ w) none ∙ append-nil (requests_of (take place history) key)))

-- the requests about a vehicle in a beginning of a list begin those in the list
pub of_vehicle_prefix : (xs ys : List Request) (key : Key) → IsPrefix xs ys → IsPrefix (requests_of xs key) (requests_of ys key)
of_vehicle_prefix xs ys key begins = (requests_of begins.0 key, sym (requests_of-append xs begins.0 key) ∙ ap (λ w. requests_of w key) begins.1)

-- where as much was copied of a history as leads to the end of a vehicle's requests, all of them were that a beginning of its log has
pub all_were_copied : (seen log : List Acceptance) (history : List Request) (progress : Progressed) (key : Key) (end : ℕ) → IsPrefix seen log → requests log ≡ history
    → IsPrefix progress.seen history → progress.count ≤ length progress.seen → IsEndOf history key end → end ≤ progress.count
    → IsPrefix (requests_of (requests seen) key) (requests_of (copied_requests progress) key)
all_were_copied seen log history progress key end begins whole seen_begins within ends le =
    let in_history : IsPrefix (requests seen) history = subst (λ (w : List Request). IsPrefix (requests seen) w) whole (requests_prefix seen log begins) in
    let same : requests_of history key ≡ requests_of (copied_requests progress) key =
    all_before history key progress.count (none_further history key end progress.count le ends.none) ∙ ap (λ w. requests_of w key) (take_longer progress.count progress.seen history seen_begins within) in
    subst (λ (w : List Request). IsPrefix (requests_of (requests seen) key) w) same (of_vehicle_prefix (requests seen) history key in_history)
