-- The walk from a vehicle's last place back to its first.
use Rattle.std.proofs.Common.{◌≡◌, ℕ, zero, suc, ◌<◌, ◌≤◌, take, List, [], ◌∷◌, ◌++◌, length, Option, Some, None, refl, sym, ◌∙◌, ap, subst, arith}
use Rattle.std.specs.Prelude.{slice_get, reverse, option_map}
use Rattle.std.specs.List.{cons_option}
use Rattle.std.specs.Option.{option_to_list}
use Rattle.std.proofs.Common.{append_assoc, length-append}
use mathlib.Core.List.{IsPrefix}
use Rattle.std.proofs.lemmas.List.{append-nil, take_all, length-take-le, length-reverse, reverse-append, take-append-le}
use Rattle.std.proofs.lemmas.List.Elements.{filter_map-append}
use Rattle.std.proofs.lemmas.Option.{slice_get_within}
use Rattle.mds_core.specs.declared.key.Key.{Key}
use Rattle.mds_core.specs.declared.request.Request.{Request}
use Rattle.mds_core.specs.Reported.{Reported}
use Rattle.mds_core.specs.History.{key_of, requests_of, report_of, reports}
use Rattle.mds_core.specs.Machine.{events_if, events_in}
use Rattle.mds_shard.specs.declared.vehicle.Vehicle.{Vehicle}
use Rattle.mds_shard.specs.Replay.{IsLastPlace, IsLastPlaceIf, IsVehicle, AreBefore}
use Rattle.mds_shard.specs.Walk.{steps_left, HasFound, IsWalk, IsWalkOf, IsStart}

slice_get-take : {X : Type 0} (xs : List X) (n i : ℕ) → i < n → slice_get (take n xs) i ≡ slice_get xs i
slice_get-take [] zero i within = absurd (omega arith)
slice_get-take [] (suc n) i within = refl
slice_get-take (x ∷ xs) zero i within = absurd (omega arith)
slice_get-take (x ∷ xs) (suc n) zero within = refl
slice_get-take (x ∷ xs) (suc n) (suc i) within = slice_get-take xs n i (omega arith)

take-take_less : {X : Type 0} (xs : List X) (m n : ℕ) → m ≤ n → take m (take n xs) ≡ take m xs
take-take_less xs zero n less = refl
take-take_less [] (suc m) zero less = refl
take-take_less [] (suc m) (suc n) less = refl
take-take_less (x ∷ xs) (suc m) zero less = absurd (omega arith)
take-take_less (x ∷ xs) (suc m) (suc n) less = ap (λ ys. x ∷ ys) (take-take_less xs m n (omega arith))

-- what is told of the event at a place is told of the request that stands there
pub told_at : (at : Option Request) (event : Option Reported) → option_map report_of at ≡ Some event → (request : Request) × (at ≡ Some request) × (report_of request ≡ event)
told_at None event is = absurd cc
told_at (Some request) event is = (request, refl, cc)

-- the vehicle's request before lies before
steps_before : (history : List Request) (key : Key) (earlier : Option ℕ) → IsLastPlaceIf history key earlier → steps_left earlier ≤ length history
steps_before history key None is = omega arith
steps_before history key (Some place) is = let within = slice_get_within history place is.request is.is in omega (arith, within)

-- what is found last comes first
found_more : (found : List Reported) (report : Option Reported) → reverse (found ++ option_to_list report) ≡ cons_option report [] ++ reverse found
found_more found None = ap reverse (append-nil found)
found_more found (Some event) = reverse-append found (event ∷ [])

pub walk_begins : (history : List Request) (last : ℕ) (found : List Reported) → last < length history → found ≡ [] → IsWalk history last (Some last) found
walk_begins history last found within none =
    let whole : take (length history) history ≡ history = take_all (length history) history (omega arith) in record {
      end = length history;
      within = omega arith;
      before_end = omega arith;
      finds = λ key is. (
        (let P : List Request → Type 0 = λ h. IsLastPlace h key last in subst P (sym whole) is),
        ap (λ h. reports (requests_of h key) ++ reverse found) whole ∙ ap (λ f. reports (requests_of history key) ++ reverse f) none ∙ append-nil (reports (requests_of history key)),
      );
    }

pub walk_goes_on : (history : List Request) (before : List (Option ℕ)) (last place : ℕ) (found more : List Reported) (request : Request) (earlier : Option ℕ)
    → AreBefore history before → slice_get history place ≡ Some request → slice_get before place ≡ Some earlier
    → IsWalk history last (Some place) found → more ≡ found ++ option_to_list (report_of request) → IsWalk history last earlier more
walk_goes_on history before last place found more request earlier are at at_before walk is_more =
    let inside : place < length history = slice_get_within history place request at in
    let before_it = are.each place request earlier at at_before in
    let fits : length (take place history) ≡ place = length-take-le place history (omega (arith, inside)) in
    let less = steps_before (take place history) (key_of request) earlier before_it in record {
      end = place;
      within = omega (arith, inside);
      before_end = omega (arith, fits, less);
      finds = λ key is. goes_on key (walk.finds key is) before_it;
    } where
      goes_on : (key : Key) → HasFound history key walk.end (Some place) found → IsLastPlaceIf (take place history) (key_of request) earlier
          → HasFound history key place earlier more
      goes_on key prior before_it =
          let less : place < walk.end = omega (arith, walk.before_end) in
          let same : prior.0.request ≡ request = let there = sym prior.0.is ∙ slice_get-take history walk.end place less ∙ at in cc in
          let P : Key → Type 0 = λ k. IsLastPlaceIf (take place history) k earlier in
          let front : take place (take walk.end history) ≡ take place history = take-take_less history place walk.end (omega (arith, less)) in
          let own_is : requests_of (take walk.end history) key ≡ requests_of (take place history) key ++ request ∷ [] =
          prior.0.last ∙ ap (λ h. requests_of h key ++ prior.0.request ∷ []) front ∙ ap (λ r. requests_of (take place history) key ++ r ∷ []) same in
          let events = reports (requests_of (take place history) key) in
          let split : reports (requests_of (take walk.end history) key) ≡ events ++ cons_option (report_of request) [] =
          ap reports own_is ∙ filter_map-append report_of (requests_of (take place history) key) (request ∷ []) in (
            subst P (sym (ap key_of same) ∙ prior.0.about) before_it,
            ap (λ m. events ++ reverse m) is_more ∙ ap (λ m. events ++ m) (found_more found (report_of request))
                ∙ sym (append_assoc events (cons_option (report_of request) []) (reverse found)) ∙ ap (λ m. m ++ reverse found) (sym split) ∙ prior.1,
          )

pub walk_ends : (history : List Request) (last : ℕ) (found : List Reported) (key : Key) → IsWalk history last None found → IsLastPlace history key last
    → reverse found ≡ reports (requests_of history key)
walk_ends history last found key walk is =
    let end = walk.finds key is in ap (λ l. reports l ++ reverse found) (sym end.0) ∙ end.1

-- each step leads to an earlier place
pub walk_nears : (history : List Request) (before : List (Option ℕ)) (place : ℕ) (request : Request) (earlier : Option ℕ) → AreBefore history before
    → slice_get history place ≡ Some request → slice_get before place ≡ Some earlier → steps_left earlier ≤ place
walk_nears history before place request earlier are at at_before =
    let inside : place < length history = slice_get_within history place request at in
    let fits : length (take place history) ≡ place = length-take-le place history (omega (arith, inside)) in
    let less = steps_before (take place history) (key_of request) earlier (are.each place request earlier at at_before) in
    omega (arith, fits, less)

slice_get-append : {X : Type 0} (xs ys : List X) (i : ℕ) → i < length xs → slice_get (xs ++ ys) i ≡ slice_get xs i
slice_get-append [] ys i within = absurd (omega arith)
slice_get-append (x ∷ xs) ys zero within = refl
slice_get-append (x ∷ xs) ys (suc i) within = slice_get-append xs ys i (omega arith)

-- what stands in a beginning stands in the whole
begun_at : (seen history : List Request) (place : ℕ) → IsPrefix seen history → place < length seen → slice_get history place ≡ slice_get seen place
begun_at seen history place begins inside =
    subst (λ (h : List Request). slice_get h place ≡ slice_get seen place) begins.1 (slice_get-append seen begins.0 place inside)

-- and the front of one place is that of the other
begun_front : (seen history : List Request) (place : ℕ) → IsPrefix seen history → place < length seen → take place history ≡ take place seen
begun_front seen history place begins inside =
    subst (λ (h : List Request). take place h ≡ take place seen) begins.1 (take-append-le place seen begins.0 (omega (arith, inside)))

begun_length : (seen history : List Request) → IsPrefix seen history → length seen ≤ length history
begun_length seen history begins = omega (arith, length-append seen begins.0, ap length begins.1)

-- what is kept beside a history is kept beside a beginning of it
before_begun : (seen history : List Request) (before : List (Option ℕ)) → IsPrefix seen history → AreBefore history before → AreBefore seen (take (length seen) before)
before_begun seen history before begins are =
    let longer = begun_length seen history begins in record {
      count = length-take-le (length seen) before (omega (arith, longer, are.count));
      each = λ place request earlier at at_before.
          let inside : place < length seen = slice_get_within seen place request at in
          let there : slice_get history place ≡ Some request = begun_at seen history place begins inside ∙ at in
          let there_before : slice_get before place ≡ Some earlier = sym (slice_get-take before (length seen) place inside) ∙ at_before in
          let P : List Request → Type 0 = λ h. IsLastPlaceIf h (key_of request) earlier in
          subst P (begun_front seen history place begins inside) (are.each place request earlier there there_before);
    }

-- the place where a walk stands is one of its history
pub walk_stands : (seen : List Request) (key : Key) (place : ℕ) (found : List Reported) → IsWalkOf seen key (Some place) found → place < length seen
walk_stands seen key place found is = omega (arith, is.walk.within, is.walk.before_end)

-- a step of a walk that began when the history was shorter
pub walk_goes_back : (seen history : List Request) (before : List (Option ℕ)) (key : Key) (place : ℕ) (found more : List Reported) (request : Request) (earlier : Option ℕ)
    → AreBefore history before → IsPrefix seen history → slice_get history place ≡ Some request → slice_get before place ≡ Some earlier
    → IsWalkOf seen key (Some place) found → more ≡ found ++ option_to_list (report_of request) → IsWalkOf seen key earlier more
walk_goes_back seen history before key place found more request earlier are begins at at_before is is_more =
    let inside : place < length seen = walk_stands seen key place found is in
    let here : slice_get seen place ≡ Some request = sym (begun_at seen history place begins inside) ∙ at in
    let here_before : slice_get (take (length seen) before) place ≡ Some earlier = slice_get-take before (length seen) place inside ∙ at_before in record {
      last = is.last;
      from = is.from;
      walk = walk_goes_on seen (take (length seen) before) is.last place found more request earlier (before_begun seen history before begins are) here here_before is.walk is_more;
    }

-- a walk finds no more events than the vehicle has
pub walk_fits : (seen : List Request) (key : Key) (at : Option ℕ) (found : List Reported) → IsWalkOf seen key at found
    → length found ≤ length (reports (requests_of seen key))
walk_fits seen key at found is =
    let finds = is.walk.finds key is.from in
    let before = reports (requests_of (take is.walk.end seen) key) in
    omega (arith, length-append before (reverse found), length-reverse found, ap length finds.1)

-- a walk begins at what is kept of the vehicle
pub walk_starts : (history : List Request) (key : Key) (vehicle : Vehicle) → IsVehicle history key (Some vehicle)
    → IsStart history key (record { last = vehicle.last; events = vehicle.standing.events })
walk_starts history key vehicle kept = record {
  walk = record {
    last = vehicle.last;
    from = kept.1;
    walk = walk_begins history vehicle.last [] (slice_get_within history vehicle.last kept.1.request kept.1.is) refl;
  };
  events = ap (λ standing. standing.events) kept.0;
}

-- a vehicle with a request is told of by its events
told : (requests : List Request) (last : Request) → Some (reports (requests ++ last ∷ [])) ≡ events_if (requests ++ last ∷ [])
told [] last = refl
told (request ∷ rest) last = refl

-- a walk that is over has found the vehicle's events, the last one first
pub walk_over : (seen : List Request) (key : Key) (found : List Reported) → IsWalkOf seen key None found → Some (reverse found) ≡ events_in seen key
walk_over seen key found is =
    let ends = walk_ends seen is.last found key is.walk is.from in
    ap Some ends ∙ ap (λ l. Some (reports l)) is.from.last ∙ told (requests_of (take is.last seen) key) is.from.request ∙ ap events_if (sym is.from.last)
