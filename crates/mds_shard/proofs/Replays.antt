-- How what is kept beside a history goes on with one more request.
use Rattle.std.proofs.Common.{◌≡◌, ◌⊎◌, inl, inr, ℕ, ◌<◌, ◌≤◌, ◌+◌, suc, zero, ◌||◌, ◌&&◌, cond, take, List, [], ◌∷◌, ◌++◌, length, Option, Some, None, Bool, true, false, refl, sym, ◌∙◌, ap, subst, arith, length-append}
use Rattle.std.specs.Prelude.{slice_get, option_map}
use Rattle.std.specs.List.{list_any}
use Rattle.std.specs.Str.{bytes_eq}
use Rattle.std.proofs.lemmas.List.{take-append-le, take_all}
use Rattle.std.proofs.Math.Seq.{take-append_seam}
use Rattle.std.proofs.lemmas.List.Elements.{filter_map-append}
use Rattle.std.proofs.lemmas.List.Folds.{list_any-append}
use Rattle.std.proofs.lemmas.Option.{slice_get_within}
use Rattle.mds_table.specs.Tables.{Tables}
use Rattle.mds_core.specs.declared.key.Key.{Key}
use Rattle.mds_core.specs.declared.event_name.EventName.{EventName}
use Rattle.mds_core.specs.declared.request.Request.{Request}
use Rattle.mds_core.specs.declared.reply.Outcome.TheVariants.{Done}
use Rattle.mds_core.specs.declared.reply.Standing.{Standing}
use Rattle.mds_core.specs.History.{key_of, same_key, same_event, requests_of, report_of, reports, has_event, standing_of}
use Rattle.mds_core.specs.Answer.{MayBeDone}
use Rattle.mds_core.specs.Known.{standing_if}
use Rattle.mds_core.proofs.Standings.{standing_if-push, own_few}
use Rattle.mds_core.proofs.Histories.{same_key_is, requests_of-push_same, requests_of-push_other, lawful_next}
use Rattle.mds_known.specs.Kept.{PutsValue, value_of}
use Rattle.mds_shard.specs.declared.vehicle.Vehicle.{Vehicle}
use Rattle.mds_shard.specs.Replay.{Vehicles, IsLastPlace, IsLastPlaceIf, IsVehicle, AreBefore, AddsName, IsReplay}

-- an element of a list stays where more comes behind it
pub slice_get-append : {X : Type 0} (xs ys : List X) (i : ℕ) → i < length xs → slice_get (xs ++ ys) i ≡ slice_get xs i
slice_get-append [] ys i within = absurd (omega arith)
slice_get-append (x ∷ xs) ys zero within = refl
slice_get-append (x ∷ xs) ys (suc i) within = slice_get-append xs ys i (omega arith)

pub slice_get-push : {X : Type 0} (xs : List X) (x : X) → slice_get (xs ++ x ∷ []) (length xs) ≡ Some x
slice_get-push [] x = refl
slice_get-push (y ∷ ys) x = slice_get-push ys x

-- an element of a longer list is one of the list, or the one behind it
one_of : {X : Type 0} (xs : List X) (x : X) (i : ℕ) (y : X) → slice_get (xs ++ x ∷ []) i ≡ Some y
    → ((i < length xs) × (slice_get xs i ≡ Some y)) ⊎ ((i ≡ length xs) × (x ≡ y))
one_of [] x zero y is = inr (refl, cc)
one_of [] x (suc i) y is = absurd cc
one_of (z ∷ xs) x zero y is = inl (omega arith, is)
one_of (z ∷ xs) x (suc i) y is = more (one_of xs x i y is) where
  more : ((i < length xs) × (slice_get xs i ≡ Some y)) ⊎ ((i ≡ length xs) × (x ≡ y)) → ((suc i < suc (length xs)) × (slice_get xs i ≡ Some y)) ⊎ ((suc i ≡ suc (length xs)) × (x ≡ y))
  more (inl h) = inl (omega (arith, h.0), h.1)
  more (inr h) = inr (ap suc h.0, h.1)

-- the last place of a vehicle stays where a request about another comes behind
last_place_stays : (history : List Request) (request : Request) (key : Key) (place : ℕ) → same_key (key_of request) key ≡ false
    → IsLastPlace history key place → IsLastPlace (history ++ request ∷ []) key place
last_place_stays history request key place other last =
    let within : place < length history = slice_get_within history place last.request last.is in record {
      request = last.request;
      about = last.about;
      is = slice_get-append history (request ∷ []) place within ∙ last.is;
      last = requests_of-push_other history request key other ∙ last.last ∙ ap (λ h. requests_of h key ++ last.request ∷ []) (sym (take-append-le place history (request ∷ []) (omega (arith, within))));
    }

-- a request is the last about its vehicle when it is put behind
pub last_place_push : (history : List Request) (request : Request) (key : Key) → same_key (key_of request) key ≡ true → IsLastPlace (history ++ request ∷ []) key (length history)
last_place_push history request key same = record {
  request = request;
  about = same_key_is (key_of request) key same;
  is = slice_get-push history request;
  last = requests_of-push_same history request key same ∙ ap (λ h. requests_of h key ++ request ∷ []) (sym (take-append_seam history (request ∷ [])));
}

-- the place of the last request, of what is kept of a vehicle
place_of : (history : List Request) (key : Key) (kept : Option Vehicle) → IsVehicle history key kept → IsLastPlaceIf history key (option_map (λ vehicle. vehicle.last) kept)
place_of history key None is = is
place_of history key (Some vehicle) is = is.1

-- where a vehicle stands, of what is kept of it
pub standing_kept : (history : List Request) (key : Key) (kept : Option Vehicle) → IsVehicle history key kept → option_map (λ vehicle. vehicle.standing) kept ≡ standing_if (requests_of history key)
standing_kept history key None is = sym (ap standing_if is)
standing_kept history key (Some vehicle) is =
    let last = is.1.last in
    ap Some (is.0 ∙ ap standing_of last) ∙ sym (standing_if-push (requests_of (take vehicle.last history) key) is.1.request) ∙ ap standing_if (sym last)

-- the places before, with one more
before_push : (history : List Request) (before : List (Option ℕ)) (request : Request) (earlier : Option ℕ) → AreBefore history before
    → IsLastPlaceIf history (key_of request) earlier → AreBefore (history ++ request ∷ []) (before ++ earlier ∷ [])
before_push history before request earlier are is = record {
  count = length-append before (earlier ∷ []) ∙ ap (λ n. n + 1) are.count ∙ sym (length-append history (request ∷ []));
  each = λ place r e at at_before. by_place place r e (one_of history request place r at) (one_of before earlier place e at_before);
} where
  by_place : (place : ℕ) (r : Request) (e : Option ℕ) → ((place < length history) × (slice_get history place ≡ Some r)) ⊎ ((place ≡ length history) × (request ≡ r))
      → ((place < length before) × (slice_get before place ≡ Some e)) ⊎ ((place ≡ length before) × (earlier ≡ e))
      → IsLastPlaceIf (take place (history ++ request ∷ [])) (key_of r) e
  by_place place r e (inl h) (inl b) =
      let front : take place (history ++ request ∷ []) ≡ take place history = take-append-le place history (request ∷ []) (omega (arith, h.0)) in
      rw front (are.each place r e h.1 b.1)
  by_place place r e (inl h) (inr b) = absurd (omega (arith, h.0, b.0, are.count))
  by_place place r e (inr h) (inl b) = absurd (omega (arith, h.0, b.0, are.count))
  by_place place r e (inr h) (inr b) =
      let P : Option ℕ → Type 0 = λ o. IsLastPlaceIf history (key_of request) o in
      let here = subst P b.1 is in
      let Q : Request → Type 0 = λ x. IsLastPlaceIf history (key_of x) e in
      let front : take place (history ++ request ∷ []) ≡ history = ap (λ n. take n (history ++ request ∷ [])) h.0 ∙ take-append_seam history (request ∷ []) in
      rw front (subst Q h.1 here)

-- what is kept of every vehicle, with one more request
vehicles_push : (history : List Request) (request : Request) (old new : Vehicles) (standing : Standing)
    → ((key : Key) → IsVehicle history key (value_of old key))
    → standing ≡ standing_of (requests_of history (key_of request) ++ request ∷ [])
    → PutsValue (key_of request) (record { standing = standing; last = length history }) old new
    → (key : Key) → IsVehicle (history ++ request ∷ []) key (value_of new key)
vehicles_push history request old new standing each stands puts key = rw (puts key) (by_key (same_key (key_of request) key) refl) where
  stays : (kept : Option Vehicle) → same_key (key_of request) key ≡ false → IsVehicle history key kept → IsVehicle (history ++ request ∷ []) key kept
  stays None other is = requests_of-push_other history request key other ∙ is
  stays (Some vehicle) other is =
      (is.0 ∙ ap standing_of (sym (requests_of-push_other history request key other)), last_place_stays history request key vehicle.last other is.1)

  by_key : (b : Bool) → same_key (key_of request) key ≡ b
      → IsVehicle (history ++ request ∷ []) key (cond b (Some (record { standing = standing; last = length history })) (value_of old key))
  by_key false other = stays (value_of old key) other (each key)
  by_key true same =
      let own_key : requests_of history (key_of request) ≡ requests_of history key = ap (requests_of history) (same_key_is (key_of request) key same) in
      (stands ∙ ap (λ l. standing_of (l ++ request ∷ [])) own_key ∙ ap standing_of (sym (requests_of-push_same history request key same)), last_place_push history request key same)

-- the names, with one more request
names_push : (history : List Request) (request : Request) (old new : List EventName)
    → ((name : EventName) → list_any (same_event name) old ≡ has_event (requests_of history name.key) name.id) → AddsName request old new
    → (name : EventName) → list_any (same_event name) new ≡ has_event (requests_of (history ++ request ∷ []) name.key) name.id
names_push history request old new each adds name = adds name ∙ ap (λ b. b || (same_key (key_of request) name.key && has_event (request ∷ []) name.id)) (each name) ∙ by_key (same_key (key_of request) name.key) refl where
  has_event-append : (first second : List Request) → has_event (first ++ second) name.id ≡ (has_event first name.id || has_event second name.id)
  has_event-append first second =
      ap (list_any (λ e. bytes_eq e.id name.id)) (filter_map-append report_of first second) ∙ list_any-append (λ e. bytes_eq e.id name.id) (reports first) (reports second)

  or_false : (b : Bool) → (b || false) ≡ b
  or_false false = refl
  or_false true = refl

  by_key : (b : Bool) → same_key (key_of request) name.key ≡ b
      → (has_event (requests_of history name.key) name.id || (b && has_event (request ∷ []) name.id)) ≡ has_event (requests_of (history ++ request ∷ []) name.key) name.id
  by_key false other = or_false (has_event (requests_of history name.key) name.id) ∙ ap (λ l. has_event l name.id) (sym (requests_of-push_other history request name.key other))
  by_key true same =
      sym (has_event-append (requests_of history name.key) (request ∷ [])) ∙ ap (λ l. has_event l name.id) (sym (requests_of-push_same history request name.key same))

-- what is kept beside a history goes on with a request that is accepted
pub replay_push : (tables : Tables) (history : List Request) (before : List (Option ℕ)) (old new : Vehicles) (names new_names : List EventName)
    (request : Request) (kept : Option Vehicle) (standing : Standing) → IsReplay tables history before old names → MayBeDone tables history request
    → IsVehicle history (key_of request) kept → standing ≡ standing_of (requests_of history (key_of request) ++ request ∷ [])
    → PutsValue (key_of request) (record { standing = standing; last = length history }) old new → AddsName request names new_names
    → IsReplay tables (history ++ request ∷ []) (before ++ option_map (λ vehicle. vehicle.last) kept ∷ []) new new_names
replay_push tables history before old new names new_names request kept standing is may vehicle stands puts adds = record {
  lawful = lawful_next tables history request Done is.lawful may;
  places = before_push history before request (option_map (λ v. v.last) kept) is.places (place_of history (key_of request) kept vehicle);
  standings = vehicles_push history request old new standing is.standings stands puts;
  held = names_push history request names new_names is.held adds;
}

-- a history that fits in memory has few events of each vehicle
pub few_reports : (history : List Request) (key : Key) → length (reports (requests_of history key)) ≤ length history
few_reports history key =
    let few = own_few history (length history) key (omega arith) in
    let P : List Request → Type 0 = λ h. length (reports (requests_of h key)) ≤ length history in
    subst P (take_all (length history) history (omega arith)) few
