-- The requests by which the machine is asked what a replay goes over.
use Rattle.std.proofs.Common.{◌≡◌, ◌⊎◌, inl, inr, ℕ, zero, suc, ◌<◌, List, [], ◌∷◌, ◌++◌, length, take, map, filter, slice_get, Contains, not, cond, Option, Some, None, Bool, true, false, append_assoc, refl, sym, ◌∙◌, ap, subst, arith}
use Rattle.std.specs.Option.{option_map}
use Rattle.std.proofs.lemmas.List.Elements.{Contains-push, Contains-append_left, Contains-get_or, filter_map-append}
use Rattle.std.proofs.lemmas.Option.{slice_get-map, slice_get_within, get_or_from_slice_get}
use Rattle.mds_table.proofs.Ascending.{Contains-tail, head_or_tail}
use Rattle.mds_steps.proofs.Sets.{none_in_empty}
use Rattle.mds_core.specs.declared.key.Key.{Key}
use Rattle.mds_core.specs.declared.request.Request.{Request}
use Rattle.mds_core.specs.declared.request.Request.TheVariants.{Register, Report}
use Rattle.mds_core.specs.Reported.{Reported}
use Rattle.mds_core.specs.History.{report_of, reports, same_key}
use Rattle.mds_core.proofs.Histories.{same_key_is}
use Rattle.mds_batch.specs.declared.item.EventItem.{EventItem}
use Rattle.mds_trace.specs.Items.{events_of, vehicles_of}
use Rattle.mds_trace.specs.ReplayLaws.{requests_for, AreRegisteredFirst}
use Rattle.mds_trace.proofs.Runs.{AreRegistered}

-- the first of a list is one of it
first_of : {X : Type 0} (x : X) (xs : List X) → Contains (x ∷ xs) x
first_of x xs = (zero, omega arith, refl)

-- what stands at a place is one of the list
one_at : {X : Type 0} (xs : List X) (i : ℕ) (x : X) → slice_get xs i ≡ Some x → Contains xs x
one_at xs i x at =
    let within : i < length xs = slice_get_within xs i x at in
    subst (Contains xs) (get_or_from_slice_get xs i x x at) (Contains-get_or xs i x within)

-- what passes a test is kept with those that do
kept : {X : Type 0} (test : X → Bool) (xs : List X) (x : X) → Contains xs x → test x ≡ true → Contains (filter test xs) x
kept test [] x found passes = absurd (none_in_empty x found)
kept {X} test (first ∷ xs) x found passes = by_first (test first) refl (λ later. kept test xs x later passes) where
  by_first : (b : Bool) → test first ≡ b → (Contains xs x → Contains (filter test xs) x) → Contains (cond b (first ∷ filter test xs) (filter test xs)) x
  by_first true is rest = elim (head_or_tail x first xs found) [
    | inl later ↦ Contains-tail x first (filter test xs) (rest later)
    | inr same ↦ subst (λ one. Contains (one ∷ filter test xs) x) same (first_of x (filter test xs))
  ]
  by_first false is rest = elim (head_or_tail x first xs found) [
    | inl later ↦ rest later
    | inr same ↦ cc
  ]

-- events mention the vehicle of each of them
mentioned : (events : List Reported) (event : Reported) → Contains events event → Contains (vehicles_of events) event.key
mentioned [] event found = absurd (none_in_empty event found)
mentioned (first ∷ events) event found = by_key (same_key event.key first.key) refl (λ later. mentioned events event later) where
  by_key : (b : Bool) → same_key event.key first.key ≡ b → (Contains events event → Contains (vehicles_of events) event.key) → Contains (vehicles_of (first ∷ events)) event.key
  by_key true is rest =
      subst (λ key. Contains (first.key ∷ filter (λ other. not (same_key other first.key)) (vehicles_of events)) key) (sym (same_key_is event.key first.key is)) (first_of first.key _)
  by_key false is rest = elim (head_or_tail event first events found) [
    | inl later ↦ Contains-tail event.key first.key _ (kept (λ key. not (same_key key first.key)) (vehicles_of events) event.key (rest later) (ap not is))
    | inr same ↦ subst (λ one. Contains (first.key ∷ filter (λ other. not (same_key other first.key)) (vehicles_of events)) one.key) (sym same) (first_of first.key _)
  ]

-- registrations report nothing
registrations_report : (keys : List Key) → reports (map Register keys) ≡ []
registrations_report [] = refl
registrations_report (key ∷ keys) = registrations_report keys

-- reports report their events
events_report : (events : List Reported) → reports (map Report events) ≡ events
events_report [] = refl
events_report (event ∷ events) = ap (λ rest. event ∷ rest) (events_report events)

-- the vehicle of each event is registered
abbrev AreNamed : List Request → List Key → List Reported → Type 0
AreNamed before keys events = (event : Reported) → Contains events event → Contains before (Register event.key) ⊎ Contains keys event.key

-- behind registrations of their vehicles, reports stand behind a registration
behind : (keys : List Key) (before : List Request) (events : List Reported) → AreNamed before keys events → AreRegistered before (map Register keys ++ map Report events)
behind [] before events named i event at = elim (named event (one_at events i event (reported (slice_get events i) refl))) [
  | inl registered ↦ Contains-append_left before (take i (map Report events)) (Register event.key) registered
  | inr none ↦ absurd (none_in_empty event.key none)
] where
  reported : (found : Option Reported) → slice_get events i ≡ found → slice_get events i ≡ Some event
  reported None is = let none : None ≡ Some (Report event) = sym (ap (option_map Report) is) ∙ sym (slice_get-map Report events i) ∙ at in cc
  reported (Some one) is = let same : Some (Report one) ≡ Some (Report event) = sym (ap (option_map Report) is) ∙ sym (slice_get-map Report events i) ∙ at in cc
behind (key ∷ keys) before events named zero event at = cc
behind (key ∷ keys) before events named (suc i) event at =
    subst (λ all. Contains all (Register event.key)) (append_assoc before (Register key ∷ []) (take i (map Register keys ++ map Report events)))
    (behind keys (before ++ Register key ∷ []) events now i event at) where
      now : AreNamed (before ++ Register key ∷ []) keys events
      now one found = elim (named one found) [
        | inl earlier ↦ inl (Contains-append_left before (Register key ∷ []) (Register one.key) earlier)
        | inr later ↦ elim (head_or_tail one.key key keys later) [
          | inl other ↦ inr other
          | inr same ↦ inl (subst (λ k. Contains (before ++ Register key ∷ []) (Register k)) (sym same) (Contains-push before (Register key)))
        ]
      ]

-- the requests for items report their events, each behind a registration of its vehicle
pub asked : (items : List EventItem) → (reports (requests_for items) ≡ events_of items) × AreRegisteredFirst (requests_for items)
asked items =
    let events = events_of items in
    let keys = vehicles_of events in (
      filter_map-append report_of (map Register keys) (map Report events) ∙ ap (λ none. none ++ reports (map Report events)) (registrations_report keys) ∙ events_report events,
      behind keys [] events (λ event found. inr (mentioned events event found)),
    )
