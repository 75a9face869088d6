-- What the workers told, put together, is a replay of all items.
use Rattle.std.proofs.Common.{◌≡◌, ◌⊎◌, inl, inr, ℕ, zero, suc, ◌<◌, List, [], ◌∷◌, ◌++◌, length, take, map, get_or, slice_get, Contains, Option, Some, None, Bool, true, false, append_assoc, refl, sym, ◌∙◌, ap, subst, arith}
use Rattle.std.specs.List.{All, AllZip}
use Rattle.std.specs.Option.{option_map}
use Rattle.std.specs.Int.{from_be_bytes, w128}
use Rattle.std.proofs.lemmas.Nat.{mod_below}
use Rattle.std.proofs.lemmas.Bool.{true≢false}
use Rattle.std.proofs.lemmas.List.{append-nil, length-map, take_all}
use Rattle.std.proofs.lemmas.List.Elements.{All-contains, All-weaker, Contains-append_left, Contains-append_right, Contains-append_cases}
use Rattle.std.proofs.lemmas.Option.{slice_get-map, slice_get_within, slice_get-get_or}
use Rattle.mds_steps.proofs.Sets.{none_in_empty}
use Rattle.mds_table.specs.Tables.{Tables}
use Rattle.mds_core.specs.declared.event_name.EventName.{EventName}
use Rattle.mds_core.specs.declared.key.Key.{Key}
use Rattle.mds_core.specs.Reported.{Reported}
use Rattle.mds_batch.specs.declared.item.EventItem.{EventItem}
use Rattle.mds_batch.specs.declared.item.EventItem.TheVariants.{Event, Fault as Faulty}
use Rattle.mds_batch.specs.declared.item.ItemFault.{ItemFault}
use Rattle.mds_trace.specs.declared.report.Opening.{Opening}
use Rattle.mds_trace.specs.declared.report.Verdict.{Verdict}
use Rattle.mds_trace.specs.declared.report.Verdict.TheVariants.{Fault}
use Rattle.mds_trace.specs.declared.report.VehicleEnd.{VehicleEnd}
use Rattle.mds_trace.specs.declared.followed.Followed.{Followed}
use Rattle.mds_trace.specs.declared.part.ToldVerdict.{ToldVerdict}
use Rattle.mds_trace.specs.declared.part.Part.{Part}
use Rattle.mds_trace.specs.Replay.{accepted_of, prior_of, IsVerdict, IsVerdictOn, IsEnd, AreVerdicts}
use Rattle.mds_trace.specs.Followed.{IsFollowed, end_at}
use Rattle.mds_trace.specs.Parts.{worker_of, is_own, as_seen, line_before, all_told, HasPlacesWithin, IsToldOf, IsShare, IsPart, AreParts, ArePut, IsEndIn}
use Rattle.mds_trace.proofs.OneVerdict.{one_list}
use Rattle.mds_trace.proofs.Own.{seen_own, own_event, one_owner, own_prior}
use Rattle.mds_trace.proofs.Places.{there_is}

-- what the parts tell, one of them tells
told_by_one : (parts : List Part) (one : ToldVerdict) → Contains (all_told parts) one
    → (worker : ℕ) × (part : Part) × (slice_get parts worker ≡ Some part) × Contains part.told.items one
told_by_one [] one told = absurd (none_in_empty one told)
told_by_one (part ∷ parts) one told = elim (Contains-append_cases part.told.items (all_told parts) one told) [
  | inl here ↦ (zero, part, refl, here)
  | inr later ↦ let found = told_by_one parts one later in (suc found.0, found.1, found.2, found.3)
]

-- and the other way round
told_by_all : (parts : List Part) (worker : ℕ) (part : Part) (one : ToldVerdict) → slice_get parts worker ≡ Some part → Contains part.told.items one
    → Contains (all_told parts) one
told_by_all [] worker part one at told = absurd (cc)
told_by_all (first ∷ parts) zero part one at told =
    let same : part ≡ first = cc in
    Contains-append_left first.told.items (all_told parts) one (subst (λ (p : Part). Contains p.told.items one) same told)
told_by_all (first ∷ parts) (suc worker) part one at told =
    Contains-append_right first.told.items (all_told parts) one (told_by_all parts worker part one at told)

-- what one part more tells stands behind what the others tell
pub told_push : (parts : List Part) (part : Part) → all_told (parts ++ part ∷ []) ≡ all_told parts ++ part.told.items
told_push [] part = append-nil part.told.items
told_push (first ∷ parts) part = ap (λ rest. first.told.items ++ rest) (told_push parts part) ∙ sym (append_assoc first.told.items (all_told parts) part.told.items)

module _ (opening : Opening) (tables : Tables) (items : List EventItem) (parts : List Part) (lines : List Verdict)
    (are : AreParts opening tables items parts) (put : ArePut (all_told parts) (map line_before items) lines) where
  abbrev workers : ℕ
  workers = length parts

  all_lines : length lines ≡ length items
  all_lines = put.count ∙ length-map items line_before

  module _ (key : Key) (part : Part) (its : slice_get parts (worker_of workers key) ≡ Some part) (names : List EventName)
      (share : IsShare opening tables items workers (worker_of workers key) part.told.items part.vehicles.entries names) where
    abbrev worker : ℕ
    worker = worker_of workers key

    seen_lines : length share.lines ≡ length items
    seen_lines = share.replayed.verdicts.count ∙ length-map items (as_seen workers worker)

    -- what is told of an item of the worker's own is the worker's verdict
    told_own : (i : ℕ) (item : EventItem) (line : Verdict) → slice_get items i ≡ Some item → is_own workers worker item ≡ true
        → Contains (all_told parts) (record { index = i; verdict = line }) → slice_get share.lines i ≡ Some line
    told_own i item line at_item own told =
        let one : ToldVerdict = record { index = i; verdict = line } in
        let found = told_by_one parts one told in
        let other = (are found.0 found.1 found.2).1 in
        let is = All-contains (IsToldOf workers found.0 items other.lines) found.1.told.items one other.are_told.own found.3 in
        let same_item : is.0.0 ≡ item = let there = is.0.1 in cc in
        let same_worker = one_owner workers found.0 worker item (subst (λ it. is_own workers found.0 it ≡ true) same_item is.0.2) own in
        let same_lines = one_list opening tables (map (as_seen workers worker) items) other.lines share.lines
        (subst (λ w. AreVerdicts opening tables (map (as_seen workers w) items) other.lines) same_worker other.replayed.verdicts) share.replayed.verdicts in
        subst (λ (all : List Verdict). slice_get all i ≡ Some line) same_lines is.1

    -- the line of an item of the worker's own is the worker's verdict
    line_own : (i : ℕ) (item : EventItem) (line : Verdict) → slice_get items i ≡ Some item → is_own workers worker item ≡ true → slice_get lines i ≡ Some line
        → slice_get share.lines i ≡ Some line
    line_own i item line at_item own at_line = elim (put.each i line at_line) [
      | inl told ↦ told_own i item line at_item own told
      | inr kept ↦
          let there = there_is share.lines i (length items) (sym seen_lines) (slice_get_within items i item at_item) in
          absurd (kept.1 there.0 (told_by_all parts worker part _ its (share.are_told.every i item there.0 at_item own there.1)))
    ]

    own_key : (event : Reported) → event.key ≡ key → is_own workers worker (Event event) ≡ true
    own_key event key_is = subst (λ k. is_own workers (worker_of workers k) (Event event) ≡ true) key_is (own_event workers event)

    -- the vehicle's accepted events up to a place are those that its worker has seen
    accepted_own : (n : ℕ) → prior_of key (accepted_of (take n items) (take n lines)) ≡ prior_of key (accepted_of (take n (map (as_seen workers worker) items)) (take n share.lines))
    accepted_own n =
        own_prior workers key n items lines share.lines all_lines seen_lines
        (λ i event line at_item key_is at_line. line_own i (Event event) line at_item (own_key event key_is) at_line)

    all_accepted : prior_of key (accepted_of items lines) ≡ prior_of key (accepted_of (map (as_seen workers worker) items) share.lines)
    all_accepted =
        let n = length items in
        let seen = map (as_seen workers worker) items in
        sym (ap (λ all. prior_of key (accepted_of all (take n lines))) (take_all n items (omega arith)) ∙ ap (λ all. prior_of key (accepted_of items all)) (take_all n lines (omega (arith, all_lines))))
        ∙ accepted_own n
        ∙ ap (λ all. prior_of key (accepted_of all (take n share.lines))) (take_all n seen (omega (arith, length-map items (as_seen workers worker))))
        ∙ ap (λ all. prior_of key (accepted_of seen all)) (take_all n share.lines (omega (arith, seen_lines)))

    -- the line of the vehicle's event is the verdict on it
    event_verdict : (i : ℕ) (event : Reported) (line : Verdict) → event.key ≡ key → slice_get items i ≡ Some (Event event) → slice_get lines i ≡ Some line
        → IsVerdictOn opening tables (prior_of event.key (accepted_of (take i items) (take i lines))) event line
    event_verdict i event line key_is at_item at_line =
        let own = own_key event key_is in
        let seen : slice_get (map (as_seen workers worker) items) i ≡ Some (Event event) =
        slice_get-map (as_seen workers worker) items i ∙ ap (option_map (as_seen workers worker)) at_item ∙ ap Some (seen_own workers worker (Event event) own) in
        let verdict = share.replayed.verdicts.each i (Event event) line seen (line_own i (Event event) line at_item own at_line) in
        subst (λ prior. IsVerdictOn opening tables prior event line)
        (ap (λ k. prior_of k (accepted_of (take i (map (as_seen workers worker) items)) (take i share.lines))) key_is ∙ sym (accepted_own i)
        ∙ ap (λ k. prior_of k (accepted_of (take i items) (take i lines))) (sym key_is))
        verdict

    -- where the vehicle ends of which the worker keeps this
    pub own_end : (vehicle : Followed) → IsFollowed opening tables key (prior_of key (accepted_of (map (as_seen workers worker) items) share.lines)) vehicle
        → IsEnd opening tables (accepted_of items lines) key (end_at (key, vehicle))
    own_end vehicle followed =
        let now = subst (λ prior. IsFollowed opening tables key prior vehicle) (sym all_accepted) followed in
        record { key_is = refl; openings = now.openings; standing = now.standing }

  -- a faulty item's line is its fault
  fault_verdict : (i : ℕ) (fault : ItemFault) (line : Verdict) → slice_get items i ≡ Some (Faulty fault) → slice_get lines i ≡ Some line → line ≡ Fault fault
  fault_verdict i fault line at_item at_line = elim (put.each i line at_line) [
    | inl told ↦
        let one : ToldVerdict = record { index = i; verdict = line } in
        let found = told_by_one parts one told in
        let other = (are found.0 found.1 found.2).1 in
        let is = All-contains (IsToldOf workers found.0 items other.lines) found.1.told.items one other.are_told.own found.3 in
        let same_item : is.0.0 ≡ Faulty fault = let there = is.0.1 in cc in
        let own = subst (λ it. is_own workers found.0 it ≡ true) same_item is.0.2 in
        absurd (true≢false (sym own))
    | inr kept ↦
        let before : slice_get (map line_before items) i ≡ Some (Fault fault) = slice_get-map line_before items i ∙ ap (option_map line_before) at_item in
        let line_is = kept.0 in cc
  ]

  -- the lines are the verdicts on all items
  pub all_verdicts : 0 < length parts → AreVerdicts opening tables items lines
  all_verdicts some = record {
    count = all_lines;
    each = λ i item line at_item at_line. by_item item i line at_item at_line;
  } where
    by_item : (item : EventItem) (i : ℕ) (line : Verdict) → slice_get items i ≡ Some item → slice_get lines i ≡ Some line
        → IsVerdict opening tables (accepted_of (take i items) (take i lines)) item line
    by_item (Event event) i line at_item at_line =
        let found = there_is parts (worker_of workers event.key) workers refl (mod_below (from_be_bytes w128 event.key.device) workers some) in
        let share = are (worker_of workers event.key) found.0 found.1 in
        event_verdict event.key found.0 found.1 share.0 share.1 i event line refl at_item at_line
    by_item (Faulty fault) i line at_item at_line = fault_verdict i fault line at_item at_line

-- the places of which a part tells are those of items
pub places_within : (opening : Opening) (tables : Tables) (items : List EventItem) (parts : List Part) → AreParts opening tables items parts
    → All (HasPlacesWithin (length items)) parts
places_within opening tables items parts are k part within =
    let share = (are k (get_or parts k part) (slice_get-get_or parts k part within)).1 in
    All-weaker (IsToldOf (length parts) k items share.lines) (λ one. one.index < length items)
    (λ one is. slice_get_within items one.index is.0.0 is.0.1) (get_or parts k part).told.items share.are_told.own
