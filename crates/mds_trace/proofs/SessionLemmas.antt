-- States held, possible states and orders in a vehicle's events.
use Rattle.std.proofs.Common.{◌≡◌, ◌≢◌, ◌<◌, ◌≤◌, ◌+◌, ℕ, zero, suc, List, [], ◌∷◌, ◌++◌, ◌||◌, Bool, true, false, not, IsTrue, ◌↔◌, if◌then◌else◌, ◌-◌, take, get_or, Some, None, slice_get, length, inl, inr, refl, sym, subst, ◌∙◌, ap, add-one, arith, length-append, length-take}
use Rattle.std.specs.List.{All, list_any}
use Rattle.std.specs.Option.{option_map_or}
use Rattle.std.specs.Str.{bytes_eq}
use Rattle.std.proofs.lemmas.Bool.{cases_Bool, cases_lt, false_from_ne_true, true≢false}
use Rattle.std.proofs.lemmas.List.{get_or_append_left, get_or-take, take_more, take_all, map-append}
use Rattle.std.proofs.lemmas.List.Elements.{All-nil, All-cons}
use Rattle.std.proofs.lemmas.List.Quantifiers.{all_pairs_push}
use Rattle.std.proofs.lemmas.Slice.Eq.{bytes_eq-Decides}
use Rattle.std.proofs.Math.Seq.{get_or-append_seam, take-append_seam}
use Rattle.std.proofs.lemmas.Option.{slice_get_cases, slice_get_within, slice_get-get_or, get_or_from_slice_get}
use Rattle.mds_table.specs.declared.state.State.{State}
use Rattle.mds_table.specs.Tables.{Tables, rows_at}
use Rattle.mds_table.specs.Chain.{Leads}
use Rattle.mds_core.specs.Reported.{Reported}
use Rattle.mds_trace.specs.declared.session_fault.SessionFault.{SessionFault}
use Rattle.mds_trace.specs.declared.session_fault.SessionFault.TheVariants.{Memory, Unlawful, BadOrder}
use Rattle.mds_trace.specs.Walk.{Walk}
use Rattle.mds_trace.specs.Session.{held_at, IsFirstReporting, IsFirstLater, MayPrecede, AreInOrder, identifiers_of, IsNewAfter, ComesNext, FollowsOn, EachLeads, AreOpenFrom, IsFaultOf}

module _ (opening : State) (events : List Reported) where
  -- after an event the state that it reports is held
  pub held_after : (i : ℕ) (event : Reported) → slice_get events i ≡ Some event → held_at opening events (i + 1) ≡ event.state
  held_after i event at = rw (add-one, at) refl

  -- where no event from a place on and before another reports a state, it isn't held at a later place up to there
  pub not_held : (from end : ℕ) (state : State)
      → ((i : ℕ) (event : Reported) → from ≤ i → i < end → slice_get events i ≡ Some event → event.state ≡ state → ⊥)
      → (i : ℕ) → from < i → i ≤ end → end ≤ length events → held_at opening events i ≡ state → ⊥
  not_held from end state none zero later within inside held = absurd (omega (arith, later))
  not_held from end state none (suc i) later within inside held =
      elim (slice_get_cases events i).1 [
        | inl there ↦ none i there.0 (omega (arith, later)) (omega (arith, within)) there.2 (sym (ap (λ one. option_map_or (λ event. event.state) one opening) there.2) ∙ held)
        | inr past ↦ absurd (omega (arith, past.0, within, inside))
      ]

-- the first event from the present one on that reports a state is followed by the first later place at which it is held
pub first_later : (walk : Walk) (state : State) (at : ℕ) → IsFirstReporting walk.events walk.place.event state (Some at)
    → IsFirstLater walk state (record { event = at + 1; passed = 0 })
first_later walk state at first = record {
  passed = refl;
  later = omega (arith, first.0);
  within = omega (arith, slice_get_within walk.events at first.1.0 first.1.1);
  held = held_after walk.opening walk.events at first.1.0 first.1.1 ∙ first.1.2;
  first = λ i later less. not_held walk.opening walk.events walk.place.event at state first.2 i later (omega (arith, less))
      (omega (arith, slice_get_within walk.events at first.1.0 first.1.1));
}

-- where no event from the present one on reports a state, it is held at no later place
pub none_later : (walk : Walk) (state : State) → IsFirstReporting walk.events walk.place.event state None
    → (i : ℕ) → walk.place.event < i → i ≤ length walk.events → held_at walk.opening walk.events i ≡ state → ⊥
none_later walk state none i later within =
    not_held walk.opening walk.events walk.place.event (length walk.events) state (λ j event from _ at. none j event from at) i later within (omega arith)

module _ (id : List ℕ) where
  -- an identifier that isn't in the list of those of some events is none of theirs, and the other way round
  unseen : (before : List Reported) → list_any (bytes_eq id) (identifiers_of before) ≡ false → All (λ earlier. earlier.id ≢ id) before
  unseen [] none = All-nil (λ earlier. earlier.id ≢ id)
  unseen (first ∷ rest) none =
      elim (cases_Bool (bytes_eq id first.id)) [
        | inl same ↦ absurd (true≢false (sym (ap (λ here. here || list_any (bytes_eq id) (identifiers_of rest)) same) ∙ none))
        | inr other ↦ All-cons (λ earlier. earlier.id ≢ id) first rest
            (λ same. true≢false (sym ((bytes_eq-Decides id first.id).1 (sym same)) ∙ other))
            (unseen rest (sym (ap (λ here. here || list_any (bytes_eq id) (identifiers_of rest)) other) ∙ none))
      ]

  seen : (before : List Reported) → All (λ earlier. earlier.id ≢ id) before → list_any (bytes_eq id) (identifiers_of before) ≡ false
  seen [] new = refl
  seen (first ∷ rest) new =
      let other : bytes_eq id first.id ≡ false = false_from_ne_true _ (λ same. new 0 first (omega arith) (sym ((bytes_eq-Decides id first.id).0 same))) in
      ap (λ here. here || list_any (bytes_eq id) (identifiers_of rest)) other ∙ seen rest (λ k d less. new (suc k) d (omega (arith, less)))

-- what an insertion of an identifier into the set of those of some events says and leaves
pub identifier_added : (before : List Reported) (event : Reported) (keys new : List (List ℕ)) (added : Bool)
    → added ≡ not (list_any (bytes_eq event.id) keys)
    → new ≡ (if list_any (bytes_eq event.id) keys then keys else keys ++ event.id ∷ [])
    → keys ≡ identifiers_of before
    → (IsTrue added ↔ IsNewAfter before event) × (IsTrue added → new ≡ identifiers_of (before ++ event ∷ []))
identifier_added before event keys new added said left same =
    let there = list_any (bytes_eq event.id) (identifiers_of before) in
    let told : added ≡ not there = said ∙ ap (λ all. not (list_any (bytes_eq event.id) all)) same in
    elim (cases_Bool there) [
      | inl found ↦
          let not_added : added ≡ false = told ∙ ap not found in (
            (λ is. absurd (true≢false (sym is ∙ not_added)), λ fresh. absurd (true≢false (sym found ∙ seen event.id before fresh))),
            λ is. absurd (true≢false (sym is ∙ not_added)),
          )
      | inr missing ↦
          let is : added ≡ true = told ∙ ap not missing in (
            (λ _. unseen event.id before missing, λ _. is),
            λ _. left ∙ ap (λ all. if list_any (bytes_eq event.id) all then all else all ++ event.id ∷ []) same
                ∙ ap (λ found. if found then identifiers_of before else identifiers_of before ++ event.id ∷ []) missing
                ∙ sym (map-append (λ (one : Reported). one.id) before (event ∷ [])),
          )
    ]

module _ (before : List Reported) (event : Reported) where
  -- an event that comes next after the last of events in order, and has a new identifier, keeps the order
  pub order_more : AreInOrder before → IsNewAfter before event → FollowsOn before event → AreInOrder (before ++ event ∷ [])
  order_more order new next = all_pairs_push MayPrecede before event order may where
    may : (k : ℕ) (d : Reported) → k < length before → MayPrecede (get_or before k d) event
    may k d less =
        let last : Reported = get_or before (length before - 1) d in
        let after_last : ComesNext last event = next last (slice_get-get_or before (length before - 1) d (omega (arith, less))) in
        elim (cases_lt k (length before - 1)) [
          | inl earlier ↦
              let pair : MayPrecede (get_or before k d) last = order k (length before - 1) d earlier (omega (arith, less)) in
              record { key = pair.key ∙ after_last.key; id = new k d less; time = omega (arith, pair.time, after_last.time) }
          | inr at_last ↦
              let same : k ≡ length before - 1 = omega (arith, less, at_last) in
              let one : get_or before k d ≡ last = ap (λ i. get_or before i d) same in
              record {
                key = ap (λ (e : Reported). e.key) one ∙ after_last.key;
                id = new k d less;
                time = subst (λ (e : Reported). e.time ≤ event.time) (sym one) after_last.time;
              }
        ]

  -- in order, each event may stand before the last one
  before_last : AreInOrder (before ++ event ∷ []) → All (λ earlier. MayPrecede earlier event) before
  before_last order k d less =
      let pair : MayPrecede (get_or (before ++ event ∷ []) k d) (get_or (before ++ event ∷ []) (length before) d) =
      order k (length before) d less (simp length-append (omega arith)) in
      subst (λ last. MayPrecede (get_or before k d) last) (get_or-append_seam before event [] d)
      (subst (λ first. MayPrecede first (get_or (before ++ event ∷ []) (length before) d)) (get_or_append_left before (event ∷ []) d k less) pair)

  pub new_in_order : AreInOrder (before ++ event ∷ []) → IsNewAfter before event
  new_in_order order k d less = (before_last order k d less).id

  pub follows_in_order : AreInOrder (before ++ event ∷ []) → FollowsOn before event
  follows_in_order order last at =
      let within = slice_get_within before (length before - 1) last at in
      let pair : MayPrecede (get_or before (length before - 1) last) event = before_last order (length before - 1) last within in
      let same : get_or before (length before - 1) last ≡ last = get_or_from_slice_get before (length before - 1) last last at in
      record { key = ap (λ (e : Reported). e.key) (sym same) ∙ pair.key; time = subst (λ (e : Reported). e.time ≤ event.time) same pair.time }

  -- the order is kept exactly by an event with a new identifier that comes next
  pub order_kept : (new : Bool) → (IsTrue new ↔ IsNewAfter before event) → AreInOrder before → (follows : Bool) → (IsTrue follows ↔ FollowsOn before event)
      → new ≡ true → (IsTrue follows ↔ AreInOrder (before ++ event ∷ []))
  order_kept new is_new order follows next is =
      (λ does. order_more order (is_new.0 is) (next.0 does), λ all. next.1 (follows_in_order all))

  pub order_broken : (new : Bool) → (IsTrue new ↔ IsNewAfter before event) → new ≡ false → (IsTrue new ↔ AreInOrder (before ++ event ∷ []))
  order_broken new is_new isnt = (λ is. absurd (true≢false (sym is ∙ isnt)), λ all. is_new.1 (new_in_order all))

-- an element of the first n is the element of the whole
slice_get_take : (n : ℕ) (events : List Reported) (i : ℕ) → i < n → slice_get (take n events) i ≡ slice_get events i
slice_get_take zero events i less = absurd (omega (arith, less))
slice_get_take (suc n) [] i less = refl
slice_get_take (suc n) (event ∷ events) zero less = refl
slice_get_take (suc n) (event ∷ events) (suc i) less = slice_get_take n events i (omega (arith, less))

-- the state held at a place of the first events is the one held there in all
pub held_at_take : (opening : State) (events : List Reported) (n i : ℕ) → i ≤ n → held_at opening (take n events) i ≡ held_at opening events i
held_at_take opening events n zero within = refl
held_at_take opening events n (suc i) within =
    ap (λ one. option_map_or (λ (event : Reported). event.state) one opening) (slice_get_take n events i (omega (arith, within)))

module _ (tables : Tables) (opening : State) (events : List Reported) where
  -- one more event that leads on
  pub lead_more : (at : ℕ) (event : Reported) → slice_get events at ≡ Some event → EachLeads tables opening (take at events)
      → Leads (rows_at tables event.time) (held_at opening events at) event.types event.state → EachLeads tables opening (take (at + 1) events)
  lead_more at event is before leads i other there =
      let less : i < at + 1 = omega (arith, slice_get_within (take (at + 1) events) i other there, length-take (at + 1) events) in
      let here : slice_get events i ≡ Some other = sym (slice_get_take (at + 1) events i less) ∙ there in
      subst (λ held. Leads (rows_at tables other.time) held other.types other.state) (sym (held_at_take opening events (at + 1) i (omega (arith, less))))
      (elim (cases_lt i at) [
        | inl earlier ↦
            subst (λ held. Leads (rows_at tables other.time) held other.types other.state) (held_at_take opening events at i (omega (arith, earlier)))
            (before i other (slice_get_take at events i earlier ∙ here))
        | inr rest ↦
            let same : i ≡ at = omega (arith, less, rest) in
            let one : Some event ≡ Some other = sym is ∙ ap (slice_get events) (sym same) ∙ here in
            let equal : event ≡ other = cc in
            subst (λ (it : Reported). Leads (rows_at tables it.time) (held_at opening events i) it.types it.state) equal
            (subst (λ place. Leads (rows_at tables event.time) (held_at opening events place) event.types event.state) (sym same) leads)
      ])

  -- one more event
  pub open_more : (at : ℕ) (event : Reported) → slice_get events at ≡ Some event → AreOpenFrom tables opening (take at events)
      → AreInOrder (take (at + 1) events) → Leads (rows_at tables event.time) (held_at opening events at) event.types event.state
      → AreOpenFrom tables opening (take (at + 1) events)
  open_more at event is before order leads = record { order = order; lead = lead_more at event is before.lead leads }

-- over no events a session may be opened
pub none_open : (tables : Tables) (opening : State) → AreOpenFrom tables opening []
none_open tables opening = record {
  order = λ i j d less within. absurd (omega (arith, within));
  lead = λ i event at. absurd (omega (arith, slice_get_within [] i event at));
}

-- one more event behind a list
pub open_push : (tables : Tables) (opening : State) (before : List Reported) (event : Reported) → AreOpenFrom tables opening before
    → AreInOrder (before ++ event ∷ []) → Leads (rows_at tables event.time) (held_at opening before (length before)) event.types event.state
    → AreOpenFrom tables opening (before ++ event ∷ [])
open_push tables opening before event is_open order leads =
    let all = before ++ event ∷ [] in
    let front : take (length before) all ≡ before = take-append_seam before (event ∷ []) in
    let whole : take (length before + 1) all ≡ all = take_all (length before + 1) all (omega (arith, length-append before (event ∷ []))) in
    let at : slice_get all (length before) ≡ Some event =
    slice_get-get_or all (length before) event (omega (arith, length-append before (event ∷ []))) ∙ ap Some (get_or-append_seam before event [] event) in
    let held : held_at opening before (length before) ≡ held_at opening all (length before) =
    ap (λ events. held_at opening events (length before)) (sym front) ∙ held_at_take opening all (length before) (length before) (omega arith) in
    subst (λ events. AreOpenFrom tables opening events) whole
    (open_more tables opening all (length before) event at (subst (λ events. AreOpenFrom tables opening events) (sym front) is_open)
    (subst (λ events. AreInOrder events) (sym whole) order) (subst (λ state. Leads (rows_at tables event.time) state event.types event.state) held leads))

-- over events with a fault other than want of memory no session may be opened
pub not_open : (tables : Tables) (opening : State) (events : List Reported) (fault : SessionFault) → IsFaultOf tables opening events fault → fault ≢ Memory
    → AreOpenFrom tables opening events → ⊥
not_open tables opening events Memory is other is_open = other refl
not_open tables opening events (Unlawful at stuck) is other is_open = is.2.2.none (is_open.lead at is.2.0 is.2.1)
not_open tables opening events (BadOrder at) is other is_open =
    is.2 (λ i j d less within.
    let inside : j < at + 1 = omega (arith, within, length-take (at + 1) events) in
    let among : j < length events = omega (arith, within, length-take (at + 1) events) in
    let pair : MayPrecede (get_or events i d) (get_or events j d) = is_open.order i j d less among in
    subst (λ first. MayPrecede first (get_or (take (at + 1) events) j d)) (sym (get_or-take (at + 1) events i d (omega (arith, less, inside))))
    (subst (λ second. MayPrecede (get_or events i d) second) (sym (get_or-take (at + 1) events j d inside)) pair))

-- the events up to a place are those before it and the one there
pub take_push : (events : List Reported) (at : ℕ) (event : Reported) → at < length events → event ≡ get_or events at event
    → take at events ++ event ∷ [] ≡ take (at + 1) events
take_push events at event within is = ap (λ last. take at events ++ last ∷ []) is ∙ sym (take_more events at event within)
