-- The events of a vehicle of a lawful history, walked through from removed.
use Rattle.std.proofs.Common.{◌≡◌, ◌≢◌, ◌≤◌, ◌+◌, ◌-◌, ℕ, suc, Bool, true, false, List, [], ◌∷◌, ◌++◌, length, map, take, get_or, Option, Some, None, slice_get, inl, inr, refl, sym, subst, ◌∙◌, ap, add-one, append_assoc, ◌||◌, ltb, cond, arith, length-append}
use Rattle.std.specs.List.{All, last_or, list_any}
use Rattle.std.specs.Option.{option_map, option_map_or}
use Rattle.std.specs.Str.{bytes_eq}
use Rattle.std.proofs.lemmas.Bool.{cases_Bool, ltb-false, true≢false}
use Rattle.std.proofs.lemmas.List.{append-nil, map-append, take-map, length-take-le, get_or_append_left}
use Rattle.std.proofs.lemmas.List.Elements.{All-nil, All-cons}
use Rattle.std.proofs.lemmas.Option.{slice_get-get_or, slice_get_within, get_or_from_slice_get}
use Rattle.std.proofs.lemmas.Slice.Eq.{bytes_eq-Decides}
use Rattle.std.proofs.Math.Seq.{get_or-append_seam}
use Rattle.mds_table.specs.declared.state.State.{State}
use Rattle.mds_table.specs.declared.state.State.TheVariants.{Removed}
use Rattle.mds_table.specs.Tables.{Tables, rows_at}
use Rattle.mds_table.specs.Chain.{Leads}
use Rattle.mds_core.specs.declared.key.Key.{Key}
use Rattle.mds_core.specs.declared.request.Request.{Request}
use Rattle.mds_core.specs.declared.request.Request.TheVariants.{Register, Report, Look}
use Rattle.mds_core.specs.Reported.{Reported}
use Rattle.mds_core.specs.History.{requests_of, reports, state_of, key_of, same_key, is_late, last_time}
use Rattle.mds_core.specs.Answer.{IsOpen}
use Rattle.mds_core.specs.Lawful.{IsCareer, IsLawfulOf}
use Rattle.mds_core.proofs.Histories.{same_key_is}
use Rattle.mds_trace.specs.Session.{AreOpenFrom, held_at, IsNewAfter, FollowsOn}
use Rattle.mds_trace.specs.SessionLaws.{LawfulReportsOpen}
use Rattle.mds_trace.proofs.SessionLemmas.{held_at_take, none_open, open_push, order_more}

-- the reports of events are the events
pub reports_of : (events : List Reported) → reports (map Report events) ≡ events
reports_of [] = refl
reports_of (event ∷ events) = ap (λ rest. event ∷ rest) (reports_of events)

-- the last of a list is what stands at its last place
last_is : (o : Option Reported) (events : List Reported) (last : Reported) → slice_get events (length events - 1) ≡ Some last → last_or o events ≡ Some last
last_is o [] last at = absurd (cc)
last_is o (event ∷ []) last at = at
last_is o (event ∷ next ∷ rest) last at =
    let place : length (event ∷ next ∷ rest) - 1 ≡ suc (length (next ∷ rest) - 1) = omega arith in
    last_is (Some event) (next ∷ rest) last (subst (λ i. slice_get (event ∷ next ∷ rest) i ≡ Some last) place at)

-- the state that the last event reports is the one held after all
pub held_is : (events : List Reported) → option_map_or (λ (event : Reported). event.state) (last_or None events) Removed ≡ held_at Removed events (length events)
held_is [] = refl
held_is (event ∷ rest) =
    let last = get_or (event ∷ rest) (length rest) event in
    let at : slice_get (event ∷ rest) (length rest) ≡ Some last = slice_get-get_or (event ∷ rest) (length rest) event (omega arith) in
    let place : length rest ≡ length (event ∷ rest) - 1 = omega arith in
    let ends : last_or None (event ∷ rest) ≡ Some last = last_is None (event ∷ rest) last (subst (λ i. slice_get (event ∷ rest) i ≡ Some last) place at) in
    ap (λ one. option_map_or (λ (one : Reported). one.state) one Removed) (ends ∙ sym at)

-- where no event has the identifier, an event with it is new
new_to : (id : List ℕ) (events : List Reported) → list_any (λ (one : Reported). bytes_eq one.id id) events ≡ false → All (λ (one : Reported). one.id ≢ id) events
new_to id [] none = All-nil (λ (one : Reported). one.id ≢ id)
new_to id (event ∷ rest) none =
    elim (cases_Bool (bytes_eq event.id id)) [
      | inl found ↦ absurd (true≢false (sym (ap (λ here. here || list_any (λ (one : Reported). bytes_eq one.id id) rest) found) ∙ none))
      | inr other ↦ All-cons (λ (one : Reported). one.id ≢ id) event rest
          (λ same. true≢false (sym ((bytes_eq-Decides event.id id).1 same) ∙ other))
          (new_to id rest (sym (ap (λ here. here || list_any (λ (one : Reported). bytes_eq one.id id) rest) other) ∙ none))
    ]

-- what holds of each element holds of each of a front, and of one in the middle
All-front : (P : Reported → Type 0) (xs ys : List Reported) → All P (xs ++ ys) → All P xs
All-front P xs ys all k d less = subst P (get_or_append_left xs ys d k less) (all k d (omega (arith, less, length-append xs ys)))

All-middle : (P : Reported → Type 0) (xs ys : List Reported) (y : Reported) → All P (xs ++ y ∷ ys) → P y
All-middle P xs ys y all = subst P (get_or-append_seam xs y ys y) (all (length xs) y (omega (arith, length-append xs (y ∷ ys))))

-- the events of a vehicle have its key
own_keys : (history : List Request) (key : Key) → All (λ (one : Reported). one.key ≡ key) (reports (requests_of history key))
own_keys [] key = All-nil (λ (one : Reported). one.key ≡ key)
own_keys (request ∷ history) key = by_key request (same_key (key_of request) key) refl (own_keys history key) where
  by_key : (request : Request) (b : Bool) → same_key (key_of request) key ≡ b → All (λ (one : Reported). one.key ≡ key) (reports (requests_of history key))
      → All (λ (one : Reported). one.key ≡ key) (reports (cond b (request ∷ requests_of history key) (requests_of history key)))
  by_key request false other rest = rest
  by_key (Register k) true same rest = rest
  by_key (Look k) true same rest = rest
  by_key (Report event) true same rest =
      All-cons (λ (one : Reported). one.key ≡ key) event (reports (requests_of history key)) (same_key_is event.key key same) rest

module _ (tables : Tables) (key registered : Key) where
  -- a registration and the reports of events
  abbrev told : List Reported → List Request
  told events = Register registered ∷ map Report events

  -- an event that is open to a vehicle's reports comes next after them
  comes_next : (done : List Reported) (event : Reported) → All (λ (one : Reported). one.key ≡ key) done → event.key ≡ key → IsOpen (told done) event → FollowsOn done event
  comes_next done event keys same is_open last at =
      let within = slice_get_within done (length done - 1) last at in
      let here : get_or done (length done - 1) last ≡ last = get_or_from_slice_get done (length done - 1) last last at in
      let theirs : last.key ≡ key = subst (λ (one : Reported). one.key ≡ key) here (keys (length done - 1) last within) in
      let in_time : is_late (last_time (told done)) event.time ≡ false = is_open.in_time in
      let ends : last_or None (reports (map Report done)) ≡ Some last = ap (last_or None) (reports_of done) ∙ last_is None done last at in
      let not_late : ltb event.time last.time ≡ false = sym (ap (λ (one : Option Reported). is_late (option_map (λ (event : Reported). event.time) one) event.time) ends) ∙ in_time in
      record { key = theirs ∙ sym same; time = ltb-false event.time last.time not_late }

  -- over one event more that is open and leads on, a session may be opened from the same state
  pub open_further : (from : State) (done : List Reported) (event : Reported) → All (λ (one : Reported). one.key ≡ key) done → event.key ≡ key
      → AreOpenFrom tables from done → IsOpen (told done) event → Leads (rows_at tables event.time) (held_at from done (length done)) event.types event.state
      → AreOpenFrom tables from (done ++ event ∷ [])
  open_further from done event theirs same before is_open leads =
      let new : IsNewAfter done event = new_to event.id done (sym (ap (list_any (λ (one : Reported). bytes_eq one.id event.id)) (reports_of done)) ∙ is_open.new) in
      open_push tables from done event before (order_more done event before.order new (comes_next done event theirs same is_open)) leads

  -- and from removed where the machine's rows lead
  pub open_next : (done : List Reported) (event : Reported) → All (λ (one : Reported). one.key ≡ key) done → event.key ≡ key → AreOpenFrom tables Removed done
      → IsOpen (told done) event → Leads (rows_at tables event.time) (state_of (told done)) event.types event.state → AreOpenFrom tables Removed (done ++ event ∷ [])
  open_next done event theirs same before is_open leads =
      open_further Removed done event theirs same before is_open
      (subst (λ state. Leads (rows_at tables event.time) state event.types event.state)
      (ap (λ events. option_map_or (λ (one : Reported). one.state) (last_or None events) Removed) (reports_of done) ∙ held_is done) leads)

  -- from a list over which a session may be opened, the rest of a career goes on
  goes_on : (rest done : List Reported) → All (λ (one : Reported). one.key ≡ key) (done ++ rest) → AreOpenFrom tables Removed done
      → IsCareer tables (told done) (map Report rest) → AreOpenFrom tables Removed (done ++ rest)
  goes_on [] done keys before career = subst (λ all. AreOpenFrom tables Removed all) (sym (append-nil done)) before
  goes_on (event ∷ rest) done keys before career =
      let all : done ++ (event ∷ rest) ≡ (done ++ event ∷ []) ++ rest = sym (append_assoc done (event ∷ []) rest) in
      let theirs : All (λ (one : Reported). one.key ≡ key) done = All-front (λ (one : Reported). one.key ≡ key) done (event ∷ rest) keys in
      let same : event.key ≡ key = All-middle (λ (one : Reported). one.key ≡ key) done rest event keys in
      let next : AreOpenFrom tables Removed (done ++ event ∷ []) = open_next done event theirs same before career.0.0 career.0.1 in
      let grown : told done ++ Report event ∷ [] ≡ told (done ++ event ∷ []) = ap (λ more. Register registered ∷ more) (sym (map-append Report done (event ∷ []))) in
      subst (λ events. AreOpenFrom tables Removed events) (sym all)
      (goes_on rest (done ++ event ∷ []) (subst (λ events. All (λ (one : Reported). one.key ≡ key) events) all keys) next
      (subst (λ requests. IsCareer tables requests (map Report rest)) grown career.1))

-- a career is reports alone
all_reports : (tables : Tables) (before rest : List Request) → IsCareer tables before rest → rest ≡ map Report (reports rest)
all_reports tables before [] career = refl
all_reports tables before (Report event ∷ rest) career = ap (λ more. Report event ∷ more) (all_reports tables (before ++ Report event ∷ []) rest career.1)
all_reports tables before (Register key ∷ rest) career = absurd career
all_reports tables before (Look key ∷ rest) career = absurd career

-- what is held after a registration and some reports
held_told : (registered : Key) (events : List Reported) (i : ℕ) → i ≤ length events
    → held_at Removed events i ≡ state_of (take (i + 1) (Register registered ∷ map Report events))
held_told registered events i within =
    let front : length (take i events) ≡ i = length-take-le i events within in
    let told : reports (take i (map Report events)) ≡ take i events = ap reports (take-map Report i events) ∙ reports_of (take i events) in
    let held_there : held_at Removed (take i events) i ≡ held_at Removed events i = held_at_take Removed events i i (omega arith) in
    rw add-one (sym (
    ap (λ all. option_map_or (λ (one : Reported). one.state) (last_or None all) Removed) told ∙ held_is (take i events)
    ∙ ap (held_at Removed (take i events)) front ∙ held_there))

of_lawful : (tables : Tables) (requests : List Request) (key : Key) → IsLawfulOf tables requests → requests ≢ []
    → All (λ (one : Reported). one.key ≡ key) (reports requests)
    → AreOpenFrom tables Removed (reports requests)
    × ((i : ℕ) → i ≤ length (reports requests) → held_at Removed (reports requests) i ≡ state_of (take (i + 1) requests))
of_lawful tables [] key lawful some keys = absurd (some refl)
of_lawful tables (Report event ∷ rest) key lawful some keys = absurd lawful
of_lawful tables (Look one ∷ rest) key lawful some keys = absurd lawful
of_lawful tables (Register registered ∷ rest) key lawful some keys =
    let form : rest ≡ map Report (reports rest) = all_reports tables (Register registered ∷ []) rest lawful in (
      goes_on tables key registered (reports rest) [] keys (none_open tables Removed) (subst (λ all. IsCareer tables (Register registered ∷ []) all) form lawful),
      λ i within. held_told registered (reports rest) i within ∙ ap (λ all. state_of (take (i + 1) (Register registered ∷ all))) (sym form),
    )

pub lawful_reports_open : LawfulReportsOpen
lawful_reports_open tables history key lawful some = of_lawful tables (requests_of history key) key (lawful key) some (own_keys history key)
