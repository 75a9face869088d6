-- The steps of a way, by what the code tests.
use Rattle.std.proofs.Common.{◌≡◌, ◌⊎◌, inl, inr, ◌&&◌, ℕ, ◌+◌, ◌-◌, ◌<◌, ◌≤◌, List, [], ◌∷◌, ◌++◌, length, is_some, position, nat_eq, nat_lt, Bool, true, false, Option, Some, None, refl, sym, ◌∙◌, ap, subst, arith}
use Rattle.std.specs.Prelude.{slice_get}
use Rattle.std.specs.List.{filter_map}
use Rattle.std.proofs.lemmas.Bool.{and_parts}
use Rattle.std.proofs.lemmas.Bool.Decides.{nat_tests}
use Rattle.std.proofs.lemmas.Option.{slice_get_within}
use Rattle.mds_table.specs.declared.state.State.{State}
use Rattle.mds_table.specs.declared.state.State.TheVariants.{Removed}
use Rattle.mds_core.specs.declared.request.Request.{Request}
use Rattle.mds_core.specs.declared.request.Request.TheVariants.{Register, Report, Look}
use Rattle.mds_core.specs.declared.position.Position.{Position}
use Rattle.mds_core.specs.Reported.{Reported}
use Rattle.mds_core.specs.History.{report_of, last_time}
use Rattle.mds_compact.specs.declared.path.Visit.{Visit}
use Rattle.mds_compact.specs.Compaction.{has_to_stay, position_count}
use Rattle.mds_compact.specs.Path.{Way, way_to, way_at, marks_up_to, IsPath}
use Rattle.mds_compact.proofs.Held.{last_time-more, time_after}
use Rattle.mds_compact.proofs.Thinned.{position_count-first, position_count-more}
use Rattle.mds_compact.proofs.Visits.{is_at, visit_found, visit_none}
use Rattle.mds_compact.proofs.Steps.{path_kept, path_gone, path_cut}

-- a request that reports an event is its report
pub report_is : (request : Request) (event : Reported) → Some event ≡ report_of request → request ≡ Report event
report_is (Register key) event is = absurd cc
report_is (Report other) event is = let same : event ≡ other = cc in ap Report (sym same)
report_is (Look key) event is = absurd cc

-- what reports nothing is kept for good
pub none_taken : (from : ℕ) (old rest : List Request) (request : Request) (way : Way) → None ≡ report_of request → IsPath from old (request ∷ rest) way
    → IsPath from (old ++ request ∷ []) rest (way_at 0 way.held (way.marks ++ true ∷ []) way)
none_taken from old rest (Register key) way none is = path_kept from old rest (Register key) way way.positions way.held is is.positions (inl refl) refl
none_taken from old rest (Look key) way none is = path_kept from old rest (Look key) way way.positions way.held is is.positions (inl refl) refl
none_taken from old rest (Report event) way none is = absurd cc

-- the event is the last one with a position, once it was counted down
abbrev pub is_last : Reported → Way → Bool
is_last event way = nat_eq way.positions 0 && nat_lt 0 (position_count (Report event ∷ []))

-- an event, with its position counted down
module _ (from : ℕ) (old rest : List Request) (event : Reported) (way now : Way) (is : IsPath from old (Report event ∷ rest) way)
    (counted : now ≡ record way { positions = way.positions - position_count (Report event ∷ []) }) where
  abbrev after : ℕ
  after = way.positions - position_count (Report event ∷ [])

  to_come : after ≡ position_count rest
  to_come = omega (arith, is.positions, position_count-first (Report event) rest)

  positions_now : now.positions ≡ after
  positions_now = ap (λ (w : Way). w.positions) counted

  last_now : now.last ≡ way.last
  last_now = ap (λ (w : Way). w.last) counted

  -- it's kept for good
  pub good_taken : (is_last event now ≡ true) ⊎ (has_to_stay from now.last (Report event) ≡ true) → IsPath from (old ++ Report event ∷ []) rest (way_at 0 event.state (now.marks ++ true ∷ []) now)
  good_taken good =
      let P : Way → Type 0 = λ one. IsPath from (old ++ Report event ∷ []) rest (way_at 0 event.state (one.marks ++ true ∷ []) one) in
      subst P (sym counted) (path_kept from old rest (Report event) way after event.state is to_come (by_test good) refl) where
        by_test : (is_last event now ≡ true) ⊎ (has_to_stay from now.last (Report event) ≡ true)
            → (has_to_stay from way.last (Report event) ≡ true) ⊎ ((way.positions - position_count (Report event ∷ []) ≡ 0) × (0 < position_count (Report event ∷ [])))
        by_test (inl last) =
            let parts = and_parts (nat_eq now.positions 0) (nat_lt 0 (position_count (Report event ∷ []))) last in
            let none : now.positions ≡ 0 = let yes : nat_eq now.positions 0 ≡ true = parts.0 in grind (arith, nat_tests) in
            let some : 0 < position_count (Report event ∷ []) = let yes : nat_lt 0 (position_count (Report event ∷ [])) ≡ true = parts.1 in grind (arith, nat_tests) in
            inr (sym positions_now ∙ none, some)
        by_test (inr stays) = inl (ap (λ last. has_to_stay from last (Report event)) (sym last_now) ∙ stays)

  module _ (not_last : is_last event now ≡ false) (goes : has_to_stay from now.last (Report event) ≡ false) where
    goes_now : has_to_stay from way.last (Report event) ≡ false
    goes_now = ap (λ last. has_to_stay from last (Report event)) (sym last_now) ∙ goes

    none_behind : after ≡ 0 → position_count (Report event ∷ []) ≡ 0
    none_behind none = by_some (nat_lt 0 (position_count (Report event ∷ []))) refl where
      zero_now : nat_eq now.positions 0 ≡ true
      zero_now = let nothing : now.positions ≡ 0 = positions_now ∙ none in grind (arith, nat_tests)

      by_some : (b : Bool) → nat_lt 0 (position_count (Report event ∷ [])) ≡ b → position_count (Report event ∷ []) ≡ 0
      by_some false is_ = grind (arith, nat_tests)
      by_some true is_ =
          let both : (nat_eq now.positions 0 && nat_lt 0 (position_count (Report event ∷ []))) ≡ true = ap (λ b. b && nat_lt 0 (position_count (Report event ∷ []))) zero_now ∙ is_ in
          let no : true ≡ false = sym both ∙ not_last in
          absurd cc

    -- it's kept at a new visit
    pub new_taken : position (is_at event.state) now.visits ≡ None → IsPath from (old ++ Report event ∷ []) rest (way_at (length now.visits) event.state (now.marks ++ true ∷ []) now)
    new_taken none =
        let P : Way → Type 0 = λ one. IsPath from (old ++ Report event ∷ []) rest (way_at (length one.visits) event.state (one.marks ++ true ∷ []) one) in
        let new : position (is_at event.state) way.visits ≡ None = ap (λ (w : Way). position (is_at event.state) w.visits) (sym counted) ∙ none in
        subst P (sym counted) (path_gone from old rest event way is after to_come goes_now none_behind (visit_none way.visits event.state new))

    -- it's left out, with what was kept since an old one
    pub old_taken : (place : ℕ) (next : Way) → position (is_at event.state) now.visits ≡ Some place
        → ((visit : Visit) → slice_get now.visits place ≡ Some visit → next ≡ way_at place visit.state (marks_up_to visit.count now.marks ++ false ∷ []) now)
        → IsPath from (old ++ Report event ∷ []) rest next
    old_taken place next found stands =
        let there = visit_found now.visits event.state place found in
        let visit = there.0 in
        let P : Way → Type 0 = λ one. IsPath from (old ++ Report event ∷ []) rest (way_at place visit.state (marks_up_to visit.count one.marks ++ false ∷ []) one) in
        let Next : Way → Type 0 = λ one. IsPath from (old ++ Report event ∷ []) rest one in
        let at : slice_get way.visits place ≡ Some visit = ap (λ (w : Way). slice_get w.visits place) (sym counted) ∙ there.1 in
        subst Next (sym (stands visit there.1)) (subst P (sym counted) (path_cut from old rest event way is after to_come goes_now none_behind place visit at there.2))

-- a place that is found is within
pub found_within : (visits : List Visit) (state : State) (place : ℕ) → position (is_at state) visits ≡ Some place → place < length visits
found_within visits state place found = let there = visit_found visits state place found in slice_get_within visits place there.0 there.1

-- so it is of the request that reports the event
module _ (from : ℕ) (old rest : List Request) (request : Request) (event : Reported) (asked : Some event ≡ report_of request) (way now : Way) (is : IsPath from old (request ∷ rest) way)
    (counted : now ≡ record way { positions = way.positions - position_count (Report event ∷ []) }) where
  is_report : IsPath from old (Report event ∷ rest) way
  is_report = let P : Request → Type 0 = λ one. IsPath from old (one ∷ rest) way in subst P (report_is request event asked) is

  back : (new : Way) → IsPath from (old ++ Report event ∷ []) rest new → IsPath from (old ++ request ∷ []) rest new
  back new path = let P : Request → Type 0 = λ one. IsPath from (old ++ one ∷ []) rest new in subst P (sym (report_is request event asked)) path

  pub event_kept : (state : State) (new : Way) → state ≡ event.state → (is_last event now ≡ true) ⊎ (has_to_stay from now.last (Report event) ≡ true)
      → new ≡ way_at 0 state (now.marks ++ true ∷ []) now → IsPath from (old ++ request ∷ []) rest new
  event_kept state new same good stands =
      let P : Way → Type 0 = λ one. IsPath from (old ++ Report event ∷ []) rest one in
      let equal = stands ∙ ap (λ one. way_at 0 one (now.marks ++ true ∷ []) now) same in
      back new (subst P (sym equal) (good_taken from old rest event way now is_report counted good))

  pub event_new : (state : State) (new : Way) → state ≡ event.state → is_last event now ≡ false → has_to_stay from now.last (Report event) ≡ false → position (is_at event.state) now.visits ≡ None
      → new ≡ way_at (length now.visits) state (now.marks ++ true ∷ []) now → IsPath from (old ++ request ∷ []) rest new
  event_new state new same not_last goes none stands =
      let P : Way → Type 0 = λ one. IsPath from (old ++ Report event ∷ []) rest one in
      let equal = stands ∙ ap (λ one. way_at (length now.visits) one (now.marks ++ true ∷ []) now) same in
      back new (subst P (sym equal) (new_taken from old rest event way now is_report counted not_last goes none))

  pub event_old : (place : ℕ) (new : Way) → is_last event now ≡ false → has_to_stay from now.last (Report event) ≡ false → position (is_at event.state) now.visits ≡ Some place
      → ((visit : Visit) → slice_get now.visits place ≡ Some visit → new ≡ way_at place visit.state (marks_up_to visit.count now.marks ++ false ∷ []) now) → IsPath from (old ++ request ∷ []) rest new
  event_old place new not_last goes found stands = back new (old_taken from old rest event way now is_report counted not_last goes place new found stands)

-- an event has one position or none
pub counts_one : (event : Reported) → is_some event.position ≡ true → position_count (Report event ∷ []) ≡ 1
counts_one event some = by_position event.position some where
  by_position : (position : Option Position) → is_some position ≡ true → length (filter_map (λ p. p) (position ∷ [])) ≡ 1
  by_position None is = absurd cc
  by_position (Some position) is = refl

pub counts_none : (event : Reported) → is_some event.position ≡ false → position_count (Report event ∷ []) ≡ 0
counts_none event none = by_position event.position none where
  by_position : (position : Option Position) → is_some position ≡ false → length (filter_map (λ p. p) (position ∷ [])) ≡ 0
  by_position None is = refl
  by_position (Some position) is = absurd cc

-- no more positions than requests
pub positions_few : (requests : List Request) → position_count requests ≤ length requests
positions_few [] = omega arith
positions_few (request ∷ requests) = omega (arith, positions_few requests, position_count-first request requests, one_few request) where
  of_event : (position : Option Position) → length (filter_map (λ p. p) (position ∷ [])) ≤ 1
  of_event None = omega arith
  of_event (Some position) = omega arith

  one_few : (asked : Request) → position_count (asked ∷ []) ≤ 1
  one_few (Register key) = omega arith
  one_few (Look key) = omega arith
  one_few (Report event) = of_event event.position

-- the first pass goes on with one more request
pub none_noted : (requests : List Request) (request : Request) → None ≡ report_of request → way_to (requests ++ request ∷ []) ≡ way_to requests
none_noted requests request none = λ i. record {
  last = last_same i;
  positions = positions_same i;
  held = Removed;
  marks = [];
  visits = record { state = Removed; count = 0 } ∷ [];
  next = 0;
} where
  nothing : (asked : Request) → None ≡ report_of asked → (last : Option ℕ) → time_after last asked ≡ last
  nothing (Register key) is last = refl
  nothing (Look key) is last = refl
  nothing (Report event) is last = absurd cc

  no_position : (asked : Request) → None ≡ report_of asked → position_count (asked ∷ []) ≡ 0
  no_position (Register key) is = refl
  no_position (Look key) is = refl
  no_position (Report event) is = absurd cc

  last_same : last_time (requests ++ request ∷ []) ≡ last_time requests
  last_same = last_time-more requests request ∙ nothing request none (last_time requests)

  positions_same : position_count (requests ++ request ∷ []) ≡ position_count requests
  positions_same = let more = position_count-more requests request in let no = no_position request none in omega arith

pub event_noted : (requests : List Request) (request : Request) (event : Reported) (way : Way) (last positions : ℕ) → Some event ≡ report_of request → way ≡ way_to requests → last ≡ event.time
    → positions ≡ way.positions + position_count (Report event ∷ [])
    → record way { last = Some last; positions = positions } ≡ way_to (requests ++ request ∷ [])
event_noted requests request event way last positions asked is same count =
    let P : Way → Type 0 = λ one. record one { last = Some last; positions = positions } ≡ way_to (requests ++ request ∷ []) in
    let report = report_is request event asked in
    let last_is : Some last ≡ last_time (requests ++ request ∷ []) =
    ap Some same ∙ sym (last_time-more requests (Report event)) ∙ ap (λ one. last_time (requests ++ one ∷ [])) (sym report) in
    let counted : way.positions ≡ position_count requests = ap (λ (w : Way). w.positions) is in
    let positions_is : positions ≡ position_count (requests ++ request ∷ []) =
    count ∙ ap (λ n. n + position_count (Report event ∷ [])) counted ∙ sym (position_count-more requests (Report event)) ∙ ap (λ one. position_count (requests ++ one ∷ [])) (sym report) in
    subst P (sym is) (λ i. record {
      last = last_is i;
      positions = positions_is i;
      held = Removed;
      marks = [];
      visits = record { state = Removed; count = 0 } ∷ [];
      next = 0;
    })
