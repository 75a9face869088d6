-- The way of a vehicle after one more request: kept for good, kept at a new visit, or left out with what came since an old one.
use Rattle.std.proofs.Common.{◌≡◌, ◌⊎◌, inl, inr, ℕ, zero, suc, ◌+◌, ◌-◌, ◌<◌, ◌≤◌, List, [], ◌∷◌, ◌++◌, length, take, get_or, replicate, cond, nat_eq, Bool, true, false, Option, Some, None, refl, sym, ◌∙◌, ap, subst, append_assoc, arith, length-append, length-take-le}
use Rattle.std.specs.Prelude.{slice_get}
use Rattle.std.proofs.Math.Seq.{take-length}
use Rattle.std.specs.List.{filter_map, list_any}
use Rattle.std.proofs.lemmas.List.{append-nil, take_more, length-map}
use Rattle.std.proofs.lemmas.Option.{slice_get_within}
use Rattle.mds_table.specs.declared.state.State.{State}
use Rattle.mds_table.specs.declared.state.State.TheVariants.{Removed}
use Rattle.mds_table.specs.State.{code_of}
use Rattle.mds_table.specs.Tables.{Tables}
use Rattle.mds_core.specs.declared.position.Position.{Position}
use Rattle.mds_core.specs.declared.request.Request.{Request}
use Rattle.mds_core.specs.declared.request.Request.TheVariants.{Report}
use Rattle.mds_core.specs.Reported.{Reported}
use Rattle.mds_core.specs.History.{state_of, last_time}
use Rattle.mds_core.specs.Lawful.{IsLawfulOf}
use Rattle.mds_compact.specs.declared.path.Visit.{Visit}
use Rattle.mds_compact.specs.Compaction.{kept_of, held_after, is_recent, thinned_count, position_count}
use Rattle.mds_compact.specs.Path.{Way, way_to, way_at, marks_up_to, IsThinned, IsVisit, IsPath, IsShort, IsKept, IsMarked, base, spare, ends_recent}
use Rattle.mds_compact.proofs.Held.{state_of-more}
use Rattle.mds_compact.proofs.Kept.{kept_nil, kept_more, kept_longer, kept_nothing_more, length-marks_up_to, front_same}
use Rattle.mds_compact.proofs.Thinned.{position_count-first, thinned_left, thinned_kept, compacted_at_end}
use Rattle.mds_compact.proofs.Visits.{standing_at, codes_of, distinct_one, none_before}
use Rattle.mds_compact.proofs.Short.{thinned_more, base_after, IsForGood, keep_few, keep_short, go_short, go_few}

-- the way goes on at a state, with one more mark, behind a front of its visits
module _ (from : ℕ) (old rest : List Request) (request : Request) (way : Way) (after : ℕ) (marks : List Bool) (place : ℕ) (state : State) where
  -- the way once the request's position was counted down
  abbrev pub way_counted : Way
  way_counted = record way { positions = after }

  -- what has to be seen of the step
  pub record IsStep : Type 0 where
    pub path : IsPath from old (request ∷ rest) way
    pub counts : after ≡ position_count rest
    pub within : place ≤ length way.visits
    pub count : length marks ≡ length (old ++ request ∷ [])
    pub holds : state ≡ state_of (old ++ request ∷ [])
    pub thinned : IsThinned from way.last after (old ++ request ∷ []) (kept_of marks (old ++ request ∷ [])) state
    pub before : (at : ℕ) (visit : Visit) → at < place → slice_get way.visits at ≡ Some visit
        → IsThinned from way.last after (old ++ request ∷ []) (kept_of (take visit.count marks) (old ++ request ∷ [])) visit.state
    pub short : (tables : Tables) → IsLawfulOf tables (old ++ request ∷ []) → ends_recent from way.last (old ++ request ∷ []) ≡ false
        → IsShort from (old ++ request ∷ []) (way_at place state marks (record way { positions = after }))
    pub few : (tables : Tables) → IsLawfulOf tables (old ++ request ∷ []) → spare from way.last (old ++ request ∷ []) marks ≤ 17

  module _ (is : IsStep) where
    abbrev all : List Request
    all = old ++ request ∷ []

    abbrev visit_here : Visit
    visit_here = record { state = state; count = length marks }

    few_before : (at : ℕ) (visit : Visit) → slice_get way.visits at ≡ Some visit → visit.count ≤ length old
    few_before at visit found = (is.path.visits at visit found).within

    longer : length all ≡ length old + 1
    longer = length-append old (request ∷ [])

    visit_at : (at : ℕ) (visit : Visit) → slice_get (take place way.visits ++ visit_here ∷ []) at ≡ Some visit → IsVisit from all (way_at place state marks way_counted) visit
    visit_at at visit found = by_place (standing_at way.visits place at visit_here visit is.within found) where
      Here : Visit → Type 0
      Here one = IsVisit from all (way_at place state marks way_counted) one

      by_place : ((at < place) × (slice_get way.visits at ≡ Some visit)) ⊎ ((at ≡ place) × (visit_here ≡ visit)) → IsVisit from all (way_at place state marks way_counted) visit
      by_place (inl front) = record { within = omega (arith, few_before at visit front.1, longer); thinned = is.before at visit front.0 front.1 }
      by_place (inr last) =
          let Kept : List Bool → Type 0 = λ front. IsThinned from way.last after all (kept_of front all) state in
          let here : IsVisit from all (way_at place state marks way_counted) visit_here = record { within = omega (arith, is.count); thinned = subst Kept (sym (take-length marks)) is.thinned } in
          subst Here last.1 here

    in_order : (at later : ℕ) (visit other : Visit) → at < later → slice_get (take place way.visits ++ visit_here ∷ []) at ≡ Some visit
        → slice_get (take place way.visits ++ visit_here ∷ []) later ≡ Some other → visit.count ≤ other.count
    in_order at later visit other before found there = by_both (standing_at way.visits place at visit_here visit is.within found) (standing_at way.visits place later visit_here other is.within there) where
      by_both : ((at < place) × (slice_get way.visits at ≡ Some visit)) ⊎ ((at ≡ place) × (visit_here ≡ visit))
          → ((later < place) × (slice_get way.visits later ≡ Some other)) ⊎ ((later ≡ place) × (visit_here ≡ other)) → visit.count ≤ other.count
      by_both (inl one) (inl two) = is.path.order at later visit other before one.1 two.1
      by_both (inl one) (inr two) =
          let ends : length marks ≡ other.count = ap (λ (v : Visit). v.count) two.1 in
          let few = few_before at visit one.1 in
          omega (arith, is.count, longer)
      by_both (inr one) (inl two) = absurd (omega (arith, one.0, two.0))
      by_both (inr one) (inr two) = absurd (omega (arith, one.0, two.0))

    pub path_at : IsPath from (old ++ request ∷ []) rest (way_at place state marks (record way { positions = after }))
    path_at = record {
      last = is.path.last ∙ ap last_time (sym (append_assoc old (request ∷ []) rest));
      positions = is.counts;
      next = is.path.next;
      count = is.count;
      held = is.holds;
      thinned = is.thinned;
      visits = visit_at;
      order = in_order;
      short = is.short;
      few = is.few;
    }

-- a request that is kept for good
pub path_kept : (from : ℕ) (old rest : List Request) (request : Request) (way : Way) (after : ℕ) (state : State) → IsPath from old (request ∷ rest) way → after ≡ position_count rest
    → IsForGood from request way after → state ≡ held_after way.held request
    → IsPath from (old ++ request ∷ []) rest (way_at 0 state (way.marks ++ true ∷ []) (record way { positions = after }))
path_kept from old rest request way after state is counted good held =
    let all = old ++ request ∷ [] in
    let marks = way.marks ++ true ∷ [] in
    let positions : way.positions ≡ position_count (request ∷ []) + after = is.positions ∙ position_count-first request rest ∙ ap (λ n. position_count (request ∷ []) + n) (sym counted) in
    let Kept : List Request → Type 0 = λ new. IsThinned from way.last after all new state in
    let Held : State → Type 0 = λ one. IsThinned from way.last after all (kept_of way.marks old ++ request ∷ []) one in
    let thinned = thinned_kept from way.last way.positions after old (kept_of way.marks old) way.held is.thinned request is.held positions in
    path_at from old rest request way after marks 0 state (record {
      path = is;
      counts = counted;
      within = omega arith;
      count = length-append way.marks (true ∷ []) ∙ ap (λ n. n + 1) is.count ∙ sym (length-append old (request ∷ []));
      holds = held ∙ ap (λ one. held_after one request) is.held ∙ sym (state_of-more old request);
      thinned = subst Kept (sym (kept_more way.marks old true request is.count)) (subst Held (sym held) thinned);
      before = λ at visit before found. absurd (omega arith);
      short = keep_short from old rest request way is after positions state good;
      few = keep_few from old rest request way is after positions good;
    })

-- the positions behind an event that isn't the last one with one
none_behind : (event : Reported) (positions after : ℕ) → positions ≡ position_count (Report event ∷ []) + after → (after ≡ 0 → position_count (Report event ∷ []) ≡ 0)
    → after ≡ 0 → (positions ≡ 0) × (event.position ≡ None)
none_behind event positions after counted none ends = by_position event.position refl (none ends) where
  by_position : (found : Option Position) → event.position ≡ found → length (filter_map (λ p. p) (found ∷ [])) ≡ 0 → (positions ≡ 0) × (event.position ≡ None)
  by_position None is count = (omega (arith, none ends), is)
  by_position (Some position) is count = absurd (omega arith)

-- an event that may go, and isn't the last one with a position
module _ (from : ℕ) (old rest : List Request) (event : Reported) (way : Way) (is : IsPath from old (Report event ∷ rest) way) (after : ℕ) (counted : after ≡ position_count rest)
    (goes : is_recent from way.last event.time ≡ false) (none : after ≡ 0 → position_count (Report event ∷ []) ≡ 0) where
  positions : way.positions ≡ position_count (Report event ∷ []) + after
  positions = is.positions ∙ position_count-first (Report event) rest ∙ ap (λ n. position_count (Report event ∷ []) + n) (sym counted)

  -- it leaves what was kept up to a visit as good as it was
  visit_left : (at : ℕ) (visit : Visit) → slice_get way.visits at ≡ Some visit → IsThinned from way.last after (old ++ Report event ∷ []) (kept_of (take visit.count way.marks) old) visit.state
  visit_left at visit found =
      thinned_left from way.last way.positions after old (kept_of (take visit.count way.marks) old) visit.state (is.visits at visit found).thinned event goes
      (none_behind event way.positions after positions none)

  -- what was kept up to a visit, by marks of which those up to a later place stay
  front_kept : (marks more : List Bool) (later at : ℕ) (visit : Visit) → marks ≡ take later way.marks ++ more → later ≤ length way.marks → visit.count ≤ later → slice_get way.visits at ≡ Some visit
      → kept_of (take visit.count marks) (old ++ Report event ∷ []) ≡ kept_of (take visit.count way.marks) old
  front_kept marks more later at visit made within before found =
      let few : length (take visit.count way.marks) ≤ length old = omega (arith, length-take-le visit.count way.marks, is.count) in
      ap (λ front. kept_of front (old ++ Report event ∷ [])) (ap (take visit.count) made ∙ front_same way.marks more visit.count later before within)
      ∙ kept_longer (take visit.count way.marks) old (Report event ∷ []) few

  base_now : base way.positions ≤ base after
  base_now = base_after way.positions (position_count (Report event ∷ [])) after positions none

  one_longer : length old + 1 ≡ length (old ++ Report event ∷ [])
  one_longer = sym (length-append old (Report event ∷ []))

  module _ (marks : List Bool) (place : ℕ) (within : place ≤ length way.visits) (count : length marks ≡ length (old ++ Report event ∷ []))
      (front : (at : ℕ) (visit : Visit) → at < place → slice_get way.visits at ≡ Some visit → kept_of (take visit.count marks) (old ++ Report event ∷ []) ≡ kept_of (take visit.count way.marks) old)
      (thinned : IsThinned from way.last after (old ++ Report event ∷ []) (kept_of marks (old ++ Report event ∷ [])) event.state)
      (few : IsShort from old way → spare from way.last (old ++ Report event ∷ []) marks ≤ base way.positions + place)
      (apart : IsShort from old way → list_any (nat_eq (code_of event.state)) (take place (codes_of way.visits)) ≡ false) where
    path_goes : IsPath from (old ++ Report event ∷ []) rest (way_at place event.state marks (record way { positions = after }))
    path_goes = path_at from old rest (Report event) way after marks place event.state (record {
      path = is;
      counts = counted;
      within = within;
      count = count;
      holds = sym (state_of-more old (Report event));
      thinned = thinned;
      before = λ at visit before found.
          let Kept : List Request → Type 0 = λ new. IsThinned from way.last after (old ++ Report event ∷ []) new visit.state in
          subst Kept (sym (front at visit before found)) (visit_left at visit found);
      short = λ tables lawful _. go_short from old rest event way is after marks place event.state within goes base_now front few apart tables lawful;
      few = go_few from old rest event way is after marks place event.state within goes base_now front few apart;
    })

  -- it's kept at a new visit
  pub path_gone : list_any (nat_eq (code_of event.state)) (codes_of way.visits) ≡ false
      → IsPath from (old ++ Report event ∷ []) rest (way_at (length way.visits) event.state (way.marks ++ true ∷ []) (record way { positions = after }))
  path_gone new =
      let marks = way.marks ++ true ∷ [] in
      let kept = kept_more way.marks old true (Report event) is.count in
      let Kept : List Request → Type 0 = λ one. IsThinned from way.last after (old ++ Report event ∷ []) one event.state in
      let whole : marks ≡ take (length way.marks) way.marks ++ true ∷ [] = ap (λ front. front ++ true ∷ []) (sym (take-length way.marks)) in
      let short_codes : length (codes_of way.visits) ≡ length way.visits = length-map way.visits (λ visit. code_of visit.state) in
      let every : take (length way.visits) (codes_of way.visits) ≡ codes_of way.visits = ap (λ n. take n (codes_of way.visits)) (sym short_codes) ∙ take-length (codes_of way.visits) in
      path_goes marks (length way.visits) (omega arith)
      (length-append way.marks (true ∷ []) ∙ ap (λ n. n + 1) is.count ∙ one_longer)
      (λ at visit before found. front_kept marks (true ∷ []) (length way.marks) at visit whole (omega arith) (omega (arith, (is.visits at visit found).within, is.count)) found)
      (subst Kept (sym kept) (thinned_kept from way.last way.positions after old (kept_of way.marks old) way.held is.thinned (Report event) is.held positions))
      (λ short.
      let more = ap (thinned_count from way.last) kept ∙ thinned_more from way.last (kept_of way.marks old) (Report event) ∙ ap (λ b. spare from way.last old way.marks + cond b 0 1) goes in
      omega (arith, short.all))
      (λ short. ap (list_any (nat_eq (code_of event.state))) every ∙ new)

  -- it's left out, with what was kept since the visit
  pub path_cut : (place : ℕ) (visit : Visit) → slice_get way.visits place ≡ Some visit → visit.state ≡ event.state
      → IsPath from (old ++ Report event ∷ []) rest (way_at place visit.state (marks_up_to visit.count way.marks ++ false ∷ []) (record way { positions = after }))
  path_cut place visit found same =
      let marks = marks_up_to visit.count way.marks ++ false ∷ [] in
      let more = replicate (length way.marks - length (take visit.count way.marks)) false ++ false ∷ [] in
      let made : marks ≡ take visit.count way.marks ++ more = append_assoc (take visit.count way.marks) (replicate (length way.marks - length (take visit.count way.marks)) false) (false ∷ []) in
      let inside : visit.count ≤ length way.marks = omega (arith, (is.visits place visit found).within, is.count) in
      let full : length (marks_up_to visit.count way.marks) ≡ length old = length-marks_up_to visit.count way.marks ∙ is.count in
      let kept : kept_of marks (old ++ Report event ∷ []) ≡ kept_of (take visit.count way.marks) old =
      kept_more (marks_up_to visit.count way.marks) old false (Report event) full ∙ append-nil (kept_of (marks_up_to visit.count way.marks) old)
      ∙ kept_nothing_more (take visit.count way.marks) (length way.marks - length (take visit.count way.marks)) old in
      let Kept : List Request → Type 0 = λ one. IsThinned from way.last after (old ++ Report event ∷ []) one event.state in
      let Held : State → Type 0 = λ state. IsThinned from way.last after (old ++ Report event ∷ []) (kept_of (take visit.count way.marks) old) state in
      let Stood : State → Type 0 = λ state. IsPath from (old ++ Report event ∷ []) rest (way_at place state marks (record way { positions = after })) in
      let within : place < length way.visits = slice_get_within way.visits place visit found in
      subst Stood (sym same)
      (path_goes marks place (omega arith)
      (length-append (marks_up_to visit.count way.marks) (false ∷ []) ∙ ap (λ n. n + 1) full ∙ one_longer)
      (λ at other before there. front_kept marks more visit.count at other made inside (is.order at place other visit before there found) there)
      (subst Kept (sym kept) (subst Held same (visit_left place visit found)))
      (λ short.
      let equal = ap (thinned_count from way.last) kept in
      omega (arith, short.ranks place visit found))
      (λ short. ap (λ state. list_any (nat_eq (code_of state)) (take place (codes_of way.visits))) (sym same) ∙ none_before way.visits place visit short.apart found))

-- before the first request
pub path_begins : (from : ℕ) (requests : List Request) → IsPath from [] requests (way_to requests)
path_begins from requests = record {
  last = refl;
  positions = refl;
  next = refl;
  count = refl;
  held = refl;
  thinned = nothing;
  visits = visits;
  order = order;
  short = λ tables lawful goes. record { ranks = ranks; all = omega arith; apart = distinct_one 0 };
  few = λ tables lawful. omega arith;
} where
  nothing : IsThinned from (last_time requests) (position_count requests) [] [] Removed
  nothing = record { cuts = tt; state = refl; end = λ _. refl; position = λ _. refl; stay = refl }

  first : Visit
  first = record { state = Removed; count = 0 }

  visits : (place : ℕ) (visit : Visit) → slice_get (first ∷ []) place ≡ Some visit → IsVisit from [] (way_to requests) visit
  visits zero visit found =
      let same : first ≡ visit = cc in
      let P : Visit → Type 0 = λ one. IsVisit from [] (way_to requests) one in
      subst P same (record { within = omega arith; thinned = nothing })
  visits (suc place) visit found = absurd cc

  order : (place later : ℕ) (visit other : Visit) → place < later → slice_get (first ∷ []) place ≡ Some visit → slice_get (first ∷ []) later ≡ Some other → visit.count ≤ other.count
  order place zero visit other before found there = absurd (omega arith)
  order place (suc later) visit other before found there = absurd cc

  ranks : (place : ℕ) (visit : Visit) → slice_get (first ∷ []) place ≡ Some visit → spare from (last_time requests) [] (take visit.count []) ≤ base (position_count requests) + place
  ranks place visit found = let none : spare from (last_time requests) [] (take visit.count []) ≡ 0 = ap (thinned_count from (last_time requests)) (kept_nil (take visit.count [])) in omega arith

-- behind the last request
pub path_ends : (from : ℕ) (requests : List Request) (way : Way) → IsPath from requests [] way → IsKept from requests way.marks
path_ends from requests way is =
    let last : way.last ≡ last_time requests = is.last ∙ ap last_time (append-nil requests) in
    let P : ℕ → Type 0 = λ positions. IsThinned from way.last positions requests (kept_of way.marks requests) way.held in
    record {
      count = is.count;
      compacted = compacted_at_end from way.last requests (kept_of way.marks requests) way.held (subst P is.positions is.thinned) last is.held;
      thin = λ tables lawful.
          let Q : Option ℕ → Type 0 = λ time. thinned_count from time (kept_of way.marks requests) ≤ 17 in
          subst Q last (is.few tables lawful);
    }

-- one more mark is told
pub mark_told : (from : ℕ) (marks : List Bool) (old rest : List Request) (request : Request) (way : Way) (mark : Bool) → IsMarked from marks old (request ∷ rest) way → mark ≡ get_or way.marks way.next mark
    → (way.next < length way.marks) × IsMarked from (marks ++ mark ∷ []) (old ++ request ∷ []) rest (record way { next = way.next + 1 })
mark_told from marks old rest request way mark is at =
    let inside : way.next < length way.marks = omega (arith, is.next, is.kept.count, length-append old (request ∷ rest)) in
    let within : length old < length way.marks = omega (arith, is.next) in
    let P : List Request → Type 0 = λ all. IsKept from all way.marks in
    let next : length old + 1 ≡ length (old ++ request ∷ []) = sym (length-append old (request ∷ [])) in
    let item : mark ≡ get_or way.marks (length old) mark = at ∙ ap (λ n. get_or way.marks n mark) is.next in (
      inside,
      record {
        kept = subst P (sym (append_assoc old (request ∷ []) rest)) is.kept;
        next = ap (λ n. n + 1) is.next ∙ next;
        ours =
            ap (λ front. front ++ mark ∷ []) is.ours ∙ ap (λ one. take (length old) way.marks ++ one ∷ []) item
            ∙ sym (take_more way.marks (length old) mark within) ∙ ap (λ n. take n way.marks) next;
      },
    )
