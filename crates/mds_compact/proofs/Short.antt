-- Few events that may go are kept, whichever step the way takes.
use Rattle.std.proofs.Common.{◌≡◌, ◌⊎◌, inl, inr, ◌||◌, ℕ, zero, suc, ◌+◌, ◌<◌, ◌≤◌, List, [], ◌∷◌, ◌++◌, length, take, filter, cond, not, nat_le, nat_lt, Bool, true, false, Option, Some, None, refl, sym, ◌∙◌, ap, subst, arith, length-append, length-take-le}
use Rattle.std.specs.Prelude.{slice_get}
use Rattle.std.proofs.Math.Seq.{take-length}
use Rattle.std.specs.List.{list_any, IsDistinct}
use Rattle.std.specs.Prelude.{nat_eq}
use Rattle.std.specs.Option.{option_map_or}
use Rattle.std.proofs.lemmas.Bool.{or_parts}
use Rattle.std.proofs.lemmas.Bool.Decides.{nat_tests}
use Rattle.std.proofs.lemmas.List.Elements.{filter-append}
use Rattle.mds_table.specs.declared.state.State.{State}
use Rattle.mds_table.specs.State.{code_of}
use Rattle.mds_table.specs.Tables.{Tables}
use Rattle.mds_core.specs.declared.request.Request.{Request}
use Rattle.mds_core.specs.declared.request.Request.TheVariants.{Register, Report, Look}
use Rattle.mds_core.specs.Reported.{Reported}
use Rattle.mds_core.specs.History.{last_time, is_late}
use Rattle.mds_core.specs.Lawful.{IsLawfulOf}
use Rattle.mds_compact.specs.declared.path.Visit.{Visit}
use Rattle.mds_compact.specs.Compaction.{kept_of, has_to_stay, is_recent, thinned_count, position_count}
use Rattle.mds_compact.specs.Path.{Way, way_at, IsPath, IsShort, base, spare, ends_recent}
use Rattle.mds_compact.proofs.Held.{last_time-more}
use Rattle.mds_compact.proofs.Kept.{kept_more, kept_nil}
use Rattle.mds_compact.proofs.Visits.{standing_at, codes_of, visits_few, distinct_one, apart_more}
use Rattle.mds_compact.proofs.Fronts.{lawful_front, lawful_gives}

-- one request more, where it may go, is one that may go more
pub thinned_more : (from : ℕ) (last : Option ℕ) (requests : List Request) (request : Request)
    → thinned_count from last (requests ++ request ∷ []) ≡ thinned_count from last requests + cond (has_to_stay from last request) 0 1
thinned_more from last requests request =
    let goes : Request → Bool = λ one. not (has_to_stay from last one) in
    ap length (filter-append goes requests (request ∷ [])) ∙ length-append (goings goes requests) (goings goes (request ∷ [])) ∙ ap (λ n. thinned_count from last requests + n) (by_kind (has_to_stay from last request)) where
      goings : (Request → Bool) → List Request → List Request
      goings test all = filter test all

      by_kind : (b : Bool) → length (cond (not b) (request ∷ []) []) ≡ cond b 0 1
      by_kind true = refl
      by_kind false = refl

base_few : (positions : ℕ) → base positions ≤ 9
base_few zero = omega arith
base_few (suc positions) = omega arith

base_some : (positions : ℕ) → 0 < positions → base positions ≡ 0
base_some zero some = absurd (omega arith)
base_some (suc positions) some = refl

-- no fewer may be kept behind an event that isn't the last one with a position
pub base_after : (positions here after : ℕ) → positions ≡ here + after → (after ≡ 0 → here ≡ 0) → base positions ≤ base after
base_after positions here zero is none = let same : positions ≡ 0 = omega (arith, none refl) in let equal = ap base same in omega (arith, equal)
base_after zero here (suc after) is none = absurd (omega arith)
base_after (suc positions) here (suc after) is none = omega arith

-- before an event that may go, and isn't late, no other is recent
pub old_before : (from : ℕ) (last before : Option ℕ) (time : ℕ) → is_late before time ≡ false → is_recent from last time ≡ false → option_map_or (is_recent from last) before false ≡ false
old_before from last None time in_time old = refl
old_before from None (Some before) time in_time old = absurd (let parts = or_parts (nat_le from time) true old in let no : true ≡ false = parts.1 in cc)
old_before from (Some last) (Some before) time in_time old =
    let parts = or_parts (nat_le from time) (not (nat_lt time last)) old in
    let early : nat_le from time ≡ false = parts.0 in
    let late : not (nat_lt time last) ≡ false = parts.1 in
    let first : nat_le from before ≡ false = grind (arith, nat_tests) in
    let second : nat_lt before last ≡ true = grind (arith, nat_tests) in
    ap (λ b. b || not (nat_lt before last)) first ∙ ap not second

-- a request is kept for good: it has to stay, or it's the last one with a position
abbrev pub IsForGood : ℕ → Request → Way → ℕ → Type 0
IsForGood from request way after = (has_to_stay from way.last request ≡ true) ⊎ ((after ≡ 0) × (0 < position_count (request ∷ [])))

module _ (from : ℕ) (old rest : List Request) (request : Request) (way : Way) (is : IsPath from old (request ∷ rest) way) (after : ℕ) where
  module _ (counted : way.positions ≡ position_count (request ∷ []) + after) where
    kept_all : kept_of (way.marks ++ true ∷ []) (old ++ request ∷ []) ≡ kept_of way.marks old ++ request ∷ []
    kept_all = kept_more way.marks old true request is.count

    -- one more is kept
    spare_all : spare from way.last (old ++ request ∷ []) (way.marks ++ true ∷ []) ≡ spare from way.last old way.marks + cond (has_to_stay from way.last request) 0 1
    spare_all = ap (thinned_count from way.last) kept_all ∙ thinned_more from way.last (kept_of way.marks old) request

    -- a last position that may go is one more at nine visits at most
    last_few : (tables : Tables) (event : Reported) → request ≡ Report event → after ≡ 0 → 0 < position_count (request ∷ []) → is_recent from way.last event.time ≡ false
        → IsLawfulOf tables (old ++ request ∷ []) → spare from way.last old way.marks + 1 ≤ 9
    last_few tables event asked none some goes lawful =
        let P : Request → Type 0 = λ one. IsLawfulOf tables (old ++ one ∷ []) in
        let gives = lawful_gives tables old (Report event) (subst P asked lawful) in
        let front = lawful_front tables old (request ∷ []) lawful in
        let short = is.short tables front (old_before from way.last (last_time old) event.time gives.0.in_time goes) in
        let few = visits_few way.visits short.apart in
        let positions : 0 < way.positions = omega arith in
        let nothing = base_some way.positions positions in
        omega (arith, short.all)

    -- once it's kept, few are
    pub keep_few : IsForGood from request way after → (tables : Tables) → IsLawfulOf tables (old ++ request ∷ []) → spare from way.last (old ++ request ∷ []) (way.marks ++ true ∷ []) ≤ 17
    keep_few (inl stays) tables lawful =
        let front = lawful_front tables old (request ∷ []) lawful in
        let same = spare_all ∙ ap (λ b. spare from way.last old way.marks + cond b 0 1) stays in
        omega (arith, is.few tables front)
    keep_few (inr ends) tables lawful = by_request request refl (has_to_stay from way.last request) refl where
      by_request : (asked : Request) → request ≡ asked → (b : Bool) → has_to_stay from way.last request ≡ b → spare from way.last (old ++ request ∷ []) (way.marks ++ true ∷ []) ≤ 17
      by_request asked same true stays =
          let front = lawful_front tables old (request ∷ []) lawful in
          let more = spare_all ∙ ap (λ b. spare from way.last old way.marks + cond b 0 1) stays in
          omega (arith, is.few tables front)
      by_request (Register key) same false goes = absurd (let no : true ≡ false = sym (ap (has_to_stay from way.last) same) ∙ goes in cc)
      by_request (Look key) same false goes = absurd (let no : true ≡ false = sym (ap (has_to_stay from way.last) same) ∙ goes in cc)
      by_request (Report event) same false goes =
          let more = spare_all ∙ ap (λ b. spare from way.last old way.marks + cond b 0 1) goes in
          let few = last_few tables event same ends.0 ends.1 (sym (ap (has_to_stay from way.last) same) ∙ goes) lawful in
          omega arith

    -- one visit alone is short
    short_one : (state : State) → spare from way.last (old ++ request ∷ []) (way.marks ++ true ∷ []) ≤ base after
        → IsShort from (old ++ request ∷ []) (way_at 0 state (way.marks ++ true ∷ []) (record way { positions = after }))
    short_one state few = record { ranks = ranks; all = omega arith; apart = distinct_one (code_of state) } where
      marks : List Bool
      marks = way.marks ++ true ∷ []

      here : Visit
      here = record { state = state; count = length marks }

      ranks : (place : ℕ) (visit : Visit) → slice_get (here ∷ []) place ≡ Some visit → spare from way.last (old ++ request ∷ []) (take visit.count marks) ≤ base after + place
      ranks zero visit found =
          let same : here ≡ visit = cc in
          let P : Visit → Type 0 = λ one. spare from way.last (old ++ request ∷ []) (take one.count marks) ≤ base after + 0 in
          let Q : List Bool → Type 0 = λ front. spare from way.last (old ++ request ∷ []) front ≤ base after + 0 in
          let all : spare from way.last (old ++ request ∷ []) marks ≤ base after + 0 = omega arith in
          subst P same (subst Q (sym (take-length marks)) all)
      ranks (suc place) visit found = absurd cc

    -- and short where the last event may go
    pub keep_short : (state : State) → IsForGood from request way after → (tables : Tables) → IsLawfulOf tables (old ++ request ∷ []) → ends_recent from way.last (old ++ request ∷ []) ≡ false
        → IsShort from (old ++ request ∷ []) (way_at 0 state (way.marks ++ true ∷ []) (record way { positions = after }))
    keep_short state good tables lawful goes = short_one state (by_request request refl good) where
      Goal : Type 0
      Goal = spare from way.last (old ++ request ∷ []) (way.marks ++ true ∷ []) ≤ base after

      by_request : (asked : Request) → request ≡ asked → IsForGood from request way after → spare from way.last (old ++ request ∷ []) (way.marks ++ true ∷ []) ≤ base after
      by_request (Register key) same good_ =
          let P : Request → Type 0 = λ one. IsLawfulOf tables (old ++ one ∷ []) in
          let nothing : old ≡ [] = lawful_gives tables old (Register key) (subst P same lawful) in
          let none : spare from way.last old way.marks ≡ 0 = ap (λ all. spare from way.last all way.marks) nothing ∙ ap (thinned_count from way.last) (kept_nil way.marks) in
          let more = spare_all ∙ ap (λ one. spare from way.last old way.marks + cond (has_to_stay from way.last one) 0 1) same in
          omega arith
      by_request (Look key) same good_ = let P : Request → Type 0 = λ one. IsLawfulOf tables (old ++ one ∷ []) in absurd (lawful_gives tables old (Look key) (subst P same lawful))
      by_request (Report event) same good_ = by_good good_ where
        old_event : is_recent from way.last event.time ≡ false
        old_event =
            sym (ap (λ one. option_map_or (is_recent from way.last) (last_time (old ++ one ∷ [])) false) same ∙ ap (λ time. option_map_or (is_recent from way.last) time false) (last_time-more old (Report event)))
            ∙ goes

        by_good : IsForGood from request way after → spare from way.last (old ++ request ∷ []) (way.marks ++ true ∷ []) ≤ base after
        by_good (inl stays) = absurd (let no : true ≡ false = sym stays ∙ ap (has_to_stay from way.last) same ∙ old_event in cc)
        by_good (inr ends) =
            let few = last_few tables event same ends.0 ends.1 old_event lawful in
            let more = spare_all ∙ ap (λ b. spare from way.last old way.marks + cond b 0 1) (ap (has_to_stay from way.last) same ∙ old_event) in
            let nine : base after ≡ 9 = ap base ends.0 in
            omega arith

-- an event that may go was kept at a new visit, or was left out with what came since an old one
module _ (from : ℕ) (old rest : List Request) (event : Reported) (way : Way) (is : IsPath from old (Report event ∷ rest) way) (after : ℕ) (marks : List Bool) (place : ℕ) (state : State)
    (within : place ≤ length way.visits) (goes : is_recent from way.last event.time ≡ false) (positions : base way.positions ≤ base after)
    (front : (at : ℕ) (visit : Visit) → at < place → slice_get way.visits at ≡ Some visit → kept_of (take visit.count marks) (old ++ Report event ∷ []) ≡ kept_of (take visit.count way.marks) old)
    (few : IsShort from old way → spare from way.last (old ++ Report event ∷ []) marks ≤ base way.positions + place)
    (none : IsShort from old way → list_any (nat_eq (code_of state)) (take place (codes_of way.visits)) ≡ false) where
  short_before : (tables : Tables) → IsLawfulOf tables (old ++ Report event ∷ []) → IsShort from old way
  short_before tables lawful =
      let gives = lawful_gives tables old (Report event) lawful in
      is.short tables (lawful_front tables old (Report event ∷ []) lawful) (old_before from way.last (last_time old) event.time gives.0.in_time goes)

  apart_now : IsShort from old way → IsDistinct nat_eq (codes_of (take place way.visits ++ record { state = state; count = length marks } ∷ []))
  apart_now short = apart_more way.visits place (record { state = state; count = length marks }) short.apart (none short)

  visits_now : length (take place way.visits ++ record { state = state; count = length marks } ∷ []) ≡ place + 1
  visits_now = length-append (take place way.visits) (record { state = state; count = length marks } ∷ []) ∙ ap (λ n. n + 1) (length-take-le place way.visits within)

  pub go_short : (tables : Tables) → IsLawfulOf tables (old ++ Report event ∷ []) → IsShort from (old ++ Report event ∷ []) (way_at place state marks (record way { positions = after }))
  go_short tables lawful = record { ranks = ranks; all = omega (arith, few short, visits_now); apart = apart_now short } where
    short : IsShort from old way
    short = short_before tables lawful

    here : Visit
    here = record { state = state; count = length marks }

    all : List Request
    all = old ++ Report event ∷ []

    ranks : (at : ℕ) (visit : Visit) → slice_get (take place way.visits ++ here ∷ []) at ≡ Some visit → spare from way.last (old ++ Report event ∷ []) (take visit.count marks) ≤ base after + at
    ranks at visit found = by_place (standing_at way.visits place at here visit within found) where
      by_place : ((at < place) × (slice_get way.visits at ≡ Some visit)) ⊎ ((at ≡ place) × (here ≡ visit)) → spare from way.last (old ++ Report event ∷ []) (take visit.count marks) ≤ base after + at
      by_place (inl before) =
          let same = ap (thinned_count from way.last) (front at visit before.0 before.1) in
          let rank = short.ranks at visit before.1 in
          omega arith
      by_place (inr last) =
          let P : Visit → Type 0 = λ one. spare from way.last (old ++ Report event ∷ []) (take one.count marks) ≤ base after + at in
          let Q : List Bool → Type 0 = λ kept. spare from way.last (old ++ Report event ∷ []) kept ≤ base after + at in
          let now : spare from way.last (old ++ Report event ∷ []) marks ≤ base after + at = omega (arith, few short, last.0) in
          subst P last.1 (subst Q (sym (take-length marks)) now)

  pub go_few : (tables : Tables) → IsLawfulOf tables (old ++ Report event ∷ []) → spare from way.last (old ++ Report event ∷ []) marks ≤ 17
  go_few tables lawful =
      let short = short_before tables lawful in
      let nine = visits_few (take place way.visits ++ record { state = state; count = length marks } ∷ []) (apart_now short) in
      let least = base_few way.positions in
      omega (arith, few short, visits_now)
