-- What is known of one vehicle in each pass.
use Rattle.std.specs.Prelude.{◌≡◌, ℕ, zero, suc, ◌+◌, ◌-◌, ◌<◌, ◌≤◌, List, [], ◌∷◌, ◌++◌, length}
use Rattle.std.specs.Prelude.{take, filter, replicate, map, slice_get, nat_eq}
use Rattle.std.specs.Prelude.{Option, Some, Bool, true, false}
use Rattle.std.specs.List.{IsDistinct}
use Rattle.std.specs.Option.{option_map_or}
use Rattle.mds_table.specs.declared.state.State.{State}
use Rattle.mds_table.specs.declared.state.State.TheVariants.{Removed}
use Rattle.mds_table.specs.State.{code_of}
use Rattle.mds_table.specs.Tables.{Tables}
use Rattle.mds_core.specs.declared.request.Request.{Request}
use Rattle.mds_core.specs.History.{state_of, last_time, last_position}
use Rattle.mds_core.specs.Lawful.{IsLawfulOf}
use Rattle.mds_compact.specs.Compaction.{kept_of, CutsLoops, has_to_stay, is_recent, IsCompacted}
use Rattle.mds_compact.specs.Compaction.{thinned_count, position_count}
use Rattle.mds_compact.specs.declared.path.Visit.{Visit}

-- the way of a vehicle: the time of its last event of all, how many events with a position are
-- still to come, the state held now, a mark for each request so far, where a loop may be closed,
-- and how many marks were told
pub record Way : Type 0 where
  pub last : Option ℕ
  pub positions : ℕ
  pub held : State
  pub marks : List Bool
  pub visits : List Visit
  pub next : ℕ

-- the way of a vehicle to which these requests are to come
abbrev pub way_to : List Request → Way
way_to requests = record {
  last = last_time requests;
  positions = position_count requests;
  held = Removed;
  marks = [];
  visits = record { state = Removed; count = 0 } ∷ [];
  next = 0;
}

-- the way with these marks, which holds the state; behind its first visits stands one there
abbrev pub way_at : ℕ → State → List Bool → Way → Way
way_at place state marks way = record {
  last = way.last;
  positions = way.positions;
  held = state;
  marks = marks;
  visits = take place way.visits ++ record { state = state; count = length marks } ∷ [];
  next = way.next;
}

-- the marks, with those behind the first so many turned to false
abbrev pub marks_up_to : ℕ → List Bool → List Bool
marks_up_to count marks =
    take count marks ++ replicate (length marks - length (take count marks)) false

-- Half of the way: of a vehicle's requests so far those of `new` are kept, and lead to the state
-- `held`. So many events with a position are still to come.
pub record IsThinned (from : ℕ) (last : Option ℕ) (positions : ℕ) (old new : List Request)
    (held : State) : Type 0 where
  pub cuts : CutsLoops Removed Removed old new
  pub state : state_of new ≡ held
  pub end : option_map_or (is_recent from last) (last_time old) true ≡ true
      → last_time new ≡ last_time old
  pub position : positions ≡ 0 → last_position new ≡ last_position old
  pub stay : filter (has_to_stay from last) new ≡ filter (has_to_stay from last) old

-- what was kept up to the visit is as good as what was kept of all
pub record IsVisit (from : ℕ) (old : List Request) (way : Way) (visit : Visit) : Type 0 where
  pub within : visit.count ≤ length old
  pub thinned : IsThinned from way.last way.positions old
      (kept_of (take visit.count way.marks) old) visit.state

-- how many events that may go can be kept at the first visit: none before the last position, and
-- nine behind it
abbrev pub base : ℕ → ℕ
base zero = 9
base (suc positions) = 0

-- how many events that may go are kept of the requests by these marks
abbrev pub spare : ℕ → Option ℕ → List Request → List Bool → ℕ
spare from last old marks = thinned_count from last (kept_of marks old)

-- the last event so far is recent
abbrev pub ends_recent : ℕ → Option ℕ → List Request → Bool
ends_recent from last old = option_map_or (is_recent from last) (last_time old) false

-- few are kept that may go: at each visit one more, and the visits' states differ
pub record IsShort (from : ℕ) (old : List Request) (way : Way) : Type 0 where
  pub ranks : (place : ℕ) (visit : Visit) → slice_get way.visits place ≡ Some visit
      → spare from way.last old (take visit.count way.marks) ≤ base way.positions + place
  pub all : spare from way.last old way.marks + 1 ≤ base way.positions + length way.visits
  pub apart : IsDistinct nat_eq (map (λ visit. code_of visit.state) way.visits)

-- the second pass has taken the requests `old`, and those of `rest` are still to come
pub record IsPath (from : ℕ) (old rest : List Request) (way : Way) : Type 0 where
  pub last : way.last ≡ last_time (old ++ rest)
  pub positions : way.positions ≡ position_count rest
  pub next : way.next ≡ 0
  pub count : length way.marks ≡ length old
  pub held : way.held ≡ state_of old
  pub thinned : IsThinned from way.last way.positions old (kept_of way.marks old) way.held
  pub visits : (place : ℕ) (visit : Visit) → slice_get way.visits place ≡ Some visit
      → IsVisit from old way visit
  pub order : (place later : ℕ) (visit other : Visit) → place < later
      → slice_get way.visits place ≡ Some visit → slice_get way.visits later ≡ Some other
      → visit.count ≤ other.count
  pub short : (tables : Tables) → IsLawfulOf tables old → ends_recent from way.last old ≡ false
      → IsShort from old way
  pub few : (tables : Tables) → IsLawfulOf tables old → spare from way.last old way.marks ≤ 17

-- by these marks the requests are compacted, and enough is gone where they are lawful
pub record IsKept (from : ℕ) (requests : List Request) (marks : List Bool) : Type 0 where
  pub count : length marks ≡ length requests
  pub compacted : IsCompacted from requests (kept_of marks requests)
  pub thin : (tables : Tables) → IsLawfulOf tables requests
      → thinned_count from (last_time requests) (kept_of marks requests) ≤ 17

-- the third pass has told these marks of the requests `old`, and those of `rest` are still to come
pub record IsMarked (from : ℕ) (marks : List Bool) (old rest : List Request) (way : Way)
    : Type 0 where
  pub kept : IsKept from (old ++ rest) way.marks
  pub next : way.next ≡ length old
  pub ours : marks ≡ take (length old) way.marks
