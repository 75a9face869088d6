-- Packed requests, and the requests that they tell.
use Rattle.std.specs.Prelude.{ℕ, ◌+◌, ◌<◌, ◌≤◌, List, length, take, drop}
use Rattle.mds_table.specs.declared.state.State.{State}
use Rattle.mds_core.specs.declared.key.Key.{Key}
use Rattle.mds_core.specs.declared.request.Request.{Request}
use Rattle.mds_core.specs.declared.request.Request.TheVariants.{Register, Report, Look}
use Rattle.mds_core.specs.History.{key_at}
use Rattle.mds_core.specs.Reported.{Reported, MayBeReported}
use Rattle.mds_past.specs.declared.packed.Kind.{Kind}
use Rattle.mds_past.specs.declared.packed.Kind.TheVariants as kind
use Rattle.mds_past.specs.declared.packed.PackedRequest.{PackedRequest}

-- its types, among these names
abbrev pub types_kept : List (List ℕ) → PackedRequest → List (List ℕ)
types_kept names packed = take packed.count (drop packed.first names)

-- the event that it tells, where it tells one that leads to this state
abbrev pub event_told : PackedRequest → State → List Key → List (List ℕ) → Reported
event_told packed state keys names = record {
  key = key_at keys packed.key;
  id = packed.id;
  state = state;
  types = types_kept names packed;
  time = packed.time;
  position = packed.position;
}

-- the request that it tells, by its kind
abbrev pub told_by : Kind → PackedRequest → List Key → List (List ℕ) → Request
told_by kind.Registration packed keys names = Register (key_at keys packed.key)
told_by kind.Look packed keys names = Look (key_at keys packed.key)
told_by (kind.Event state) packed keys names = Report (event_told packed state keys names)

-- the request that it tells
abbrev pub packed_tells : PackedRequest → List Key → List (List ℕ) → Request
packed_tells packed keys names = told_by packed.kind packed keys names

-- its types lie within the names, and an event may have them and its time
pub record AreTypesKept (packed : PackedRequest) (names : List (List ℕ)) : Type 0 where
  pub within : packed.first + packed.count ≤ length names
  pub reported : MayBeReported (types_kept names packed) packed.time

-- its types are so where it tells an event
abbrev pub MayBeTold : Kind → PackedRequest → List (List ℕ) → Type 0
MayBeTold kind.Registration packed names = Unit {0}
MayBeTold kind.Look packed names = Unit {0}
MayBeTold (kind.Event state) packed names = AreTypesKept packed names

-- its key stands among the keys, and its types are kept
abbrev pub IsEventKept : PackedRequest → List Key → List (List ℕ) → Type 0
IsEventKept packed keys names = (packed.key < length keys) × AreTypesKept packed names

-- its key stands among the keys, and an event's types among the names
pub record IsPacked (packed : PackedRequest) (keys : List Key) (names : List (List ℕ)) : Type 0
  where
    pub key : packed.key < length keys
    pub types : MayBeTold packed.kind packed names
