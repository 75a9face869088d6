-- Connections that wait in numbered slots: how much they hold, and when their times are over.
use Rattle.std.specs.Prelude.{◌≡◌, ◌⊎◌, ℕ, zero, suc, ◌+◌, ◌<◌, ◌≤◌, min, List, []}
use Rattle.std.specs.Prelude.{◌∷◌, ◌++◌, length, sum_by, count_by, is_some, slice_get}
use Rattle.std.specs.Prelude.{slice_set, All, Option, Some, None, IsSome, vec_len}
use Rattle.std.specs.Option.{ForSome}
use Rattle.mds_waiting.specs.declared.waiter.Waiter.{Waiter}

-- the most bytes that are held in all: 64 MiB
abbrev pub max_held : ℕ
max_held = 67_108_864

-- the most connections that wait
abbrev pub max_waiting : ℕ
max_waiting = 4_096

-- the longest that is waited at a stretch, in milliseconds
abbrev pub max_wait : ℕ
max_wait = 1_000

-- by this time, if the clock tells one, that time is over
abbrev pub IsOver : Option ℕ → ℕ → Type 0
IsOver None until = Unit {0}
IsOver (Some now) until = until ≤ now

module _ {S : Type 0} where
  -- how much a slot's connection counts: its bytes, and no more than all may hold
  abbrev pub weight : Option (Waiter S) → ℕ
  weight None = 0
  weight (Some waiter) = min (vec_len waiter.bytes) max_held

  -- what they hold in all
  abbrev pub held_bytes : List (Option (Waiter S)) → ℕ
  held_bytes slots = sum_by weight slots

  -- there is room for so many bytes more
  abbrev pub HasRoom : List (Option (Waiter S)) → ℕ → Type 0
  HasRoom slots count = held_bytes slots + min count max_held ≤ max_held

  -- no connection has this key
  abbrev pub IsVacant : List (Option (Waiter S)) → ℕ → Type 0
  IsVacant slots key = slice_get slots key ≡ Some None

  -- each key has a connection
  pub record IsFull (slots : List (Option (Waiter S))) : Type 0 where
    pub many : length slots ≡ max_waiting
    pub taken : All IsSome slots

  -- the same connections wait, and there may be one more key
  abbrev pub SameWaiters : List (Option (Waiter S)) → List (Option (Waiter S)) → Type 0
  SameWaiters old new = (new ≡ old) ⊎ (new ≡ old ++ None ∷ [])

  -- the slot's connection has time up to then, and no less
  abbrev pub HasTime : ℕ → Option (Waiter S) → Type 0
  HasTime time slot = ForSome slot (λ waiter. time ≤ waiter.until)

  -- by this time, if the clock tells one, the time of the slot's connection isn't over
  abbrev pub IsInTime : Option ℕ → Option (Waiter S) → Type 0
  IsInTime None slot = slot ≡ None
  IsInTime (Some now) slot = ForSome slot (λ waiter. now < waiter.until)

  -- a connection whose time is over, and nobody's was over before
  pub record IsLate (now : Option ℕ) (slots : List (Option (Waiter S))) (key : ℕ) : Type 0 where
    pub waiter : Waiter S
    pub there : slice_get slots key ≡ Some (Some waiter)
    pub over : IsOver now waiter.until
    pub first : All (HasTime waiter.until) slots

  -- a connection that holds so many bytes or more, and none of those began before it
  pub record IsEldest (bytes : ℕ) (slots : List (Option (Waiter S))) (key : ℕ) : Type 0 where
    pub waiter : Waiter S
    pub there : slice_get slots key ≡ Some (Some waiter)
    pub holds : bytes ≤ vec_len waiter.bytes
    pub first : All
        (λ slot. ForSome slot (λ other. bytes ≤ vec_len other.bytes → waiter.begun ≤ other.begun))
        slots

  -- the connection that began to wait first, and it did so before this time
  abbrev pub IsEldestBefore : ℕ → List (Option (Waiter S)) → ℕ → Type 0
  IsEldestBefore time slots key = (eldest : IsEldest 0 slots key) × (eldest.waiter.begun < time)

  -- the slot's connection didn't begin to wait before this time
  abbrev pub HasBegunSince : ℕ → Option (Waiter S) → Type 0
  HasBegunSince time slot = ForSome slot (λ waiter. time ≤ waiter.begun)

  -- no connection holds so many bytes
  abbrev pub HoldsFewer : ℕ → Option (Waiter S) → Type 0
  HoldsFewer bytes slot = ForSome slot (λ waiter. vec_len waiter.bytes < bytes)

  -- the eldest that holds bytes has left, and this was it
  abbrev pub HasLeft : List (Option (Waiter S)) → List (Option (Waiter S)) → Waiter S → Type 0
  HasLeft old new waiter = (key : ℕ) × IsEldest 1 old key
      × (slice_get old key ≡ Some (Some waiter)) × (new ≡ slice_set old key None)

  -- the eldest of all has left
  abbrev pub LeavesEldest : List (Option (Waiter S)) → List (Option (Waiter S)) → Type 0
  LeavesEldest old new = (key : ℕ) × IsEldest 0 old key × (new ≡ slice_set old key None)

  -- the same, where it began to wait before this time
  abbrev pub LeavesEldestBefore : ℕ → List (Option (Waiter S)) → List (Option (Waiter S)) → Type 0
  LeavesEldestBefore time old new =
      (key : ℕ) × IsEldestBefore time old key × (new ≡ slice_set old key None)

  -- the same connections wait, or, where each key had one, all but the eldest of them
  abbrev pub LeavesKey : List (Option (Waiter S)) → List (Option (Waiter S)) → Type 0
  LeavesKey old new = SameWaiters old new ⊎ (IsFull old × LeavesEldest old new)

  -- so many have left, one after the other: each was the eldest that held bytes, and there was no
  -- room for so many more
  abbrev pub HaveLeftFor : ℕ → ℕ → List (Option (Waiter S)) → List (Option (Waiter S)) → Type 0
  HaveLeftFor zero count old new = new ≡ old
  HaveLeftFor (suc n) count old new = (before : List (Option (Waiter S))) × (waiter : Waiter S)
      × HaveLeftFor n count old before × (HasRoom before count → ⊥) × HasLeft before new waiter

  -- connections have left for one more that holds so many bytes: where room was wanting, and then
  -- where a key was
  abbrev pub MakesWay : ℕ → List (Option (Waiter S)) → List (Option (Waiter S)) → Type 0
  MakesWay count old new = (n : ℕ) × (roomy : List (Option (Waiter S)))
      × HaveLeftFor n count old roomy × LeavesKey roomy new

  -- one more came, which holds so many bytes: there is room for it once others left for it, and a
  -- key, unless memory was wanting for one more slot; it waits under the key, or was let go behind
  -- them
  abbrev pub Joins : ℕ → List (Option (Waiter S)) → List (Option (Waiter S)) → Type 0
  Joins count old new =
      (cleared : List (Option (Waiter S))) × MakesWay count old cleared × HasRoom cleared count
      × (((length old < max_waiting) × (new ≡ cleared))
      ⊎ ((key : ℕ) × IsVacant cleared key
      × ((new ≡ cleared) ⊎ ((waiter : Waiter S) × (new ≡ slice_set cleared key (Some waiter))))))

  -- what is kept of the slots: how many connections they have, how much these hold, which is in
  -- bounds, and a time before which nobody's is over
  pub record IsKept (slots : List (Option (Waiter S))) (count holding soonest : ℕ) : Type 0 where
    pub few : length slots ≤ max_waiting
    pub many : count ≡ count_by is_some slots
    pub counted : holding ≡ held_bytes slots
    pub bounded : holding ≤ max_held
    pub punctual : All (HasTime soonest) slots
