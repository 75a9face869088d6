-- What the calls of a device do to its file, to what a crash may leave, and to the past.
use Rattle.std.specs.Prelude.{◌<◌, ◌≡◌, ◌⊎◌, ℕ, ◌+◌, ◌≤◌, min, max, List}
use Rattle.std.specs.Prelude.{◌++◌, length, take, drop, Result, IsErrOf}
use Rattle.mds_journal.specs.declared.device.DeviceError.{DeviceError}
use Rattle.mds_journal.specs.declared.device.DeviceError.TheVariants.{Failed}

-- new is old with these bytes at this offset
abbrev pub Holds : List ℕ → ℕ → List ℕ → List ℕ → Type 0
Holds old at bytes new = new ≡ take at old ++ bytes ++ drop (at + length bytes) old

-- after a torn write of n bytes: any bytes in the range and past the old end, the same elsewhere
pub record Torn (at n : ℕ) (old new : List ℕ) : Type 0 where
  pub before : take at new ≡ take at old
  pub after : drop (at + n) new ≡ drop (at + n) old
  pub no_shorter : length old ≤ length new
  pub no_longer : length new ≤ max (length old) (at + n)

-- after a cut: some length between; what is shorter already stays so
pub record Cut (n : ℕ) (old new : List ℕ) : Type 0 where
  pub no_shorter : min n (length old) ≤ length new
  pub front : take (length new) old ≡ new

-- each new outcome of a crash is an old outcome after a step
abbrev pub Follows : (List ℕ → List ℕ → Type 0) → (List ℕ → Type 0) → (List ℕ → Type 0) → Type 0
Follows step old new = (c : List ℕ) → new c → (d : List ℕ) × old d × step d c

-- an old outcome of a crash, with a write of n bytes torn
abbrev pub TornFrom : ℕ → ℕ → (List ℕ → Type 0) → List ℕ → Type 0
TornFrom at n old c = (d : List ℕ) × old d × Torn at n d c

-- a crash leaves this and nothing else
abbrev pub Only : List ℕ → (List ℕ → Type 0) → Type 0
Only file outcomes = (c : List ℕ) → outcomes c → c ≡ file

-- each outcome of a crash reaches to this offset
abbrev pub Reaches : ℕ → (List ℕ → Type 0) → Type 0
Reaches at outcomes = (c : List ℕ) → outcomes c → at ≤ length c

-- n bytes of the file from this offset on went into a buffer; none only at the file's end
pub record ReadsAt (file : List ℕ) (at : ℕ) (old new : List ℕ) (n : ℕ) : Type 0 where
  pub bytes : take n new ≡ take n (drop at file)
  pub in_file : n ≤ length (drop at file)
  pub end : n ≡ 0 → (length old ≡ 0) ⊎ (length file ≤ at)

-- a call changed nothing, and took no time
pub record Untouched {D : Type 0} (seen : D → List ℕ) (may_leave : D → List ℕ → Type 0)
    (moment : D → ℕ) (left_since : D → ℕ → List ℕ → Type 0) (old new : D) : Type 0 where
  pub file : seen new ≡ seen old
  pub outcomes : (c : List ℕ) → may_leave new c → may_leave old c
  pub time : moment new ≡ moment old
  pub past : (t : ℕ) (c : List ℕ) → left_since new t c → left_since old t c

-- time goes on: a crash since t might have left what it might have before, or what it may now
pub record Elapses (before now : ℕ) (past since : ℕ → List ℕ → Type 0) (may_leave : List ℕ → Type 0)
    : Type 0 where
  pub later : before ≤ now
  pub nothing_else : (t : ℕ) (c : List ℕ) → t ≤ before → since t c → past t c ⊎ may_leave c
  pub keeps : (t : ℕ) (c : List ℕ) → t ≤ before → past t c → since t c

-- a crash at any moment since old leaves a file that has P
pub record LeavesOnly {D : Type 0} (moment : D → ℕ) (left_since : D → ℕ → List ℕ → Type 0)
    (old new : D) (P : List ℕ → Type 0) : Type 0 where
  pub later : moment old ≤ moment new
  pub each : (c : List ℕ) → left_since new (moment old) c → P c
  -- for a run that began earlier
  pub before : (t : ℕ) (c : List ℕ) → t ≤ moment old → left_since new t c → left_since old t c ⊎ P c

-- the count of failures doesn't fall, and `Failed` is told only where it has risen
pub record HasCause {T : Type 0} (before now : ℕ) (result : Result T DeviceError) : Type 0 where
  pub later : before ≤ now
  pub failed : IsErrOf result Failed → before < now
