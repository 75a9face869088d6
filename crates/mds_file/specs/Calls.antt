-- The calls that were made of a file, with their answers, and a file that keeps what it is given:
-- what it has after them, and what a crash may leave. Of some calls the newest comes first.
use Rattle.std.specs.Prelude.{◌≡◌, ◌≢◌, ◌⊎◌, ℕ, ◌+◌, ◌≤◌, ◌==◌, Bool, true, false, cond}
use Rattle.std.specs.Prelude.{List, [], ◌∷◌, ◌++◌, length, take, drop, slice_index}
use Rattle.std.proofs.Common.{inl, inr, le_refl, le_trans, le-add_right, lt_irrefl, lt_of_lt_of_le}
use Rattle.std.proofs.Math.Numerals.{lt-add-one}
use Rattle.mds_journal.specs.Device.{Torn, TornFrom}
use Rattle.mds_journal.specs.Device.{Cut as IsCut}
use Rattle.mds_file.specs.Record.{Entry}

-- a call, and first of all whether it was done
pub data Call : Type 0 where
  -- this size was told
  Measure : Bool → ℕ → Call
  -- from an offset on so many bytes were asked for, and these came
  Read : Bool → ℕ → ℕ → List ℕ → Call
  -- these bytes were to be written at an offset
  Write : Bool → ℕ → List ℕ → Call
  -- the file was to be cut to this size
  Cut : Bool → ℕ → Call
  Sync : Bool → Call

-- ---- what a file answers, of which the calls are known

-- the bytes behind a call; `left` are those that a write or a cut which failed has left
abbrev pub bytes_behind : Call → List ℕ → List ℕ → List ℕ
bytes_behind (Measure done size) left file = file
bytes_behind (Read done at asked bytes) left file = file
bytes_behind (Write true at bytes) left file =
    take at file ++ bytes ++ drop (at + length bytes) file
bytes_behind (Write false at bytes) left file = left
bytes_behind (Cut true size) left file = take size file
bytes_behind (Cut false size) left file = left
bytes_behind (Sync done) left file = file

-- the bytes after all calls; `left n` are those that the n-th call has left if it failed
abbrev pub contents : List ℕ → (ℕ → List ℕ) → List Call → List ℕ
contents first left [] = first
contents first left (call ∷ earlier) =
    bytes_behind call (left (length earlier)) (contents first left earlier)

-- bytes that were read are the file's, and none come only at its end
pub record AreBytesAt (file : List ℕ) (at asked : ℕ) (bytes : List ℕ) : Type 0 where
  pub same : bytes ≡ take (length bytes) (drop at file)
  pub end : length bytes ≡ 0 → (asked ≡ 0) ⊎ (length file ≤ at)

-- a file with these bytes may answer a call so
abbrev pub IsAnswer : Call → List ℕ → List ℕ → Type 0
IsAnswer (Measure true size) left file = size ≡ length file
IsAnswer (Measure false size) left file = Unit {0}
IsAnswer (Read true at asked bytes) left file = AreBytesAt file at asked bytes
IsAnswer (Read false at asked bytes) left file = Unit {0}
IsAnswer (Write true at bytes) left file = Unit {0}
IsAnswer (Write false at bytes) left file = Torn at (length bytes) file left
IsAnswer (Cut true size) left file = Unit {0}
IsAnswer (Cut false size) left file = IsCut size file left
IsAnswer (Sync done) left file = Unit {0}

-- all answers are those of a file that keeps what it is given
abbrev pub AreAnswers : List ℕ → (ℕ → List ℕ) → List Call → Type 0
AreAnswers first left [] = Unit {0}
AreAnswers first left (call ∷ earlier) =
    AreAnswers first left earlier
    × IsAnswer call (left (length earlier)) (contents first left earlier)

-- no sync has failed
abbrev pub IsSynced : List Call → Type 0
IsSynced [] = Unit {0}
IsSynced (call ∷ earlier) = IsSynced earlier × (call ≢ Sync false)

abbrev pub was_done : Call → Bool
was_done (Measure done size) = done
was_done (Read done at asked bytes) = done
was_done (Write done at bytes) = done
was_done (Cut done size) = done
was_done (Sync done) = done

-- how many calls have failed
abbrev pub failures : List Call → ℕ
failures [] = 0
failures (call ∷ earlier) = cond (was_done call) (failures earlier) (failures earlier + 1)

-- ---- what a crash may leave

-- behind a call, of what it might have left before: of a write or a cut, all may be done or a part
abbrev pub LeftBehind : Call → List ℕ → List ℕ → (List ℕ → Type 0) → List ℕ → Type 0
LeftBehind (Measure done size) left file old c = old c
LeftBehind (Read done at asked bytes) left file old c = old c
LeftBehind (Write done at bytes) left file old c =
    (c ≡ bytes_behind (Write done at bytes) left file) ⊎ TornFrom at (length bytes) old c
LeftBehind (Cut done size) left file old c =
    (c ≡ bytes_behind (Cut done size) left file) ⊎ ((d : List ℕ) × old d × IsCut size d c)
LeftBehind (Sync true) left file old c = c ≡ file
LeftBehind (Sync false) left file old c = old c

-- after all calls; at first all is on the disk
abbrev pub Outcome : List ℕ → (ℕ → List ℕ) → List Call → List ℕ → Type 0
Outcome first left [] c = c ≡ first
Outcome first left (call ∷ earlier) c =
    LeftBehind call (left (length earlier))
    (contents first left earlier) (Outcome first left earlier) c

-- how many calls there were that change what a crash may leave
abbrev pub moment_of : List Call → ℕ
moment_of [] = 0
moment_of (Measure done size ∷ earlier) = moment_of earlier
moment_of (Read done at asked bytes ∷ earlier) = moment_of earlier
moment_of (Write done at bytes ∷ earlier) = moment_of earlier + 1
moment_of (Cut done size ∷ earlier) = moment_of earlier + 1
moment_of (Sync done ∷ earlier) = moment_of earlier + 1

-- after some of all calls, at a moment no earlier than this
abbrev pub LeftSince : List ℕ → (ℕ → List ℕ) → List Call → ℕ → List ℕ → Type 0
LeftSince first left [] t c = (t ≤ 0) × (c ≡ first)
LeftSince first left (call ∷ earlier) t c =
    LeftSince first left earlier t c
    ⊎ ((t ≤ moment_of (call ∷ earlier)) × Outcome first left (call ∷ earlier) c)

-- this moment is one of those since an earlier one
pub left_now : (first : List ℕ) (left : ℕ → List ℕ) (calls : List Call) (t : ℕ) (c : List ℕ)
    → t ≤ moment_of calls → Outcome first left calls c → LeftSince first left calls t c
left_now first left [] t c le now = (le, now)
left_now first left (call ∷ earlier) t c le now = inr (le, now)

-- a call takes no time or one moment
no_earlier : (call : Call) (earlier : List Call) → moment_of earlier ≤ moment_of (call ∷ earlier)
no_earlier (Measure done size) earlier = le_refl (moment_of earlier)
no_earlier (Read done at asked bytes) earlier = le_refl (moment_of earlier)
no_earlier (Write done at bytes) earlier = le-add_right (moment_of earlier) 1
no_earlier (Cut done size) earlier = le-add_right (moment_of earlier) 1
no_earlier (Sync done) earlier = le-add_right (moment_of earlier) 1

-- what is left since a moment is left at one that is past
left_by : (first : List ℕ) (left : ℕ → List ℕ) (calls : List Call) (t : ℕ) (c : List ℕ)
    → LeftSince first left calls t c → t ≤ moment_of calls
left_by first left [] t c was = was.0
left_by first left (call ∷ earlier) t c (inl was) =
    le_trans (left_by first left earlier t c was) (no_earlier call earlier)
left_by first left (call ∷ earlier) t c (inr now) = now.0

none_later : (first : List ℕ) (left : ℕ → List ℕ) (earlier : List Call) (c : List ℕ)
    → LeftSince first left earlier (moment_of earlier + 1) c → ⊥
none_later first left earlier c was =
    lt_irrefl (moment_of earlier) (lt_of_lt_of_le (lt-add-one (moment_of earlier))
    (left_by first left earlier (moment_of earlier + 1) c was))

-- since this moment there is no other
pub left_last : (first : List ℕ) (left : ℕ → List ℕ) (calls : List Call) (c : List ℕ)
    → LeftSince first left calls (moment_of calls) c → Outcome first left calls c
left_last first left [] c was = was.1
left_last first left (call ∷ earlier) c (inr now) = now.1
left_last first left (Measure done size ∷ earlier) c (inl was) = left_last first left earlier c was
left_last first left (Read done at asked bytes ∷ earlier) c (inl was) =
    left_last first left earlier c was
left_last first left (Write done at bytes ∷ earlier) c (inl was) =
    absurd (none_later first left earlier c was)
left_last first left (Cut done size ∷ earlier) c (inl was) =
    absurd (none_later first left earlier c was)
left_last first left (Sync done ∷ earlier) c (inl was) =
    absurd (none_later first left earlier c was)

-- ---- how a record holds a call

-- the call that some numbers and bytes stand for: which it is, whether it was done, an offset or a
-- size, and how much was asked for
abbrev pub call_of : List ℕ → List ℕ → Call
call_of numbers bytes =
    let done = slice_index numbers 1 == 1 in
    let place = slice_index numbers 2 in
    cond (slice_index numbers 0 == 0) (Measure done place) (cond (slice_index numbers 0 == 1)
    (Read done place (slice_index numbers 3) bytes)
    (cond (slice_index numbers 0 == 2) (Write done place bytes)
    (cond (slice_index numbers 0 == 3) (Cut done place) (Sync done))))

-- the calls that a record holds
abbrev pub calls_in : List Entry → List Call
calls_in [] = []
calls_in (entry ∷ earlier) = call_of entry.0 entry.1 ∷ calls_in earlier
