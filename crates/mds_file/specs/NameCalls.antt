-- The calls that were made of a name that a new file is to get, with their answers, and a system that
-- keeps what has a name. Of some calls the newest comes first.
use Rattle.std.specs.Prelude.{◌≡◌, ◌⊎◌, ℕ, ◌==◌, Bool, true, false, cond}
use Rattle.std.specs.Prelude.{List, [], ◌∷◌, length, slice_index}
use Rattle.mds_file.specs.Record.{Entry}

-- what was answered
pub data Answer : Type 0 where
  -- nothing had the name; the file has it, if it was to get it
  Free : Answer
  -- something had it
  Taken : Answer
  -- which of these isn't known
  Failed : Answer

pub data NameCall : Type 0 where
  -- it was looked at
  Look : Answer → NameCall
  -- a file was to get it where nothing has it
  Link : Answer → NameCall
  -- a file was to get it in place of what has it
  Replace : Answer → NameCall

-- a system that keeps what has a name may answer a call so, where something has it or not
abbrev pub IsNameAnswer : NameCall → Bool → Type 0
IsNameAnswer (Look Free) taken = taken ≡ false
IsNameAnswer (Look Taken) taken = taken ≡ true
IsNameAnswer (Look Failed) taken = Unit {0}
IsNameAnswer (Link Free) taken = taken ≡ false
IsNameAnswer (Link Taken) taken = taken ≡ true
IsNameAnswer (Link Failed) taken = Unit {0}
IsNameAnswer (Replace answer) taken = Unit {0}

-- all answers are those of such a system; `taken n` says whether something has the name after n calls
abbrev pub AreNameAnswers : (ℕ → Bool) → List NameCall → Type 0
AreNameAnswers taken [] = Unit {0}
AreNameAnswers taken (call ∷ earlier) =
    AreNameAnswers taken earlier × IsNameAnswer call (taken (length earlier))

-- by this call a file may have got the name in place of what had it
abbrev pub MayBeOver : NameCall → Bool → Type 0
MayBeOver (Look answer) taken = ⊥
MayBeOver (Link Free) taken = taken ≡ true
MayBeOver (Link Taken) taken = ⊥
MayBeOver (Link Failed) taken = ⊥
MayBeOver (Replace answer) taken = taken ≡ true

-- by one of these calls
abbrev pub IsOver : (ℕ → Bool) → List NameCall → Type 0
IsOver taken [] = ⊥
IsOver taken (call ∷ earlier) = IsOver taken earlier ⊎ MayBeOver call (taken (length earlier))

-- ---- how a record holds a call

abbrev answer_of : ℕ → Answer
answer_of number = cond (number == 0) Free (cond (number == 1) Taken Failed)

-- the call that some numbers stand for: which it is, and what was answered
abbrev pub name_call_of : List ℕ → NameCall
name_call_of numbers =
    let answer = answer_of (slice_index numbers 1) in
    cond (slice_index numbers 0 == 0) (Look answer)
    (cond (slice_index numbers 0 == 1) (Link answer) (Replace answer))

-- the calls that a record holds
abbrev pub name_calls_in : List Entry → List NameCall
name_calls_in [] = []
name_calls_in (entry ∷ earlier) = name_call_of entry.0 ∷ name_calls_in earlier
