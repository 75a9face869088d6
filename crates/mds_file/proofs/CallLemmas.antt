-- One more call of a file.
use Rattle.std.proofs.Common.{◌≡◌, ◌≢◌, inl, inr, ⊎_elim, ℕ, ◌+◌, ◌≤◌, true, false, List, [], ◌∷◌, length, take, drop, Ok, Err, refl, sym, ◌∙◌, ap, subst, arith, length-take}
use Rattle.mds_journal.specs.Device.{Torn, Follows, ReadsAt, Untouched, Elapses, HasCause}
use Rattle.mds_journal.specs.Device.{Cut as IsCut}
use Rattle.mds_journal.specs.declared.device.DeviceError.{DeviceError}
use Rattle.mds_journal.proofs.CallLemmas.{torn_written, cut_done}
use Rattle.mds_file.specs.Calls.{Call, Measure, Read, Write, Cut, Sync, contents, AreBytesAt, IsAnswer, AreAnswers, IsSynced, was_done, failures, Outcome, moment_of, LeftSince, left_now}

-- it changes nothing
abbrev pub IsLook : Call → Type 0
IsLook (Measure done size) = Unit {0}
IsLook (Read done at asked bytes) = Unit {0}
IsLook (Write done at bytes) = ⊥
IsLook (Cut done size) = ⊥
IsLook (Sync done) = ⊥

-- it does, or may
abbrev pub IsChange : Call → Type 0
IsChange (Measure done size) = ⊥
IsChange (Read done at asked bytes) = ⊥
IsChange (Write done at bytes) = Unit {0}
IsChange (Cut done size) = Unit {0}
IsChange (Sync done) = Unit {0}

-- bytes that were read are the file's
pub reads_at : (file : List ℕ) (at asked n : ℕ) (old new bytes : List ℕ) → bytes ≡ take n new → n ≤ length new → asked ≡ length old → AreBytesAt file at asked bytes → ReadsAt file at old new n
reads_at file at asked n old new bytes is within all read =
    let count : length bytes ≡ n = omega (arith, ap length is, length-take n new) in
    let front : bytes ≡ take n (drop at file) = read.same ∙ ap (λ (k : ℕ). take k (drop at file)) count in
    record {
      bytes = sym is ∙ front;
      in_file = omega (arith, count, ap length front, length-take n (drop at file));
      end = λ none. ⊎_elim (λ empty. inl (sym all ∙ empty)) (λ past. inr past) (read.end (count ∙ none));
    }

module _ (first : List ℕ) (left : ℕ → List ℕ) where
  -- what is there may stay
  pub contents_stay : (calls : List Call) → Outcome first left calls (contents first left calls)
  contents_stay [] = refl
  contents_stay (Measure done size ∷ earlier) = contents_stay earlier
  contents_stay (Read done at asked bytes ∷ earlier) = contents_stay earlier
  contents_stay (Write done at bytes ∷ earlier) = inl refl
  contents_stay (Cut done size ∷ earlier) = inl refl
  contents_stay (Sync true ∷ earlier) = refl
  contents_stay (Sync false ∷ earlier) = contents_stay earlier

  -- ---- a call that changes nothing

  same_past : (call : Call) (earlier : List Call) → IsLook call → (t : ℕ) (c : List ℕ) → LeftSince first left (call ∷ earlier) t c → LeftSince first left earlier t c
  same_past call earlier look t c (inl was) = was
  same_past (Measure done size) earlier look t c (inr now) = left_now first left earlier t c now.0 now.1
  same_past (Read done at asked bytes) earlier look t c (inr now) = left_now first left earlier t c now.0 now.1
  same_past (Write done at bytes) earlier look t c (inr now) = absurd look
  same_past (Cut done size) earlier look t c (inr now) = absurd look
  same_past (Sync done) earlier look t c (inr now) = absurd look

  same_bytes : (call : Call) (earlier : List Call) → IsLook call → contents first left (call ∷ earlier) ≡ contents first left earlier
  same_bytes (Measure done size) earlier look = refl
  same_bytes (Read done at asked bytes) earlier look = refl
  same_bytes (Write done at bytes) earlier look = absurd look
  same_bytes (Cut done size) earlier look = absurd look
  same_bytes (Sync done) earlier look = absurd look

  same_outcomes : (call : Call) (earlier : List Call) → IsLook call → (c : List ℕ) → Outcome first left (call ∷ earlier) c → Outcome first left earlier c
  same_outcomes (Measure done size) earlier look c now = now
  same_outcomes (Read done at asked bytes) earlier look c now = now
  same_outcomes (Write done at bytes) earlier look c now = absurd look
  same_outcomes (Cut done size) earlier look c now = absurd look
  same_outcomes (Sync done) earlier look c now = absurd look

  same_moment : (call : Call) (earlier : List Call) → IsLook call → moment_of (call ∷ earlier) ≡ moment_of earlier
  same_moment (Measure done size) earlier look = refl
  same_moment (Read done at asked bytes) earlier look = refl
  same_moment (Write done at bytes) earlier look = absurd look
  same_moment (Cut done size) earlier look = absurd look
  same_moment (Sync done) earlier look = absurd look

  pub untouched : {D : Type 0} (calls : D → List Call) (old new : D) (call : Call) → IsLook call → calls new ≡ call ∷ calls old
      → Untouched (λ f. contents first left (calls f)) (λ f. Outcome first left (calls f)) (λ f. moment_of (calls f)) (λ f. LeftSince first left (calls f)) old new
  untouched calls old new call look made = record {
    file = ap (contents first left) made ∙ same_bytes call (calls old) look;
    outcomes = λ c now. same_outcomes call (calls old) look c (subst (λ (all : List Call). Outcome first left all c) made now);
    time = ap moment_of made ∙ same_moment call (calls old) look;
    past = λ t c now. same_past call (calls old) look t c (subst (λ (all : List Call). LeftSince first left all t c) made now);
  }

  -- ---- a call that changes what a crash may leave

  one_later : (call : Call) (earlier : List Call) → IsChange call → moment_of (call ∷ earlier) ≡ moment_of earlier + 1
  one_later (Measure done size) earlier change = absurd change
  one_later (Read done at asked bytes) earlier change = absurd change
  one_later (Write done at bytes) earlier change = refl
  one_later (Cut done size) earlier change = refl
  one_later (Sync done) earlier change = refl

  pub elapses : (earlier now : List Call) (call : Call) → IsChange call → now ≡ call ∷ earlier
      → Elapses (moment_of earlier) (moment_of now) (LeftSince first left earlier) (LeftSince first left now) (Outcome first left now)
  elapses earlier now call change made =
      subst (λ (all : List Call). Elapses (moment_of earlier) (moment_of all) (LeftSince first left earlier) (LeftSince first left all) (Outcome first left all)) (sym made) (record {
        later = omega (arith, one_later call earlier change);
        nothing_else = λ t c le was. ⊎_elim (λ before. inl before) (λ here. inr here.1) was;
        keeps = λ t c le was. inl was;
      })

  -- a write, done or not
  pub write_follows : (earlier now : List Call) (at : ℕ) (bytes : List ℕ) → at ≤ length (contents first left earlier) → now ≡ Write true at bytes ∷ earlier
      → Follows (Torn at (length bytes)) (Outcome first left earlier) (Outcome first left now)
  write_follows earlier now at bytes within made c is = ⊎_elim
      (λ whole. (contents first left earlier, contents_stay earlier, subst (λ (l : List ℕ). Torn at (length bytes) (contents first left earlier) l) (sym whole) (torn_written at bytes (contents first left earlier) within)))
      (λ torn. torn) (subst (λ (all : List Call). Outcome first left all c) made is)

  -- the bytes behind one that failed
  pub torn_is : (earlier now : List Call) (at : ℕ) (bytes : List ℕ) → Torn at (length bytes) (contents first left earlier) (left (length earlier)) → now ≡ Write false at bytes ∷ earlier
      → Torn at (length bytes) (contents first left earlier) (contents first left now)
  torn_is earlier now at bytes torn made = subst (λ (all : List Call). Torn at (length bytes) (contents first left earlier) (contents first left all)) (sym made) torn

  pub torn_follows : (earlier now : List Call) (at : ℕ) (bytes : List ℕ) → Torn at (length bytes) (contents first left earlier) (left (length earlier)) → now ≡ Write false at bytes ∷ earlier
      → Follows (Torn at (length bytes)) (Outcome first left earlier) (Outcome first left now)
  torn_follows earlier now at bytes torn made c is = ⊎_elim
      (λ whole. (contents first left earlier, contents_stay earlier, subst (λ (l : List ℕ). Torn at (length bytes) (contents first left earlier) l) (sym whole) torn))
      (λ more. more) (subst (λ (all : List Call). Outcome first left all c) made is)

  -- a cut, done or not
  pub cut_follows : (earlier now : List Call) (size : ℕ) → now ≡ Cut true size ∷ earlier → Follows (IsCut size) (Outcome first left earlier) (Outcome first left now)
  cut_follows earlier now size made c is = ⊎_elim
      (λ whole. (contents first left earlier, contents_stay earlier, subst (λ (l : List ℕ). IsCut size (contents first left earlier) l) (sym whole) (cut_done size (contents first left earlier))))
      (λ part. part) (subst (λ (all : List Call). Outcome first left all c) made is)

  pub part_follows : (earlier now : List Call) (size : ℕ) → IsCut size (contents first left earlier) (left (length earlier)) → now ≡ Cut false size ∷ earlier
      → Follows (IsCut size) (Outcome first left earlier) (Outcome first left now)
  part_follows earlier now size short made c is = ⊎_elim
      (λ whole. (contents first left earlier, contents_stay earlier, subst (λ (l : List ℕ). IsCut size (contents first left earlier) l) (sym whole) short))
      (λ part. part) (subst (λ (all : List Call). Outcome first left all c) made is)

  -- a sync, done or not
  pub sync_leaves : (earlier now : List Call) → now ≡ Sync true ∷ earlier → (c : List ℕ) → Outcome first left now c → c ≡ contents first left earlier
  sync_leaves earlier now made c is = subst (λ (all : List Call). Outcome first left all c) made is

  pub sync_follows : (earlier now : List Call) → now ≡ Sync true ∷ earlier → (c : List ℕ) → Outcome first left now c → Outcome first left earlier c
  sync_follows earlier now made c is = subst (λ (l : List ℕ). Outcome first left earlier l) (sym (sync_leaves earlier now made c is)) (contents_stay earlier)

  pub lost_follows : (earlier now : List Call) → now ≡ Sync false ∷ earlier → (c : List ℕ) → Outcome first left now c → Outcome first left earlier c
  lost_follows earlier now made c is = subst (λ (all : List Call). Outcome first left all c) made is

  -- ---- what is known of all answers

  pub answer_is : (earlier now : List Call) (call : Call) → now ≡ call ∷ earlier → AreAnswers first left now → IsAnswer call (left (length earlier)) (contents first left earlier)
  answer_is earlier now call made are = (subst (λ (all : List Call). AreAnswers first left all) made are).1

  pub before_it : (earlier now : List Call) (call : Call) → now ≡ call ∷ earlier → AreAnswers first left now → AreAnswers first left earlier
  before_it earlier now call made are = (subst (λ (all : List Call). AreAnswers first left all) made are).0

-- a call more that is no failed sync
pub still_synced : (earlier now : List Call) (call : Call) → now ≡ call ∷ earlier → call ≢ Sync false → IsSynced earlier → IsSynced now
still_synced earlier now call made other synced = subst IsSynced (sym made) (synced, other)

-- a call that was done, and one that failed
pub done_cause : {T : Type 0} (earlier now : List Call) (call : Call) (x : T) → now ≡ call ∷ earlier → was_done call ≡ true → HasCause (failures earlier) (failures now) (Ok x)
done_cause earlier now call x made done = subst (λ (all : List Call). HasCause (failures earlier) (failures all) (Ok x)) (sym made) (rw done record { later = omega arith; failed = λ is. absurd (cc is) })

pub failed_cause : {T : Type 0} (earlier now : List Call) (call : Call) (error : DeviceError) → now ≡ call ∷ earlier → was_done call ≡ false
    → HasCause {T = T} (failures earlier) (failures now) (Err error)
failed_cause {T = T} earlier now call error made failed =
    subst (λ (all : List Call). HasCause {T = T} (failures earlier) (failures all) (Err error)) (sym made) (rw failed record { later = omega arith; failed = λ is. omega arith })
