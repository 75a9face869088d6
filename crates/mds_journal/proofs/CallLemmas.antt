-- One more call of a file.
use Rattle.std.proofs.Common.{◌≡◌, ◌⊎◌, inl, inr, ℕ, ◌+◌, ◌<◌, ◌≤◌, Bool, true, cond, List, [], ◌∷◌, ◌++◌, length, take, drop, reverse, Vec, Global, refl, sym, ◌∙◌, ap, subst, arith, append_assoc, length-append, length-take, length-drop}
use Rattle.std.proofs.lemmas.Bool.{cases_lt, cond-true}
use Rattle.std.proofs.lemmas.List.{reverse-append, take_all, take_at, drop_at, take-append-le, take_min, length-take-le}
use Rattle.mds_journal.specs.Device.{Torn, Elapses, Follows}
use Rattle.mds_journal.specs.Device.{Cut as IsCut}
use Rattle.mds_journal.specs.Calls.{contents, Outcome, LeftSince}
use Rattle.mds_journal.specs.declared.memory.Call.{Call}
use Rattle.mds_journal.specs.declared.memory.Call.TheVariants.{Write, Cut, Sync}

-- the newest call comes first
pub newest_first : (calls : List Call) (call : Call) → reverse (calls ++ call ∷ []) ≡ call ∷ reverse calls
newest_first calls call = reverse-append calls (call ∷ [])

-- what is there may stay
contents_stay : (first : List ℕ) (calls : List Call) → Outcome first calls (contents first calls)
contents_stay first [] = refl
contents_stay first (Write at bytes ∷ earlier) = inl refl
contents_stay first (Cut size ∷ earlier) = inl refl
contents_stay first (Sync ∷ earlier) = refl

-- a write that was done is a torn one
pub torn_written : (at : ℕ) (bytes old : List ℕ) → at ≤ length old → Torn at (length bytes) old (take at old ++ bytes ++ drop (at + length bytes) old)
torn_written at bytes old within =
    let rest = drop (at + length bytes) old in
    let front : length (take at old) ≡ at = length-take-le at old within in
    let both : length (take at old ++ bytes) ≡ at + length bytes = omega (arith, length-append (take at old) bytes, front) in
    let all : length (take at old ++ bytes ++ rest) ≡ at + length bytes + length rest = omega (arith, length-append (take at old ++ bytes) rest, both) in
    record {
      before = ap (λ (l : List ℕ). take at l) (append_assoc (take at old) bytes rest) ∙ take_at (take at old) (bytes ++ rest) at front;
      after = drop_at (take at old ++ bytes) rest (at + length bytes) both;
      no_shorter = omega (arith, all, length-drop (at + length bytes) old);
      no_longer = omega (arith, all, length-drop (at + length bytes) old);
    }

-- a cut that was done is one that was cut off
pub cut_done : (size : ℕ) (old : List ℕ) → IsCut size old (take size old)
cut_done size old = record {
  no_shorter = omega (arith, length-take size old);
  front = ap (λ (n : ℕ). take n old) (length-take size old) ∙ take_min size old;
}

-- a write more
pub write_follows : (first : List ℕ) (calls : List Call) (at : ℕ) (bytes : Vec ℕ Global) → at ≤ length (contents first calls)
    → Follows (Torn at (length bytes.items)) (Outcome first calls) (Outcome first (Write at bytes ∷ calls))
write_follows first calls at bytes within c (inl is) =
    (contents first calls, contents_stay first calls, subst (λ (l : List ℕ). Torn at (length bytes.items) (contents first calls) l) (sym is) (torn_written at bytes.items (contents first calls) within))
write_follows first calls at bytes within c (inr torn) = torn

-- a cut more
pub cut_follows : (first : List ℕ) (calls : List Call) (size : ℕ) → Follows (IsCut size) (Outcome first calls) (Outcome first (Cut size ∷ calls))
cut_follows first calls size c (inl is) =
    (contents first calls, contents_stay first calls, subst (λ (l : List ℕ). IsCut size (contents first calls) l) (sym is) (cut_done size (contents first calls)))
cut_follows first calls size c (inr short) = short

-- a sync more
pub sync_follows : (first : List ℕ) (calls : List Call) (c : List ℕ) → Outcome first (Sync ∷ calls) c → Outcome first calls c
sync_follows first calls c is = subst (λ (l : List ℕ). Outcome first calls l) (sym is) (contents_stay first calls)

-- one moment later
pub call_elapses : (first : List ℕ) (calls : List Call) (call : Call)
    → Elapses (length calls) (length (calls ++ call ∷ [])) (LeftSince first calls) (LeftSince first (calls ++ call ∷ [])) (Outcome first (reverse (calls ++ call ∷ [])))
call_elapses first calls call = record {
  later = omega (arith, length-append calls (call ∷ []));
  nothing_else = λ t c le left. by_place t c left (cases_lt (length calls) left.0);
  keeps = λ t c le left. (
    left.0,
    left.1,
    omega (arith, left.2, length-append calls (call ∷ [])),
    subst (λ (made : List Call). Outcome first (reverse made) c) (sym (take-append-le left.0 calls (call ∷ []) left.2)) left.3,
  );
}
  where
    by_place : (t : ℕ) (c : List ℕ) (left : LeftSince first (calls ++ call ∷ []) t c) → (length calls < left.0) ⊎ (left.0 ≤ length calls) → LeftSince first calls t c ⊎ Outcome first (reverse (calls ++ call ∷ [])) c
    by_place t c left (inl late) =
        let all : length (calls ++ call ∷ []) ≤ left.0 = omega (arith, late, length-append calls (call ∷ [])) in
        inr (subst (λ (made : List Call). Outcome first (reverse made) c) (take_all left.0 (calls ++ call ∷ []) all) left.3)
    by_place t c left (inr early) =
        inl (left.0, left.1, early, subst (λ (made : List Call). Outcome first (reverse made) c) (take-append-le left.0 calls (call ∷ []) early) left.3)

-- no call
pub none_elapses : (first : List ℕ) (calls : List Call) → Elapses (length calls) (length calls) (LeftSince first calls) (LeftSince first calls) (Outcome first (reverse calls))
none_elapses first calls = record { later = omega arith; nothing_else = λ t c le left. inl left; keeps = λ t c le left. left }

-- the same of calls with one more
pub elapses_with : (first : List ℕ) (calls now : List Call) (call : Call) → now ≡ calls ++ call ∷ []
    → Elapses (length calls) (length now) (LeftSince first calls) (LeftSince first now) (Outcome first (reverse now))
elapses_with first calls now call is =
    subst (λ (made : List Call). Elapses (length calls) (length made) (LeftSince first calls) (LeftSince first made) (Outcome first (reverse made))) (sym is) (call_elapses first calls call)

pub outcome_with : (first : List ℕ) (calls now : List Call) (call : Call) (c : List ℕ) → now ≡ calls ++ call ∷ [] → Outcome first (reverse now) c → Outcome first (call ∷ reverse calls) c
outcome_with first calls now call c is out = subst (λ (made : List Call). Outcome first made c) (ap reverse is ∙ newest_first calls call) out

-- a call was kept
pub call_kept : (calls now : List Call) (call : Call) (done : Bool) → done ≡ true → now ≡ cond done (calls ++ call ∷ []) calls → now ≡ calls ++ call ∷ []
call_kept calls now call done is kept = kept ∙ cond-true done (calls ++ call ∷ []) calls is
