-- How a run of device calls goes on.
use Rattle.std.proofs.Common.{inl, inr, ⊎_elim, ℕ, List, sym, ◌∙◌, subst, refl, arith}
use Rattle.mds_journal.specs.Device.{Torn, Elapses, LeavesOnly, Untouched}

-- a write of which nothing came
pub torn_none : (at n : ℕ) (c : List ℕ) → Torn at n c c
torn_none at n c = record { before = refl; after = refl; no_shorter = omega arith; no_longer = omega arith }

module _ {D : Type 0} (moment : D → ℕ) (left_since : D → ℕ → List ℕ → Type 0) where
  -- before the first call
  pub started : (old : D) (P : List ℕ → Type 0) → ((c : List ℕ) → left_since old (moment old) c → P c) → LeavesOnly moment left_since old old P
  started old P here = record { later = omega arith; each = here; before = λ t c le left. inl left }

  -- one call more, after which a crash leaves what has P
  pub goes_on : (old mid new : D) (P may_leave : List ℕ → Type 0) → LeavesOnly moment left_since old mid P → Elapses (moment mid) (moment new) (left_since mid) (left_since new) may_leave
      → ((c : List ℕ) → may_leave c → P c) → LeavesOnly moment left_since old new P
  goes_on old mid new P may_leave so_far time here = record {
    later = omega (arith, so_far.later, time.later);
    each = λ c left. ⊎_elim (so_far.each c) (here c) (time.nothing_else (moment old) c so_far.later left);
    before = λ t c le left. ⊎_elim (so_far.before t c le) (λ now. inr (here c now)) (time.nothing_else t c (omega (arith, le, so_far.later)) left);
  }

  -- what has P has Q
  pub weaker : (old new : D) (P Q : List ℕ → Type 0) → ((c : List ℕ) → P c → Q c) → LeavesOnly moment left_since old new P → LeavesOnly moment left_since old new Q
  weaker old new P Q then leaves = record {
    later = leaves.later;
    each = λ c left. then c (leaves.each c left);
    before = λ t c le left. ⊎_elim (λ was. inl was) (λ is. inr (then c is)) (leaves.before t c le left);
  }

  -- one run and then another
  pub and_then : (old mid new : D) (P : List ℕ → Type 0) → LeavesOnly moment left_since old mid P → LeavesOnly moment left_since mid new P → LeavesOnly moment left_since old new P
  and_then old mid new P one two = record {
    later = omega (arith, one.later, two.later);
    each = λ c left. ⊎_elim (one.each c) (λ is. is) (two.before (moment old) c one.later left);
    before = λ t c le left. ⊎_elim (one.before t c le) (λ is. inr is) (two.before t c (omega (arith, le, one.later)) left);
  }

  -- a call that changed nothing, and then a run
  pub after_none : (seen : D → List ℕ) (may_leave : D → List ℕ → Type 0) (old mid new : D) (P : List ℕ → Type 0)
      → Untouched seen may_leave moment left_since old mid → LeavesOnly moment left_since mid new P → LeavesOnly moment left_since old new P
  after_none seen may_leave old mid new P none leaves = record {
    later = omega (arith, none.time, leaves.later);
    each = λ c left. leaves.each c (subst (λ (t : ℕ). left_since new t c) (sym none.time) left);
    before = λ t c le left. ⊎_elim (λ was. inl (none.past t c was)) (λ is. inr is) (leaves.before t c (omega (arith, le, none.time)) left);
  }

-- two calls that changed nothing
pub still_untouched : {D : Type 0} (seen : D → List ℕ) (may_leave : D → List ℕ → Type 0) (moment : D → ℕ) (left_since : D → ℕ → List ℕ → Type 0) (old mid new : D)
    → Untouched seen may_leave moment left_since old mid → Untouched seen may_leave moment left_since mid new → Untouched seen may_leave moment left_since old new
still_untouched seen may_leave moment left_since old mid new one two = record {
  file = two.file ∙ one.file;
  outcomes = λ c left. one.outcomes c (two.outcomes c left);
  time = omega (arith, one.time, two.time);
  past = λ t c left. one.past t c (two.past t c left);
}
