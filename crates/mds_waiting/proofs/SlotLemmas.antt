-- Slots, one of which changes.
use Rattle.std.proofs.Common.{◌≡◌, ℕ, zero, suc, ◌+◌, ◌-◌, ◌<◌, ◌≤◌, min, List, [], ◌∷◌, ◌++◌, length, get_or, sum_by, All, Option, Some, None, IfSome, is_some, true, false, cond, refl, sym, ap, ◌∙◌, subst, arith, length-append}
use Rattle.std.specs.Prelude.{slice_set, vec_len}
use Rattle.std.proofs.lemmas.List.{length-set}
use Rattle.std.proofs.lemmas.List.Elements.{All-set, All-weaker, All-push}
use Rattle.std.proofs.lemmas.List.Sums.{sum_by-set, sum_by_push}
use Rattle.std.proofs.lemmas.Option.{none-some, same_Some, slice_get_within, get_or_from_slice_get}
use Rattle.mds_waiting.specs.declared.waiter.Waiter.{Waiter}
use Rattle.mds_waiting.specs.Waiting.{HasLeft, HasRoom, HasTime, HaveLeftFor, IsKept, IsVacant, max_held, max_waiting, weight}

module _ {S : Type 0} where
  -- one for a slot that has a connection
  abbrev one : Option (Waiter S) → ℕ
  one slot = cond (is_some slot) 1 0

  -- what is summed up when a slot gets a connection
  filled : (f : Option (Waiter S) → ℕ) → f None ≡ 0 → (slots : List (Option (Waiter S))) (key : ℕ) (waiter : Waiter S)
      → IsVacant slots key → sum_by f (slice_set slots key (Some waiter)) ≡ sum_by f slots + f (Some waiter)
  filled f none slots key waiter vacant =
      let changed = sum_by-set f slots key (Some waiter) None (slice_get_within slots key None vacant) in
      let was : f (get_or slots key None) ≡ 0 = ap f (get_or_from_slice_get slots key None None vacant) ∙ none in
      omega arith

  -- a key under which a connection waits is one of the slots
  pub within_there : (slots : List (Option (Waiter S))) (key : ℕ) (waiter : Waiter S)
      → get_or slots key None ≡ Some waiter → key < length slots
  within_there [] key waiter there = absurd (none-some waiter there)
  within_there (slot ∷ slots) zero waiter there = omega arith
  within_there (slot ∷ slots) (suc key) waiter there = let within = within_there slots key waiter there in omega arith

  -- and when it loses its connection
  pub emptied : (f : Option (Waiter S) → ℕ) → f None ≡ 0 → (slots : List (Option (Waiter S))) (key : ℕ) (waiter : Waiter S)
      → get_or slots key None ≡ Some waiter
      → sum_by f (slice_set slots key None) + f (Some waiter) ≡ sum_by f slots
  emptied f none slots key waiter there =
      let changed = sum_by-set f slots key None None (within_there slots key waiter there) in
      let was : f (get_or slots key None) ≡ f (Some waiter) = ap f there in
      omega arith

  has_time : (time : ℕ) (waiter : Waiter S) → time ≤ waiter.until → HasTime time (Some waiter)
  has_time time waiter fits = λ other same. subst (λ (it : Waiter S). time ≤ it.until) (same_Some waiter other same) fits

  no_time : (time : ℕ) → HasTime {S = S} time None
  no_time time = λ other same. absurd (none-some other same)

  sooner : (time other : ℕ) (slots : List (Option (Waiter S))) → other ≤ time → All (HasTime time) slots → All (HasTime other) slots
  sooner time other slots less all =
      All-weaker (HasTime time) (HasTime other) (λ slot has waiter same. let fits = has waiter same in omega arith) slots all

  pub IsKept-put : (slots : List (Option (Waiter S))) (count holding soonest key : ℕ) (waiter : Waiter S)
      → IsKept slots count holding soonest → IsVacant slots key → HasRoom slots (vec_len waiter.bytes)
      → IsKept (slice_set slots key (Some waiter)) (count + 1) (holding + min (vec_len waiter.bytes) max_held) (min soonest waiter.until)
  IsKept-put slots count holding soonest key waiter kept vacant room =
      let few = kept.few in
      let many = kept.many in
      let counted = kept.counted in
      let bounded = kept.bounded in
      let more = filled one refl slots key waiter vacant in
      let held = filled weight refl slots key waiter vacant in
      let same = length-set slots key (Some waiter) in
      record {
        few = omega arith;
        many = omega arith;
        counted = omega arith;
        bounded = omega arith;
        punctual = All-set (HasTime (min soonest waiter.until)) slots key (Some waiter) (has_time _ waiter (omega arith))
            (sooner soonest (min soonest waiter.until) slots (omega arith) kept.punctual);
      }

  pub IsKept-take : (slots : List (Option (Waiter S))) (count holding soonest key : ℕ) (waiter : Waiter S)
      → IsKept slots count holding soonest → get_or slots key None ≡ Some waiter
      → IsKept (slice_set slots key None) (count - 1) (holding - min (vec_len waiter.bytes) max_held) soonest
  IsKept-take slots count holding soonest key waiter kept there =
      let few = kept.few in
      let many = kept.many in
      let counted = kept.counted in
      let bounded = kept.bounded in
      let more = emptied one refl slots key waiter there in
      let held = emptied weight refl slots key waiter there in
      let same = length-set {A = Option (Waiter S)} slots key None in
      record {
        few = omega arith;
        many = omega arith;
        counted = omega arith;
        bounded = omega arith;
        punctual = All-set (HasTime soonest) slots key None (no_time soonest) kept.punctual;
      }

  -- a connection that waits is counted, and so are its bytes
  pub one_there : (slots : List (Option (Waiter S))) (count holding soonest key : ℕ) (waiter : Waiter S)
      → IsKept slots count holding soonest → get_or slots key None ≡ Some waiter → 1 ≤ count
  one_there slots count holding soonest key waiter kept there =
      let many = kept.many in
      let more = emptied one refl slots key waiter there in
      omega arith

  pub bytes_there : (slots : List (Option (Waiter S))) (count holding soonest key : ℕ) (waiter : Waiter S)
      → IsKept slots count holding soonest → get_or slots key None ≡ Some waiter
      → min (vec_len waiter.bytes) max_held ≤ holding
  bytes_there slots count holding soonest key waiter kept there =
      let counted = kept.counted in
      let more = emptied weight refl slots key waiter there in
      omega arith

  -- a slot that is added at the end has no connection
  at_end : (slots : List (Option (Waiter S))) → IsVacant (slots ++ None ∷ []) (length slots)
  at_end [] = refl
  at_end (slot ∷ slots) = at_end slots

  pub vacant_at_end : (slots : List (Option (Waiter S))) (key : ℕ) → key ≡ length slots → IsVacant (slots ++ None ∷ []) key
  vacant_at_end slots key is = subst (λ (it : ℕ). IsVacant (slots ++ None ∷ []) it) (sym is) (at_end slots)

  -- one more slot
  pub IsKept-grow : (slots : List (Option (Waiter S))) (count holding soonest : ℕ)
      → IsKept slots count holding soonest → length slots < max_waiting → IsKept (slots ++ None ∷ []) count holding soonest
  IsKept-grow slots count holding soonest kept room =
      let many = kept.many in
      let counted = kept.counted in
      let bounded = kept.bounded in
      let more = sum_by_push one slots None in
      let held = sum_by_push weight slots None in
      record {
        few = omega (arith, length-append slots (None ∷ []));
        many = omega arith;
        counted = omega arith;
        bounded = omega arith;
        punctual = All-push (HasTime soonest) slots None kept.punctual (no_time soonest);
      }

  -- another time before which nobody's is over
  pub IsKept-time : (slots : List (Option (Waiter S))) (count holding soonest time : ℕ)
      → IsKept slots count holding soonest → All (HasTime time) slots → IsKept slots count holding time
  IsKept-time slots count holding soonest time kept punctual =
      record { few = kept.few; many = kept.many; counted = kept.counted; bounded = kept.bounded; punctual = punctual }

  -- where one more has left, so many and one have
  pub one_more_left : (n count : ℕ) (old mid new : List (Option (Waiter S))) (found : Option (Waiter S)) → is_some found ≡ true → HaveLeftFor n count old mid
      → IfSome found (HasLeft mid new) → IfSome found (λ waiter. HasRoom mid count → ⊥) → (more : ℕ) × HaveLeftFor more count old new
  one_more_left n count old mid new None is had left needed = let no : false ≡ true = is in cc
  one_more_left n count old mid new (Some waiter) is had left needed = (suc n, (mid, waiter, had, needed, left))
