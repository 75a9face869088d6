-- The connection with the least time, in the words of the table's contracts.
use Rattle.std.proofs.Common.{◌≡◌, ℕ, ◌+◌, ◌<◌, ◌≤◌, List, length, get_or, All, Option, Some, None, Bool, true, false, cond, refl, sym, ap, ◌∙◌, subst, arith}
use Rattle.std.specs.Prelude.{vec_len, nat_le, slice_set, IfNone, IfSome, IsSomeAnd}
use Rattle.std.specs.List.{AllWithin}
use Rattle.std.proofs.lemmas.Bool.{leb-true, leb-false, le-leb}
use Rattle.std.proofs.lemmas.List.{get_or_read}
use Rattle.std.proofs.lemmas.List.Elements.{All-weaker, AllWithin-more}
use Rattle.std.proofs.lemmas.List.Sums.{sum_by-le}
use Rattle.std.proofs.lemmas.Option.{none-some, same_Some, cond_some, get_or_from_slice_get, slice_get-get_or}
use Rattle.mds_waiting.specs.declared.waiter.Waiter.{Waiter}
use Rattle.mds_waiting.specs.declared.least.Found.{Found}
use Rattle.mds_waiting.specs.declared.least.Order.{Order}
use Rattle.mds_waiting.specs.declared.least.Order.TheVariants.{Until, Begun}
use Rattle.mds_waiting.proofs.SlotLemmas.{emptied}
use Rattle.mds_waiting.specs.Least.{IsLeast, IsLeastBelow, IsNoSooner, lesser_of, time_in}
use Rattle.mds_waiting.specs.Waiting.{HasBegunSince, HasLeft, HasTime, HoldsFewer, IsEldest, IsEldestBefore, IsInTime, IsLate, IsOver, held_bytes, weight}

module _ {S : Type 0} where
  -- who is told of by when its time is over
  until_of : (slot : Option (Waiter S)) (time : ℕ) → time_in Until slot ≡ Some time
      → (waiter : Waiter S) × (slot ≡ Some waiter) × (waiter.until ≡ time)
  until_of None time e = absurd (none-some time e)
  until_of (Some waiter) time e = (waiter, refl, same_Some waiter.until time e)

  -- who is told of by when it began
  begun_of : (bytes : ℕ) (slot : Option (Waiter S)) (time : ℕ) → time_in (Begun bytes) slot ≡ Some time
      → (waiter : Waiter S) × (slot ≡ Some waiter) × (bytes ≤ vec_len waiter.bytes) × (waiter.begun ≡ time)
  begun_of bytes None time e = absurd (none-some time e)
  begun_of bytes (Some waiter) time e =
      let parts = cond_some (nat_le bytes (vec_len waiter.bytes)) waiter.begun time e in
      (waiter, refl, leb-true bytes (vec_len waiter.bytes) parts.0, parts.1)

  here : (P : Option (Waiter S) → Type 0) (slots : List (Option (Waiter S))) (key : ℕ) (slot : Option (Waiter S))
      → key < length slots → slot ≡ get_or slots key slot → P slot → (d : Option (Waiter S)) → P (get_or slots key d)
  here P slots key slot within is holds = λ d. subst P (get_or_read slots key slot within is d) holds

  more : (P : Option (Waiter S) → Type 0) (slots : List (Option (Waiter S))) (key : ℕ) (slot : Option (Waiter S))
      → key < length slots → slot ≡ get_or slots key slot → AllWithin P slots 0 key → P slot → AllWithin P slots 0 (key + 1)
  more P slots key slot within is below holds = AllWithin-more P slots 0 key below (here P slots key slot within is holds)

  no_sooner : (order : Order) (time : ℕ) (slot : Option (Waiter S)) (own : Option ℕ) → time_in order slot ≡ own
      → ((other : ℕ) → own ≡ Some other → time ≤ other) → IsNoSooner order time slot
  no_sooner order time slot own told least = λ other same. least other (sym told ∙ same)

  later_too : (order : Order) (time other : ℕ) (slots : List (Option (Waiter S))) (high : ℕ) → other ≤ time
      → AllWithin (IsNoSooner order time) slots 0 high → AllWithin (IsNoSooner order other) slots 0 high
  later_too order time other slots high less all = λ k d low below its same.
      let fits = all k d low below its same in omega arith

  none_too : (order : Order) (time : ℕ) (slots : List (Option (Waiter S))) (high : ℕ)
      → AllWithin (λ slot. time_in order slot ≡ None) slots 0 high → AllWithin (IsNoSooner order time) slots 0 high
  none_too order time slots high all = λ k d low below its same.
      absurd (none-some its (sym (all k d low below) ∙ same))

  -- one more slot is looked at
  pub IsLeastBelow-more : (order : Order) (slots : List (Option (Waiter S))) (key : ℕ) (best : Option Found) (slot : Option (Waiter S)) (own : Option ℕ)
      → key < length slots → slot ≡ get_or slots key slot → time_in order slot ≡ own
      → IsLeastBelow order slots key best → IsLeastBelow order slots (key + 1) (lesser_of best key own)
  IsLeastBelow-more order slots key None slot None within is told least =
      more (λ it. time_in order it ≡ None) slots key slot within is least told
  IsLeastBelow-more order slots key (Some found) slot None within is told least = (
    omega arith,
    least.1,
    more (IsNoSooner order found.time) slots key slot within is least.2
        (no_sooner order found.time slot None told (λ other same. absurd (none-some other same))),
  )
  IsLeastBelow-more order slots key None slot (Some time) within is told least = (
    omega arith,
    here (λ it. time_in order it ≡ Some time) slots key slot within is told None,
    more (IsNoSooner order time) slots key slot within is (none_too order time slots key least)
        (no_sooner order time slot (Some time) told (λ other same. let e = same_Some time other same in omega arith)),
  )
  IsLeastBelow-more order slots key (Some found) slot (Some time) within is told least =
      by (nat_le found.time time) refl where
        by : (b : Bool) → nat_le found.time time ≡ b
            → IsLeastBelow order slots (key + 1) (cond b (Some found) (Some (record { key = key; time = time })))
        by true e =
            let less = leb-true found.time time e in (
              omega arith,
              least.1,
              more (IsNoSooner order found.time) slots key slot within is least.2
                  (no_sooner order found.time slot (Some time) told (λ other same. let e = same_Some time other same in omega arith)),
            )
        by false e =
            let less = leb-false found.time time e in (
              omega arith,
              here (λ it. time_in order it ≡ Some time) slots key slot within is told None,
              more (IsNoSooner order time) slots key slot within is
                  (later_too order found.time time slots key (omega arith) least.2)
                  (no_sooner order time slot (Some time) told (λ other same. let e = same_Some time other same in omega arith)),
            )

  pub HasTime-from_least : (slots : List (Option (Waiter S))) (found : Found) → IsLeast Until slots (Some found) → All (HasTime found.time) slots
  HasTime-from_least slots found least = λ k d within waiter same.
      least.2 k d (omega arith) within waiter.until (ap (time_in Until) same)

  pub HasTime-from_none : (slots : List (Option (Waiter S))) (time : ℕ) → IsLeast Until slots None → All (HasTime time) slots
  HasTime-from_none slots time least = λ k d within waiter same.
      absurd (none-some waiter.until (sym (least k d (omega arith) within) ∙ ap (time_in Until) same))

  pub IsLate-from_least : (now : Option ℕ) (slots : List (Option (Waiter S))) (found : Found) → IsLeast Until slots (Some found)
      → IsOver now found.time → IsLate now slots found.key
  IsLate-from_least now slots found least over =
      let who = until_of (get_or slots found.key None) found.time least.1 in
      record {
        waiter = who.0;
        there = slice_get-get_or slots found.key None least.0 ∙ ap Some who.1;
        over = subst (IsOver now) (sym who.2) over;
        first = subst (λ time. All (HasTime time) slots) (sym who.2) (HasTime-from_least slots found least);
      }

  pub IsEldest-from_least : (bytes : ℕ) (slots : List (Option (Waiter S))) (found : Found)
      → IsLeast (Begun bytes) slots (Some found) → IsEldest bytes slots found.key
  IsEldest-from_least bytes slots found least =
      let who = begun_of bytes (get_or slots found.key None) found.time least.1 in
      record {
        waiter = who.0;
        there = slice_get-get_or slots found.key None least.0 ∙ ap Some who.1;
        holds = who.2;
        first = λ k d within other same holds.
            let told : time_in (Begun bytes) (get_or slots k d) ≡ Some other.begun =
            ap (time_in (Begun bytes)) same ∙ rw (le-leb bytes (vec_len other.bytes) holds) refl in
            let no_sooner = least.2 k d (omega arith) within other.begun told in
            let time = who.3 in
            omega arith;
      }

  pub IsEldestBefore-from_least : (time : ℕ) (slots : List (Option (Waiter S))) (found : Found)
      → IsLeast (Begun 0) slots (Some found) → found.time < time → IsEldestBefore time slots found.key
  unfolding IsEldest-from_least begun_of
  IsEldestBefore-from_least time slots found least early =
      let who = begun_of 0 (get_or slots found.key None) found.time least.1 in
      let is = who.3 in
      let before : who.0.begun < time = omega (arith, early) in
      (IsEldest-from_least 0 slots found least, before)

  pub HasBegunSince-from_least : (time : ℕ) (slots : List (Option (Waiter S))) (found : Found)
      → IsLeast (Begun 0) slots (Some found) → time ≤ found.time → All (HasBegunSince time) slots
  HasBegunSince-from_least time slots found least late = λ k d within waiter same.
      let told : time_in (Begun 0) (get_or slots k d) ≡ Some waiter.begun =
      ap (time_in (Begun 0)) same ∙ rw (le-leb 0 (vec_len waiter.bytes) (omega arith)) refl in
      let no_sooner = least.2 k d (omega arith) within waiter.begun told in
      omega (arith, late)

  fewer : (bytes : ℕ) (waiter : Waiter S) → time_in (Begun bytes) (Some waiter) ≡ None → vec_len waiter.bytes < bytes
  fewer bytes waiter none = by (nat_le bytes (vec_len waiter.bytes)) refl none where
    by : (b : Bool) → nat_le bytes (vec_len waiter.bytes) ≡ b → cond b (Some waiter.begun) None ≡ None → vec_len waiter.bytes < bytes
    by true e h = absurd (none-some waiter.begun (sym h))
    by false e h = leb-false bytes (vec_len waiter.bytes) e

  pub HoldsFewer-from_none : (bytes : ℕ) (slots : List (Option (Waiter S))) → IsLeast (Begun bytes) slots None → All (HoldsFewer bytes) slots
  HoldsFewer-from_none bytes slots least = λ k d within waiter same.
      fewer bytes waiter (sym (ap (time_in (Begun bytes)) same) ∙ least k d (omega arith) within)

  -- where nobody holds a byte, nothing is held
  pub nothing_held : (slots : List (Option (Waiter S))) → All (HoldsFewer 1) slots → held_bytes slots ≡ 0
  nothing_held slots fewer =
      let none = sum_by-le weight 0 slots (All-weaker (HoldsFewer 1) (λ slot. weight slot ≤ 0) light slots fewer) in
      omega arith
    where
      light : (slot : Option (Waiter S)) → HoldsFewer 1 slot → weight slot ≤ 0
      light None h = omega arith
      light (Some waiter) h = let few = h waiter refl in omega arith

  -- where nobody's time is over before a time that isn't there yet, everybody is in time
  pub InTime-from_time : (now : Option ℕ) (slots : List (Option (Waiter S))) (time : ℕ) → All (HasTime time) slots
      → IsSomeAnd now (λ told. told < time) → All (IsInTime now) slots
  InTime-from_time None slots time all early = absurd early
  InTime-from_time (Some now) slots time all early =
      All-weaker (HasTime time) (IsInTime (Some now)) (λ slot has waiter same. let fits = has waiter same in omega (arith, early)) slots all

  -- who leaves for others, where the eldest that holds bytes is taken
  pub taken_is : (old : List (Option (Waiter S))) (key : ℕ) (taken : Option (Waiter S)) (eldest : IsEldest 1 old key)
      → taken ≡ get_or old key None → taken ≡ Some eldest.waiter
  taken_is old key taken eldest is = is ∙ get_or_from_slice_get old key (Some eldest.waiter) None eldest.there

  pub HasLeft-from_eldest : (old new : List (Option (Waiter S))) (key : ℕ) (taken : Option (Waiter S)) → IsEldest 1 old key
      → taken ≡ get_or old key None → new ≡ slice_set old key None → IfSome taken (HasLeft old new)
  HasLeft-from_eldest old new key taken eldest is set =
      subst (λ (it : Option (Waiter S)). IfSome it (HasLeft old new)) (sym (taken_is old key taken eldest is))
      (key, eldest, eldest.there, set)

  pub somebody_left : (old : List (Option (Waiter S))) (key : ℕ) (taken : Option (Waiter S)) (P : Type 0) → IsEldest 1 old key
      → taken ≡ get_or old key None → IfNone taken P
  somebody_left old key taken P eldest is =
      subst (λ (it : Option (Waiter S)). IfNone it P) (sym (taken_is old key taken eldest is)) tt

  pub fewer_held : (old new : List (Option (Waiter S))) (key : ℕ) (taken : Option (Waiter S)) → IsEldest 1 old key
      → taken ≡ get_or old key None → new ≡ slice_set old key None → IfSome taken (λ _. held_bytes new < held_bytes old)
  fewer_held old new key taken eldest is set =
      subst (λ (it : Option (Waiter S)). IfSome it (λ _. held_bytes new < held_bytes old)) (sym (taken_is old key taken eldest is)) less where
        less : held_bytes new < held_bytes old
        less =
            let holds = eldest.holds in
            let sum = emptied weight refl old key eldest.waiter (get_or_from_slice_get old key (Some eldest.waiter) None eldest.there) in
            let same : held_bytes new ≡ held_bytes (slice_set old key None) = ap held_bytes set in
            omega arith

-- what holds anyway holds where there is none
pub if_none : {X : Type 0} (r : Option X) {P : Type 0} → P → IfNone r P
if_none None p = p
if_none (Some x) p = tt

-- and what follows from what holds where there is none
pub none_then : {X : Type 0} (r : Option X) {P Q : Type 0} → IfNone r P → (P → Q) → IfNone r Q
none_then None p f = f p
none_then (Some x) p f = tt
