-- How many accepted notes there are at the places, and below them.
use Rattle.std.proofs.Common.{◌≡◌, ◌⊎◌, inl, inr, ℕ, zero, suc, ◌+◌, ◌<◌, ◌≤◌, ◌∙◌, List, [], ◌∷◌, get_or, Bool, true, false, ◌&&◌, cond, nat_lt, refl, ap, arith, add-one}
use Rattle.std.specs.Prelude.{◌==◌}
use Rattle.std.specs.List.{sum_by, count_by, All}
use Rattle.std.proofs.lemmas.Bool.{cases_lt}
use Rattle.std.proofs.lemmas.Bool.Decides.{nat_tests}
use Rattle.std.proofs.lemmas.List.Sums.{sum_by-cons, sum_by-le}
use Rattle.mds_core.specs.Headline.{is_done}
use Rattle.mds_settle.specs.declared.note.Note.{Note}
use Rattle.mds_settle.specs.Notes.{accepted_at, notes_at}
use Rattle.mds_settle.specs.Bounds.{accepted_below, notes_below, AreOnceBelow, IsFirstMiscounted}

-- the sum of sums
sum_of_two : {X : Type 0} (f g h : X → ℕ) → ((x : X) → f x ≡ g x + h x) → (xs : List X) → sum_by f xs ≡ sum_by g xs + sum_by h xs
sum_of_two f g h is [] = refl
sum_of_two f g h is (x ∷ xs) = omega (arith, sum_by-cons f x xs, sum_by-cons g x xs, sum_by-cons h x xs, is x, sum_of_two f g h is xs)

-- what a note counts where a test holds
weight : Bool → ℕ
weight b = cond b 1 0

weight_next : (here done : Bool) (place m : ℕ)
    → weight ((here && nat_lt place (m + 1)) && done) ≡ weight ((here && nat_lt place m) && done) + weight ((here && (place == m)) && done)
unfolding weight
weight_next false done place m = refl
weight_next true false place m = grind (arith, nat_tests)
weight_next true true place m = grind (arith, nat_tests)

-- below the next place there are as many accepted notes as below this one and at it
pub next_total : {X : Type 0} (shard m : ℕ) (seen : X → List Note) (lists : List X)
    → notes_below shard (m + 1) seen lists ≡ notes_below shard m seen lists + notes_at shard m seen lists
unfolding weight
next_total {X} shard m seen lists =
    sum_of_two (λ (x : X). count_by (accepted_below shard (m + 1)) (seen x)) (λ (x : X). count_by (accepted_below shard m) (seen x))
    (λ (x : X). count_by (accepted_at shard m) (seen x))
    (λ x. sum_of_two (λ (n : Note). weight (accepted_below shard (m + 1) n)) (λ (n : Note). weight (accepted_below shard m n))
    (λ (n : Note). weight (accepted_at shard m n)) (λ n. weight_next (n.shard == shard) (is_done n.reply.outcome) n.reply.place m) (seen x)) lists

-- a sum of nothing
sum_none : {X : Type 0} (f : X → ℕ) (xs : List X) → All (λ x. f x ≤ 0) xs → sum_by f xs ≡ 0
sum_none f xs none = omega (arith, sum_by-le f 0 xs none)

-- below the first place there is none
pub none_below : {X : Type 0} (shard : ℕ) (seen : X → List Note) (lists : List X) → notes_below shard 0 seen lists ≡ 0
unfolding weight
none_below {X} shard seen lists =
    sum_none (λ (x : X). count_by (accepted_below shard 0) (seen x)) lists
    (λ k d _. let count = sum_none (λ (n : Note). weight (accepted_below shard 0 n)) (seen (get_or lists k d)) (λ j e _. zero_weight (get_or (seen (get_or lists k d)) j e)) in omega (arith, count)) where
      zero_weight : (n : Note) → weight (accepted_below shard 0 n) ≤ 0
      zero_weight n = by_tests (n.shard == shard) (is_done n.reply.outcome) where
        by_tests : (here done : Bool) → weight ((here && nat_lt n.reply.place 0) && done) ≤ 0
        by_tests false done = omega arith
        by_tests true done = grind (arith, nat_tests)

-- a place has no accepted note where none passes the test
pub none_at : {X : Type 0} (shard place : ℕ) (seen : X → List Note) (lists : List X)
    → All (λ list. All (λ note. accepted_at shard place note ≡ false) (seen list)) lists → notes_at shard place seen lists ≡ 0
unfolding weight
none_at {X} shard place seen lists none =
    sum_none (λ (x : X). count_by (accepted_at shard place) (seen x)) lists
    (λ k d within.
    let count = sum_none (λ (n : Note). weight (accepted_at shard place n)) (seen (get_or lists k d))
    (λ j e under. rw (none k d within j e under) (omega arith)) in omega (arith, count))

-- where each place below the end has one, there are as many below the end as places
at_least : (at below : ℕ → ℕ) → ((m : ℕ) → below (m + 1) ≡ below m + at m) → (m : ℕ) → ((q : ℕ) → q < m → 1 ≤ at q) → m ≤ below m
at_least at below next zero found = omega arith
at_least at below next (suc m) found =
    rw (← add-one m) (omega (arith, next m, at_least at below next m (λ q less. found q (omega arith)), found m (omega arith)))

-- and one that has more makes as many more
with_more : (at below : ℕ → ℕ) → ((m : ℕ) → below (m + 1) ≡ below m + at m) → (m q : ℕ) → ((p : ℕ) → p < m → 1 ≤ at p) → q < m → m + at q ≤ below m + 1
with_more at below next zero q found less = absurd (omega arith)
with_more at below next (suc m) q found less =
    let before = λ (under : q < m). with_more at below next m q (λ p lower. found p (omega arith)) under in
    rw (← add-one m) (by_place before (cases_lt q m)) where
      by_place : (q < m → m + at q ≤ below m + 1) → (q < m) ⊎ (m ≤ q) → (m + 1) + at q ≤ below (m + 1) + 1
      by_place before (inl under) = omega (arith, next m, before under, found m (omega arith))
      by_place before (inr over) =
          let same : q ≡ m = omega arith in
          omega (arith, next m, at_least at below next m (λ p lower. found p (omega arith)), ap at same)

-- where each place below the end has one, and there are no more than places, each has exactly one
pub all_once : {X : Type 0} (shard m : ℕ) (seen : X → List Note) (lists : List X) → ((q : ℕ) → q < m → 1 ≤ notes_at shard q seen lists)
    → notes_below shard m seen lists ≤ m → AreOnceBelow shard m seen lists
all_once {X} shard m seen lists found few q less =
    let more = with_more (λ p. notes_at shard p seen lists) (λ p. notes_below shard p seen lists) (λ p. next_total shard p seen lists) m q found less in
    omega (arith, more, found q less)

-- where there are more than places below the end, there is a place
pub some_end : {X : Type 0} (shard end : ℕ) (seen : X → List Note) (lists : List X) → end < notes_below shard end seen lists → 0 < end
some_end shard zero seen lists many = absurd (omega (arith, none_below shard seen lists))
some_end shard (suc end) seen lists many = omega arith

-- the first place where more accepted notes than places come together
pub twice_here : {X : Type 0} (shard few many end : ℕ) (seen : X → List Note) (lists : List X) → ((q : ℕ) → q < end → 1 ≤ notes_at shard q seen lists)
    → few < many → many ≤ few + 1 → many ≤ end → notes_below shard few seen lists ≤ few → many < notes_below shard many seen lists
    → IsFirstMiscounted shard end seen lists few
twice_here shard few many end seen lists found apart near within is_few is_many =
    let next : many ≡ few + 1 = omega arith in
    let total = ap (λ m. notes_below shard m seen lists) next ∙ next_total shard few seen lists in
    record {
      within = omega arith;
      miscounted = λ one. absurd (omega (arith, total, one));
      before = all_once shard few seen lists (λ q less. found q (omega arith)) is_few;
    }
