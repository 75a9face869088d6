-- Seats that were handed back beside the whole log of a shard settle it.
use Rattle.std.proofs.Common.{◌≡◌, ◌≢◌, ◌⊎◌, inl, inr, ℕ, zero, suc, ◌+◌, ◌<◌, ◌≤◌, ◌==◌, ◌&&◌, ◌++◌, ◌∷◌, [], List, Bool, true, false, cond, nat_lt, slice_get, option_map, length, get_or, All, AllPairs, Any, sum_by, count_by, refl, sym, ap, ◌∙◌, subst, arith}
use mathlib.Core.List.{IsPrefix}
use Rattle.std.proofs.lemmas.Bool.{and_parts, and_from, eqb-true, eq-eqb, ltb-false, cond-true, cases_lt}
use Rattle.std.proofs.lemmas.List.Elements.{All-push, All-contains}
use Rattle.std.proofs.lemmas.List.Quantifiers.{all_pairs_push}
use Rattle.std.proofs.lemmas.List.Sums.{sum_by-cons, sum_by-le}
use Rattle.std.proofs.lemmas.Option.{slice_get_within, slice_get-map}
use Rattle.mds_table.specs.Tables.{Tables}
use Rattle.mds_core.specs.Headline.{is_done}
use Rattle.mds_settle.specs.declared.note.Note.{Note}
use Rattle.mds_settle.specs.Notes.{accepted_at, notes_at}
use Rattle.mds_settle.specs.Settled.{IsInOrder, IsSettled}
use Rattle.mds_settle.specs.Bounds.{accepted_below, notes_below}
use Rattle.mds_settle.proofs.Counts.{next_total, none_below}
use Rattle.mds_log.specs.Log.{Acceptance, requests}
use Rattle.mds_log.specs.Marks.{Has}
use Rattle.mds_log.proofs.Lists.{prefix_get}
use Rattle.mds_book.specs.Seats.{Seated, accepted_in, seen_in}
use Rattle.mds_book.specs.Sights.{AreTrue, accepted_of, rules_in}
use Rattle.mds_book.specs.Retired.{IsRetired, HaveOtherPlaces, AreKnown, AreRetired}
use Rattle.mds_book.proofs.Once.{each_has}
use Rattle.mds_book.proofs.Trues.{requests_length}

-- no seat was handed back
pub retired_none : (tables : Tables) (shard : ℕ) (log : List Acceptance) (marks : List ℕ) → AreRetired (rules_in tables shard) log marks []
retired_none tables shard log marks = record {
  fit = λ k d within. absurd (omega arith);
  apart = λ i j d less within. absurd (omega arith);
  known = λ k d within. absurd (omega arith);
  seen = λ k d within. absurd (omega arith);
}

-- an accepted note of this shard
accepted_parts : (shard : ℕ) (note : Note) → accepted_of shard note ≡ true → (note.shard ≡ shard) × (is_done note.reply.outcome ≡ true)
accepted_parts shard note is =
    let parts = and_parts (note.shard == shard) (is_done note.reply.outcome) is in
    (eqb-true note.shard shard parts.0, parts.1)

-- a mark that was handed back stays so
has_longer : (marks left : List ℕ) (number : ℕ) → IsPrefix marks left → Has marks number → Has left number
has_longer marks left number begins has = (has.0, prefix_get marks left has.0 number begins has.1)

-- what is known stays known
known_longer : (shard : ℕ) (marks left : List ℕ) (log : List Acceptance) (notes : List Note) → IsPrefix marks left → AreKnown shard marks log notes
    → AreKnown shard left log notes
known_longer shard marks left log notes begins known k d within is =
    let found = known k d within is in
    (found.0, found.1, has_longer marks left found.0.tag begins found.2)

-- the accepted notes of a seat stand under its mark
known_here : (tables : Tables) (shard : ℕ) (log : List Acceptance) (mark : ℕ) (notes : List Note) (count : ℕ) (left : List ℕ) → AreTrue (rules_in tables shard) log mark notes count
    → Has left mark → AreKnown shard left log notes
known_here tables shard log mark notes count left are has k d within is =
    let parts = accepted_parts shard (get_or notes k d) is in
    (record { tag = mark; request = (get_or notes k d).request }, are.stored k d within parts.0 parts.1, has)

-- what stands under a mark that was handed back has another place than what stands under one that was not
other_places : (tables : Tables) (shard : ℕ) (log : List Acceptance) (mark : ℕ) (notes : List Note) (count : ℕ) (marks : List ℕ) (others : List Note)
    → AreTrue (rules_in tables shard) log mark notes count → (Has marks mark → ⊥) → AreKnown shard marks log others → HaveOtherPlaces shard others notes
other_places tables shard log mark notes count marks others are fresh known k d within l e under first second same =
    let parts = accepted_parts shard (get_or notes l e) second in
    let found = known k d within first in
    let stored = are.stored l e under parts.0 parts.1 in
    let here = ap (λ (p : ℕ). slice_get log p) same ∙ stored in
    let one : found.0.tag ≡ mark = cc (found.1, here) in
    let Handed : ℕ → Type 0 = λ number. Has marks number in
    fresh (subst Handed one found.2)

-- one seat more was handed back
pub retired_more : (tables : Tables) (shard : ℕ) (log : List Acceptance) (marks : List ℕ) (seats : List Seated) (seat : Seated) (left : List ℕ)
    → AreRetired (rules_in tables shard) log marks seats → IsRetired (rules_in tables shard) log marks seat left → AreRetired (rules_in tables shard) log left (seats ++ seat ∷ [])
retired_more tables shard log marks seats seat left before one =
    let count : ℕ = accepted_in seat shard in
    record {
      fit = All-push (λ (s : Seated). (mark : ℕ) × AreTrue (rules_in tables shard) log mark s.notes (accepted_in s shard)) seats seat before.fit (one.mark, one.notes);
      apart = all_pairs_push (λ (s other : Seated). HaveOtherPlaces shard s.notes other.notes) seats seat before.apart
          (λ k d within. other_places tables shard log one.mark seat.notes count marks (get_or seats k d).notes one.notes one.fresh (before.known k d within));
      known = All-push (λ (s : Seated). AreKnown shard left log s.notes) seats seat
          (λ k d within. known_longer shard marks left log (get_or seats k d).notes one.begins (before.known k d within))
          (known_here tables shard log one.mark seat.notes count left one.notes one.here);
      seen = All-push (λ (s : Seated). IsPrefix (seen_in s shard) (requests log)) seats seat before.seen one.seen;
    }

-- what counts where a test holds
abbrev weight : Bool → ℕ
weight b = cond b 1 0

weight_few : (b : Bool) → weight b ≤ 1
weight_few true = omega arith
weight_few false = omega arith

weight_some : (b : Bool) → 1 ≤ weight b → b ≡ true
weight_some true some = refl
weight_some false some = absurd (omega arith)

no_more : (n : ℕ) → (1 ≤ n → ⊥) → n ≤ 0
no_more zero none = omega arith
no_more (suc n) none = absurd (none (omega arith))

-- where no element counts more than one, and no two count, the sum is at most one
sum_once : {X : Type 0} (f : X → ℕ) (xs : List X) → All (λ x. f x ≤ 1) xs → AllPairs (λ x y. 1 ≤ f x → 1 ≤ f y → ⊥) xs → sum_by f xs ≤ 1
sum_once f [] few apart = omega arith
sum_once {X} f (x ∷ xs) few apart =
    by_first (sum_once f xs (λ k d within. few (suc k) d (omega (arith, within))) (λ i j d less within. apart (suc i) (suc j) d (omega (arith, less)) (omega (arith, within))))
    (cases_lt 0 (f x)) where
      by_first : sum_by f xs ≤ 1 → (0 < f x) ⊎ (f x ≤ 0) → sum_by f (x ∷ xs) ≤ 1
      by_first rest (inl some) =
          let none : All (λ (y : X). f y ≤ 0) xs =
          λ k d within. no_more (f (get_or xs k d)) (λ more. apart 0 (suc k) d (omega arith) (omega (arith, within)) (omega (arith, some)) more) in
          let first : f x ≤ 1 = few 0 x (omega arith) in
          omega (arith, sum_by-cons f x xs, first, sum_by-le f 0 xs none)
      by_first rest (inr none) = omega (arith, sum_by-cons f x xs, rest, none)

-- a count that isn't 0 has found an element
count_some : {X : Type 0} (p : X → Bool) (xs : List X) → 1 ≤ count_by p xs → Any (λ x. p x ≡ true) xs
count_some p [] some = absurd (omega arith)
count_some {X} p (x ∷ xs) some = by_first (p x) refl (sum_by-cons (λ (y : X). weight (p y)) x xs) (λ more. count_some p xs more) where
  by_first : (b : Bool) → p x ≡ b → count_by p (x ∷ xs) ≡ weight (p x) + count_by p xs → (1 ≤ count_by p xs → Any (λ y. p y ≡ true) xs) → Any (λ y. p y ≡ true) (x ∷ xs)
  by_first true is total later = (0, x, omega arith, refl, is)
  by_first false isnt total later =
      let none : weight (p x) ≡ 0 = ap weight isnt in
      let more : 1 ≤ count_by p xs = omega (arith, total, none, some) in
      let found = later more in
      (suc found.0, found.1, omega (arith, found.2), found.3, found.4)

-- equal terms have equal sums
sum_same : {X : Type 0} (f g : X → ℕ) (xs : List X) → All (λ x. f x ≡ g x) xs → sum_by f xs ≡ sum_by g xs
sum_same f g [] same = refl
sum_same f g (x ∷ xs) same =
    let first : f x ≡ g x = same 0 x (omega arith) in
    omega (arith, sum_by-cons f x xs, sum_by-cons g x xs, first, sum_same f g xs (λ k d within. same (suc k) d (omega (arith, within))))

-- an accepted note of this shard with this place
at_parts : (shard place : ℕ) (note : Note) → accepted_at shard place note ≡ true
    → (note.shard ≡ shard) × (note.reply.place ≡ place) × (is_done note.reply.outcome ≡ true)
at_parts shard place note is =
    let parts = and_parts ((note.shard == shard) && (note.reply.place == place)) (is_done note.reply.outcome) is in
    let places = and_parts (note.shard == shard) (note.reply.place == place) parts.0 in
    (eqb-true note.shard shard places.0, eqb-true note.reply.place place places.1, parts.1)

-- a seat has no two accepted notes of one place, since they are in order
once_of_seat : (shard : ℕ) (notes : List Note) (place : ℕ) → AllPairs (IsInOrder shard) notes → count_by (accepted_at shard place) notes ≤ 1
once_of_seat shard notes place ordered =
    sum_once (λ (n : Note). weight (accepted_at shard place n)) notes (λ k d within. weight_few (accepted_at shard place (get_or notes k d)))
    (λ i j d less within first second.
    let here = at_parts shard place (get_or notes i d) (weight_some (accepted_at shard place (get_or notes i d)) first) in
    let later = at_parts shard place (get_or notes j d) (weight_some (accepted_at shard place (get_or notes j d)) second) in
    let after = ordered i j d less within here.0 later.0 in
    let least = cond-true (is_done (get_or notes i d).reply.outcome) ((get_or notes i d).reply.place + 1) (get_or notes i d).reply.place here.2 in
    absurd (omega (arith, after, least, here.1, later.1)))

-- seats that have no place in common have no two accepted notes of one place
apart_at : (shard place : ℕ) (xs ys : List Note) → HaveOtherPlaces shard xs ys → 1 ≤ count_by (accepted_at shard place) xs → 1 ≤ count_by (accepted_at shard place) ys → ⊥
apart_at shard place xs ys apart first second =
    let a = count_some (accepted_at shard place) xs first in
    let b = count_some (accepted_at shard place) ys second in
    let one = at_parts shard place a.1 a.4 in
    let other = at_parts shard place b.1 b.4 in
    let Differ : Note → Note → Type 0 = λ x y. accepted_of shard x ≡ true → accepted_of shard y ≡ true → x.reply.place ≢ y.reply.place in
    let from_one : All (λ (y : Note). Differ a.1 y) ys = All-contains (λ (x : Note). All (λ (y : Note). Differ x y) ys) xs a.1 apart (a.0, a.2, a.3) in
    let differ : Differ a.1 b.1 = All-contains (λ (y : Note). Differ a.1 y) ys b.1 from_one (b.0, b.2, b.3) in
    differ (and_from (a.1.shard == shard) (is_done a.1.reply.outcome) (eq-eqb a.1.shard shard one.0) one.2)
    (and_from (b.1.shard == shard) (is_done b.1.reply.outcome) (eq-eqb b.1.shard shard other.0) other.2) (one.1 ∙ sym other.1)

-- no two accepted notes have one place
pub once : (tables : Tables) (shard : ℕ) (log : List Acceptance) (marks : List ℕ) (seats : List Seated) → AreRetired (rules_in tables shard) log marks seats
    → (place : ℕ) → notes_at shard place (λ (seat : Seated). seat.notes) seats ≤ 1
once tables shard log marks seats retired place =
    sum_once (λ (seat : Seated). count_by (accepted_at shard place) seat.notes) seats
    (λ k d within. once_of_seat shard (get_or seats k d).notes place (retired.fit k d within).1.ordered)
    (λ i j d less within. apart_at shard place (get_or seats i d).notes (get_or seats j d).notes (retired.apart i j d less within))

-- below an end that all accepted notes of this shard are within, those are counted that were accepted
below_same : (shard end : ℕ) (note : Note) → (note.shard ≡ shard → is_done note.reply.outcome ≡ true → note.reply.place < end)
    → accepted_below shard end note ≡ accepted_of shard note
below_same shard end note within =
    by_tests (note.shard == shard) refl (nat_lt note.reply.place end) refl (is_done note.reply.outcome) refl where
      by_tests : (here : Bool) → (note.shard == shard) ≡ here → (low : Bool) → nat_lt note.reply.place end ≡ low → (done : Bool) → is_done note.reply.outcome ≡ done
          → ((here && low) && done) ≡ (here && done)
      by_tests false h low l done d = refl
      by_tests true h true l done d = refl
      by_tests true h false l false d = refl
      by_tests true h false l true d =
          let under = within (eqb-true note.shard shard h) d in
          absurd (omega (arith, under, ltb-false note.reply.place end l))

-- each accepted note of a seat is below the end of the log
counted_below : (tables : Tables) (shard : ℕ) (log : List Acceptance) (mark : ℕ) (notes : List Note) (count : ℕ) → AreTrue (rules_in tables shard) log mark notes count
    → count_by (accepted_below shard (length log)) notes ≡ count
counted_below tables shard log mark notes count are =
    sum_same (λ (n : Note). weight (accepted_below shard (length log) n)) (λ (n : Note). weight (accepted_of shard n)) notes
    (λ k d within. ap weight
    (below_same shard (length log) (get_or notes k d)
    (λ here done. slice_get_within log (get_or notes k d).reply.place (record { tag = mark; request = (get_or notes k d).request }) (are.stored k d within here done))))
    ∙ are.counted

-- there are as many below the end of the log as the seats counted
pub total : (tables : Tables) (shard : ℕ) (log : List Acceptance) (marks : List ℕ) (seats : List Seated) → AreRetired (rules_in tables shard) log marks seats
    → notes_below shard (length log) (λ (seat : Seated). seat.notes) seats ≡ sum_by (λ seat. accepted_in seat shard) seats
total tables shard log marks seats retired =
    sum_same (λ (seat : Seated). count_by (accepted_below shard (length log)) seat.notes) (λ (seat : Seated). accepted_in seat shard) seats
    (λ k d within.
    let fit = retired.fit k d within in
    counted_below tables shard log fit.0 (get_or seats k d).notes (accepted_in (get_or seats k d) shard) fit.1)

-- so the notes of the seats fit the history of the shard
pub settled : (tables : Tables) (shard : ℕ) (log : List Acceptance) (marks : List ℕ) (seats : List Seated) → AreRetired (rules_in tables shard) log marks seats
    → length log ≡ sum_by (λ seat. accepted_in seat shard) seats → IsSettled tables shard (requests log) (λ (seat : Seated). seat.notes) seats
settled tables shard log marks seats retired counted = record {
  answered = λ k d within. (retired.fit k d within).1.answered;
  stored = λ k d within l e under here done.
      slice_get-map (λ (one : Acceptance). one.request) log (get_or (get_or seats k d).notes l e).reply.place
      ∙ ap (option_map (λ (one : Acceptance). one.request)) ((retired.fit k d within).1.stored l e under here done);
  once = once tables shard log marks seats retired;
  complete = λ place within.
      each_has (λ p. notes_at shard p (λ (seat : Seated). seat.notes) seats) (λ p. notes_below shard p (λ (seat : Seated). seat.notes) seats)
      (λ p. next_total shard p (λ (seat : Seated). seat.notes) seats) (none_below shard (λ (seat : Seated). seat.notes) seats)
      (once tables shard log marks seats retired) (length log) (total tables shard log marks seats retired ∙ sym counted)
      place (omega (arith, within, requests_length log));
  ordered = λ k d within. (retired.fit k d within).1.ordered;
}
