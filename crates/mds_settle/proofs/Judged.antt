-- What the looks have found is what is settled, or the least fault.
use Rattle.std.proofs.Common.{◌≡◌, ◌⊎◌, ◌↔◌, inl, inr, ℕ, ◌<◌, ◌≤◌, ◌∙◌, List, length, get_or, Bool, true, false, ◌&&◌, Option, Some, None, refl, sym, subst, arith, get_or-take, length-take-le}
use Rattle.std.specs.Prelude.{Result, Ok, Err, IsOk, MatchResult, ◌==◌}
use Rattle.std.specs.Option.{MatchOption}
use Rattle.std.specs.List.{All, Any, AllPairs}
use Rattle.std.proofs.lemmas.Bool.{and_parts, eqb-true, cases_lt}
use Rattle.std.proofs.lemmas.Option.{get_or_from_slice_get, slice_get_within}
use Rattle.mds_table.specs.Tables.{Tables}
use Rattle.mds_core.specs.declared.request.Request.{Request}
use Rattle.mds_core.specs.Headline.{is_done}
use Rattle.mds_settle.specs.declared.note.Note.{Note}
use Rattle.mds_settle.specs.Notes.{IsAt, SomeNoteAt, accepted_at, notes_at}
use Rattle.mds_settle.specs.Settled.{IsSettled}
use Rattle.mds_settle.specs.Faults.{HasLate, FaultAt, wrong_reply, wrong_entry, twice, missing, late, IsLeastFault}
use Rattle.mds_settle.specs.Bounds.{IsBelow, IsLowered, IsTrueTo, bad_reply, bad_entry, IsTrueBelow, IsWrongAt, IsInOrderBelow, AreOnceBelow, IsFirstMiscounted, end_by}
use Rattle.mds_settle.proofs.Counts.{none_at}

-- below a bound the notes are true to the history, and in order
pub record IsFine {X : Type 0} (tables : Tables) (shard : ℕ) (history : List Request) (seen : X → List Note) (lists : List X) (bound : Option ℕ) : Type 0 where
  pub true_notes : All (λ list. All (IsTrueBelow tables shard history bound) (seen list)) lists
  pub in_order : All (λ list. AllPairs (IsInOrderBelow shard bound) (seen list)) lists

-- what holds of each holds of one that is found
meet : {X : Type 0} (P Q : X → Type 0) (xs : List X) → All P xs → Any Q xs → (x : X) × P x × Q x
meet P Q xs all some = (some.1, subst P some.3 (all some.0 some.1 some.2), some.4)

-- a note that is found at a place below the bound is true to the history
true_at : {X : Type 0} (tables : Tables) (shard : ℕ) (history : List Request) (seen : X → List Note) (lists : List X) (bound : Option ℕ) (place : ℕ) (F : Note → Type 0)
    → IsFine tables shard history seen lists bound → IsBelow place bound → SomeNoteAt shard place F seen lists → (n : Note) × IsTrueTo tables history n × F n
true_at {X} tables shard history seen lists bound place F fine below some =
    let outer = meet (λ (list : X). All (IsTrueBelow tables shard history bound) (seen list)) (λ (list : X). Any (λ note. IsAt shard place note × F note) (seen list)) lists fine.true_notes some in
    let inner = meet (IsTrueBelow tables shard history bound) (λ note. IsAt shard place note × F note) (seen outer.0) outer.1 outer.2 in
    let P : ℕ → Type 0 = λ p. IsBelow p bound in
    (inner.0, inner.1 inner.2.0.0 (subst P (sym inner.2.0.1) below), inner.2.1)

-- what an accepted note at a place is
accepted_parts : (shard place : ℕ) (note : Note) → accepted_at shard place note ≡ true → (note.shard ≡ shard) × (note.reply.place ≡ place) × (is_done note.reply.outcome ≡ true)
accepted_parts shard place note is =
    let outer = and_parts ((note.shard == shard) && (note.reply.place == place)) (is_done note.reply.outcome) is in
    let inner = and_parts (note.shard == shard) (note.reply.place == place) outer.0 in
    (eqb-true note.shard shard inner.0, eqb-true note.reply.place place inner.1, outer.1)

-- a note below the bound isn't an accepted one past the end of the history
none_past : (tables : Tables) (shard : ℕ) (history : List Request) (bound : Option ℕ) (place : ℕ) (note : Note) → IsTrueBelow tables shard history bound note
    → IsBelow place bound → length history ≤ place → accepted_at shard place note ≡ false
none_past tables shard history bound place note is_true below past = by_test (accepted_at shard place note) refl where
  by_test : (b : Bool) → accepted_at shard place note ≡ b → b ≡ false
  by_test false is = refl
  by_test true is =
      let parts = accepted_parts shard place note is in
      let P : ℕ → Type 0 = λ p. IsBelow p bound in
      let stored = (is_true parts.0 (subst P (sym parts.1) below)).stored parts.2 in
      let within = slice_get_within history note.reply.place note.request stored in
      let at = parts.1 in
      absurd (omega arith)

past_end : {X : Type 0} (tables : Tables) (shard : ℕ) (history : List Request) (seen : X → List Note) (lists : List X) (bound : Option ℕ) (place : ℕ)
    → IsFine tables shard history seen lists bound → IsBelow place bound → length history ≤ place → notes_at shard place seen lists ≡ 0
past_end tables shard history seen lists bound place fine below past =
    none_at shard place seen lists (λ k d within j e under. none_past tables shard history bound place (get_or (seen (get_or lists k d)) j e) (fine.true_notes k d within j e under) below past)

-- a note that is in order isn't late
not_late : (shard : ℕ) (bound : Option ℕ) (place : ℕ) (notes : List Note) → AllPairs (IsInOrderBelow shard bound) notes → IsBelow place bound → HasLate shard place notes → ⊥
not_late shard bound place notes pairs below (i, note, get, at, (k, earlier, before, stands, asked)) =
    let within : i < length notes = slice_get_within notes i note get in
    let count = length-take-le i notes (omega arith) in
    let less : k < i = omega arith in
    let R : Note → Note → Type 0 = IsInOrderBelow shard bound in
    let First : Note → Type 0 = λ n. R n (get_or notes i earlier) in
    let Second : Note → Type 0 = λ n. R earlier n in
    let first = subst First (sym (get_or-take i notes k earlier less) ∙ stands) (pairs k i earlier less within) in
    let second = subst Second (get_or_from_slice_get notes i note earlier get) first in
    let P : ℕ → Type 0 = λ p. IsBelow p bound in
    let prompt = second asked.0 at.0 (subst P (sym at.1) below) in
    let late_by = asked.1 in
    let here = at.1 in
    omega arith

-- below the bound there is no fault, where each place of the history has exactly one accepted note
no_fault : {X : Type 0} (tables : Tables) (shard : ℕ) (history : List Request) (seen : X → List Note) (lists : List X) (bound : Option ℕ) (place : ℕ)
    → IsFine tables shard history seen lists bound → IsBelow place bound → (place < length history → notes_at shard place seen lists ≡ 1)
    → FaultAt tables shard history seen lists place → ⊥
no_fault tables shard history seen lists bound place fine below once (wrong_reply some) =
    let found = true_at tables shard history seen lists bound place _ fine below some in found.2 found.1.answered
no_fault tables shard history seen lists bound place fine below once (wrong_entry some) =
    let found = true_at tables shard history seen lists bound place _ fine below some in found.2.1 (found.1.stored found.2.0)
no_fault tables shard history seen lists bound place fine below once (twice more) = by_place (cases_lt place (length history)) where
  by_place : (place < length history) ⊎ (length history ≤ place) → ⊥
  by_place (inl within) = let one = once within in omega arith
  by_place (inr past) = let none = past_end tables shard history seen lists bound place fine below past in omega arith
no_fault tables shard history seen lists bound place fine below once (missing within none) = let one = once within in omega arith
no_fault {X} tables shard history seen lists bound place fine below once (late some) =
    let found = meet (λ (list : X). AllPairs (IsInOrderBelow shard bound) (seen list)) (λ (list : X). HasLate shard place (seen list)) lists fine.in_order some in
    not_late shard bound place (seen found.0) found.1 below found.2

-- where there is no bound, and each place of the history has exactly one accepted note, all is settled
pub settled : {X : Type 0} (tables : Tables) (shard : ℕ) (history : List Request) (seen : X → List Note) (lists : List X) → IsFine tables shard history seen lists None
    → AreOnceBelow shard (length history) seen lists → IsSettled tables shard history seen lists
settled tables shard history seen lists fine counted = record {
  answered = λ k d within j e under here. (fine.true_notes k d within j e under here tt).answered;
  stored = λ k d within j e under here. (fine.true_notes k d within j e under here tt).stored;
  once = λ place. by_place place (cases_lt place (length history));
  complete = λ place within. let one = counted place within in omega arith;
  ordered = λ k d within i j e less under here there. fine.in_order k d within i j e less under here there tt;
} where
  by_place : (place : ℕ) → (place < length history) ⊎ (length history ≤ place) → notes_at shard place seen lists ≤ 1
  by_place place (inl within) = let one = counted place within in omega arith
  by_place place (inr past) = let none = past_end tables shard history seen lists None place fine tt past in omega arith

-- where all is settled there is no fault
unsettled : {X : Type 0} (tables : Tables) (shard : ℕ) (history : List Request) (seen : X → List Note) (lists : List X) (place : ℕ)
    → IsSettled tables shard history seen lists → FaultAt tables shard history seen lists place → ⊥
unsettled tables shard history seen lists place is fault =
    let fine : IsFine tables shard history seen lists None = record {
      true_notes = λ k d within j e under here _. record { answered = is.answered k d within j e under here; stored = is.stored k d within j e under here };
      in_order = λ k d within i j e less under here there _. is.ordered k d within i j e less under here there;
    } in
    no_fault tables shard history seen lists None place fine tt (λ within. let some = is.complete place within in let few = is.once place in omega arith) fault

-- so a verdict is one or the other
pub exactly : {X A : Type 0} (tables : Tables) (shard : ℕ) (history : List Request) (seen : X → List Note) (lists : List X) (result : Result A ℕ)
    → MatchResult result (λ _. IsSettled tables shard history seen lists) (IsLeastFault tables shard history seen lists) → IsOk result ↔ IsSettled tables shard history seen lists
exactly tables shard history seen lists (Ok x) is = (λ _. is, λ _. refl)
exactly tables shard history seen lists (Err place) fault = (λ ok. cc, λ is. absurd (unsettled tables shard history seen lists place is fault.fault))

-- what two looks leave
pub fine_below : {X : Type 0} (tables : Tables) (shard : ℕ) (history : List Request) (seen : X → List Note) (lists : List X) (wrong bound : Option ℕ)
    → IsLowered (λ r. All (λ list. All (IsTrueBelow tables shard history r) (seen list)) lists)
    (λ place. Any (λ list. Any (IsWrongAt tables shard history place) (seen list)) lists) None wrong
    → IsLowered (λ r. All (λ list. AllPairs (IsInOrderBelow shard r) (seen list)) lists) (λ place. Any (λ list. HasLate shard place (seen list)) lists) wrong bound
    → IsFine tables shard history seen lists bound
fine_below tables shard history seen lists wrong bound first second = record {
  true_notes = λ k d within j e under here below. first.fine k d within j e under here (second.lower (get_or (seen (get_or lists k d)) j e).reply.place below);
  in_order = second.fine;
}

-- a wrong note is a fault
fault_of_wrong : {X : Type 0} (tables : Tables) (shard : ℕ) (history : List Request) (seen : X → List Note) (lists : List X) (place : ℕ)
    → Any (λ list. Any (IsWrongAt tables shard history place) (seen list)) lists → FaultAt tables shard history seen lists place
fault_of_wrong tables shard history seen lists place (k, list, within, stands, (j, note, under, is, (at, bad_reply wrong))) =
    wrong_reply (k, list, within, stands, (j, note, under, is, (at, wrong)))
fault_of_wrong tables shard history seen lists place (k, list, within, stands, (j, note, under, is, (at, bad_entry done wrong))) =
    wrong_entry (k, list, within, stands, (j, note, under, is, (at, (done, wrong))))

-- at a bound that two looks leave there is a fault
fault_at : {X : Type 0} (tables : Tables) (shard : ℕ) (history : List Request) (seen : X → List Note) (lists : List X) (wrong bound : Option ℕ) (place : ℕ)
    → (wrong ≡ None) ⊎ MatchOption wrong ⊥ (λ p. Any (λ list. Any (IsWrongAt tables shard history p) (seen list)) lists)
    → (bound ≡ wrong) ⊎ MatchOption bound ⊥ (λ p. Any (λ list. HasLate shard p (seen list)) lists)
    → bound ≡ Some place → FaultAt tables shard history seen lists place
fault_at {X} tables shard history seen lists wrong bound place first (inr fault) is =
    let P : Option ℕ → Type 0 = λ r. MatchOption r ⊥ (λ p. Any (λ (list : X). HasLate shard p (seen list)) lists) in late (subst P is fault)
fault_at tables shard history seen lists wrong bound place (inl none) (inl same) is = cc
fault_at {X} tables shard history seen lists wrong bound place (inr fault) (inl same) is =
    let P : Option ℕ → Type 0 = λ r. MatchOption r ⊥ (λ p. Any (λ (list : X). Any (IsWrongAt tables shard history p) (seen list)) lists) in
    fault_of_wrong tables shard history seen lists place (subst P (sym same ∙ is) fault)

-- places before the end that is counted to are below the bound, and within the history
end_parts : (bound : Option ℕ) (count place : ℕ) → place < end_by bound count → IsBelow place bound × (place < count)
end_parts None count place before = (tt, before)
end_parts (Some b) count place before = (omega arith, omega arith)

end_from : (bound : Option ℕ) (count place : ℕ) → IsBelow place bound → place < count → place < end_by bound count
end_from None count place below within = within
end_from (Some b) count place below within = omega arith

-- the first place that hasn't exactly one accepted note is the least fault
pub at_miscounted : {X : Type 0} (tables : Tables) (shard : ℕ) (history : List Request) (seen : X → List Note) (lists : List X) (bound : Option ℕ) (place : ℕ)
    → IsFine tables shard history seen lists bound → IsFirstMiscounted shard (end_by bound (length history)) seen lists place → IsLeastFault tables shard history seen lists place
at_miscounted tables shard history seen lists bound place fine first = record {
  fault = by_count (cases_lt (notes_at shard place seen lists) 1);
  least = λ before less fault.
      no_fault tables shard history seen lists bound before fine (end_parts bound (length history) before (let within = first.within in omega arith)).0 (λ _. first.before before less) fault;
} where
  by_count : (notes_at shard place seen lists < 1) ⊎ (1 ≤ notes_at shard place seen lists) → FaultAt tables shard history seen lists place
  by_count (inl none) = missing (end_parts bound (length history) place first.within).1 (omega arith)
  by_count (inr some) = let more = first.miscounted in twice (omega (arith, more))

-- where the places below it have one each, the bound is the least fault
pub at_bound : {X : Type 0} (tables : Tables) (shard : ℕ) (history : List Request) (seen : X → List Note) (lists : List X) (wrong bound : Option ℕ) (place : ℕ)
    → IsLowered (λ r. All (λ list. All (IsTrueBelow tables shard history r) (seen list)) lists)
    (λ p. Any (λ list. Any (IsWrongAt tables shard history p) (seen list)) lists) None wrong
    → IsLowered (λ r. All (λ list. AllPairs (IsInOrderBelow shard r) (seen list)) lists) (λ p. Any (λ list. HasLate shard p (seen list)) lists) wrong bound
    → AreOnceBelow shard (end_by bound (length history)) seen lists → bound ≡ Some place → IsLeastFault tables shard history seen lists place
at_bound tables shard history seen lists wrong bound place first second counted is =
    let P : Option ℕ → Type 0 = λ r. (q : ℕ) → q < place → IsBelow q r in
    let under : (q : ℕ) → q < place → IsBelow q bound = subst P (sym is) (λ q less. less) in
    record {
      fault = fault_at tables shard history seen lists wrong bound place first.fault second.fault is;
      least = λ before less fault.
          no_fault tables shard history seen lists bound before (fine_below tables shard history seen lists wrong bound first second) (under before less)
          (λ within. counted before (end_from bound (length history) before (under before less) within)) fault;
    }
