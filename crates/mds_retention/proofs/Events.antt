-- How what is kept of the lines of a vehicle's events goes on, line by line.
use Rattle.std.proofs.Common.{◌≡◌, ◌≢◌, ◌∙◌, ℕ, List, [], ◌∷◌, ◌++◌, length, map, cond, Bool, true, false, Option, Some, None, refl, sym, ap, subst, arith, append-nil}
use Rattle.std.specs.Prelude.{MatchBool, MatchOption}
use Rattle.std.specs.List.{flat_map, AllZip}
use Rattle.std.proofs.lemmas.Grind.{flat_map-append}
use Rattle.std.proofs.lemmas.List.{length_push, length-map, map-append}
use Rattle.mds_core.specs.declared.key.Key.{Key}
use Rattle.mds_core.specs.declared.request.Request.{Request}
use Rattle.mds_core.specs.declared.request.Request.TheVariants.{Register, Report, Look}
use Rattle.mds_core.specs.History.{same_key, key_of, report_of, requests_of}
use Rattle.mds_core.proofs.Histories.{requests_of-push_same, requests_of-push_other}
use Rattle.mds_compact.specs.Compaction.{kept_of}
use Rattle.mds_compact.proofs.Kept.{kept_more}
use Rattle.mds_entries.specs.Entry.{Tells}
use Rattle.mds_groups.specs.Form.{texts_in}
use Rattle.mds_retention.specs.declared.place.Place.{Place}
use Rattle.mds_retention.specs.declared.vehicle_events.VehicleEvents.{VehicleEvents}
use Rattle.mds_retention.specs.Place.{HasAll}
use Rattle.mds_retention.specs.Telling.{IsTaken}
use Rattle.mds_retention.specs.Events.{is_event_of, event_lines, AreEventsOf, HasEvents, HasNothingOf}

-- a line more, by whether it tells an event of the vehicle
lines_more : (key : Key) (history : List Request) (texts : List (List ℕ)) (request : Request) (text : List ℕ) (is : Bool) → length texts ≡ length history → is_event_of key request ≡ is
    → event_lines key (history ++ request ∷ []) (texts ++ text ∷ []) ≡ event_lines key history texts ++ flat_map (λ line. line ++ 10 ∷ []) (cond is (text ∷ []) [])
lines_more key history texts request text is same event =
    let marks = map (is_event_of key) history in
    let as_many : length marks ≡ length texts = length-map history (is_event_of key) ∙ sym same in
    ap (λ all. flat_map (λ line. line ++ 10 ∷ []) (kept_of all (texts ++ text ∷ []))) (map-append (is_event_of key) history (request ∷ []))
    ∙ ap (flat_map (λ line. line ++ 10 ∷ [])) (kept_more marks texts (is_event_of key request) text as_many)
    ∙ flat_map-append (λ line. line ++ 10 ∷ []) (kept_of marks texts) (cond (is_event_of key request) (text ∷ []) [])
    ∙ ap (λ mark. event_lines key history texts ++ flat_map (λ line. line ++ 10 ∷ []) (cond mark (text ∷ []) [])) event

-- what is about another vehicle is no event of this one
of_other : (key : Key) (request : Request) → same_key (key_of request) key ≡ false → is_event_of key request ≡ false
of_other key (Register other) differs = refl
of_other key (Report event) differs = differs
of_other key (Look other) differs = refl

-- nor is what reports none
of_none : (key : Key) (request : Request) → report_of request ≡ None → is_event_of key request ≡ false
of_none key (Register other) none = refl
of_none key (Report event) none = cc
of_none key (Look other) none = refl

-- all else is
of_own : (key : Key) (request : Request) → same_key (key_of request) key ≡ true → (report_of request ≡ None → ⊥) → is_event_of key request ≡ true
of_own key (Register other) same some = absurd (some refl)
of_own key (Report event) same some = same
of_own key (Look other) same some = absurd (some refl)

-- a line more that is about another vehicle
pub events_other : (key : Key) (history : List Request) (texts : List (List ℕ)) (request : Request) (text : List ℕ) (events : VehicleEvents) → same_key (key_of request) key ≡ false
    → length texts ≡ length history → AreEventsOf key history texts events → AreEventsOf key (history ++ request ∷ []) (texts ++ text ∷ []) events
events_other key history texts request text events differs same are =
    let There : List Request → Type 0 = λ requests. MatchBool events.is_there (requests ≢ []) (requests ≡ []) in
    record {
      vehicle = are.vehicle;
      there = subst There (sym (requests_of-push_other history request key differs)) are.there;
      lines = are.lines ∙ sym (lines_more key history texts request text false same (of_other key request differs) ∙ append-nil (event_lines key history texts));
    }

-- the vehicle is there with a line that is about it
there_now : (key : Key) (history : List Request) (request : Request) (is_there : Bool) → same_key (key_of request) key ≡ true → is_there ≡ true
    → MatchBool is_there (requests_of (history ++ request ∷ []) key ≢ []) (requests_of (history ++ request ∷ []) key ≡ [])
there_now key history request is_there own is =
    let some : requests_of (history ++ request ∷ []) key ≢ [] = λ none.
    omega (arith, ap length (sym (requests_of-push_same history request key own) ∙ none), length_push (requests_of history key) request) in
    subst (λ b. MatchBool b (requests_of (history ++ request ∷ []) key ≢ []) (requests_of (history ++ request ∷ []) key ≡ [])) (sym is) some

-- a line more that is about the vehicle, and tells no event
pub events_none : (key : Key) (history : List Request) (texts : List (List ℕ)) (request : Request) (text : List ℕ) (old new : VehicleEvents) → same_key (key_of request) key ≡ true
    → report_of request ≡ None → length texts ≡ length history → AreEventsOf key history texts old → new.key ≡ old.key → new.is_there ≡ true → new.lines.items ≡ old.lines.items
    → AreEventsOf key (history ++ request ∷ []) (texts ++ text ∷ []) new
events_none key history texts request text old new own none same are vehicle there lines = record {
  vehicle = vehicle ∙ are.vehicle;
  there = there_now key history request new.is_there own there;
  lines = lines ∙ are.lines ∙ sym (lines_more key history texts request text false same (of_none key request none) ∙ append-nil (event_lines key history texts));
}

-- a line more that tells an event of the vehicle
pub events_more : (key : Key) (history : List Request) (texts : List (List ℕ)) (request : Request) (text : List ℕ) (old new : VehicleEvents) → same_key (key_of request) key ≡ true
    → (report_of request ≡ None → ⊥) → length texts ≡ length history → AreEventsOf key history texts old → new.key ≡ old.key → new.is_there ≡ true
    → new.lines.items ≡ old.lines.items ++ (text ++ 10 ∷ []) → AreEventsOf key (history ++ request ∷ []) (texts ++ text ∷ []) new
events_more key history texts request text old new own some same are vehicle there lines = record {
  vehicle = vehicle ∙ are.vehicle;
  there = there_now key history request new.is_there own there;
  lines = lines ∙ ap (λ all. all ++ (text ++ 10 ∷ [])) are.lines
      ∙ sym (lines_more key history texts request text true same (of_own key request own some) ∙ ap (λ one. event_lines key history texts ++ one) (append-nil (text ++ 10 ∷ [])));
}

-- what all lines tell
abbrev taken_of : (known : Option (List ℕ)) (texts : List (List ℕ)) (history : List Request) (place : Place) → HasAll known texts place → AllZip Tells texts history → IsTaken known history
taken_of known texts history place all told = record {
  form = place.form;
  lines = all.lines;
  groups = all.groups;
  counted = all.counted;
  journal = all.is.journal;
  told = subst (λ (w : List (List ℕ)). AllZip Tells w history) (sym all.told) told;
}

-- where no more lines count, what is kept is of all of them
pub events_all : (known : Option (List ℕ)) (texts : List (List ℕ)) (history : List Request) (place : Place) (key : Key) (events : VehicleEvents) → HasAll known texts place → AllZip Tells texts history
    → AreEventsOf key history texts events → MatchBool events.is_there (HasEvents key known events.lines.items) (HasNothingOf key known)
events_all known texts history place key events all told are =
    by_there events.is_there are.there where
      lines : events.lines.items ≡ event_lines key history (texts_in all.groups)
      lines = are.lines ∙ ap (event_lines key history) (sym all.told)

      by_there : (there : Bool) → MatchBool there (requests_of history key ≢ []) (requests_of history key ≡ []) → MatchBool there (HasEvents key known events.lines.items) (HasNothingOf key known)
      by_there true some = (history, taken_of known texts history place all told, some, lines)
      by_there false empty = (history, taken_of known texts history place all told, empty)

-- what is found by whether it's there
pub found_if : {A : Type 0} (there : Bool) (found : A) (P : Type 0) (Q : A → Type 0) → MatchBool there (Q found) P → MatchOption (cond there (Some found) None) P Q
found_if true found P Q is = is
found_if false found P Q is = is
