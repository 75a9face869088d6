-- The names of events, and what a report's repetition is.
use Rattle.std.proofs.Common.{◌≡◌, ℕ, ◌&&◌, ◌||◌, cond, List, [], ◌∷◌, Some, None, Bool, true, false, refl, sym, ◌∙◌, ap}
use Rattle.std.specs.List.{list_any}
use Rattle.std.specs.Str.{bytes_eq}
use Rattle.std.proofs.lemmas.Slice.Eq.{bytes_eq-Decides}
use Rattle.indexmap.specs.IndexSet.{insert_key, insert_all}
use Rattle.mds_core.specs.declared.event_name.EventName.{EventName}
use Rattle.mds_core.specs.declared.key.Key.{Key}
use Rattle.mds_core.specs.declared.request.Request.{Request}
use Rattle.mds_core.specs.declared.request.Request.TheVariants.{Register, Report, Look}
use Rattle.mds_core.specs.Reported.{Reported}
use Rattle.mds_core.specs.History.{key_of, same_key, same_event, requests_of, report_of, has_event}
use Rattle.mds_core.specs.Known.{is_repeated}
use Rattle.mds_core.proofs.Histories.{same_key_is, same_key_refl}
use Rattle.mds_commands.specs.Roster.{names_in}

-- a test of two values that holds of equal ones alone says the same either way round
either_way : {X : Type 0} (same : X → X → Bool) (a b : X) → (same a b ≡ true → same b a ≡ true) → (same b a ≡ true → same a b ≡ true) → same a b ≡ same b a
either_way same a b there back = by_tests (same a b) (same b a) refl refl where
  by_tests : (one other : Bool) → same a b ≡ one → same b a ≡ other → one ≡ other
  by_tests true true is turned = refl
  by_tests false false is turned = refl
  by_tests true false is turned = sym (there is) ∙ turned
  by_tests false true is turned = sym is ∙ back turned

same_bytes : (a b : List ℕ) → bytes_eq a b ≡ bytes_eq b a
same_bytes a b = either_way bytes_eq a b (turned a b) (turned b a) where
  turned : (x y : List ℕ) → bytes_eq x y ≡ true → bytes_eq y x ≡ true
  turned x y is = (bytes_eq-Decides y x).1 (sym ((bytes_eq-Decides x y).0 is))

same_keys : (a b : Key) → same_key a b ≡ same_key b a
same_keys a b = either_way same_key a b (turned a b) (turned b a) where
  turned : (x y : Key) → same_key x y ≡ true → same_key y x ≡ true
  turned x y is = ap (same_key y) (same_key_is x y is) ∙ same_key_refl y

-- a name is among those of a history where its vehicle has an event with its identifier
pub named : (name : EventName) (history : List Request) → list_any (same_event name) (names_in history) ≡ has_event (requests_of history name.key) name.id
named name [] = refl
named name (Register key ∷ rest) = other (same_key key name.key) (named name rest) where
  other : (b : Bool) → list_any (same_event name) (names_in rest) ≡ has_event (requests_of rest name.key) name.id
      → list_any (same_event name) (names_in rest) ≡ has_event (cond b (Register key ∷ requests_of rest name.key) (requests_of rest name.key)) name.id
  other true is = is
  other false is = is
named name (Look key ∷ rest) = other (same_key key name.key) (named name rest) where
  other : (b : Bool) → list_any (same_event name) (names_in rest) ≡ has_event (requests_of rest name.key) name.id
      → list_any (same_event name) (names_in rest) ≡ has_event (cond b (Look key ∷ requests_of rest name.key) (requests_of rest name.key)) name.id
  other true is = is
  other false is = is
named name (Report event ∷ rest) =
    ap (λ b. (b && bytes_eq name.id event.id) || list_any (same_event name) (names_in rest)) (same_keys name.key event.key)
    ∙ ap (λ b. (same_key event.key name.key && b) || list_any (same_event name) (names_in rest)) (same_bytes name.id event.id)
    ∙ by_key (same_key event.key name.key) (named name rest) where
      by_key : (b : Bool) → list_any (same_event name) (names_in rest) ≡ has_event (requests_of rest name.key) name.id
          → ((b && bytes_eq event.id name.id) || list_any (same_event name) (names_in rest))
          ≡ has_event (cond b (Report event ∷ requests_of rest name.key) (requests_of rest name.key)) name.id
      by_key true is = ap (λ more. bytes_eq event.id name.id || more) is
      by_key false is = is

-- a report is repeated where its identifier is one of its vehicle's events
pub repeated_is : (requests : List Request) (request : Request) (event : Reported) → report_of request ≡ Some event → is_repeated requests request ≡ has_event requests event.id
repeated_is requests (Register key) event is = absurd cc
repeated_is requests (Look key) event is = absurd cc
repeated_is requests (Report other) event is = let same : other ≡ event = cc in ap (λ e. has_event requests e.id) same

-- the name of a report is put to the others
pub name_put : (names : List EventName) (request : Request) (event : Reported) → report_of request ≡ Some event
    → insert_key same_event names (record { key = key_of request; id = event.id }) ≡ insert_all same_event names (names_in (request ∷ []))
name_put names (Register key) event is = absurd cc
name_put names (Look key) event is = absurd cc
name_put names (Report other) event is = let same : event ≡ other = cc in ap (λ e. insert_key same_event names (record { key = other.key; id = e.id })) same

-- and where nothing is reported they stay
pub no_name_put : (names : List EventName) (request : Request) → report_of request ≡ None → names ≡ insert_all same_event names (names_in (request ∷ []))
no_name_put names (Register key) none = refl
no_name_put names (Look key) none = refl
no_name_put names (Report event) none = absurd cc
