-- What the insertion of a name says, and what a report's repetition is.
use Rattle.std.proofs.Common.{◌≡◌, ◌≢◌, Option, Some, None, ℕ, ◌&&◌, ◌||◌, List, ◌∷◌, ◌++◌, [], Bool, true, false, not, refl, sym, ◌∙◌, ap}
use Rattle.std.specs.List.{list_any}
use Rattle.std.specs.Str.{bytes_eq}
use Rattle.std.proofs.lemmas.List.Folds.{list_any-append}
use Rattle.std.proofs.lemmas.Slice.Eq.{bytes_eq-Decides}
use Rattle.mds_core.specs.declared.event_name.EventName.{EventName}
use Rattle.mds_core.specs.declared.request.Request.{Request}
use Rattle.mds_core.specs.declared.request.Request.TheVariants.{Register, Report, Look}
use Rattle.mds_core.specs.Reported.{Reported}
use Rattle.mds_core.specs.History.{same_key, same_event, key_of, requests_of, report_of, has_event}
use Rattle.mds_core.specs.Known.{is_repeated}
use Rattle.mds_shard.specs.Replay.{AddsName, has_name}

-- what was there, and one more
or_more : (old same id : Bool) → (old || ((same && id) || false)) ≡ (old || (same && (id || false)))
or_more false false id = refl
or_more false true false = refl
or_more false true true = refl
or_more true same id = refl

bytes_eq-sym : (a b : List ℕ) → bytes_eq a b ≡ bytes_eq b a
bytes_eq-sym a b = both (bytes_eq a b) (bytes_eq b a) refl refl where
  both : (one other : Bool) → bytes_eq a b ≡ one → bytes_eq b a ≡ other → one ≡ other
  both true true is back = refl
  both false false is back = refl
  both true false is back = sym ((bytes_eq-Decides b a).1 (sym ((bytes_eq-Decides a b).0 is))) ∙ back
  both false true is back = sym is ∙ (bytes_eq-Decides a b).1 (sym ((bytes_eq-Decides b a).0 back))

same_event-sym : (a b : EventName) → same_event a b ≡ (same_key b.key a.key && bytes_eq b.id a.id)
same_event-sym a b =
    rw (bytes_eq-sym a.key.provider b.key.provider, bytes_eq-sym a.key.device b.key.device, bytes_eq-sym a.id b.id) refl

has_event-one : (request : Request) (event : Reported) (id : List ℕ) → report_of request ≡ Some event → has_event (request ∷ []) id ≡ (bytes_eq event.id id || false)
has_event-one (Register key) event id is = absurd cc
has_event-one (Look key) event id is = absurd cc
has_event-one (Report other) event id is = let same : other ≡ event = cc in ap (λ e. bytes_eq e.id id || false) same

-- what a report's name behind the others says, as the definitions say it
pub adds_name : (request : Request) (event : Reported) (old new : List EventName) → report_of request ≡ Some event
    → new ≡ old ++ record { key = key_of request; id = event.id } ∷ [] → AddsName request old new
adds_name request event old new is behind name =
    ap (list_any (same_event name)) behind
    ∙ list_any-append (same_event name) old (record { key = key_of request; id = event.id } ∷ [])
    ∙ ap (λ b. list_any (same_event name) old || (b || false)) (same_event-sym name (record { key = key_of request; id = event.id }))
    ∙ or_more (list_any (same_event name) old) (same_key (key_of request) name.key) (bytes_eq event.id name.id)
    ∙ ap (λ b. list_any (same_event name) old || (same_key (key_of request) name.key && b)) (sym (has_event-one request event name.id is))

-- a report is repeated where its identifier is held
pub is_repeated_report : (requests : List Request) (request : Request) (event : Reported) → report_of request ≡ Some event → is_repeated requests request ≡ has_event requests event.id
is_repeated_report requests (Register key) event is = absurd cc
is_repeated_report requests (Look key) event is = absurd cc
is_repeated_report requests (Report other) event is = let same : other ≡ event = cc in ap (λ e. has_event requests e.id) same

-- so what is kept of names says whether a request is repeated
pub has_name_is : (history : List Request) (names : List EventName) (request : Request)
    → ((name : EventName) → list_any (same_event name) names ≡ has_event (requests_of history name.key) name.id)
    → has_name names request ≡ is_repeated (requests_of history (key_of request)) request
has_name_is history names (Register key) held = refl
has_name_is history names (Look key) held = refl
has_name_is history names (Report event) held = held (record { key = event.key; id = event.id })

pub not_true : (b : Bool) → true ≡ not b → b ≡ false
not_true false is = refl
not_true true is = absurd cc

-- what isn't something is nothing
pub is_none : {X : Type 0} (o : Option X) → (o ≢ None → ⊥) → o ≡ None
is_none None not = refl
is_none (Some x) not = absurd (not (λ is. cc))
