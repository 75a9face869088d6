-- What is kept of the vehicles goes on with each event.
use Rattle.std.proofs.Common.{◌≡◌, ℕ, ◌&&◌, ◌||◌, if◌then◌else◌, cond, List, [], ◌∷◌, ◌++◌, map, Bool, true, false, refl, sym, ◌∙◌, ap, subst}
use Rattle.std.specs.List.{list_any}
use Rattle.std.specs.Str.{bytes_eq}
use Rattle.std.proofs.lemmas.Bool.{true≢false}
use Rattle.std.proofs.lemmas.List.{append-nil, map-append}
use Rattle.std.proofs.lemmas.Slice.Eq.{bytes_eq-Decides}
use Rattle.indexmap.specs.IndexMap.{insert_entry}
use Rattle.indexmap.specs.IndexSet.{insert_key}
use Rattle.mds_table.specs.Tables.{Tables}
use Rattle.mds_core.specs.declared.event_name.EventName.{EventName}
use Rattle.mds_core.specs.declared.key.Key.{Key}
use Rattle.mds_core.specs.Reported.{Reported}
use Rattle.mds_core.specs.History.{same_key, same_event, has_event}
use Rattle.mds_core.proofs.Histories.{same_key_is, same_key_refl}
use Rattle.mds_batch.specs.declared.item.EventItem.TheVariants.{Event}
use Rattle.mds_trace.specs.declared.report.Opening.{Opening}
use Rattle.mds_trace.specs.declared.report.Opening.TheVariants.{Removed, Any}
use Rattle.mds_trace.specs.declared.report.Verdict.{Verdict}
use Rattle.mds_trace.specs.declared.report.Verdict.TheVariants.{Accepted, Refused, NoOpening, Fault}
use Rattle.mds_trace.specs.declared.followed.Followed.{Followed}
use Rattle.mds_trace.specs.Verdict.{accepts}
use Rattle.mds_trace.specs.Replay.{accepted_by, prior_of, as_requests, IsVerdictOn}
use Rattle.mds_trace.specs.Followed.{name_of, IsFollowed, AreFollowed}
use Rattle.mds_trace.proofs.Entries.{other_way, none_inserted, apart_insert, inserted}
use Rattle.mds_trace.proofs.Following.{reports-as_requests}
use Rattle.mds_trace.proofs.Verdicts.{prior_same, prior_other}

bytes_eq-sym : (a b : List ℕ) → bytes_eq a b ≡ bytes_eq b a
bytes_eq-sym a b = both (bytes_eq a b) (bytes_eq b a) refl refl where
  both : (one other : Bool) → bytes_eq a b ≡ one → bytes_eq b a ≡ other → one ≡ other
  both true true is back = refl
  both false false is back = refl
  both true false is back = sym ((bytes_eq-Decides b a).1 (sym ((bytes_eq-Decides a b).0 is))) ∙ back
  both false true is back = sym is ∙ (bytes_eq-Decides a b).1 (sym ((bytes_eq-Decides b a).0 back))

-- a name is among those of the accepted events where an accepted event of its vehicle has its identifier
named : (key : Key) (id : List ℕ) (accepted : List Reported)
    → list_any (same_event (record { key = key; id = id })) (map name_of accepted) ≡ list_any (λ event. bytes_eq event.id id) (prior_of key accepted)
named key id [] = refl
named key id (event ∷ accepted) = by_key (same_key event.key key) refl (named key id accepted) where
  by_key : (b : Bool) → same_key event.key key ≡ b
      → list_any (same_event (record { key = key; id = id })) (map name_of accepted) ≡ list_any (λ e. bytes_eq e.id id) (prior_of key accepted)
      → ((same_key key event.key && bytes_eq id event.id) || list_any (same_event (record { key = key; id = id })) (map name_of accepted))
      ≡ list_any (λ e. bytes_eq e.id id) (cond b (event ∷ prior_of key accepted) (prior_of key accepted))
  by_key true is rest =
      let its_own : same_key key event.key ≡ true = ap (same_key key) (same_key_is event.key key is) ∙ same_key_refl key in
      rw (its_own, bytes_eq-sym id event.id, rest) refl
  by_key false is rest =
      let another : same_key key event.key ≡ false = other_way same_key same_key_is same_key_refl event.key key is in
      rw (another, rest) refl

pub repeated_is : (key : Key) (id : List ℕ) (accepted : List Reported) (names : List EventName) → names ≡ map name_of accepted
    → list_any (same_event (record { key = key; id = id })) names ≡ has_event (as_requests key (prior_of key accepted)) id
repeated_is key id accepted names are =
    ap (list_any (same_event (record { key = key; id = id }))) are ∙ named key id accepted
    ∙ sym (ap (list_any (λ event. bytes_eq event.id id)) (reports-as_requests key (prior_of key accepted)))

-- an accepted event has a new identifier
pub accepted_new : (opening : Opening) (tables : Tables) (prior : List Reported) (event : Reported) (line : Verdict) → IsVerdictOn opening tables prior event line
    → accepts line ≡ true → has_event (as_requests event.key prior) event.id ≡ false
accepted_new Removed tables prior event (Accepted state) is done = is.1.0.new
accepted_new Any tables [] event (Accepted state) is done = refl
accepted_new Any tables (first ∷ later) event (Accepted state) is done = is.1.0.new
accepted_new opening tables prior event (Refused refusal) is done = absurd (true≢false (sym done))
accepted_new opening tables prior event (NoOpening at) is done = absurd (true≢false (sym done))
accepted_new opening tables prior event (Fault fault) is done = absurd (true≢false (sym done))

-- its name is put to the others
pub names_more : (opening : Opening) (tables : Tables) (accepted : List Reported) (event : Reported) (line : Verdict) (names : List EventName)
    → names ≡ map name_of accepted → IsVerdictOn opening tables (prior_of event.key accepted) event line → accepts line ≡ true
    → insert_key same_event names (name_of event) ≡ map name_of (accepted ++ accepted_by (Event event) line)
names_more opening tables accepted event line names are is done =
    let new = repeated_is event.key event.id accepted names are ∙ accepted_new opening tables (prior_of event.key accepted) event line is done in
    ap (λ b. if b then names else names ++ name_of event ∷ []) new
    ∙ ap (λ before. before ++ name_of event ∷ []) are
    ∙ sym (map-append name_of accepted (event ∷ []))
    ∙ ap (λ b. map name_of (accepted ++ (if b then event ∷ [] else []))) (sym done)

-- and those of the accepted events stay where it is refused
pub names_stay : (accepted : List Reported) (event : Reported) (line : Verdict) (names : List EventName) → names ≡ map name_of accepted → accepts line ≡ false
    → names ≡ map name_of (accepted ++ accepted_by (Event event) line)
names_stay accepted event line names are refused =
    are ∙ ap (map name_of) (sym (append-nil accepted)) ∙ ap (λ b. map name_of (accepted ++ (if b then event ∷ [] else []))) (sym refused)

-- what is kept of the vehicles goes on with what is kept of the event's own
pub next_followed : (opening : Opening) (tables : Tables) (mentioned : List Key) (accepted : List Reported) (entries : List (Key × Followed)) (names now : List EventName)
    (event : Reported) (line : Verdict) (followed : Followed) → AreFollowed opening tables mentioned accepted entries names
    → IsFollowed opening tables event.key (prior_of event.key accepted ++ accepted_by (Event event) line) followed
    → now ≡ map name_of (accepted ++ accepted_by (Event event) line)
    → AreFollowed opening tables (insert_key same_key mentioned event.key) (accepted ++ accepted_by (Event event) line) (insert_entry same_key entries event.key followed) now
next_followed opening tables mentioned accepted entries names now event line followed are is named_now = record {
  apart = apart_insert same_key same_key_is same_key_refl mentioned event.key are.apart;
  unknown = λ key new.
      let both = none_inserted same_key same_key_is same_key_refl mentioned event.key key new in
      prior_other accepted event line key (other_way same_key same_key_is same_key_refl key event.key both.1) ∙ are.unknown key both.0;
  vehicles = inserted same_key same_key_is same_key_refl Before Now event.key followed
      (λ other vehicle apart held. subst (λ prior. IsFollowed opening tables other prior vehicle) (sym (prior_other accepted event line other apart)) held)
      (subst (λ prior. IsFollowed opening tables event.key prior followed) (sym (prior_same accepted event line)) is)
      mentioned entries are.apart are.vehicles;
  named = named_now;
} where
  Before : Key → Followed → Type 0
  Before key vehicle = IsFollowed opening tables key (prior_of key accepted) vehicle

  Now : Key → Followed → Type 0
  Now key vehicle = IsFollowed opening tables key (prior_of key (accepted ++ accepted_by (Event event) line)) vehicle
