-- How a roster goes on with one more request, and what it tells of its history.
use Rattle.std.proofs.Common.{◌≡◌, ◌≢◌, ℕ, ◌≤◌, suc, zero, cond, if◌then◌else◌, List, [], ◌∷◌, ◌++◌, map, length, Some, None, Bool, true, false, refl, sym, ◌∙◌, ap, subst, arith}
use Rattle.std.specs.Prelude.{slice_get, option_map}
use Rattle.std.specs.List.{list_any}
use Rattle.std.specs.Map.{keys_of, lookup}
use Rattle.std.proofs.lemmas.List.{append-nil, map-append, length-map}
use Rattle.std.proofs.lemmas.List.Elements.{filter_map-append}
use Rattle.indexmap.specs.IndexMap.{insert_entry}
use Rattle.indexmap.specs.IndexSet.{insert_all}
use Rattle.mds_table.specs.Tables.{Tables}
use Rattle.mds_core.specs.declared.key.Key.{Key}
use Rattle.mds_core.specs.declared.event_name.EventName.{EventName}
use Rattle.mds_core.specs.declared.request.Request.{Request}
use Rattle.mds_core.specs.declared.request.Request.TheVariants.{Register, Report, Look}
use Rattle.mds_core.specs.declared.reply.Outcome.{Outcome}
use Rattle.mds_core.specs.declared.reply.Outcome.TheVariants.{Done}
use Rattle.mds_core.specs.declared.reply.Standing.{Standing}
use Rattle.mds_core.specs.History.{key_of, same_key, same_event, requests_of, report_of, reports, standing_of}
use Rattle.mds_core.specs.Answer.{Gives, MayBeDone}
use Rattle.mds_core.specs.Known.{standing_if}
use Rattle.mds_core.proofs.Standings.{standing_if-push}
use Rattle.mds_core.proofs.Outcomes.{outcome_one}
use Rattle.mds_core.proofs.Histories.{same_key_is, requests_of-push_same, requests_of-push_other, lawful_next}
use Rattle.mds_known.specs.Kept.{value_of}
use Rattle.mds_known.proofs.Places.{put_new, keys_known}
use Rattle.mds_commands.specs.declared.roster.Roster.{Roster}
use Rattle.mds_commands.specs.Roster.{Standings, registration_of, registered_in, standings_in, name_of, names_in, IsRosterOf, PutsStanding}
use Rattle.mds_commands.proofs.NameLemmas.{named}

-- a registered vehicle is there
standing_there : (requests : List Request) → requests ≢ [] → standing_if requests ≡ Some (standing_of requests)
standing_there [] some = absurd (some refl)
standing_there (request ∷ rest) some = refl

-- where every vehicle stands, with one more request
standings_push : (history : List Request) (request : Request) (old new : Standings) (standing : Standing)
    → ((key : Key) → value_of old key ≡ standing_if (requests_of history key))
    → standing ≡ standing_of (requests_of history (key_of request) ++ request ∷ [])
    → PutsStanding (key_of request) standing old new
    → (key : Key) → value_of new key ≡ standing_if (requests_of (history ++ request ∷ []) key)
standings_push history request old new standing each stands puts key = puts.found key ∙ by_key (same_key (key_of request) key) refl where
  by_key : (b : Bool) → same_key (key_of request) key ≡ b → cond b (Some standing) (value_of old key) ≡ standing_if (requests_of (history ++ request ∷ []) key)
  by_key false other = each key ∙ ap standing_if (sym (requests_of-push_other history request key other))
  by_key true same =
      let own : requests_of history (key_of request) ≡ requests_of history key = ap (requests_of history) (same_key_is (key_of request) key same) in
      ap Some (stands ∙ ap (λ l. standing_of (l ++ request ∷ [])) own) ∙ sym (standing_if-push (requests_of history key) request)
      ∙ ap standing_if (sym (requests_of-push_same history request key same))

-- the order of the vehicles, with one more request
order_push : (tables : Tables) (history : List Request) (request : Request) (old new : Standings) (standing : Standing) → MayBeDone tables history request
    → ((key : Key) → value_of old key ≡ standing_if (requests_of history key)) → keys_of old ≡ registered_in history
    → PutsStanding (key_of request) standing old new → keys_of new ≡ registered_in (history ++ request ∷ [])
order_push tables history request old new standing may each order puts =
    ap keys_of puts.entries ∙ by_request request may ∙ sym (filter_map-append registration_of history (request ∷ [])) where
      by_request : (request : Request) → MayBeDone tables history request → keys_of (insert_entry same_key old (key_of request) standing) ≡ registered_in history ++ registered_in (request ∷ [])
      by_request (Register key) may =
          let absent : value_of old key ≡ None = each key ∙ ap standing_if may in
          ap keys_of (put_new old key standing absent) ∙ map-append (λ e. e.0) old ((key, standing) ∷ []) ∙ ap (λ all. all ++ key ∷ []) order
      by_request (Report event) may =
          let there : value_of old event.key ≡ Some (standing_of (requests_of history event.key)) =
          each event.key ∙ standing_there (requests_of history event.key) may.0.registered in
          keys_known old event.key standing (rw there refl) ∙ order ∙ sym (append-nil (registered_in history))
      by_request (Look key) may = absurd may

-- the names of the events, with one more request
names_push : (tables : Tables) (history : List Request) (request : Request) (names : List EventName) → MayBeDone tables history request → names ≡ names_in history
    → insert_all same_event names (names_in (request ∷ [])) ≡ names_in (history ++ request ∷ [])
names_push tables history request names may are = by_request request may ∙ ap (λ all. all ++ names_in (request ∷ [])) are ∙ sym pushed where
  pushed : names_in (history ++ request ∷ []) ≡ names_in history ++ names_in (request ∷ [])
  pushed = ap (map name_of) (filter_map-append report_of history (request ∷ [])) ∙ map-append name_of (reports history) (reports (request ∷ []))

  by_request : (request : Request) → MayBeDone tables history request → insert_all same_event names (names_in (request ∷ [])) ≡ names ++ names_in (request ∷ [])
  by_request (Register key) may = sym (append-nil names)
  by_request (Report event) may =
      let new : list_any (same_event (name_of event)) names ≡ false = ap (list_any (same_event (name_of event))) are ∙ named (name_of event) history ∙ may.0.new in
      ap (λ b. if b then names else names ++ name_of event ∷ []) new
  by_request (Look key) may = absurd may

-- a roster goes on with a request that is accepted
pub roster_push : (tables : Tables) (history : List Request) (request : Request) (old new : Roster) (standing : Standing) → IsRosterOf tables history old
    → MayBeDone tables history request → standing ≡ standing_of (requests_of history (key_of request) ++ request ∷ [])
    → PutsStanding (key_of request) standing old.known.entries new.known.entries
    → new.known.names ≡ insert_all same_event old.known.names (names_in (request ∷ []))
    → new.tables ≡ old.tables → IsRosterOf tables (history ++ request ∷ []) new
roster_push tables history request old new standing is may stands puts names same = record {
  over = same ∙ is.over;
  lawful = lawful_next tables history request Done is.lawful may;
  standings = standings_push history request old.known.entries new.known.entries standing is.standings stands puts;
  order = order_push tables history request old.known.entries new.known.entries standing may is.standings is.order puts;
  named = names ∙ names_push tables history request old.known.names may is.named;
}

-- a roster of which the entries and names are those of another is of the same history
pub roster_same : (tables : Tables) (history : List Request) (old new : Roster) → IsRosterOf tables history old → new.tables ≡ old.tables
    → new.known.entries ≡ old.known.entries → new.known.names ≡ old.known.names → IsRosterOf tables history new
roster_same tables history old new is same entries names = record {
  over = same ∙ is.over;
  lawful = is.lawful;
  standings = λ key. ap (λ es. lookup (same_key key) es) entries ∙ is.standings key;
  order = ap keys_of entries ∙ is.order;
  named = names ∙ is.named;
}

-- a vehicle has no more events than all have
pub own_few : (history : List Request) (key : Key) → length (reports (requests_of history key)) ≤ length (reports history)
own_few [] key = omega arith
own_few (Register other ∷ rest) key = by_key (same_key other key) (own_few rest key) where
  by_key : (b : Bool) → length (reports (requests_of rest key)) ≤ length (reports rest)
      → length (reports (cond b (Register other ∷ requests_of rest key) (requests_of rest key))) ≤ length (reports rest)
  by_key true few = few
  by_key false few = few
own_few (Look other ∷ rest) key = by_key (same_key other key) (own_few rest key) where
  by_key : (b : Bool) → length (reports (requests_of rest key)) ≤ length (reports rest)
      → length (reports (cond b (Look other ∷ requests_of rest key) (requests_of rest key))) ≤ length (reports rest)
  by_key true few = few
  by_key false few = few
own_few (Report event ∷ rest) key = by_key (same_key event.key key) (own_few rest key) where
  by_key : (b : Bool) → length (reports (requests_of rest key)) ≤ length (reports rest)
      → length (reports (cond b (Report event ∷ requests_of rest key) (requests_of rest key))) ≤ length (event ∷ reports rest)
  by_key true few = omega (arith, few)
  by_key false few = omega (arith, few)

-- there are as many names as events
pub names_count : (tables : Tables) (history : List Request) (roster : Roster) → IsRosterOf tables history roster → length roster.known.names ≡ length (reports history)
names_count tables history roster is = ap length is.named ∙ length-map (reports history) name_of

-- what stands at a place of a list that was made of another
slice_get-map : {X Y : Type 0} (f : X → Y) (xs : List X) (i : ℕ) → slice_get (map f xs) i ≡ option_map f (slice_get xs i)
slice_get-map f [] i = refl
slice_get-map f (x ∷ xs) zero = refl
slice_get-map f (x ∷ xs) (suc i) = slice_get-map f xs i

-- the standing of a vehicle that is registered
stands_so : (requests : List Request) (standing : Standing) → standing_if requests ≡ Some standing → standing_of requests ≡ standing
stands_so [] standing is = absurd cc
stands_so (request ∷ rest) standing is = cc

-- what a roster has at a place
pub vehicle_at : (tables : Tables) (history : List Request) (roster : Roster) (place : ℕ) (key : Key) (standing : Standing) → IsRosterOf tables history roster
    → slice_get roster.known.entries place ≡ Some (key, standing) → value_of roster.known.entries key ≡ Some standing
    → slice_get (standings_in history) place ≡ Some (key, standing)
vehicle_at tables history roster place key standing is at found =
    let there : slice_get (registered_in history) place ≡ Some key =
    ap (λ all. slice_get all place) (sym is.order) ∙ slice_get-map (λ e. e.0) roster.known.entries place ∙ ap (option_map (λ e. e.0)) at in
    let stands = stands_so (requests_of history key) standing (sym (is.standings key) ∙ found) in
    slice_get-map (λ k. (k, standing_of (requests_of history k))) (registered_in history) place
    ∙ ap (option_map (λ k. (k, standing_of (requests_of history k)))) there ∙ ap (λ s. Some (key, s)) stands

-- and where it has nothing
pub no_vehicle_at : (tables : Tables) (history : List Request) (roster : Roster) (place : ℕ) → IsRosterOf tables history roster
    → slice_get roster.known.entries place ≡ None → slice_get (standings_in history) place ≡ None
no_vehicle_at tables history roster place is at =
    let none : slice_get (registered_in history) place ≡ None =
    ap (λ all. slice_get all place) (sym is.order) ∙ slice_get-map (λ e. e.0) roster.known.entries place ∙ ap (option_map (λ e. e.0)) at in
    slice_get-map (λ k. (k, standing_of (requests_of history k))) (registered_in history) place
    ∙ ap (option_map (λ k. (k, standing_of (requests_of history k)))) none

-- the request is accepted where the outcome is that
pub may_be_done : (tables : Tables) (history : List Request) (request : Request) (roster : Roster) (outcome : Outcome) → IsRosterOf tables history roster
    → Gives roster.tables (requests_of history (key_of request)) request outcome → outcome ≡ Done → MayBeDone tables history request
may_be_done tables history request roster outcome is gives done =
    let own = requests_of history (key_of request) in
    subst (λ t. Gives t own request Done) is.over (subst (λ o. Gives roster.tables own request o) done gives)

-- and isn't where it is another one
pub not_done : (tables : Tables) (history : List Request) (request : Request) (roster : Roster) (outcome : Outcome) → IsRosterOf tables history roster
    → Gives roster.tables (requests_of history (key_of request)) request outcome → outcome ≢ Done → MayBeDone tables history request → ⊥
not_done tables history request roster outcome is gives other may =
    let own = requests_of history (key_of request) in
    other (outcome_one tables own request outcome Done (subst (λ t. Gives t own request outcome) is.over gives) may)
