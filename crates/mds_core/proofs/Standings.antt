-- How what is known of a vehicle grows with one more request about it.
use Rattle.std.proofs.Common.{◌≡◌, ℕ, ◌+◌, ◌||◌, ◌<◌, ◌≤◌, take, get_or, cond, not, arith, length-take-le, List, [], ◌∷◌, ◌++◌, length, Option, Some, None, Bool, refl, sym, ◌∙◌, ap, subst, length-append}
use Rattle.std.specs.List.{filter_map, last_or, list_any}
use Rattle.std.specs.Option.{unwrap_or, option_or, option_map, option_map_or}
use Rattle.std.specs.Str.{bytes_eq}
use Rattle.std.proofs.lemmas.List.{append-nil}
use Rattle.std.proofs.lemmas.List.Elements.{filter_map-append, filter_more}
use Rattle.std.proofs.lemmas.List.Filters.{length-filter_both}
use Rattle.std.proofs.lemmas.List.Folds.{list_any-append}
use Rattle.mds_table.specs.declared.state.State.TheVariants.{Removed}
use Rattle.mds_core.specs.declared.key.Key.{Key}
use Rattle.mds_core.specs.declared.position.Position.{Position}
use Rattle.mds_core.specs.declared.reply.Standing.{Standing}
use Rattle.mds_core.specs.declared.request.Request.{Request}
use Rattle.mds_core.specs.declared.request.Request.TheVariants.{Register, Report, Look}
use Rattle.mds_core.specs.Reported.{Reported}
use Rattle.mds_core.specs.History.{key_of, same_key, requests_of, report_of, reports, has_event, last_report, last_position, state_of, last_time, standing_of}
use Rattle.mds_core.specs.declared.decision.Known.{Known}
use Rattle.mds_core.specs.Known.{standing_if, is_repeated, AreKnown}

-- the last of a list with one item more is that item
last_or-push : {X : Type 0} (o : Option X) (xs : List X) (x : X) → last_or o (xs ++ x ∷ []) ≡ Some x
last_or-push o [] x = refl
last_or-push o (y ∷ ys) x = last_or-push (Some y) ys x

pub reports-push : (requests : List Request) (event : Reported) → reports (requests ++ Report event ∷ []) ≡ reports requests ++ event ∷ []
reports-push requests event = filter_map-append report_of requests (Report event ∷ [])

last_report-push : (requests : List Request) (event : Reported) → last_report (requests ++ Report event ∷ []) ≡ Some event
last_report-push requests event = ap (last_or None) (reports-push requests event) ∙ last_or-push None (reports requests) event

-- after an event a vehicle holds the state reported
pub state_of-push : (requests : List Request) (event : Reported) → state_of (requests ++ Report event ∷ []) ≡ event.state
state_of-push requests event = ap (λ report. option_map_or (λ e. e.state) report Removed) (last_report-push requests event)

last_time-push : (requests : List Request) (event : Reported) → last_time (requests ++ Report event ∷ []) ≡ Some event.time
last_time-push requests event = ap (option_map (λ e. e.time)) (last_report-push requests event)

last_position-push : (requests : List Request) (event : Reported) → last_position (requests ++ Report event ∷ []) ≡ option_or event.position (last_position requests)
last_position-push requests event =
    let positions : List Reported → List Position = filter_map (λ e. e.position) in
    ap (λ events. last_or None (positions events)) (reports-push requests event)
    ∙ ap (last_or None) (filter_map-append (λ e. e.position) (reports requests) (event ∷ []))
    ∙ carried (positions (reports requests)) event where
      carried : (earlier : List Position) (e : Reported) → last_or None (earlier ++ filter_map (λ x. x.position) (e ∷ [])) ≡ option_or e.position (last_or None earlier)
      carried earlier e = by_position e.position where
        by_position : (position : Option Position) → last_or None (earlier ++ filter_map (λ p. p) (position ∷ [])) ≡ option_or position (last_or None earlier)
        by_position None = ap (last_or None) (append-nil earlier)
        by_position (Some position) = last_or-push None earlier position

events-push : (requests : List Request) (event : Reported) → length (reports (requests ++ Report event ∷ [])) ≡ length (reports requests) + 1
events-push requests event = ap length (reports-push requests event) ∙ length-append (reports requests) (event ∷ [])

-- where a vehicle stands after one more event
pub standing_of-push : (requests : List Request) (event : Reported) → standing_of (requests ++ Report event ∷ [])
    ≡ record { state = event.state; events = length (reports requests) + 1; last = Some event.time; position = option_or event.position (last_position requests) }
standing_of-push requests event = λ i. record {
  state = state_of-push requests event i;
  events = events-push requests event i;
  last = last_time-push requests event i;
  position = last_position-push requests event i;
}

standing_of-same : (requests others : List Request) → reports requests ≡ reports others → standing_of requests ≡ standing_of others
standing_of-same requests others same = λ i. record {
  state = option_map_or (λ event. event.state) (last_or None (same i)) Removed;
  events = length (same i);
  last = option_map (λ event. event.time) (last_or None (same i));
  position = last_or None (filter_map (λ event. event.position) (same i));
}

-- a request that reports nothing leaves a vehicle where it stands
pub standing_of-push_none : (requests : List Request) (request : Request) → report_of request ≡ None → standing_of (requests ++ request ∷ []) ≡ standing_of requests
standing_of-push_none requests request none = standing_of-same (requests ++ request ∷ []) requests
    (filter_map-append report_of requests (request ∷ []) ∙ nothing (report_of request) none) where
      nothing : (report : Option Reported) → report ≡ None → reports requests ++ filter_map (λ r. r) (report ∷ []) ≡ reports requests
      nothing report is = rw (is, append-nil) refl

-- a vehicle with one request more is registered
pub standing_if-push : (requests : List Request) (request : Request) → standing_if (requests ++ request ∷ []) ≡ Some (standing_of (requests ++ request ∷ []))
standing_if-push [] request = refl
standing_if-push (first ∷ rest) request = refl

-- no more events than requests
pub reports_few : (requests : List Request) → length (reports requests) ≤ length requests
reports_few [] = omega arith
reports_few (Register key ∷ rest) = omega (arith, reports_few rest)
reports_few (Report event ∷ rest) = omega (arith, reports_few rest)
reports_few (Look key ∷ rest) = omega (arith, reports_few rest)

-- the own list of a front of the history, and of the front with one request more
pub own_more : (history : List Request) (i : ℕ) (request : Request) (key : Key) → i < length history → request ≡ get_or history i request
    → requests_of (take (i + 1) history) key ≡ requests_of (take i history) key ++ cond (same_key (key_of request) key) (request ∷ []) []
own_more history i request key within is =
    let P : Request → Type 0 = λ r. requests_of (take (i + 1) history) key ≡ requests_of (take i history) key ++ cond (same_key (key_of r) key) (r ∷ []) [] in
    subst P (sym is) (filter_more (λ r. same_key (key_of r) key) history i request within)

-- it has no more requests than the front
pub own_few : (history : List Request) (i : ℕ) (key : Key) → i ≤ length history → length (reports (requests_of (take i history) key)) ≤ i
own_few history i key within =
    let p : Request → Bool = λ r. same_key (key_of r) key in
    omega (arith, reports_few (requests_of (take i history) key), length-filter_both p (λ r. not (p r)) (λ r. refl) (take i history), length-take-le i history within)

-- a vehicle that isn't registered stands as one that was just registered would
pub standing_if-unwrapped : (requests : List Request) → unwrap_or (standing_if requests) (record { state = Removed; events = 0; last = None; position = None }) ≡ standing_of requests
standing_if-unwrapped [] = refl
standing_if-unwrapped (request ∷ rest) = refl

-- an event with an identifier stands in one part or the other
pub has_event-append : (id : List ℕ) (first second : List Request) → has_event (first ++ second) id ≡ (has_event first id || has_event second id)
has_event-append id first second =
    ap (list_any (λ e. bytes_eq e.id id)) (filter_map-append report_of first second)
    ∙ list_any-append (λ e. bytes_eq e.id id) (reports first) (reports second)

-- an identifier is repeated where it stands in one part or the other
pub is_repeated-append : (first second : List Request) (asked : Request) → is_repeated (first ++ second) asked ≡ (is_repeated first asked || is_repeated second asked)
is_repeated-append first second (Register key) = refl
is_repeated-append first second (Look key) = refl
is_repeated-append first second (Report event) = has_event-append event.id first second

-- what is known after one more request about the vehicle
pub known-push : (requests : List Request) (request asked : Request) (known : Known) (standing : Standing) (has : Bool) → AreKnown requests asked known
    → standing ≡ standing_of (requests ++ request ∷ []) → has ≡ (known.has_event || is_repeated (request ∷ []) asked)
    → AreKnown (requests ++ request ∷ []) asked (record { standing = Some standing; has_event = has })
known-push requests request asked known standing has are stands is = record {
  standing = ap Some stands ∙ sym (standing_if-push requests request);
  has_event = is ∙ ap (λ b. b || is_repeated (request ∷ []) asked) are.has_event ∙ sym (is_repeated-append requests (request ∷ []) asked);
}
