-- The accepted events of a vehicle in a replay with no opening given, and sessions over them from each state.
use Rattle.std.proofs.Common.{◌≡◌, ◌↔◌, true, List, [], ◌∷◌, ◌++◌, length, take, get_or, slice_get, Some, None, Contains, refl, sym, ap, subst, ◌∙◌, arith}
use Rattle.std.specs.List.{All, last_or}
use Rattle.std.specs.Option.{option_map_or}
use Rattle.std.proofs.lemmas.List.Elements.{All-nil}
use Rattle.std.proofs.lemmas.Option.{slice_get-get_or}
use Rattle.mds_table.specs.declared.state.State.{State}
use Rattle.mds_table.specs.declared.state.State.TheVariants as state
use Rattle.mds_table.specs.Tables.{Tables, rows_at}
use Rattle.mds_table.specs.Chain.{Leads}
use Rattle.mds_table.proofs.Adding.{among_all}
use Rattle.mds_core.specs.declared.key.Key.{Key}
use Rattle.mds_core.specs.declared.reply.Standing.{Standing}
use Rattle.mds_core.specs.Reported.{Reported}
use Rattle.mds_core.specs.History.{same_key, state_of}
use Rattle.mds_core.proofs.Histories.{same_key_refl}
use Rattle.mds_batch.specs.declared.item.EventItem.TheVariants.{Event}
use Rattle.mds_trace.specs.declared.report.Opening.TheVariants.{Any}
use Rattle.mds_trace.specs.declared.report.Verdict.TheVariants.{Accepted}
use Rattle.mds_trace.specs.Items.{events_of, vehicles_of}
use Rattle.mds_trace.specs.Replay.{accepted_of, prior_of, as_requests, standing_after, AreOpeningsOf, IsVerdictOn}
use Rattle.mds_trace.specs.Session.{AreOpenFrom, held_at, IsNewAfter, FollowsOn}
use Rattle.mds_trace.specs.SessionLaws.{accepted_before}
use Rattle.mds_trace.specs.MidwayLaws.{MidwaySessionsShowReports}
use Rattle.mds_trace.proofs.SessionLemmas.{none_open, open_push, order_more}
use Rattle.mds_trace.proofs.Lawful.{open_further, reports_of, held_is}
use Rattle.mds_trace.proofs.Accepted.{each_vehicle}
use Rattle.mds_trace.proofs.Told.{stands_behind, held_behind, end_of, held_at_end}

-- behind some events the state held before them doesn't count
held_any : (from other : State) (first : Reported) (later : List Reported)
    → held_at from (first ∷ later) (length (first ∷ later)) ≡ held_at other (first ∷ later) (length (first ∷ later))
held_any from other first later =
    let last = get_or (first ∷ later) (length later) first in
    let at : slice_get (first ∷ later) (length later) ≡ Some last = slice_get-get_or (first ∷ later) (length later) first (omega arith) in
    let held : (start : State) → option_map_or (λ (one : Reported). one.state) (slice_get (first ∷ later) (length later)) start ≡ last.state =
    λ start. ap (λ one. option_map_or (λ (one : Reported). one.state) one start) at in
    held from ∙ sym (held other)

-- the state of a vehicle after a registration and some events is the one held behind them
held_now : (key : Key) (from : State) (first : Reported) (later : List Reported)
    → state_of (as_requests key (first ∷ later)) ≡ held_at from (first ∷ later) (length (first ∷ later))
held_now key from first later =
    ap (λ events. option_map_or (λ (one : Reported). one.state) (last_or None events) state.Removed) (reports_of (first ∷ later)) ∙ held_is (first ∷ later)
    ∙ held_any state.Removed from first later

module _ (tables : Tables) where
  -- rows lead from this state to the one that the first of the events reports
  abbrev MayOpen : State → List Reported → Type 0
  MayOpen from [] = Unit {0}
  MayOpen from (first ∷ later) = Leads (rows_at tables first.time) from first.types first.state

  abbrev OpensFromEach : List Reported → Type 0
  OpensFromEach events = (from : State) → MayOpen from events → AreOpenFrom tables from events

  -- one more event is accepted
  opens_further : (prior : List Reported) (event : Reported) (told : State) → All (λ (one : Reported). one.key ≡ event.key) prior → OpensFromEach prior
      → IsVerdictOn Any tables prior event (Accepted told) → OpensFromEach (prior ++ event ∷ [])
  opens_further [] event told keys before is from leads =
      let new : IsNewAfter [] event = All-nil _ in
      let next : FollowsOn [] event = λ last at. absurd (cc) in
      open_push tables from [] event (none_open tables from) (order_more [] event (none_open tables from).order new next) leads
  opens_further (first ∷ later) event told keys before is from leads =
      open_further tables event.key event.key from (first ∷ later) event keys refl (before from leads) is.1.0
      (subst (λ state. Leads (rows_at tables event.time) state event.types event.state) (held_now event.key from first later) is.1.1)

  -- from the openings of the events of a vehicle, and from no other state
  from_each : (events : List Reported) (openings : List State) → AreOpeningsOf Any tables events openings → OpensFromEach events
      → (from : State) → Contains openings from ↔ AreOpenFrom tables from events
  from_each [] openings are opens from =
      (λ there. none_open tables from, λ is_open. subst (λ states. Contains states from) (sym are) (among_all from))
  from_each (first ∷ later) openings are opens from = (λ there. opens from ((are.1 from).0 there), λ is_open. (are.1 from).1 (is_open.lead 0 first refl))

  -- a verdict that accepts tells the state that its event reports
  told_state : (prior : List Reported) (event : Reported) (told : State) → IsVerdictOn Any tables prior event (Accepted told) → event.state ≡ told
  told_state [] event told is = sym is.0
  told_state (first ∷ later) event told is = sym is.0

-- the state held at the end is the one in which the vehicle stands
held_in_the_end : (key : Key) (from : State) (events : List Reported) (standing : Standing) → standing_after Any key events ≡ Some standing
    → held_at from events (length events) ≡ standing.state
held_in_the_end key from [] standing same = absurd (cc)
held_in_the_end key from (first ∷ later) standing same = held_any from state.Removed first later ∙ held_at_end key (first ∷ later) standing same

pub midway_sessions_show_reports : MidwaySessionsShowReports
midway_sessions_show_reports tables items report n end is at =
    let lines = report.lines.items in
    let accepted = accepted_of items lines in
    let events = prior_of end.key accepted in
    let ended = end_of Any tables accepted (vehicles_of (events_of items)) report.vehicles.items n end is.vehicles at in
    record {
      opens = from_each tables events end.openings ended.openings
          (each_vehicle Any tables (λ events. OpensFromEach tables events) (opens_further tables) items lines (λ from may. none_open tables from) is.lines end.key);
      told = λ from i event told there same said.
          let own : same_key event.key end.key ≡ true = subst (λ key. same_key event.key key ≡ true) same (same_key_refl event.key) in
          held_behind from events (length (accepted_before items lines end.key i)) event (stands_behind end.key i items lines event told there own said)
          ∙ told_state tables (prior_of event.key (accepted_of (take i items) (take i lines))) event told (is.lines.each i (Event event) (Accepted told) there said);
      ended = λ from standing stands. held_in_the_end end.key from events standing (sym ended.standing ∙ stands);
    }
