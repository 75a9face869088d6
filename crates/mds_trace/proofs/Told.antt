-- What a replay tells of a vehicle's states, and what a session over its accepted events shows.
use Rattle.std.proofs.Common.{◌≡◌, ◌+◌, ℕ, zero, suc, true, List, [], ◌∷◌, ◌++◌, length, take, cond, slice_get, Some, None, sym, ap, subst, ◌∙◌, add-one, arith, length-append}
use Rattle.std.specs.List.{AllZip, last_or}
use Rattle.std.specs.Option.{option_map_or}
use Rattle.std.proofs.lemmas.List.Elements.{filter-append}
use Rattle.mds_table.specs.declared.state.State.{State}
use Rattle.mds_table.specs.declared.state.State.TheVariants as state
use Rattle.mds_table.specs.Tables.{Tables}
use Rattle.mds_core.specs.declared.key.Key.{Key}
use Rattle.mds_core.specs.declared.reply.Standing.{Standing}
use Rattle.mds_core.specs.Reported.{Reported}
use Rattle.mds_core.specs.History.{same_key, standing_of}
use Rattle.mds_core.proofs.Histories.{same_key_refl}
use Rattle.mds_batch.specs.declared.item.EventItem.{EventItem}
use Rattle.mds_batch.specs.declared.item.EventItem.TheVariants.{Event, Fault as Faulty}
use Rattle.mds_trace.specs.declared.report.Opening.{Opening}
use Rattle.mds_trace.specs.declared.report.Opening.TheVariants.{Removed}
use Rattle.mds_trace.specs.declared.report.Verdict.{Verdict}
use Rattle.mds_trace.specs.declared.report.Verdict.TheVariants.{Accepted, Refused, NoOpening, Fault}
use Rattle.mds_trace.specs.declared.report.VehicleEnd.{VehicleEnd}
use Rattle.mds_trace.specs.Items.{events_of, vehicles_of}
use Rattle.mds_trace.specs.Replay.{accepted_by, accepted_of, prior_of, as_requests, IsEnd, IsVerdict}
use Rattle.mds_trace.specs.Session.{held_at}
use Rattle.mds_trace.specs.SessionLaws.{accepted_before, SessionsShowReports}
use Rattle.mds_trace.proofs.Accepted.{accepted_events_open}
use Rattle.mds_trace.proofs.Lawful.{reports_of, held_is}

-- behind a front of a list stands what stands in the rest
behind : (xs ys : List Reported) (n : ℕ) → slice_get (xs ++ ys) (length xs + n) ≡ slice_get ys n
behind [] ys n =
    let place : length {A = Reported} [] + n ≡ n = omega arith in
    ap (λ k. slice_get ys k) place
behind (x ∷ xs) ys n =
    let place : length (x ∷ xs) + n ≡ suc (length xs + n) = omega arith in
    ap (λ k. slice_get (x ∷ (xs ++ ys)) k) place ∙ behind xs ys n

-- an accepted event of the vehicle stands among its accepted events behind those of the items before it
pub stands_behind : (key : Key) (i : ℕ) (items : List EventItem) (lines : List Verdict) (event : Reported) (state : State)
    → slice_get items i ≡ Some (Event event) → same_key event.key key ≡ true → slice_get lines i ≡ Some (Accepted state)
    → slice_get (prior_of key (accepted_of items lines)) (length (accepted_before items lines key i)) ≡ Some event
stands_behind key i [] lines event state there same told = absurd (cc)
stands_behind key i (item ∷ items) [] event state there same told = absurd (cc)
stands_behind key zero (Event one ∷ items) (Accepted other ∷ lines) event state there same told =
    let here : one ≡ event = cc in
    ap (λ b. slice_get (cond b (one ∷ prior_of key (accepted_of items lines)) (prior_of key (accepted_of items lines))) 0)
    (ap (λ (it : Reported). same_key it.key key) here ∙ same) ∙ ap Some here
stands_behind key zero (Event one ∷ items) (Refused refusal ∷ lines) event state there same told = absurd (cc)
stands_behind key zero (Event one ∷ items) (NoOpening at ∷ lines) event state there same told = absurd (cc)
stands_behind key zero (Event one ∷ items) (Fault fault ∷ lines) event state there same told = absurd (cc)
stands_behind key zero (Faulty fault ∷ items) (line ∷ lines) event state there same told = absurd (cc)
stands_behind key (suc i) (item ∷ items) (line ∷ lines) event state there same told =
    let mine = λ (e : Reported). same_key e.key key in
    let first = prior_of key (accepted_by item line) in
    let before = accepted_before items lines key i in
    let whole : prior_of key (accepted_of (item ∷ items) (line ∷ lines)) ≡ first ++ prior_of key (accepted_of items lines) =
    filter-append mine (accepted_by item line) (accepted_of items lines) in
    let front : accepted_before (item ∷ items) (line ∷ lines) key (suc i) ≡ first ++ before =
    filter-append mine (accepted_by item line) (accepted_of (take i items) (take i lines)) in
    ap (λ (all : List Reported). slice_get all (length (accepted_before (item ∷ items) (line ∷ lines) key (suc i)))) whole
    ∙ ap (λ n. slice_get (first ++ prior_of key (accepted_of items lines)) n) (ap length front ∙ length-append first before)
    ∙ behind first (prior_of key (accepted_of items lines)) (length before)
    ∙ stands_behind key i items lines event state there same told

-- the state that a session holds behind an event is the one that it reports
pub held_behind : (from : State) (events : List Reported) (n : ℕ) (event : Reported) → slice_get events n ≡ Some event → held_at from events (n + 1) ≡ event.state
held_behind from events n event there = rw add-one (ap (λ one. option_map_or (λ (it : Reported). it.state) one from) there)

-- a verdict that accepts tells the state that its event reports
told_is_reported : (tables : Tables) (accepted : List Reported) (event : Reported) (state : State) → IsVerdict Removed tables accepted (Event event) (Accepted state)
    → event.state ≡ state
told_is_reported tables accepted event state is = sym is.0

-- an end of a report is the end of its vehicle
pub end_of : (opening : Opening) (tables : Tables) (accepted : List Reported) (keys : List Key) (ends : List VehicleEnd) (n : ℕ) (end : VehicleEnd)
    → AllZip (IsEnd opening tables accepted) keys ends → slice_get ends n ≡ Some end → IsEnd opening tables accepted end.key end
end_of opening tables accepted [] [] n end are there = absurd (cc)
end_of opening tables accepted [] (one ∷ ends) n end are there = absurd are
end_of opening tables accepted (key ∷ keys) [] n end are there = absurd are
end_of opening tables accepted (key ∷ keys) (one ∷ ends) zero end are there =
    let here : one ≡ end = cc in
    subst (λ (it : VehicleEnd). IsEnd opening tables accepted it.key it) here (subst (λ (it : Key). IsEnd opening tables accepted it one) (sym are.0.key_is) are.0)
end_of opening tables accepted (key ∷ keys) (one ∷ ends) (suc n) end are there = end_of opening tables accepted keys ends n end are.1 there

-- the state held after all events is the one in which the vehicle stands
pub held_at_end : (key : Key) (events : List Reported) (standing : Standing) → Some (standing_of (as_requests key events)) ≡ Some standing
    → held_at state.Removed events (length events) ≡ standing.state
held_at_end key events standing same =
    let is : standing_of (as_requests key events) ≡ standing = cc in
    sym (ap (λ (all : List Reported). option_map_or (λ (it : Reported). it.state) (last_or None all) state.Removed) (reports_of events) ∙ held_is events)
    ∙ ap (λ (it : Standing). it.state) is

pub sessions_show_reports : SessionsShowReports
sessions_show_reports tables items report n end is at = record {
  opens = accepted_events_open tables items report.lines.items end.key is.lines;
  told = λ i event reported there same told.
      let accepted = prior_of end.key (accepted_of items report.lines.items) in
      let own : same_key event.key end.key ≡ true = subst (λ key. same_key event.key key ≡ true) same (same_key_refl event.key) in
      held_behind state.Removed accepted (length (accepted_before items report.lines.items end.key i)) event (stands_behind end.key i items report.lines.items event reported there own told)
      ∙ told_is_reported tables (accepted_of (take i items) (take i report.lines.items)) event reported (is.lines.each i (Event event) (Accepted reported) there told);
  ended = λ standing stands.
      let accepted = accepted_of items report.lines.items in
      held_at_end end.key (prior_of end.key accepted) standing
      (sym (end_of Removed tables accepted (vehicles_of (events_of items)) report.vehicles.items n end is.vehicles at).standing ∙ stands);
}
