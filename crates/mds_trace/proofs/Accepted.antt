-- The accepted events of a vehicle in a replay, and sessions over them from removed.
use Rattle.std.proofs.Common.{◌≡◌, Bool, true, false, List, [], ◌∷◌, ◌++◌, cond, append_assoc, refl, sym, subst}
use Rattle.std.specs.List.{All}
use Rattle.std.proofs.lemmas.List.{append-nil}
use Rattle.std.proofs.lemmas.List.Elements.{All-nil, All-cons}
use Rattle.mds_table.specs.declared.state.State.{State}
use Rattle.mds_table.specs.declared.state.State.TheVariants as state
use Rattle.mds_table.specs.Tables.{Tables}
use Rattle.mds_core.specs.declared.key.Key.{Key}
use Rattle.mds_core.specs.Reported.{Reported}
use Rattle.mds_core.specs.History.{same_key}
use Rattle.mds_core.proofs.Histories.{same_key_is}
use Rattle.mds_batch.specs.declared.item.EventItem.{EventItem}
use Rattle.mds_batch.specs.declared.item.EventItem.TheVariants.{Event, Fault as Faulty}
use Rattle.mds_trace.specs.declared.report.Opening.{Opening}
use Rattle.mds_trace.specs.declared.report.Opening.TheVariants.{Removed}
use Rattle.mds_trace.specs.declared.report.Verdict.{Verdict}
use Rattle.mds_trace.specs.declared.report.Verdict.TheVariants.{Accepted, Refused, NoOpening, Fault}
use Rattle.mds_trace.specs.Replay.{accepted_by, accepted_of, prior_of, IsVerdict, IsVerdictOn, AreVerdicts}
use Rattle.mds_trace.specs.Session.{AreOpenFrom}
use Rattle.mds_trace.specs.SessionLaws.{AcceptedEventsOpen}
use Rattle.mds_trace.proofs.SessionLemmas.{none_open}
use Rattle.mds_trace.proofs.Lawful.{open_next}
use Rattle.mds_trace.proofs.Turns.{InTurn, in_turn}
use Rattle.mds_trace.proofs.Verdicts.{prior_same, prior_other}

-- the accepted events of a vehicle have its key
prior_keys : (key : Key) (accepted : List Reported) → All (λ (one : Reported). one.key ≡ key) (prior_of key accepted)
prior_keys key [] = All-nil (λ (one : Reported). one.key ≡ key)
prior_keys key (event ∷ accepted) = by_key (same_key event.key key) refl (prior_keys key accepted) where
  by_key : (b : Bool) → same_key event.key key ≡ b → All (λ (one : Reported). one.key ≡ key) (prior_of key accepted)
      → All (λ (one : Reported). one.key ≡ key) (cond b (event ∷ prior_of key accepted) (prior_of key accepted))
  by_key true same rest = All-cons (λ (one : Reported). one.key ≡ key) event (prior_of key accepted) (same_key_is event.key key same) rest
  by_key false other rest = rest

-- what holds of no events, and of an accepted event behind those before it where it held of these, holds of the accepted events of
-- each vehicle
module _ (opening : Opening) (tables : Tables) (P : List Reported → Type 0)
    (next : (prior : List Reported) (event : Reported) (state : State) → All (λ (one : Reported). one.key ≡ event.key) prior → P prior
    → IsVerdictOn opening tables prior event (Accepted state) → P (prior ++ event ∷ [])) where
  abbrev Each : List Reported → Type 0
  Each accepted = (key : Key) → P (prior_of key accepted)

  -- one more event is accepted
  one_accepted : (accepted : List Reported) (event : Reported) (state : State) → Each accepted
      → IsVerdictOn opening tables (prior_of event.key accepted) event (Accepted state) → Each (accepted ++ event ∷ [])
  one_accepted accepted event state each is key = by_key (same_key event.key key) refl where
    by_key : (b : Bool) → same_key event.key key ≡ b → P (prior_of key (accepted ++ event ∷ []))
    by_key true same =
        let prior = prior_of event.key accepted in
        subst (λ k. P (prior_of k (accepted ++ event ∷ []))) (same_key_is event.key key same)
        (subst P (sym (prior_same accepted event (Accepted event.state)))
        (next prior event state (prior_keys event.key accepted) (each event.key) is))
    by_key false other = subst P (sym (prior_other accepted event (Accepted event.state) key other)) (each key)

  -- no event is accepted
  none_more : (accepted : List Reported) → Each accepted → Each (accepted ++ [])
  none_more accepted each = subst (λ events. Each events) (sym (append-nil accepted)) each

  -- one more item is judged
  one_judged : (accepted : List Reported) (item : EventItem) (line : Verdict) → Each accepted → IsVerdict opening tables accepted item line
      → Each (accepted ++ accepted_by item line)
  one_judged accepted (Event event) (Accepted state) each is = one_accepted accepted event state each is
  one_judged accepted (Event event) (Refused refusal) each is = none_more accepted each
  one_judged accepted (Event event) (NoOpening at) each is = none_more accepted each
  one_judged accepted (Event event) (Fault fault) each is = none_more accepted each
  one_judged accepted (Faulty fault) line each is = none_more accepted each

  -- and the rest of them in turn
  rest_judged : (accepted : List Reported) (items : List EventItem) (lines : List Verdict) → Each accepted → InTurn opening tables accepted items lines
      → Each (accepted ++ accepted_of items lines)
  rest_judged accepted [] [] each are = none_more accepted each
  rest_judged accepted [] (line ∷ lines) each are = absurd are
  rest_judged accepted (item ∷ items) [] each are = absurd are
  rest_judged accepted (item ∷ items) (line ∷ lines) each are =
      subst (λ events. Each events) (append_assoc accepted (accepted_by item line) (accepted_of items lines))
      (rest_judged (accepted ++ accepted_by item line) items lines (one_judged accepted item line each are.0) are.1)

  pub each_vehicle : (items : List EventItem) (lines : List Verdict) → P [] → AreVerdicts opening tables items lines → Each (accepted_of items lines)
  each_vehicle items lines none are = rest_judged [] items lines (λ key. none) (in_turn opening tables [] items lines are.count are.each)

pub accepted_events_open : AcceptedEventsOpen
accepted_events_open tables items lines key are =
    each_vehicle Removed tables (λ events. AreOpenFrom tables state.Removed events)
    (λ prior event told keys before is. open_next tables event.key event.key prior event keys refl before is.1.0 is.1.1)
    items lines (none_open tables state.Removed) are key
