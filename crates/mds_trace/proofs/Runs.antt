-- A replay in which each vehicle begins with a registration is a run of the machine.
use Rattle.std.proofs.Common.{◌≡◌, ◌≢◌, ◌⊎◌, inl, inr, ℕ, zero, suc, List, [], ◌∷◌, ◌++◌, length, take, map, slice_get, Contains, Some, None, Bool, true, false, append_assoc, refl, sym, ◌∙◌, ap, subst}
use Rattle.std.specs.List.{filter_map}
use Rattle.std.proofs.lemmas.Bool.{true≢false}
use Rattle.std.proofs.lemmas.List.{append-nil}
use Rattle.std.proofs.lemmas.List.Elements.{Contains-push_cases, filter_map-append}
use Rattle.mds_table.specs.Tables.{Tables}
use Rattle.mds_steps.proofs.Sets.{none_in_empty}
use Rattle.mds_core.specs.declared.key.Key.{Key}
use Rattle.mds_core.specs.declared.request.Request.{Request}
use Rattle.mds_core.specs.declared.request.Request.TheVariants.{Register, Report, Look}
use Rattle.mds_core.specs.declared.reply.Outcome.{Outcome}
use Rattle.mds_core.specs.declared.reply.Outcome.TheVariants.{Done, Seen, Refused as RefusedBy}
use Rattle.mds_core.specs.declared.reply.Refusal.TheVariants.{AlreadyRegistered, Unregistered}
use Rattle.mds_core.specs.declared.reply.Reply.{Reply}
use Rattle.mds_core.specs.Reported.{Reported}
use Rattle.mds_core.specs.History.{requests_of, key_of, same_key, report_of, reports, standing_of}
use Rattle.mds_core.specs.Answer.{Gives, next}
use Rattle.mds_core.specs.Run.{IsRun}
use Rattle.mds_core.proofs.RunLaws.{one_run, accepts_exactly}
use Rattle.mds_core.proofs.Histories.{requests_of-push_same, requests_of-push_other, same_key_is, same_key_refl}
use Rattle.mds_batch.specs.declared.item.EventItem.{EventItem}
use Rattle.mds_batch.specs.declared.item.EventItem.TheVariants.{Event, Fault as Faulty}
use Rattle.mds_trace.specs.declared.report.Opening.TheVariants.{Removed}
use Rattle.mds_trace.specs.declared.report.Verdict.{Verdict}
use Rattle.mds_trace.specs.declared.report.Verdict.TheVariants.{Accepted, Refused, NoOpening, Fault}
use Rattle.mds_trace.specs.Items.{events_of}
use Rattle.mds_trace.specs.Replay.{accepted_by, accepted_of, prior_of, as_requests, IsOutcome, AreVerdicts}
use Rattle.mds_trace.specs.ReplayLaws.{outcome_told, outcome_of_report, outcomes_of_reports, AreOutcomes}
use Rattle.mds_trace.proofs.Turns.{InTurn, in_turn}
use Rattle.mds_trace.proofs.Following.{requests-push}
use Rattle.mds_trace.proofs.Verdicts.{prior_same, prior_other}

-- the outcome that a judged event tells
abbrev told_of : List (Reported × Verdict) → List Outcome
told_of judged = filter_map (λ one. outcome_told one.1) judged

-- and the events that they accept
abbrev accepted_in : List (Reported × Verdict) → List Reported
accepted_in [] = []
accepted_in (one ∷ judged) = accepted_by (Event one.0) one.1 ++ accepted_in judged

module _ (tables : Tables) where
  -- the same over the events alone
  abbrev EventsInTurn : List Reported → List (Reported × Verdict) → Type 0
  EventsInTurn accepted [] = Unit {0}
  EventsInTurn accepted (one ∷ judged) =
      IsOutcome tables (as_requests one.0.key (prior_of one.0.key accepted)) one.0 one.1 × EventsInTurn (accepted ++ accepted_by (Event one.0) one.1) judged

  -- items are judged as their events are
  abbrev AreJudged : List Reported → List EventItem → List Verdict → Type 0
  AreJudged accepted items lines =
      (judged : List (Reported × Verdict)) × EventsInTurn accepted judged × (map (λ one. one.0) judged ≡ events_of items) × (told_of judged ≡ filter_map outcome_told lines)
      × (accepted_in judged ≡ accepted_of items lines)

  without_faults : (accepted : List Reported) (items : List EventItem) (lines : List Verdict) → InTurn Removed tables accepted items lines → AreJudged accepted items lines
  without_faults accepted [] [] are = ([], tt, refl, refl, refl)
  without_faults accepted [] (line ∷ lines) are = absurd are
  without_faults accepted (item ∷ items) [] are = absurd are
  without_faults accepted (Event event ∷ items) (Accepted state ∷ lines) are =
      let rest = without_faults (accepted ++ event ∷ []) items lines are.1 in
      let add : List Reported → List Reported = λ events. event ∷ events in
      ((event, Accepted state) ∷ rest.0, (are.0, rest.1), ap add rest.2, ap (λ told. Done ∷ told) rest.3, ap add rest.4)
  without_faults accepted (Event event ∷ items) (Refused refusal ∷ lines) are =
      let rest = without_faults (accepted ++ []) items lines are.1 in
      ((event, Refused refusal) ∷ rest.0, (are.0, rest.1), ap (λ events. event ∷ events) rest.2, ap (λ told. RefusedBy refusal ∷ told) rest.3, rest.4)
  without_faults accepted (Event event ∷ items) (NoOpening at ∷ lines) are = absurd are.0
  without_faults accepted (Event event ∷ items) (Fault fault ∷ lines) are = absurd are.0
  without_faults accepted (Faulty fault ∷ items) (line ∷ lines) are =
      let rest = without_faults accepted items lines (subst (λ events. InTurn Removed tables events items lines) (append-nil accepted) are.1) in
      (rest.0, rest.1, rest.2, rest.3 ∙ sym (ap (λ one. filter_map outcome_told (one ∷ lines)) are.0), rest.4)

-- nothing is known of a vehicle, which wasn't registered
record IsNew (before : List Request) (accepted : List Reported) (history : List Request) (key : Key) : Type 0 where
  own_list : requests_of history key ≡ []
  prior : prior_of key accepted ≡ []
  absent : Contains before (Register key) → ⊥

-- its own list is a registration and its accepted events
abbrev IsKnown : List Reported → List Request → Key → Type 0
IsKnown accepted history key = requests_of history key ≡ as_requests key (prior_of key accepted)

-- the history holds the accepted events, in their order, behind the registrations of their vehicles
record Fits (before : List Request) (accepted : List Reported) (history : List Request) : Type 0 where
  each : (key : Key) → IsNew before accepted history key ⊎ IsKnown accepted history key
  whole : reports history ≡ accepted

-- a request that registers nobody anew leaves all as it is
fits_more : (before : List Request) (accepted : List Reported) (history : List Request) (request : Request) → Fits before accepted history
    → ((key : Key) → request ≡ Register key → requests_of history key ≡ [] → ⊥) → Fits (before ++ request ∷ []) accepted history
fits_more before accepted history request fits old = record { each = still; whole = fits.whole } where
  still : (key : Key) → IsNew (before ++ request ∷ []) accepted history key ⊎ IsKnown accepted history key
  still key = elim (fits.each key) [
    | inl new ↦ inl (record {
      own_list = new.own_list;
      prior = new.prior;
      absent = λ found. elim (Contains-push_cases before request (Register key) found) [
        | inl earlier ↦ new.absent earlier
        | inr is ↦ old key is new.own_list
      ];
    })
    | inr known ↦ inr known
  ]

-- a vehicle is registered
fits_registered : (before : List Request) (accepted : List Reported) (history : List Request) (key : Key) → Fits before accepted history → IsNew before accepted history key
    → Fits (before ++ Register key ∷ []) accepted (history ++ Register key ∷ [])
fits_registered before accepted history key fits new = record { each = λ other. by_key other (same_key key other) refl; whole = same_reports } where
  same_reports : reports (history ++ Register key ∷ []) ≡ accepted
  same_reports = filter_map-append report_of history (Register key ∷ []) ∙ append-nil (reports history) ∙ fits.whole

  by_key : (other : Key) (b : Bool) → same_key key other ≡ b
      → IsNew (before ++ Register key ∷ []) accepted (history ++ Register key ∷ []) other ⊎ IsKnown accepted (history ++ Register key ∷ []) other
  by_key other true is =
      let same = same_key_is key other is in
      let nothing : requests_of history other ≡ [] = ap (requests_of history) (sym same) ∙ new.own_list in
      let none : prior_of other accepted ≡ [] = ap (λ k. prior_of k accepted) (sym same) ∙ new.prior in
      inr (requests_of-push_same history (Register key) other is ∙ ap (λ all. all ++ Register key ∷ []) nothing ∙ ap (λ k. Register k ∷ []) same ∙ ap (as_requests other) (sym none))
  by_key other false is = elim (fits.each other) [
    | inl still ↦ inl (record {
      own_list = requests_of-push_other history (Register key) other is ∙ still.own_list;
      prior = still.prior;
      absent = λ found. elim (Contains-push_cases before (Register key) (Register other) found) [
        | inl earlier ↦ still.absent earlier
        | inr same ↦ let equal : key ≡ other = cc in absurd (true≢false (sym (same_key_refl key) ∙ ap (same_key key) equal ∙ is))
      ];
    })
    | inr known ↦ inr (requests_of-push_other history (Register key) other is ∙ known)
  ]

-- an event is accepted
fits_accepted : (before : List Request) (accepted : List Reported) (history : List Request) (event : Reported) → Fits before accepted history → IsKnown accepted history event.key
    → Fits (before ++ Report event ∷ []) (accepted ++ event ∷ []) (history ++ Report event ∷ [])
fits_accepted before accepted history event fits known = record { each = λ other. by_key other (same_key event.key other) refl; whole = one_more } where
  one_more : reports (history ++ Report event ∷ []) ≡ accepted ++ event ∷ []
  one_more = filter_map-append report_of history (Report event ∷ []) ∙ ap (λ events. events ++ event ∷ []) fits.whole

  by_key : (other : Key) (b : Bool) → same_key event.key other ≡ b
      → IsNew (before ++ Report event ∷ []) (accepted ++ event ∷ []) (history ++ Report event ∷ []) other ⊎ IsKnown (accepted ++ event ∷ []) (history ++ Report event ∷ []) other
  by_key other true is =
      let same = same_key_is event.key other is in
      let here : requests_of (history ++ Report event ∷ []) event.key ≡ as_requests event.key (prior_of event.key (accepted ++ event ∷ [])) =
      requests_of-push_same history (Report event) event.key (same_key_refl event.key)
      ∙ ap (λ all. all ++ Report event ∷ []) known
      ∙ sym (requests-push event.key (prior_of event.key accepted) event)
      ∙ ap (as_requests event.key) (sym (prior_same accepted event (Accepted event.state))) in
      inr (subst (λ k. requests_of (history ++ Report event ∷ []) k ≡ as_requests k (prior_of k (accepted ++ event ∷ []))) same here)
  by_key other false is =
      let prior = prior_other accepted event (Accepted event.state) other is in
      elim (fits.each other) [
        | inl new ↦ inl (record {
          own_list = requests_of-push_other history (Report event) other is ∙ new.own_list;
          prior = prior ∙ new.prior;
          absent = λ found. elim (Contains-push_cases before (Report event) (Register other) found) [
            | inl earlier ↦ new.absent earlier
            | inr same ↦ cc
          ];
        })
        | inr kept ↦ inr (requests_of-push_other history (Report event) other is ∙ kept ∙ ap (as_requests other) (sym prior))
      ]

-- each report stands behind a registration of its vehicle, here or among the requests before
abbrev pub AreRegistered : List Request → List Request → Type 0
AreRegistered before requests = (i : ℕ) (event : Reported) → slice_get requests i ≡ Some (Report event) → Contains (before ++ take i requests) (Register event.key)

registered_rest : (before : List Request) (request : Request) (rest : List Request) → AreRegistered before (request ∷ rest) → AreRegistered (before ++ request ∷ []) rest
registered_rest before request rest are i event at =
    subst (λ all. Contains all (Register event.key)) (sym (append_assoc before (request ∷ []) (take i rest))) (are (suc i) event at)

-- a vehicle that is registered is known
known_at : (before : List Request) (accepted : List Reported) (history : List Request) (key : Key) → Fits before accepted history → Contains before (Register key)
    → IsKnown accepted history key
known_at before accepted history key fits registered = elim (fits.each key) [
  | inl new ↦ absurd (new.absent registered)
  | inr known ↦ known
]

-- and its own list isn't empty
not_empty : (accepted : List Reported) (history : List Request) (key : Key) → IsKnown accepted history key → requests_of history key ≢ []
not_empty accepted history key known nothing = let none : as_requests key (prior_of key accepted) ≡ [] = sym known ∙ nothing in cc

module _ (tables : Tables) (all : List Request) (events : List Reported) where
  -- a run from a history, whose reports have these outcomes; it keeps these events, of those that all requests register
  abbrev Goes : List Request → List Request → List Outcome → Type 0
  Goes history requests wanted =
      (replies : List Reply) × (new : List Request) × IsRun tables history requests replies new × (outcomes_of_reports requests replies ≡ wanted) × Fits all events new

  abbrev reply_of : List Request → Outcome → Reply
  reply_of history outcome = record { place = length history; outcome = outcome }

  -- a run goes on with a request that reports nothing
  silent : (history : List Request) (request : Request) (outcome : Outcome) (rest : List Request) (wanted : List Outcome)
      → outcome_of_report request (reply_of history outcome) ≡ None → Gives tables (requests_of history (key_of request)) request outcome
      → Goes (next history request outcome) rest wanted → Goes history (request ∷ rest) wanted
  silent history (Register key) outcome rest wanted quiet gives goes =
      (reply_of history outcome ∷ goes.0, goes.1, (record { place = refl; outcome = gives }, goes.2), goes.3, goes.4)
  silent history (Look key) outcome rest wanted quiet gives goes =
      (reply_of history outcome ∷ goes.0, goes.1, (record { place = refl; outcome = gives }, goes.2), goes.3, goes.4)
  silent history (Report event) outcome rest wanted quiet gives goes = cc

  -- and with a report
  reported : (history : List Request) (event : Reported) (outcome : Outcome) (rest : List Request) (wanted : List Outcome) → Gives tables (requests_of history event.key) (Report event) outcome
      → Goes (next history (Report event) outcome) rest wanted → Goes history (Report event ∷ rest) (outcome ∷ wanted)
  reported history event outcome rest wanted gives goes =
      (reply_of history outcome ∷ goes.0, goes.1, (record { place = refl; outcome = gives }, goes.2), ap (λ later. outcome ∷ later) goes.3, goes.4)

  -- what is given after a registration and the accepted events is given after the history
  given : (before : List Request) (accepted : List Reported) (history : List Request) (told event : Reported) (outcome : Outcome) → told ≡ event
      → IsKnown accepted history event.key → Gives tables (as_requests told.key (prior_of told.key accepted)) (Report told) outcome
      → Gives tables (requests_of history event.key) (Report event) outcome
  given before accepted history told event outcome is known gives =
      subst (λ requests. Gives tables requests (Report event) outcome) (sym known)
      (subst (λ e. Gives tables (as_requests e.key (prior_of e.key accepted)) (Report e) outcome) is gives)

  runs_on : (requests before : List Request) (accepted : List Reported) (history : List Request) (judged : List (Reported × Verdict)) → Fits before accepted history
      → EventsInTurn tables accepted judged → reports requests ≡ map (λ one. one.0) judged → AreRegistered before requests
      → before ++ requests ≡ all → accepted ++ accepted_in judged ≡ events → Goes history requests (told_of judged)
  runs_on [] before accepted history [] fits turn same first whole kept =
      let none_left : before ≡ all = sym (append-nil before) ∙ whole in
      let none_more : accepted ≡ events = sym (append-nil accepted) ∙ kept in
      ([], history, refl, refl, subst (λ requests. Fits requests events history) none_left (subst (λ reported. Fits before reported history) none_more fits))
  runs_on [] before accepted history (one ∷ judged) fits turn same first whole kept = absurd (cc)
  runs_on (Register key ∷ requests) before accepted history judged fits turn same first whole kept = elim (fits.each key) [
    | inl new ↦ silent history (Register key) Done requests (told_of judged) refl new.own_list
        (runs_on requests (before ++ Register key ∷ []) accepted (history ++ Register key ∷ []) judged (fits_registered before accepted history key fits new) turn same
        (registered_rest before (Register key) requests first) (append_assoc before (Register key ∷ []) requests ∙ whole) kept)
    | inr known ↦ silent history (Register key) (RefusedBy AlreadyRegistered) requests (told_of judged) refl (not_empty accepted history key known)
        (runs_on requests (before ++ Register key ∷ []) accepted history judged
        (fits_more before accepted history (Register key) fits (λ other is nothing. let equal : other ≡ key = cc in not_empty accepted history key known (sym (ap (requests_of history) equal) ∙ nothing)))
        turn same (registered_rest before (Register key) requests first) (append_assoc before (Register key ∷ []) requests ∙ whole) kept)
  ]
  runs_on (Look key ∷ requests) before accepted history judged fits turn same first whole kept =
      let rest = runs_on requests (before ++ Look key ∷ []) accepted history judged (fits_more before accepted history (Look key) fits (λ other is nothing. cc)) turn same
      (registered_rest before (Look key) requests first) (append_assoc before (Look key ∷ []) requests ∙ whole) kept in
      elim (fits.each key) [
        | inl new ↦ silent history (Look key) (RefusedBy Unregistered) requests (told_of judged) refl new.own_list rest
        | inr known ↦ silent history (Look key) (Seen (standing_of (requests_of history key))) requests (told_of judged) refl (not_empty accepted history key known, refl) rest
      ]
  runs_on (Report event ∷ requests) before accepted history [] fits turn same first whole kept = absurd (cc)
  runs_on (Report event ∷ requests) before accepted history ((told, Accepted state) ∷ judged) fits turn same first whole kept =
      let is : told ≡ event = cc in
      let known = known_at before accepted history event.key fits (subst (λ all. Contains all (Register event.key)) (append-nil before) (first zero event refl)) in
      reported history event Done requests (told_of judged) (given before accepted history told event Done is known turn.0.1)
      (runs_on requests (before ++ Report event ∷ []) (accepted ++ event ∷ []) (history ++ Report event ∷ []) judged (fits_accepted before accepted history event fits known)
      (subst (λ e. EventsInTurn tables (accepted ++ e ∷ []) judged) is turn.1) (cc) (registered_rest before (Report event) requests first)
      (append_assoc before (Report event ∷ []) requests ∙ whole)
      (append_assoc accepted (event ∷ []) (accepted_in judged) ∙ ap (λ e. accepted ++ e ∷ accepted_in judged) (sym is) ∙ kept))
  runs_on (Report event ∷ requests) before accepted history ((told, Refused refusal) ∷ judged) fits turn same first whole kept =
      let is : told ≡ event = cc in
      let known = known_at before accepted history event.key fits (subst (λ all. Contains all (Register event.key)) (append-nil before) (first zero event refl)) in
      reported history event (RefusedBy refusal) requests (told_of judged) (given before accepted history told event (RefusedBy refusal) is known turn.0)
      (runs_on requests (before ++ Report event ∷ []) accepted history judged (fits_more before accepted history (Report event) fits (λ other registers nothing. cc))
      (subst (λ so_far. EventsInTurn tables so_far judged) (append-nil accepted) turn.1) (cc) (registered_rest before (Report event) requests first)
      (append_assoc before (Report event ∷ []) requests ∙ whole) kept)
  runs_on (Report event ∷ requests) before accepted history ((told, NoOpening at) ∷ judged) fits turn same first whole kept = absurd turn.0
  runs_on (Report event ∷ requests) before accepted history ((told, Fault fault) ∷ judged) fits turn same first whole kept = absurd turn.0

pub replayed_run : (tables : Tables) (items : List EventItem) (lines : List Verdict) → AreVerdicts Removed tables items lines → AreOutcomes tables items lines
replayed_run tables items lines are requests same first =
    let judged = without_faults tables [] items lines (in_turn Removed tables [] items lines are.count are.each) in
    let kept = accepted_in judged.0 in
    let nothing : Fits [] [] [] = record {
      each = λ key. inl (record { own_list = refl; prior = refl; absent = none_in_empty (Register key) });
      whole = refl;
    } in
    let run = runs_on tables requests kept requests [] [] [] judged.0 nothing judged.1 (same ∙ sym judged.2) first refl refl in
    record {
      replies = run.0;
      history = run.1;
      run = run.2;
      only = λ others left other. one_run tables [] requests others run.0 left run.1 other run.2;
      exactly = accepts_exactly tables requests run.0 run.1 run.2;
      outcomes = run.3 ∙ judged.3;
      accepted = run.4.whole ∙ judged.4;
      kept = λ key registered. known_at requests kept run.1 key run.4 registered ∙ ap (λ events. as_requests key (prior_of key events)) judged.4;
    }
