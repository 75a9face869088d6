-- The events of one vehicle, item by item.
use Rattle.std.proofs.Common.{◌≡◌, ◌+◌, ◌<◌, ◌≤◌, ℕ, List, [], ◌∷◌, ◌++◌, Bool, true, false, if◌then◌else◌, cond, length, refl, sym, ◌∙◌, ap, subst, arith}
use Rattle.std.proofs.lemmas.List.Sums.{sum_by-append, sum_by-cons, count_by-le-length}
use Rattle.std.proofs.lemmas.List.Elements.{filter-append}
use Rattle.mds_core.specs.declared.key.Key.{Key}
use Rattle.mds_core.specs.Reported.{Reported}
use Rattle.mds_core.specs.History.{same_key}
use Rattle.mds_batch.specs.Batch.{max_items}
use Rattle.mds_batch.specs.declared.item.EventItem.{EventItem}
use Rattle.mds_batch.specs.declared.item.EventItem.TheVariants.{Event}
use Rattle.mds_trace.specs.declared.report.Verdict.{Verdict}
use Rattle.mds_trace.specs.Verdict.{accepts}
use Rattle.mds_trace.specs.Replay.{accepted_by, accepted_of, prior_of}
use Rattle.mds_trace.specs.Replayer.{Took}
use Rattle.mds_trace.proofs.Verdicts.{accepted-push}
use Rattle.mds_trace.specs.Vehicle.{is_event_of, told_of, VehicleReplaying, TookOf}

-- an event of another vehicle adds nothing
pub other_adds : (key : Key) (event : Reported) (line : Verdict) → same_key event.key key ≡ false → prior_of key (accepted_by (Event event) line) ≡ []
other_adds key event line other = by_test (accepts line) where
  by_test : (b : Bool) → prior_of key (if b then event ∷ [] else []) ≡ []
  by_test true = ap (λ b. cond b (event ∷ []) []) other
  by_test false = refl

-- one that is refused adds nothing, and an accepted one of the vehicle itself
pub refused_adds : (key : Key) (event : Reported) (line : Verdict) → accepts line ≡ false → prior_of key (accepted_by (Event event) line) ≡ []
refused_adds key event line refused = ap (λ (b : Bool). prior_of key (if b then event ∷ [] else [])) refused

pub accepted_adds : (key : Key) (event : Reported) (line : Verdict) → same_key event.key key ≡ true → accepts line ≡ true
    → prior_of key (accepted_by (Event event) line) ≡ event ∷ []
accepted_adds key event line same accepted =
    ap (λ (b : Bool). prior_of key (if b then event ∷ [] else [])) accepted ∙ ap (λ b. cond b (event ∷ []) []) same

-- one item more was taken: what its verdict accepts of the vehicle is kept behind the rest, and each event of it is counted
pub one_more : (items : List EventItem) (item : EventItem) (line : Verdict) (limit : ℕ) (old new : VehicleReplaying) → max_items ≤ limit
    → TookOf items old → length items < max_items → new.replay.opening ≡ old.replay.opening → new.key ≡ old.key → Took (items ++ item ∷ []) new.replay
    → new.replay.lines ≡ old.replay.lines ++ line ∷ [] → new.accepted ≡ old.accepted ++ prior_of old.key (accepted_by item line)
    → (old.refused < limit → length new.accepted + new.refused ≡ length old.accepted + old.refused + cond (is_event_of old.key item) 1 0)
    → TookOf (items ++ item ∷ []) new
one_more items item line limit old new least took few opening key all lines accepted counted =
    let mine : Reported → Bool = λ event. same_key event.key old.key in
    let kept = accepted ∙ ap (λ events. events ++ prior_of old.key (accepted_by item line)) took.accepted
    ∙ sym (filter-append mine (accepted_of items old.replay.lines) (accepted_by item line))
    ∙ ap (prior_of old.key) (sym (accepted-push items old.replay.lines item line took.replayed.verdicts.count))
    ∙ ap (λ said. prior_of old.key (accepted_of (items ++ item ∷ []) said)) (sym lines)
    ∙ ap (λ k. prior_of k (accepted_of (items ++ item ∷ []) new.replay.lines)) (sym key) in
    let one : EventItem → ℕ = λ other. cond (is_event_of old.key other) 1 0 in
    let within : told_of old.key items ≤ length items = count_by-le-length (is_event_of old.key) items in
    let more : length new.accepted + new.refused ≡ length old.accepted + old.refused + one item = counted (omega (arith, took.counted, within, few, least)) in
    let told : told_of old.key (items ++ item ∷ []) ≡ told_of old.key items + one item =
    omega (arith, sum_by-append one items (item ∷ []), sum_by-cons one item []) in
    record {
      opening = opening ∙ took.opening;
      replayed = all;
      accepted = kept;
      counted = subst (λ k. length new.accepted + new.refused ≡ told_of k (items ++ item ∷ [])) (sym key) (omega (arith, more, told, took.counted));
    }
