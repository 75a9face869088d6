-- A replay goes on with each item.
use Rattle.std.proofs.Common.{◌≡◌, ℕ, ◌++◌, ◌∷◌, List, [], refl, sym, ◌∙◌, ap, subst}
use Rattle.std.proofs.lemmas.List.{append-nil}
use Rattle.indexmap.specs.IndexSet.{insert_key}
use Rattle.mds_table.specs.Tables.{Tables}
use Rattle.mds_core.specs.declared.event_name.EventName.{EventName}
use Rattle.mds_core.specs.declared.key.Key.{Key}
use Rattle.mds_core.specs.Reported.{Reported}
use Rattle.mds_core.specs.History.{same_key}
use Rattle.mds_batch.specs.declared.item.EventItem.{EventItem}
use Rattle.mds_batch.specs.declared.item.EventItem.TheVariants.{Event, Fault as Faulty}
use Rattle.mds_batch.specs.declared.item.ItemFault.{ItemFault}
use Rattle.mds_trace.specs.declared.report.Opening.{Opening}
use Rattle.mds_trace.specs.declared.report.Verdict.{Verdict}
use Rattle.mds_trace.specs.declared.report.Verdict.TheVariants.{Fault}
use Rattle.mds_trace.specs.declared.followed.Followed.{Followed}
use Rattle.mds_trace.specs.Items.{events_of, vehicles_of}
use Rattle.mds_trace.specs.Replay.{accepted_by, accepted_of, prior_of, IsVerdictOn}
use Rattle.mds_trace.specs.Followed.{AreFollowed, IsReplayed}
use Rattle.mds_trace.proofs.Mentions.{vehicles-push, events-push}
use Rattle.mds_trace.proofs.Verdicts.{verdicts-push, accepted-push}

module _ (opening : Opening) (tables : Tables) (items : List EventItem) (lines : List Verdict) (entries : List (Key × Followed)) (names : List EventName)
    (so_far : IsReplayed opening tables items lines entries names) where
  -- with an event
  pub event_replayed : (event : Reported) (line : Verdict) (entries_now : List (Key × Followed)) (names_now : List EventName)
      → IsVerdictOn opening tables (prior_of event.key (accepted_of items lines)) event line
      → AreFollowed opening tables (insert_key same_key (vehicles_of (events_of items)) event.key) (accepted_of items lines ++ accepted_by (Event event) line) entries_now names_now
      → IsReplayed opening tables (items ++ Event event ∷ []) (lines ++ line ∷ []) entries_now names_now
  event_replayed event line entries_now names_now verdict are =
      let mentioned : vehicles_of (events_of (items ++ Event event ∷ [])) ≡ insert_key same_key (vehicles_of (events_of items)) event.key =
      ap vehicles_of (events-push items (Event event)) ∙ vehicles-push (events_of items) event in record {
        verdicts = verdicts-push opening tables items lines (Event event) line so_far.verdicts verdict;
        vehicles = subst (λ keys. AreFollowed opening tables keys (accepted_of (items ++ Event event ∷ []) (lines ++ line ∷ [])) entries_now names_now) (sym mentioned)
            (subst (λ accepted. AreFollowed opening tables (insert_key same_key (vehicles_of (events_of items)) event.key) accepted entries_now names_now)
            (sym (accepted-push items lines (Event event) line so_far.verdicts.count)) are);
      }

  -- with a faulty item
  pub fault_replayed : (fault : ItemFault) → IsReplayed opening tables (items ++ Faulty fault ∷ []) (lines ++ Fault fault ∷ []) entries names
  fault_replayed fault =
      let mentioned : vehicles_of (events_of (items ++ Faulty fault ∷ [])) ≡ vehicles_of (events_of items) =
      ap vehicles_of (events-push items (Faulty fault) ∙ append-nil (events_of items)) in
      let accepted = accepted-push items lines (Faulty fault) (Fault fault) so_far.verdicts.count ∙ append-nil (accepted_of items lines) in record {
        verdicts = verdicts-push opening tables items lines (Faulty fault) (Fault fault) so_far.verdicts refl;
        vehicles = subst (λ keys. AreFollowed opening tables keys (accepted_of (items ++ Faulty fault ∷ []) (lines ++ Fault fault ∷ [])) entries names) (sym mentioned)
            (subst (λ events. AreFollowed opening tables (vehicles_of (events_of items)) events entries names) (sym accepted) so_far.vehicles);
      }

-- nothing is replayed yet
pub none_replayed : (opening : Opening) (tables : Tables) → IsReplayed opening tables [] [] [] []
none_replayed opening tables = record {
  verdicts = record { count = refl; each = λ i item line at_item at_line. cc };
  vehicles = record { apart = tt; unknown = λ key new. refl; vehicles = tt; named = refl };
}
