-- A worker's share, when one more item comes.
use Rattle.std.proofs.Common.{◌≡◌, inl, inr, ℕ, List, [], ◌∷◌, ◌++◌, length, map, slice_get, Contains, Some, true, false, sym, ◌∙◌, ap, subst, arith}
use Rattle.std.specs.List.{All}
use Rattle.std.proofs.lemmas.Bool.{true≢false}
use Rattle.std.proofs.lemmas.List.{length-map, map-append}
use Rattle.std.proofs.lemmas.List.Elements.{All-nil, All-push, All-weaker, Contains-append_left, Contains-push}
use Rattle.indexmap.specs.IndexSet.{insert_key}
use Rattle.mds_table.specs.Tables.{Tables}
use Rattle.mds_core.specs.declared.event_name.EventName.{EventName}
use Rattle.mds_core.specs.declared.key.Key.{Key}
use Rattle.mds_core.specs.Reported.{Reported}
use Rattle.mds_core.specs.History.{same_key}
use Rattle.mds_batch.specs.declared.item.EventItem.{EventItem}
use Rattle.mds_batch.specs.declared.item.EventItem.TheVariants.{Event}
use Rattle.mds_batch.specs.declared.item.ItemFault.TheVariants.{NotObject}
use Rattle.mds_trace.specs.declared.report.Opening.{Opening}
use Rattle.mds_trace.specs.declared.report.Verdict.{Verdict}
use Rattle.mds_trace.specs.declared.report.Verdict.TheVariants.{Fault}
use Rattle.mds_trace.specs.declared.followed.Followed.{Followed}
use Rattle.mds_trace.specs.declared.part.ToldVerdict.{ToldVerdict}
use Rattle.mds_trace.specs.Items.{events_of, vehicles_of}
use Rattle.mds_trace.specs.Replay.{accepted_by, accepted_of, prior_of, IsVerdictOn}
use Rattle.mds_trace.specs.Followed.{AreFollowed, IsReplayed}
use Rattle.mds_trace.specs.Parts.{is_own, as_seen, IsOwnEvent, IsToldOf, AreTold, IsShare}
use Rattle.mds_trace.proofs.Verdicts.{slice_get_push}
use Rattle.mds_trace.proofs.Replaying.{none_replayed, event_replayed, fault_replayed}
use Rattle.mds_trace.proofs.Own.{seen_own, seen_other}
use Rattle.mds_trace.proofs.Places.{earlier, last}

module _ (workers worker : ℕ) (items : List EventItem) (lines : List Verdict) (told : List ToldVerdict) (count : length lines ≡ length items)
    (are : AreTold workers worker items lines told) (item : EventItem) (line : Verdict) where
  -- what was told is so of the longer lists
  still_own : All (IsToldOf workers worker (items ++ item ∷ []) (lines ++ line ∷ [])) told
  still_own =
      All-weaker (IsToldOf workers worker items lines) (IsToldOf workers worker (items ++ item ∷ []) (lines ++ line ∷ []))
      (λ one is. ((is.0.0, earlier items (item ∷ []) one.index is.0.0 is.0.1, is.0.2), earlier lines (line ∷ []) one.index one.verdict is.1))
      told are.own

  -- each own item is one of those before, or the last
  by_place : (now : List ToldVerdict) (i : ℕ) (other : EventItem) (said : Verdict) → slice_get (items ++ item ∷ []) i ≡ Some other → is_own workers worker other ≡ true
      → slice_get (lines ++ line ∷ []) i ≡ Some said → (Contains told (record { index = i; verdict = said }) → Contains now (record { index = i; verdict = said }))
      → (i ≡ length items → item ≡ other → line ≡ said → Contains now (record { index = i; verdict = said })) → Contains now (record { index = i; verdict = said })
  by_place now i other said at_item own at_line before at_end = elim (slice_get_push items item other i at_item) [
    | inl one ↦ elim (slice_get_push lines line said i at_line) [
      | inl here ↦ before (are.every i other said one.1 own here.1)
      | inr behind ↦ absurd (omega (arith, one.0, behind.0, count))
    ]
    | inr one ↦ elim (slice_get_push lines line said i at_line) [
      | inl here ↦ absurd (omega (arith, one.0, here.0, count))
      | inr behind ↦ at_end one.0 one.1 behind.1
    ]
  ]

  told_more : is_own workers worker item ≡ true
      → AreTold workers worker (items ++ item ∷ []) (lines ++ line ∷ []) (told ++ record { index = length items; verdict = line } ∷ [])
  told_more own =
      let one : ToldVerdict = record { index = length items; verdict = line } in record {
        own = All-push (IsToldOf workers worker (items ++ item ∷ []) (lines ++ line ∷ [])) told one still_own
            ((item, last items item, own), subst (λ i. slice_get (lines ++ line ∷ []) i ≡ Some line) count (last lines line));
        every = λ i other said at_item is_own at_line. by_place (told ++ one ∷ []) i other said at_item is_own at_line
            (λ before. Contains-append_left told (one ∷ []) (record { index = i; verdict = said }) before)
            (λ here same_item same_line. subst (Contains (told ++ one ∷ [])) (λ j. record { index = sym here j; verdict = same_line j }) (Contains-push told one));
      }

  told_same : is_own workers worker item ≡ false → AreTold workers worker (items ++ item ∷ []) (lines ++ line ∷ []) told
  told_same another = record {
    own = still_own;
    every = λ i other said at_item own at_line. by_place told i other said at_item own at_line (λ before. before)
        (λ here same_item same_line. absurd (true≢false (sym own ∙ ap (is_own workers worker) (sym same_item) ∙ another)));
  }

-- a worker that has seen nothing
pub no_share : (opening : Opening) (tables : Tables) (workers worker : ℕ) → IsShare opening tables [] workers worker [] [] []
no_share opening tables workers worker = record {
  lines = [];
  replayed = none_replayed opening tables;
  are_told = record {
    own = All-nil (IsToldOf workers worker [] []);
    every = λ i item line at_item own at_line. cc;
  };
}

module _ (opening : Opening) (tables : Tables) (workers worker : ℕ) (items : List EventItem) (told : List ToldVerdict)
    (entries : List (Key × Followed)) (names : List EventName) (share : IsShare opening tables items workers worker told entries names) (item : EventItem) where
  count : length share.lines ≡ length items
  count = share.replayed.verdicts.count ∙ length-map items (as_seen workers worker)

  -- an item of the worker's own is judged, and the verdict told
  share_own : (line : Verdict) (entries_now : List (Key × Followed)) (names_now : List EventName) → is_own workers worker item ≡ true
      → IsReplayed opening tables (map (as_seen workers worker) items ++ item ∷ []) (share.lines ++ line ∷ []) entries_now names_now
      → IsShare opening tables (items ++ item ∷ []) workers worker (told ++ record { index = length items; verdict = line } ∷ []) entries_now names_now
  share_own line entries_now names_now own replayed = record {
    lines = share.lines ++ line ∷ [];
    replayed = subst (λ seen. IsReplayed opening tables seen (share.lines ++ line ∷ []) entries_now names_now)
        (ap (λ one. map (as_seen workers worker) items ++ one ∷ []) (sym (seen_own workers worker item own)) ∙ sym (map-append (as_seen workers worker) items (item ∷ [])))
        replayed;
    are_told = told_more workers worker items share.lines told count share.are_told item line own;
  }

  abbrev seen : List EventItem
  seen = map (as_seen workers worker) items

  -- an event of the worker's own is judged
  pub share_event : (event : Reported) (line : Verdict) (entries_now : List (Key × Followed)) (names_now : List EventName) → IsOwnEvent workers worker item (Some event)
      → IsVerdictOn opening tables (prior_of event.key (accepted_of seen share.lines)) event line
      → AreFollowed opening tables (insert_key same_key (vehicles_of (events_of seen)) event.key) (accepted_of seen share.lines ++ accepted_by (Event event) line) entries_now names_now
      → IsShare opening tables (items ++ item ∷ []) workers worker (told ++ record { index = length items; verdict = line } ∷ []) entries_now names_now
  share_event event line entries_now names_now own verdict are =
      share_own line entries_now names_now own.1
      (subst (λ one. IsReplayed opening tables (seen ++ one ∷ []) (share.lines ++ line ∷ []) entries_now names_now) (sym own.0)
      (event_replayed opening tables seen share.lines entries names share.replayed event line entries_now names_now verdict are))

  -- any other item is passed over
  pub share_other : is_own workers worker item ≡ false → IsShare opening tables (items ++ item ∷ []) workers worker told entries names
  share_other another = record {
    lines = share.lines ++ Fault NotObject ∷ [];
    replayed = subst (λ seen. IsReplayed opening tables seen (share.lines ++ Fault NotObject ∷ []) entries names)
        (ap (λ one. map (as_seen workers worker) items ++ one ∷ []) (sym (seen_other workers worker item another)) ∙ sym (map-append (as_seen workers worker) items (item ∷ [])))
        (fault_replayed opening tables (map (as_seen workers worker) items) share.lines entries names share.replayed NotObject);
    are_told = told_same workers worker items share.lines told count share.are_told item (Fault NotObject) another;
  }
