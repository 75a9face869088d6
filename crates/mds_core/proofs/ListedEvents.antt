-- What is kept of events, as more names come behind the others, and as the order turns round.
use Rattle.std.proofs.Common.{◌≡◌, ℕ, ◌+◌, ◌≤◌, ◌++◌, List, [], ◌∷◌, length, drop, map, reverse, refl, sym, ap, subst, ◌∙◌, arith}
use Rattle.std.specs.List.{All}
use Rattle.std.proofs.Math.Seq.{drop-append_seam, take-length}
use Rattle.std.proofs.lemmas.List.{take-append-le, drop-append-le, length-drop, length-append, map-append, reverse-append}
use Rattle.std.proofs.lemmas.List.Elements.{All-weaker, All-head, All-tail, All-push}
use Rattle.mds_core.specs.Reported.{Reported, MayBeReported}
use Rattle.mds_core.specs.EventList.{event_of, types_kept, event_in, IsKept}
use Rattle.mds_core.specs.declared.event_list.KeptEvent.{KeptEvent}

-- with more names behind them
module _ (names more : List (List ℕ)) where
  same_types : (kept : KeptEvent) → kept.first + kept.count ≤ length names → types_kept (names ++ more) kept ≡ types_kept names kept
  same_types kept within =
      rw (drop-append-le kept.first names more (omega (arith, within)))
      (take-append-le kept.count (drop kept.first names) more (omega (arith, within, length-drop kept.first names)))

  still_kept : (kept : KeptEvent) → IsKept names kept → IsKept (names ++ more) kept
  still_kept kept is = record {
    within = omega (arith, is.within, length-append names more);
    reported = subst (λ (types : List (List ℕ)). MayBeReported types kept.time) (sym (same_types kept is.within)) is.reported;
  }

  same_events : (all : List KeptEvent) → All (IsKept names) all → map (event_in (names ++ more)) all ≡ map (event_in names) all
  same_events [] are = refl
  same_events (kept ∷ all) are =
      ap (λ (types : List (List ℕ)). event_of kept types ∷ map (event_in (names ++ more)) all) (same_types kept (All-head (IsKept names) kept all are).within)
      ∙ ap (λ (rest : List Reported). event_in names kept ∷ rest) (same_events all (All-tail (IsKept names) kept all are))

-- one more event, whose types are those names
module _ (names types : List (List ℕ)) (kept : KeptEvent) (first : kept.first ≡ length names) (count : kept.count ≡ length types) where
  own_types : types_kept (names ++ types) kept ≡ types
  own_types = rw (first, count, drop-append_seam names types) (take-length types)

  own_kept : MayBeReported types kept.time → IsKept (names ++ types) kept
  own_kept reported = record {
    within = omega (arith, first, count, length-append names types);
    reported = subst (λ (own : List (List ℕ)). MayBeReported own kept.time) (sym own_types) reported;
  }

  pub each_kept : (all : List KeptEvent) → MayBeReported types kept.time → All (IsKept names) all → All (IsKept (names ++ types)) (all ++ kept ∷ [])
  each_kept all reported are =
      All-push (IsKept (names ++ types)) all kept (All-weaker (IsKept names) (IsKept (names ++ types)) (still_kept names types) all are) (own_kept reported)

  pub events_pushed : (all : List KeptEvent) (event : Reported) → event_of kept types ≡ event → All (IsKept names) all
      → map (event_in (names ++ types)) (all ++ kept ∷ []) ≡ map (event_in names) all ++ event ∷ []
  events_pushed all event is are =
      map-append (event_in (names ++ types)) all (kept ∷ [])
      ∙ ap (λ (front : List Reported). front ++ event_in (names ++ types) kept ∷ []) (same_events names types all are)
      ∙ ap (λ (own : List (List ℕ)). map (event_in names) all ++ event_of kept own ∷ []) own_types
      ∙ ap (λ (last : Reported). map (event_in names) all ++ last ∷ []) is

-- turned round
pub events_reversed : (names : List (List ℕ)) (all : List KeptEvent) → map (event_in names) (reverse all) ≡ reverse (map (event_in names) all)
events_reversed names [] = refl
events_reversed names (kept ∷ all) =
    ap (map (event_in names)) (reverse-append (kept ∷ []) all)
    ∙ map-append (event_in names) (reverse all) (kept ∷ [])
    ∙ ap (λ (front : List Reported). front ++ event_in names kept ∷ []) (events_reversed names all)
    ∙ sym (reverse-append (event_in names kept ∷ []) (map (event_in names) all))
