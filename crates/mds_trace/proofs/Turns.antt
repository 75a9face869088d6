-- Verdicts one after the other.
use Rattle.std.proofs.Common.{◌≡◌, ℕ, zero, suc, List, [], ◌∷◌, ◌++◌, length, take, slice_get, Some, append_assoc, refl, sym, subst, arith}
use Rattle.std.proofs.lemmas.List.{append-nil}
use Rattle.mds_table.specs.Tables.{Tables}
use Rattle.mds_core.specs.Reported.{Reported}
use Rattle.mds_batch.specs.declared.item.EventItem.{EventItem}
use Rattle.mds_trace.specs.declared.report.Opening.{Opening}
use Rattle.mds_trace.specs.declared.report.Verdict.{Verdict}
use Rattle.mds_trace.specs.Replay.{accepted_by, accepted_of, IsVerdict}

module _ (opening : Opening) (tables : Tables) where
  -- the verdicts one after the other, from these accepted events on
  abbrev pub InTurn : List Reported → List EventItem → List Verdict → Type 0
  InTurn accepted [] [] = Unit {0}
  InTurn accepted (item ∷ items) (line ∷ lines) = IsVerdict opening tables accepted item line × InTurn (accepted ++ accepted_by item line) items lines
  InTurn accepted [] (line ∷ lines) = ⊥
  InTurn accepted (item ∷ items) [] = ⊥

  pub in_turn : (accepted : List Reported) (items : List EventItem) (lines : List Verdict) → length lines ≡ length items
      → ((i : ℕ) (item : EventItem) (line : Verdict) → slice_get items i ≡ Some item → slice_get lines i ≡ Some line
      → IsVerdict opening tables (accepted ++ accepted_of (take i items) (take i lines)) item line)
      → InTurn accepted items lines
  in_turn accepted [] [] count each = tt
  in_turn accepted [] (line ∷ lines) count each = absurd (omega (arith, count))
  in_turn accepted (item ∷ items) [] count each = absurd (omega (arith, count))
  in_turn accepted (item ∷ items) (line ∷ lines) count each = (
    subst (λ events. IsVerdict opening tables events item line) (append-nil accepted) (each zero item line refl refl),
    in_turn (accepted ++ accepted_by item line) items lines (omega (arith, count)) (λ i other said at_item at_line.
        subst (λ events. IsVerdict opening tables events other said) (sym (append_assoc accepted (accepted_by item line) (accepted_of (take i items) (take i lines))))
        (each (suc i) other said at_item at_line)),
  )
