-- Verdicts, and the events that they accept, when one more item comes.
use Rattle.std.proofs.Common.{◌≡◌, ◌⊎◌, inl, inr, ℕ, zero, suc, ◌<◌, ◌≤◌, if◌then◌else◌, cond, List, [], ◌∷◌, ◌++◌, length, take, slice_get, not, Some, Bool, true, false, append_assoc, length-append, refl, sym, ◌∙◌, ap, subst, arith}
use Rattle.std.proofs.lemmas.List.{append-nil, take-append-le}
use Rattle.std.proofs.Math.Seq.{take-append_seam}
use Rattle.std.proofs.lemmas.List.Elements.{filter-append}
use Rattle.std.proofs.lemmas.List.Filters.{length-filter_both}
use Rattle.mds_table.specs.Tables.{Tables}
use Rattle.mds_core.specs.declared.key.Key.{Key}
use Rattle.mds_core.specs.Reported.{Reported}
use Rattle.mds_core.specs.History.{same_key}
use Rattle.mds_core.proofs.Histories.{same_key_refl}
use Rattle.mds_batch.specs.declared.item.EventItem.{EventItem}
use Rattle.mds_batch.specs.declared.item.EventItem.TheVariants.{Event, Fault as Faulty}
use Rattle.mds_trace.specs.declared.report.Opening.{Opening}
use Rattle.mds_trace.specs.declared.report.Verdict.{Verdict}
use Rattle.mds_trace.specs.declared.report.Verdict.TheVariants.{Accepted, Refused, NoOpening, Fault}
use Rattle.mds_trace.specs.Verdict.{accepts}
use Rattle.mds_trace.specs.Replay.{accepted_by, accepted_of, prior_of, IsVerdict, AreVerdicts}

pub accepted-push : (items : List EventItem) (lines : List Verdict) (item : EventItem) (line : Verdict) → length lines ≡ length items
    → accepted_of (items ++ item ∷ []) (lines ++ line ∷ []) ≡ accepted_of items lines ++ accepted_by item line
accepted-push [] [] item line count = append-nil (accepted_by item line)
accepted-push [] (first ∷ lines) item line count = absurd (omega (arith, count))
accepted-push (next ∷ items) [] item line count = absurd (omega (arith, count))
accepted-push (next ∷ items) (first ∷ lines) item line count =
    ap (λ rest. accepted_by next first ++ rest) (accepted-push items lines item line (omega (arith, count)))
    ∙ sym (append_assoc (accepted_by next first) (accepted_of items lines) (accepted_by item line))

one_at_most : (item : EventItem) (line : Verdict) → length (accepted_by item line) ≤ 1
one_at_most (Event event) (Accepted state) = omega arith
one_at_most (Event event) (Refused refusal) = omega arith
one_at_most (Event event) (NoOpening at) = omega arith
one_at_most (Event event) (Fault fault) = omega arith
one_at_most (Faulty fault) line = omega arith

-- no more events are accepted than there are items
pub accepted_few : (items : List EventItem) (lines : List Verdict) → length (accepted_of items lines) ≤ length items
accepted_few [] lines = omega arith
accepted_few (item ∷ items) [] = omega arith
accepted_few (item ∷ items) (line ∷ lines) =
    omega (arith, length-append (accepted_by item line) (accepted_of items lines), one_at_most item line, accepted_few items lines)

-- an element of a list with one element more is one of the list, or the last
pub slice_get_push : {X : Type 0} (xs : List X) (x y : X) (i : ℕ) → slice_get (xs ++ x ∷ []) i ≡ Some y
    → ((i < length xs) × (slice_get xs i ≡ Some y)) ⊎ ((i ≡ length xs) × (x ≡ y))
slice_get_push [] x y zero is = inr (refl, (cc))
slice_get_push [] x y (suc i) is = cc
slice_get_push (first ∷ xs) x y zero is = inl (omega arith, is)
slice_get_push (first ∷ xs) x y (suc i) is = elim (slice_get_push xs x y i is) [
  | inl before ↦ inl (omega (arith, before.0), before.1)
  | inr last ↦ inr (omega (arith, last.0), last.1)
]

-- one verdict more
pub verdicts-push : (opening : Opening) (tables : Tables) (items : List EventItem) (lines : List Verdict) (item : EventItem) (line : Verdict)
    → AreVerdicts opening tables items lines → IsVerdict opening tables (accepted_of items lines) item line
    → AreVerdicts opening tables (items ++ item ∷ []) (lines ++ line ∷ [])
verdicts-push opening tables items lines item line so_far next = record {
  count = omega (arith, so_far.count, length-append items (item ∷ []), length-append lines (line ∷ []));
  each = λ i other said at_item at_line. elim (slice_get_push items item other i at_item) [
    | inl earlier ↦ elim (slice_get_push lines line said i at_line) [
      | inl before ↦ earlier_verdict i other said earlier.0 before.0 earlier.1 before.1
      | inr last ↦ absurd (omega (arith, earlier.0, last.0, so_far.count))
    ]
    | inr last_item ↦ elim (slice_get_push lines line said i at_line) [
      | inl before ↦ absurd (omega (arith, last_item.0, before.0, so_far.count))
      | inr last ↦ last_verdict i other said last_item.0 last.0 last_item.1 last.1
    ]
  ];
} where
  Is : EventItem → Verdict → List EventItem → List Verdict → Type 0
  Is other said before told = IsVerdict opening tables (accepted_of before told) other said

  earlier_verdict : (i : ℕ) (other : EventItem) (said : Verdict) → i < length items → i < length lines → slice_get items i ≡ Some other → slice_get lines i ≡ Some said
      → Is other said (take i (items ++ item ∷ [])) (take i (lines ++ line ∷ []))
  earlier_verdict i other said less fewer at_item at_line =
      subst (λ before. Is other said before (take i (lines ++ line ∷ []))) (sym (take-append-le i items (item ∷ []) (omega (arith, less))))
      (subst (λ told. Is other said (take i items) told) (sym (take-append-le i lines (line ∷ []) (omega (arith, fewer))))
      (so_far.each i other said at_item at_line))

  last_verdict : (i : ℕ) (other : EventItem) (said : Verdict) → i ≡ length items → i ≡ length lines → item ≡ other → line ≡ said
      → Is other said (take i (items ++ item ∷ [])) (take i (lines ++ line ∷ []))
  last_verdict i other said is_last is_last_line same_item same_line =
      let before : take i (items ++ item ∷ []) ≡ items = ap (λ n. take n (items ++ item ∷ [])) is_last ∙ take-append_seam items (item ∷ []) in
      let told : take i (lines ++ line ∷ []) ≡ lines = ap (λ n. take n (lines ++ line ∷ [])) is_last_line ∙ take-append_seam lines (line ∷ []) in
      subst (λ all. Is other said all (take i (lines ++ line ∷ []))) (sym before)
      (subst (λ all. Is other said items all) (sym told) (subst (λ one. Is one said items lines) same_item (subst (λ one. Is item one items lines) same_line next)))

-- what an item adds to the accepted events of its own vehicle
pub prior_same : (accepted : List Reported) (event : Reported) (line : Verdict)
    → prior_of event.key (accepted ++ accepted_by (Event event) line) ≡ prior_of event.key accepted ++ accepted_by (Event event) line
prior_same accepted event line = filter-append (λ e. same_key e.key event.key) accepted (accepted_by (Event event) line) ∙ by_test (accepts line) where
  by_test : (b : Bool) → prior_of event.key accepted ++ prior_of event.key (if b then event ∷ [] else []) ≡ prior_of event.key accepted ++ (if b then event ∷ [] else [])
  by_test true = ap (λ b. prior_of event.key accepted ++ cond b (event ∷ []) []) (same_key_refl event.key)
  by_test false = refl

-- and to those of another: nothing
pub prior_other : (accepted : List Reported) (event : Reported) (line : Verdict) (key : Key) → same_key event.key key ≡ false
    → prior_of key (accepted ++ accepted_by (Event event) line) ≡ prior_of key accepted
prior_other accepted event line key other = filter-append (λ e. same_key e.key key) accepted (accepted_by (Event event) line) ∙ by_test (accepts line) where
  by_test : (b : Bool) → prior_of key accepted ++ prior_of key (if b then event ∷ [] else []) ≡ prior_of key accepted
  by_test true = ap (λ b. prior_of key accepted ++ cond b (event ∷ []) []) other ∙ append-nil (prior_of key accepted)
  by_test false = append-nil (prior_of key accepted)

-- no more events are of one vehicle than there are
pub prior_few : (key : Key) (accepted : List Reported) → length (prior_of key accepted) ≤ length accepted
prior_few key accepted =
    let test : Reported → Bool = λ event. same_key event.key key in
    omega (arith, length-filter_both test (λ event. not (test event)) (λ event. refl) accepted)
