-- The accepted events of a vehicle are those that its worker sees.
use Rattle.std.proofs.Common.{◌≡◌, ℕ, zero, suc, ◌==◌, if◌then◌else◌, cond, List, [], ◌∷◌, ◌++◌, length, take, map, slice_get, Some, Bool, true, false, refl, sym, ◌∙◌, ap, subst, arith}
use Rattle.std.proofs.lemmas.Bool.{eq-eqb, eqb-true}
use Rattle.std.proofs.lemmas.List.Elements.{filter-append}
use Rattle.mds_core.specs.declared.key.Key.{Key}
use Rattle.mds_core.specs.Reported.{Reported}
use Rattle.mds_core.specs.History.{same_key}
use Rattle.mds_core.proofs.Histories.{same_key_is}
use Rattle.mds_batch.specs.declared.item.EventItem.{EventItem}
use Rattle.mds_batch.specs.declared.item.EventItem.TheVariants.{Event, Fault as Faulty}
use Rattle.mds_batch.specs.declared.item.ItemFault.TheVariants.{NotObject}
use Rattle.mds_trace.specs.declared.report.Verdict.{Verdict}
use Rattle.mds_trace.specs.Verdict.{accepts}
use Rattle.mds_trace.specs.Replay.{accepted_by, accepted_of, prior_of}
use Rattle.mds_trace.specs.Parts.{worker_of, is_own, as_seen}

-- the worker sees an item of its own as it is
pub seen_own : (workers worker : ℕ) (item : EventItem) → is_own workers worker item ≡ true → as_seen workers worker item ≡ item
seen_own workers worker item own = ap (λ b. if b then item else Faulty NotObject) own

-- and any other as a fault
pub seen_other : (workers worker : ℕ) (item : EventItem) → is_own workers worker item ≡ false → as_seen workers worker item ≡ Faulty NotObject
seen_other workers worker item other = ap (λ b. if b then item else Faulty NotObject) other

-- an event is its own worker's
pub own_event : (workers : ℕ) (event : Reported) → is_own workers (worker_of workers event.key) (Event event) ≡ true
own_event workers event = eq-eqb (worker_of workers event.key) (worker_of workers event.key) refl

-- and no other's
pub one_owner : (workers one other : ℕ) (item : EventItem) → is_own workers one item ≡ true → is_own workers other item ≡ true → one ≡ other
one_owner workers one other (Event event) own too = sym (eqb-true (worker_of workers event.key) one own) ∙ eqb-true (worker_of workers event.key) other too
one_owner workers one other (Faulty fault) own too = cc

-- an item adds nothing to the accepted events of another vehicle
none_of : (key : Key) (event : Reported) (line : Verdict) → same_key event.key key ≡ false → prior_of key (accepted_by (Event event) line) ≡ []
none_of key event line other = by_test (accepts line) where
  by_test : (b : Bool) → prior_of key (if b then event ∷ [] else []) ≡ []
  by_test true = ap (λ b. cond b (event ∷ []) []) other
  by_test false = refl

module _ (workers : ℕ) (key : Key) where
  abbrev worker : ℕ
  worker = worker_of workers key

  -- the same verdicts on the vehicle's events
  abbrev pub Agree : List EventItem → List Verdict → List Verdict → Type 0
  Agree items lines seen =
      (i : ℕ) (event : Reported) (line : Verdict) → slice_get items i ≡ Some (Event event) → event.key ≡ key → slice_get lines i ≡ Some line → slice_get seen i ≡ Some line

  -- an item adds what the worker sees of it
  one_item : (item : EventItem) (line seen : Verdict) → ((event : Reported) → item ≡ Event event → event.key ≡ key → seen ≡ line)
      → prior_of key (accepted_by item line) ≡ prior_of key (accepted_by (as_seen workers worker item) seen)
  one_item (Faulty fault) line seen agree = refl
  one_item (Event event) line seen agree = by_key (same_key event.key key) refl where
    unseen : same_key event.key key ≡ false → (b : Bool) → prior_of key (accepted_by (if b then Event event else Faulty NotObject) seen) ≡ []
    unseen other true = none_of key event seen other
    unseen other false = refl

    by_key : (b : Bool) → same_key event.key key ≡ b → prior_of key (accepted_by (Event event) line) ≡ prior_of key (accepted_by (as_seen workers worker (Event event)) seen)
    by_key true same =
        let key_is : event.key ≡ key = same_key_is event.key key same in
        let own : is_own workers worker (Event event) ≡ true = ap (λ k. worker_of workers event.key == worker_of workers k) (sym key_is) ∙ own_event workers event in
        ap (λ said. prior_of key (accepted_by (Event event) said)) (sym (agree event refl key_is))
        ∙ ap (λ one. prior_of key (accepted_by one seen)) (sym (seen_own workers worker (Event event) own))
    by_key false other = none_of key event line other ∙ sym (unseen other (is_own workers worker (Event event)))

  -- the accepted events of the vehicle up to a place are those that its worker sees
  pub own_prior : (n : ℕ) (items : List EventItem) (lines seen : List Verdict) → length lines ≡ length items → length seen ≡ length items → Agree items lines seen
      → prior_of key (accepted_of (take n items) (take n lines)) ≡ prior_of key (accepted_of (take n (map (as_seen workers worker) items)) (take n seen))
  own_prior zero items lines seen count too agree = refl
  own_prior (suc n) [] lines seen count too agree = refl
  own_prior (suc n) (item ∷ items) [] seen count too agree = absurd (omega (arith, count))
  own_prior (suc n) (item ∷ items) (line ∷ lines) [] count too agree = absurd (omega (arith, too))
  own_prior (suc n) (item ∷ items) (line ∷ lines) (said ∷ seen) count too agree =
      filter-append (λ event. same_key event.key key) (accepted_by item line) (accepted_of (take n items) (take n lines))
      ∙ ap (λ first. first ++ prior_of key (accepted_of (take n items) (take n lines)))
      (one_item item line said (λ event is key_is. let at = agree zero event line (ap Some is) key_is refl in cc))
      ∙ ap (λ rest. prior_of key (accepted_by (as_seen workers worker item) said) ++ rest)
      (own_prior n items lines seen (omega (arith, count)) (omega (arith, too)) (λ i event one at_item key_is at_line. agree (suc i) event one at_item key_is at_line))
      ∙ sym (filter-append (λ event. same_key event.key key) (accepted_by (as_seen workers worker item) said) (accepted_of (take n (map (as_seen workers worker) items)) (take n seen)))
