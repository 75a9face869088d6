-- Requests that are asked again, some behind others.
use Rattle.std.proofs.Common.{◌≡◌, ℕ, zero, suc, ◌+◌, drop, slice_get, List, [], ◌∷◌, ◌++◌, Result, Ok, Err, IfErr, length, refl, sym, ap, ◌∙◌, subst, arith, append_assoc, length-append}
use Rattle.std.proofs.lemmas.List.{map-append}
use Rattle.std.proofs.lemmas.List.Elements.{filter-append}
use Rattle.mds_table.specs.Tables.{Tables}
use Rattle.mds_core.specs.declared.request.Request.{Request}
use Rattle.mds_core.specs.Answer.{MayBeDone}
use Rattle.mds_journal.specs.declared.fault.JournalFault.TheVariants.{Form, BadLine, TooLong, Refused, Damaged}
use Rattle.mds_groups.specs.declared.fault.GroupFault.TheVariants.{Damaged as DamagedGroup, Journal as InJournal}
use Rattle.mds_log.specs.Log.{Acceptance, requests}
use Rattle.mds_book.specs.Seats.{Seated}
use Rattle.mds_book.specs.Shards.{part}
use Rattle.mds_book.specs.Refilling.{HasAll, IsFilled}
use Rattle.mds_follow.specs.Record.{recorded_at}
use Rattle.mds_follow.specs.Restart.{IsAskFault, IsRefilled}
use Rattle.mds_follow.specs.declared.start_fault.StartFault.{StartFault}
use Rattle.mds_follow.specs.declared.start_fault.StartFault.TheVariants.{Memory, Device, Journal, Shared, CutOff}
use Rattle.mds_follow.proofs.ReadBack.{asked_more, refilled_more}

-- two lists of requests were asked, one behind the other
pub filled_both : (old mid new : Seated) (ones others : List Request) → IsFilled old ones mid → IsFilled mid others new → IsFilled old (ones ++ others) new
filled_both old mid new ones others one other = record {
  first = other.first
      ∙ (ap (λ (w : List Request). w ++ part 0 others) one.first
      ∙ (append_assoc old.first_seen (part 0 ones) (part 0 others) ∙ ap (λ (w : List Request). old.first_seen ++ w) (sym (filter-append _ ones others))));
  second = other.second
      ∙ (ap (λ (w : List Request). w ++ part 1 others) one.second
      ∙ (append_assoc old.second_seen (part 1 ones) (part 1 others) ∙ ap (λ (w : List Request). old.second_seen ++ w) (sym (filter-append _ ones others))));
}

-- what stands behind some elements
at_drop : (n : ℕ) (numbers : List ℕ) (k : ℕ) → slice_get (drop n numbers) k ≡ slice_get numbers (n + k)
at_drop zero numbers k = let same : k ≡ 0 + k = omega arith in ap (slice_get numbers) same
at_drop (suc n) [] k = refl
at_drop (suc n) (number ∷ numbers) k = let same : suc (n + k) ≡ suc n + k = omega arith in at_drop n numbers k ∙ ap (slice_get (number ∷ numbers)) same

module _ (tables : Tables) (recorded : List Request) (numbers : List ℕ) (ones others : List Request) where
  -- why the first of two lists isn't asked is why both aren't
  pub fault_before : (fault : StartFault) → IsAskFault tables recorded numbers ones fault → IsAskFault tables recorded numbers (ones ++ others) fault
  fault_before Memory why = tt
  fault_before Device why = absurd why
  fault_before Shared why = tt
  fault_before CutOff why = absurd why
  fault_before (Journal (DamagedGroup line)) why = absurd why
  fault_before (Journal (InJournal Form)) why = absurd why
  fault_before (Journal (InJournal (TooLong line))) why = absurd why
  fault_before (Journal (InJournal (BadLine line))) why = absurd why
  fault_before (Journal (InJournal Damaged)) why = absurd why
  fault_before (Journal (InJournal (Refused line))) why = record {
    before = why.before;
    request = why.request;
    rest = why.rest ++ others;
    split = ap (λ (w : List Request). w ++ others) why.split ∙ append_assoc why.before (why.request ∷ why.rest) others;
    number = why.number;
    refused = why.refused;
  }

  -- and so is why the second isn't behind the first
  pub fault_behind : (fault : StartFault) → IsAskFault tables (recorded ++ ones) (drop (length ones) numbers) others fault → IsAskFault tables recorded numbers (ones ++ others) fault
  fault_behind Memory why = tt
  fault_behind Device why = absurd why
  fault_behind Shared why = tt
  fault_behind CutOff why = absurd why
  fault_behind (Journal (DamagedGroup line)) why = absurd why
  fault_behind (Journal (InJournal Form)) why = absurd why
  fault_behind (Journal (InJournal (TooLong line))) why = absurd why
  fault_behind (Journal (InJournal (BadLine line))) why = absurd why
  fault_behind (Journal (InJournal Damaged)) why = absurd why
  fault_behind (Journal (InJournal (Refused line))) why = record {
    before = ones ++ why.before;
    request = why.request;
    rest = why.rest;
    split = ap (λ (w : List Request). ones ++ w) why.split ∙ sym (append_assoc ones why.before (why.request ∷ why.rest));
    number = ap (λ (n : ℕ). slice_get numbers n) (length-append ones why.before) ∙ sym (at_drop (length ones) numbers (length why.before)) ∙ why.number;
    refused = let May : List Request → Type 0 = λ w. MayBeDone tables w why.request → ⊥ in subst May (append_assoc recorded ones why.before) why.refused;
  }

-- where the first of two lists was asked, why the second isn't is why both aren't
pub second_fault : (tables : Tables) (old mid : Seated) (told : List Acceptance) (numbers : List ℕ) (ones others : List Request) (result : Result (Unit {0}) StartFault)
    → IsRefilled old told → HasAll mid → IsFilled old ones mid
    → ((told : List Acceptance) → IsRefilled mid told → IfErr result (IsAskFault tables (requests told) (drop (length ones) numbers) others))
    → IfErr result (IsAskFault tables (requests told) numbers (ones ++ others))
second_fault tables old mid told numbers ones others (Ok done) refilled all filled why = tt
second_fault tables old mid told numbers ones others (Err fault) refilled all filled why =
    let more = told ++ recorded_at 0 ones in
    let Behind : List Request → Type 0 = λ w. IsAskFault tables w (drop (length ones) numbers) others fault in
    fault_behind tables (requests told) numbers ones others fault
    (subst Behind (asked_more 0 told more ones refl) (why more (refilled_more 0 told more ones refl old mid refilled filled all)))

-- where the first isn't asked
pub first_ask_fault : (tables : Tables) (recorded : List Request) (numbers : List ℕ) (ones others : List Request) (result : Result (Unit {0}) StartFault)
    → IfErr result (IsAskFault tables recorded numbers ones) → IfErr result (IsAskFault tables recorded numbers (ones ++ others))
first_ask_fault tables recorded numbers ones others (Ok done) why = tt
first_ask_fault tables recorded numbers ones others (Err fault) why = fault_before tables recorded numbers ones others fault why

-- what is noted of two lists, one behind the other
pub noted_both : (moment : ℕ) (old mid new : List Acceptance) (ones others : List Request) → mid ≡ old ++ recorded_at moment ones → new ≡ mid ++ recorded_at moment others
    → new ≡ old ++ recorded_at moment (ones ++ others)
noted_both moment old mid new ones others one other =
    other ∙ (ap (λ (w : List Acceptance). w ++ recorded_at moment others) one
    ∙ (append_assoc old (recorded_at moment ones) (recorded_at moment others)
    ∙ ap (λ (w : List Acceptance). old ++ w) (sym (map-append {B = Acceptance} (λ (one : Request). record { tag = moment; request = one }) ones others))))
