-- One answer for the bytes of a batch.
use Rattle.std.proofs.Common.{◌≡◌, inl, inr, ℕ, List, length, get_or, Some, None, refl, ap, sym, ◌∙◌, subst, arith}
use Rattle.std.proofs.lemmas.List.{same_lists}
use Rattle.std.proofs.lemmas.Option.{slice_get-get_or}
use Rattle.serde_json.specs.Data.{Data, null}
use Rattle.mds_table.specs.Json.{IsShortTextOf}
use Rattle.mds_batch.specs.declared.batch.BatchFault.{BatchFault}
use Rattle.mds_batch.specs.declared.batch.BatchFault.TheVariants.{Memory, TooLong, NotJson, NotList, TooMany}
use Rattle.mds_batch.specs.Items.{IsVehicleItem, IsEventItem}
use Rattle.mds_batch.specs.Batch.{listed_values, AreItemsOf, HasItems, HasFault}
use Rattle.mds_batch.specs.Laws.{BatchesHaveNoFault, BatchesHaveOneFault}

-- the text of bytes has one value
same_value : (bytes : List ℕ) (value other : Data) → IsShortTextOf value bytes → IsShortTextOf other bytes → value ≡ other
same_value bytes value other is are = let texts : Some value ≡ Some other = sym is.1.1 ∙ are.1.1 in cc

-- and lists the same
same_listed : (bytes : List ℕ) (value other : Data) → IsShortTextOf value bytes → IsShortTextOf other bytes → listed_values value ≡ listed_values other
same_listed bytes value other is are = ap listed_values (same_value bytes value other is are)

-- a value doesn't list too many where it lists nothing
none_is_some : (bytes : List ℕ) → HasFault bytes NotList → HasFault bytes TooMany → ⊥
none_is_some bytes is are = let lists : None ≡ Some are.2.0 = sym is.2 ∙ same_listed bytes is.0 are.0 is.1 are.1 ∙ are.2.1 in cc

-- bytes that have items have no fault
no_fault : {A : Type 0} (IsItemOf : Data → A → Type 0) (bytes : List ℕ) (items : List A) (fault : BatchFault) → HasItems IsItemOf bytes items → HasFault bytes fault → fault ≡ Memory
no_fault IsItemOf bytes items Memory is fault = refl
no_fault IsItemOf bytes items TooLong is fault = absurd (omega (arith, is.2.0, fault))
no_fault IsItemOf bytes items NotJson is fault = absurd (fault.1 is.0 is.2.1)
no_fault IsItemOf bytes items NotList is fault =
    let lists : Some is.1 ≡ None = sym is.3 ∙ same_listed bytes is.0 fault.0 is.2 fault.1 ∙ fault.2 in cc
no_fault IsItemOf bytes items TooMany is fault =
    let lists : Some is.1 ≡ Some fault.2.0 = sym is.3 ∙ same_listed bytes is.0 fault.0 is.2 fault.1 ∙ fault.2.1 in
    let same : is.1 ≡ fault.2.0 = cc in
    absurd (omega (arith, ap length same, is.4, fault.2.2))

-- a batch with items has no fault
pub batches_have_no_fault : BatchesHaveNoFault
batches_have_no_fault bytes fault (inl is) has = no_fault IsVehicleItem bytes is.0 fault is.1 has
batches_have_no_fault bytes fault (inr is) has = no_fault IsEventItem bytes is.0 fault is.1 has

-- a batch has one first fault
pub batches_have_one_fault : BatchesHaveOneFault
batches_have_one_fault bytes Memory other is are = inl refl
batches_have_one_fault bytes TooLong Memory is are = inr (inl refl)
batches_have_one_fault bytes TooLong TooLong is are = inr (inr refl)
batches_have_one_fault bytes TooLong NotJson is are = absurd (omega (arith, is, are.0))
batches_have_one_fault bytes TooLong NotList is are = absurd (omega (arith, is, are.1.0))
batches_have_one_fault bytes TooLong TooMany is are = absurd (omega (arith, is, are.1.0))
batches_have_one_fault bytes NotJson Memory is are = inr (inl refl)
batches_have_one_fault bytes NotJson TooLong is are = absurd (omega (arith, are, is.0))
batches_have_one_fault bytes NotJson NotJson is are = inr (inr refl)
batches_have_one_fault bytes NotJson NotList is are = absurd (is.1 are.0 are.1.1)
batches_have_one_fault bytes NotJson TooMany is are = absurd (is.1 are.0 are.1.1)
batches_have_one_fault bytes NotList Memory is are = inr (inl refl)
batches_have_one_fault bytes NotList TooLong is are = absurd (omega (arith, are, is.1.0))
batches_have_one_fault bytes NotList NotJson is are = absurd (are.1 is.0 is.1.1)
batches_have_one_fault bytes NotList NotList is are = inr (inr refl)
batches_have_one_fault bytes NotList TooMany is are = absurd (none_is_some bytes is are)
batches_have_one_fault bytes TooMany Memory is are = inr (inl refl)
batches_have_one_fault bytes TooMany TooLong is are = absurd (omega (arith, are, is.1.0))
batches_have_one_fault bytes TooMany NotJson is are = absurd (are.1 is.0 is.1.1)
batches_have_one_fault bytes TooMany NotList is are = absurd (none_is_some bytes are is)
batches_have_one_fault bytes TooMany TooMany is are = inr (inr refl)

-- where a value is one item, values have one list of items
one_list_of : {A : Type 0} (IsItemOf : Data → A → Type 0) → ((value : Data) (a b : A) → IsItemOf value a → IsItemOf value b → a ≡ b)
    → (values : List Data) (items others : List A) → AreItemsOf IsItemOf values items → AreItemsOf IsItemOf values others → items ≡ others
one_list_of IsItemOf one values items others is are =
    let long = is.count in
    let as_long = are.count in
    same_lists items others (is.count ∙ sym are.count)
    (λ k d within.
    let value = slice_get-get_or values k null (omega arith) in
    one (get_or values k null) (get_or items k d) (get_or others k d)
    (is.each k (get_or values k null) (get_or items k d) value (slice_get-get_or items k d within))
    (are.each k (get_or values k null) (get_or others k d) value (slice_get-get_or others k d (omega arith))))

-- and so have bytes
pub one_list : {A : Type 0} (IsItemOf : Data → A → Type 0) → ((value : Data) (a b : A) → IsItemOf value a → IsItemOf value b → a ≡ b)
    → (bytes : List ℕ) (items others : List A) → HasItems IsItemOf bytes items → HasItems IsItemOf bytes others → items ≡ others
one_list IsItemOf one bytes items others is are =
    let lists : Some are.1 ≡ Some is.1 = sym are.3 ∙ same_listed bytes are.0 is.0 are.2 is.2 ∙ is.3 in
    let same : are.1 ≡ is.1 = cc in
    one_list_of IsItemOf one is.1 items others is.5 (subst (λ values. AreItemsOf IsItemOf values others) same are.5)
