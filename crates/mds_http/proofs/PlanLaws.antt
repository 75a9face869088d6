-- Which bytes determine what a stream asks for, and that it is one thing.
use Rattle.std.proofs.Common.{◌≡◌, ◌≤◌, ◌⊎◌, inl, inr, ℕ, ◌+◌, ◌-◌, List, [], ◌++◌, length, take, Option, Some, None, MatchOption, ap, ◌∙◌, sym, subst, arith, append_assoc, length-append, length-drop}
use Rattle.std.proofs.lemmas.List.{append-nil, take-append-le, drop-append-le}
use Rattle.serde_json.specs.Data.{Data}
use Rattle.httparse.specs.Grammar.{RequestHead, print_request, ReadsRequest}
use Rattle.httparse.proofs.GrammarLemmas.{ReadsRequest-append, request_unique}
use Rattle.mds_batch.specs.declared.batch.BatchFault.{BatchFault}
use Rattle.mds_batch.specs.declared.batch.BatchFault.TheVariants as batch
use Rattle.mds_batch.specs.Items.{IsVehicleItem, IsEventItem}
use Rattle.mds_batch.specs.Batch.{HasItems, HasFault}
use Rattle.mds_batch.proofs.BatchLaws.{batches_have_no_fault, batches_have_one_fault, one_list}
use Rattle.mds_batch.proofs.ItemLaws.{one_vehicle_item, one_event_item}
use Rattle.mds_core.specs.declared.key.Key.{Key}
use Rattle.mds_http.specs.declared.request.aim.Aim.{Aim}
use Rattle.mds_http.specs.declared.request.aim.Aim.TheVariants as aim
use Rattle.mds_http.specs.declared.request.fault.HttpFault.{HttpFault}
use Rattle.mds_http.specs.Asked.{Asked, Fixed, Vehicles, Events}
use Rattle.mds_http.specs.Head.{max_head, HasHead, after_head}
use Rattle.mds_http.specs.Routes.{aim_in}
use Rattle.mds_http.specs.Plan.{body_fault, IsBatch, IsPosted, IsAsked, IsPlanOf, head_fault, body_length}
use Rattle.mds_http.specs.HeadStatus.{IsComplete}
use Rattle.mds_http.specs.PlanLaws.{PlansAreOne, InvalidDetermines, PartialDetermines, RejectedDetermines, CompleteDetermines, StatusesStay}
use Rattle.mds_http.proofs.HeadLemmas.{head_bytes-append, unfinished_headless}

-- ---- heads

-- a stream begins with one head
one_head : (stream : List ℕ) (head other : RequestHead) → HasHead stream head → HasHead stream other → head ≡ other
one_head stream head other has have = (request_unique (take max_head stream) head other has.rest have.rest has.reads have.reads).0

-- and goes on beginning with it
head_more : (bytes more : List ℕ) (head : RequestHead) → HasHead bytes head → HasHead (bytes ++ more) head
head_more bytes more head has =
    let left = take (max_head - length bytes) more in
    record {
      rest = has.rest ++ left;
      reads = subst (λ all. ReadsRequest all head (has.rest ++ left)) (sym (head_bytes-append bytes more)) (ReadsRequest-append (take max_head bytes) head has.rest left has.reads);
      few = has.few;
    }

-- past the most bytes of a head nothing more makes one
head_less : (bytes more : List ℕ) (head : RequestHead) → max_head ≤ length bytes → HasHead (bytes ++ more) head → HasHead bytes head
head_less bytes more head long has =
    record { rest = has.rest; reads = subst (λ all. ReadsRequest all head has.rest) (take-append-le max_head bytes more long) has.reads; few = has.few }

pub statuses_stay : StatusesStay
statuses_stay bytes more = (
  λ invalid after head has. invalid (more ++ after) head (subst (λ stream. HasHead stream head) (append_assoc bytes more after) has),
  λ fault is. (is.0, head_more bytes more is.0 is.1, is.2),
  λ aim start len is. (is.0, head_more bytes more is.0 is.1, is.2),
)

-- ---- what determines a plan

pub invalid_determines : InvalidDetermines
invalid_determines bytes invalid more asked (inl none) = inl (invalid more, none.1)
invalid_determines bytes invalid more asked (inr some) = absurd (invalid [] some.0 (subst (λ stream. HasHead stream some.0) (sym (append-nil bytes)) some.1))

pub partial_determines : PartialDetermines
partial_determines bytes partial long more asked (inl none) = inl (λ head has. none.0 head (head_less bytes more head long has), none.1)
partial_determines bytes partial long more asked (inr some) = absurd (unfinished_headless bytes partial.0 some.0 some.1)

-- of a head with a fault the bytes behind it don't matter
same_fault : {A : Type 0} (found : Option A) (fault : A) (Plan Other : Type 0) (Told : A → Type 0) → found ≡ Some fault → MatchOption found Plan Told → MatchOption found Other Told
same_fault None fault Plan Other Told is asked = let no : None ≡ Some fault = is in cc
same_fault (Some told) fault Plan Other Told is asked = asked

pub rejected_determines : RejectedDetermines
rejected_determines bytes fault is more asked (inl none) = absurd (none.0 is.0 is.1)
rejected_determines bytes fault is more asked (inr some) =
    let same = one_head bytes is.0 some.0 is.1 some.1 in
    inr (some.0, head_more bytes more some.0 some.1, same_fault (head_fault some.0) fault _ _ _ (subst (λ head. head_fault head ≡ Some fault) same is.2) some.2)

-- of a head without one what it is about decides
same_aim : {A B : Type 0} (found : Option A) (aim : Option B) (about : B) (Plan Other : B → Type 0) (Told : A → Type 0)
    → found ≡ None → aim ≡ Some about → (Plan about → Other about) → MatchOption found (MatchOption aim ⊥ Plan) Told → MatchOption found (MatchOption aim ⊥ Other) Told
same_aim (Some told) aim about Plan Other Told none is more asked = let no : Some told ≡ None = none in cc
same_aim None None about Plan Other Told none is more asked = absurd asked
same_aim None (Some other) about Plan Other Told none is more asked =
    let same : other ≡ about = cc in
    subst Other (sym same) (more (subst Plan same asked))

-- a body that is there doesn't change
posted_more : (Asks : List ℕ → Asked → Type 0) (len : ℕ) (after more : List ℕ) (asked : Asked) → len ≤ length after → IsPosted Asks len after asked → IsPosted Asks len (after ++ more) asked
posted_more Asks len after more asked there (inl short) = absurd (omega (arith, short.0, there))
posted_more Asks len after more asked there (inr whole) =
    inr (omega (arith, there, length-append after more), subst (λ body. Asks body asked) (sym (take-append-le len after more there)) whole.1)

asked_more : (about : Aim Key) (len : ℕ) (after more : List ℕ) (asked : Asked) → len ≤ length after → IsAsked about len after asked → IsAsked about len (after ++ more) asked
asked_more aim.Vehicles len after more asked there is = posted_more (IsBatch IsVehicleItem Vehicles) len after more asked there is
asked_more aim.Events len after more asked there is = posted_more (IsBatch IsEventItem Events) len after more asked there is
asked_more (aim.One key) len after more asked there is = is
asked_more (aim.History key) len after more asked there is = is
asked_more aim.Rows len after more asked there is = is

-- what a head without a fault asks for, with its body there, it goes on asking for
plan_more : (head : RequestHead) (about : Aim Key) (start len : ℕ) (stream more : List ℕ) (asked : Asked) → IsComplete head about start len → start + len ≤ length stream
    → IsPlanOf head (after_head head stream) asked → IsPlanOf head (after_head head (stream ++ more)) asked
plan_more head about start len stream more asked complete there is =
    let start_is = complete.start_is in
    let len_is = complete.len_is in
    let behind : after_head head (stream ++ more) ≡ after_head head stream ++ more = drop-append-le (length (print_request head)) stream more (omega (arith, start_is, there)) in
    let enough : body_length head ≤ length (after_head head stream) = omega (arith, start_is, len_is, there, length-drop (length (print_request head)) stream) in
    same_aim (head_fault head) (aim_in head.target) about
    (λ aim. IsAsked aim (body_length head) (after_head head stream) asked) (λ aim. IsAsked aim (body_length head) (after_head head (stream ++ more)) asked) (λ fault. asked ≡ Fixed fault)
    complete.faultless complete.aim_is
    (λ was. subst (λ after. IsAsked about (body_length head) after asked) (sym behind) (asked_more about (body_length head) (after_head head stream) more asked enough was))
    is

pub complete_determines : CompleteDetermines
complete_determines bytes about start len is more there after asked (inl none) = absurd (none.0 is.0 (head_more bytes more is.0 is.1))
complete_determines bytes about start len is more there after asked (inr some) =
    let same = one_head (bytes ++ more) is.0 some.0 (head_more bytes more is.0 is.1) some.1 in
    let complete : IsComplete some.0 about start len = subst (λ head. IsComplete head about start len) same is.2 in
    inr (some.0, head_more (bytes ++ more) after some.0 some.1, plan_more some.0 about start len (bytes ++ more) after asked complete there some.2)

-- ---- one plan

-- want of memory is no fault of a body
no_memory : (told : BatchFault) (fault : HttpFault) → body_fault told ≡ Some fault → told ≡ batch.Memory → ⊥
no_memory told fault is memory = let no : None ≡ Some fault = ap body_fault (sym memory) ∙ is in cc

-- a body has one batch or one fault
one_batch : {A : Type 0} (IsItemOf : Data → A → Type 0) (Items : List A → Asked)
    → ((bytes : List ℕ) (items others : List A) → HasItems IsItemOf bytes items → HasItems IsItemOf bytes others → items ≡ others)
    → ((bytes : List ℕ) (items : List A) (fault : BatchFault) → HasItems IsItemOf bytes items → HasFault bytes fault → fault ≡ batch.Memory)
    → (body : List ℕ) (asked other : Asked) → IsBatch IsItemOf Items body asked → IsBatch IsItemOf Items body other → asked ≡ other
one_batch IsItemOf Items one none body asked other (inl is) (inl are) = is.2 ∙ ap Items (one body is.0 are.0 is.1 are.1) ∙ sym are.2
one_batch IsItemOf Items one none body asked other (inl is) (inr told) = absurd (no_memory told.0 told.1 told.3 (none body is.0 told.0 is.1 told.2))
one_batch IsItemOf Items one none body asked other (inr told) (inl is) = absurd (no_memory told.0 told.1 told.3 (none body is.0 told.0 is.1 told.2))
one_batch IsItemOf Items one none body asked other (inr told) (inr tells) = told.4 ∙ ap Fixed (one_fault told.0 tells.0 told.1 tells.1 told.3 tells.3 (batches_have_one_fault body told.0 tells.0 told.2 tells.2)) ∙ sym tells.4
  where
    one_fault : (told tells : BatchFault) (fault other : HttpFault) → body_fault told ≡ Some fault → body_fault tells ≡ Some other
        → (told ≡ batch.Memory) ⊎ ((tells ≡ batch.Memory) ⊎ (told ≡ tells)) → fault ≡ other
    one_fault told tells fault other is are (inl memory) = absurd (no_memory told fault is memory)
    one_fault told tells fault other is are (inr (inl memory)) = absurd (no_memory tells other are memory)
    one_fault told tells fault other is are (inr (inr same)) = let both : Some fault ≡ Some other = sym is ∙ ap body_fault same ∙ are in cc

one_posted : (Asks : List ℕ → Asked → Type 0) → ((body : List ℕ) (asked other : Asked) → Asks body asked → Asks body other → asked ≡ other)
    → (len : ℕ) (after : List ℕ) (asked other : Asked) → IsPosted Asks len after asked → IsPosted Asks len after other → asked ≡ other
one_posted Asks one len after asked other (inl short) (inl shorts) = short.1 ∙ sym shorts.1
one_posted Asks one len after asked other (inl short) (inr whole) = absurd (omega (arith, short.0, whole.0))
one_posted Asks one len after asked other (inr whole) (inl short) = absurd (omega (arith, short.0, whole.0))
one_posted Asks one len after asked other (inr whole) (inr wholes) = one (take len after) asked other whole.1 wholes.1

one_asked : (about : Aim Key) (len : ℕ) (after : List ℕ) (asked other : Asked) → IsAsked about len after asked → IsAsked about len after other → asked ≡ other
one_asked aim.Vehicles len after asked other is are =
    one_posted (IsBatch IsVehicleItem Vehicles)
    (one_batch IsVehicleItem Vehicles (one_list IsVehicleItem one_vehicle_item) (λ bytes items fault has. batches_have_no_fault bytes fault (inl (items, has))))
    len after asked other is are
one_asked aim.Events len after asked other is are =
    one_posted (IsBatch IsEventItem Events)
    (one_batch IsEventItem Events (one_list IsEventItem one_event_item) (λ bytes items fault has. batches_have_no_fault bytes fault (inr (items, has))))
    len after asked other is are
one_asked (aim.One key) len after asked other is are = is ∙ sym are
one_asked (aim.History key) len after asked other is are = is ∙ sym are
one_asked aim.Rows len after asked other is are = is ∙ sym are

one_plan_of : (found : Option HttpFault) (about : Option (Aim Key)) (len : ℕ) (after : List ℕ) (asked other : Asked)
    → MatchOption found (MatchOption about ⊥ (λ aim. IsAsked aim len after asked)) (λ fault. asked ≡ Fixed fault)
    → MatchOption found (MatchOption about ⊥ (λ aim. IsAsked aim len after other)) (λ fault. other ≡ Fixed fault) → asked ≡ other
one_plan_of (Some fault) about len after asked other is are = is ∙ sym are
one_plan_of None (Some about) len after asked other is are = one_asked about len after asked other is are
one_plan_of None None len after asked other is are = absurd is

pub plans_are_one : PlansAreOne
plans_are_one stream asked other (inl none) (inl nones) = none.1 ∙ sym nones.1
plans_are_one stream asked other (inl none) (inr some) = absurd (none.0 some.0 some.1)
plans_are_one stream asked other (inr some) (inl none) = absurd (none.0 some.0 some.1)
plans_are_one stream asked other (inr some) (inr others) =
    let same = one_head stream others.0 some.0 others.1 some.1 in
    one_plan_of (head_fault some.0) (aim_in some.0.target) (body_length some.0) (after_head some.0 stream) asked other some.2
    (subst (λ head. IsPlanOf head (after_head head stream) other) same others.2)
