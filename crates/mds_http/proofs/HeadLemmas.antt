-- Heads at the front of streams.
use Rattle.std.proofs.Common.{◌≡◌, ◌≤◌, ◌⊎◌, inl, inr, ℕ, zero, suc, ◌-◌, min, List, [], ◌∷◌, ◌++◌, length, take, drop, refl, ap, ◌∙◌, sym, subst, arith}
use Rattle.std.proofs.lemmas.List.{append-nil, take_min, length-take-le, length-map}
use Rattle.httparse.specs.Grammar.{RequestHead, ReadsRequest, HasNoRequest}
use Rattle.httparse.specs.Spans.{header_bytes, name_and_value, IsRequestAt, RequestOverflows}
use Rattle.httparse.specs.declared.spans.RequestSpans.{RequestSpans}
use Rattle.httparse.specs.declared.spans.HeaderSpan.{HeaderSpan}
use Rattle.mds_http.specs.declared.request.head_status.HeadStatus.{HeadStatus}
use Rattle.mds_http.specs.declared.request.head_status.HeadStatus.TheVariants.{Partial, Invalid, Rejected, Complete}
use Rattle.mds_http.specs.Head.{max_head, max_fields, HasHead, HasNoHead, NeverHasHead}
use Rattle.mds_http.specs.Fields.{ArePartsOf}
use Rattle.mds_http.specs.declared.request.fault.HttpFault.TheVariants.{BadHead}
use Rattle.mds_http.specs.Asked as asked
use Rattle.mds_http.specs.Plan.{IsPlan}
use Rattle.mds_http.specs.HeadStatus.{IsJudged, IsHeadStatus}

-- the first bytes of bytes with more behind them
take-append : (n : ℕ) (bytes more : List ℕ) → take n (bytes ++ more) ≡ take n bytes ++ take (n - length bytes) more
take-append zero bytes more = let none : 0 - length bytes ≡ 0 = omega arith in ap (λ k. take k more) (sym none)
take-append (suc n) [] more = let all : suc n - length {A = ℕ} [] ≡ suc n = omega arith in ap (λ k. take k more) (sym all)
take-append (suc n) (byte ∷ bytes) more =
    let same : suc n - length (byte ∷ bytes) ≡ n - length bytes = omega arith in
    ap (λ rest. byte ∷ rest) (take-append n bytes more) ∙ ap (λ k. byte ∷ (take n bytes ++ take k more)) (sym same)

pub head_bytes-append : (front more : List ℕ) → take max_head (front ++ more) ≡ take max_head front ++ take (max_head - length front) more
head_bytes-append front more = take-append max_head front more

-- as many bytes as a head may have, or all of them
pub head_bytes : (front : List ℕ) (count : ℕ) → count ≡ min (length front) max_head → take count front ≡ take max_head front
head_bytes front count is =
    let turned : count ≡ min max_head (length front) = omega (arith, is) in
    ap (λ k. take k front) turned ∙ take_min max_head front

-- bytes that overflow the fields whatever follows begin with no head
pub never_head : (front bytes : List ℕ) → bytes ≡ take max_head front → RequestOverflows max_fields bytes → NeverHasHead front
never_head front bytes are overflows more head has =
    let reads : ReadsRequest (bytes ++ take (max_head - length front) more) head has.rest =
    subst (λ all. ReadsRequest all head has.rest) (head_bytes-append front more ∙ ap (λ start. start ++ take (max_head - length front) more) (sym are)) has.reads in
    let over = overflows (take (max_head - length front) more) head has.rest reads in
    let few = has.few in
    omega (arith, over, few)

-- a head that was read stands at the front
pub full_head : (front bytes : List ℕ) (headers : List HeaderSpan) (spans : RequestSpans) (head : RequestHead)
    → bytes ≡ take max_head front → spans.headers ≤ length headers → length headers ≤ max_fields → IsRequestAt bytes headers spans head → HasHead front head
full_head front bytes headers spans head are count room read =
    let fields : length (take spans.headers headers) ≡ length head.fields =
    sym (length-map (take spans.headers headers) (header_bytes bytes)) ∙ ap length read.fields ∙ length-map head.fields name_and_value in
    let taken = length-take-le spans.headers headers count in
    record {
      rest = drop spans.len bytes;
      reads = subst (λ all. ReadsRequest all head (drop spans.len bytes)) are read.reads;
      few = omega (arith, fields, taken, count, room);
    }

-- and its parts are those that were read
pub parts_of : (bytes : List ℕ) (headers : List HeaderSpan) (spans : RequestSpans) (head : RequestHead) → IsRequestAt bytes headers spans head → ArePartsOf bytes spans (take spans.headers headers) head
parts_of bytes headers spans head read =
    record { method = read.method; target = read.path; text = read.reads.0.target_text; fields = read.fields; len = read.len }

-- a head at the front has the status that it comes to
pub judged_status : (front : List ℕ) (status : HeadStatus) (head : RequestHead) → HasHead front head → IsJudged head status → IsHeadStatus front status
judged_status front Partial head has judged = absurd judged
judged_status front Invalid head has judged = absurd judged
judged_status front (Rejected fault) head has judged = (head, has, judged)
judged_status front (Complete aim start len) head has judged = (head, has, judged)

-- bytes without a whole head begin with none
pub unfinished_headless : (bytes : List ℕ) → HasNoRequest (take max_head bytes) → HasNoHead bytes
unfinished_headless bytes none head has = none head has.rest has.reads

-- what no head begins with asks for nothing
pub headless_plan : (stream : List ℕ) (status : HeadStatus) → (status ≡ Partial) ⊎ (status ≡ Invalid) → IsHeadStatus stream status → IsPlan stream (asked.Fixed BadHead)
headless_plan stream status (inl partial) is = inl (unfinished_headless stream (subst (IsHeadStatus stream) partial is).0, refl)
headless_plan stream status (inr invalid) is = inl (λ head has. subst (IsHeadStatus stream) invalid is [] head (subst (λ all. HasHead all head) (sym (append-nil stream)) has), refl)
