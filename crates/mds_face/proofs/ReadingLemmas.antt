-- Lemmas on reading what a stream asks for.
use Rattle.std.proofs.Common.{◌≡◌, ℕ, ◌+◌, ◌-◌, ◌<◌, ◌≤◌, List, [], ◌++◌, length, Option, None, Some, IfSome, inl, inr, refl, sym, ap, ◌∙◌, subst, arith, append-nil, length-append}
use Rattle.std.proofs.lemmas.Bool.{cases_lt}
use Rattle.std.specs.Io.KnownBytes.{Consumes, IsAtEnd}
use Rattle.std.proofs.KnownBytes.{Consumes-nil, Consumes-trans}
use Rattle.mds_io.specs.Read.{ConsumesUpTo, Gains}
use Rattle.mds_core.specs.declared.key.Key.{Key}
use Rattle.mds_http.specs.declared.request.aim.Aim.{Aim}
use Rattle.mds_http.specs.declared.request.head_status.HeadStatus.{HeadStatus}
use Rattle.mds_http.specs.declared.request.head_status.HeadStatus.TheVariants.{Partial, Invalid, Rejected, Complete}
use Rattle.mds_http.specs.Asked.{Asked}
use Rattle.mds_http.specs.Plan.{IsPlan}
use Rattle.mds_http.specs.HeadStatus.{IsHeadStatus, IsInReach}
use Rattle.mds_http.proofs.PlanLaws.{invalid_determines, partial_determines, rejected_determines, complete_determines, statuses_stay}
use Rattle.mds_face.specs.Reading.{Grows, HasStatus, IsEnough, ReadsNoFurther, missing_bytes}

-- some bytes have the status of the same bytes
pub status_of_same : (a b : List ℕ) (status : HeadStatus) → a ≡ b → IsHeadStatus a status → IsHeadStatus b status
status_of_same a b status same is = subst (λ bytes. IsHeadStatus bytes status) same is

-- and their body is in reach where that of the same bytes is
pub has_status : {a b : List ℕ} {status : HeadStatus} → a ≡ b → IsHeadStatus a status → IsInReach a status → HasStatus b status
has_status {a} {b} {status} same is reach =
    record { head = status_of_same a b status same is; in_reach = subst (λ bytes. IsInReach bytes status) same reach }

-- nothing was read yet
pub read_none : (a : Option (List ℕ)) (bytes : List ℕ) → bytes ≡ [] → Consumes a a bytes
read_none a bytes none = rw none (Consumes-nil a)

-- one read after others
pub read_next : (most : ℕ) (a b c : Option (List ℕ)) (held grown : List ℕ) → Consumes a b held → Gains most b c held grown → Consumes a c grown
read_next most a b c held grown p q = rw q.2 (Consumes-trans a b c held q.0 p q.3)

-- and others behind them
pub read_on : (a b c : Option (List ℕ)) (held grown : List ℕ) → Consumes a b held → Grows b c held grown → Consumes a c grown
read_on a b c held grown p q = rw q.1 (Consumes-trans a b c held q.0 p q.2)

-- no more was read
pub grows_none : (a : Option (List ℕ)) (held : List ℕ) → Grows a a held held
grows_none a held = ([], sym (append-nil held), Consumes-nil a)

-- what the bytes that were read ask for, the stream does, where they are enough
pub plan_of_read : (a b : Option (List ℕ)) (bytes : List ℕ) (asked : Asked) → Consumes a b bytes → IsEnough b bytes → IsPlan bytes asked → IfSome a (λ stream. IsPlan stream asked)
plan_of_read None b bytes asked p enough plan = tt
plan_of_read (Some x) None bytes asked p enough plan = absurd p
plan_of_read (Some x) (Some y) bytes asked p (inl end) plan = subst (λ stream. IsPlan stream asked) (sym (p ∙ ap (λ l. bytes ++ l) end ∙ append-nil bytes)) plan
plan_of_read (Some x) (Some y) bytes asked p (inr determined) plan = subst (λ stream. IsPlan stream asked) (sym p) (determined y asked plan)

-- no whole head, at the stream's end or in as many bytes as a head may have, is enough
pub partial_enough : (left : Option (List ℕ)) (bytes : List ℕ) → IsHeadStatus bytes Partial → (length bytes < 16384 → IsAtEnd left) → IsEnough left bytes
partial_enough left bytes status end =
    elim (cases_lt (length bytes) 16384) [
      | inl below ↦ inl (end below)
      | inr above ↦ inr (partial_determines bytes status above)
    ]

-- a head without a fault and its body, or all that there is of it, are enough
pub complete_enough : (aim : Aim Key) (start len most : ℕ) (a b : Option (List ℕ)) (held grown : List ℕ) → IsHeadStatus held (Complete aim start len) → Gains most a b held grown
    → (length grown < start + len → IsAtEnd b) → IsEnough b grown
complete_enough aim start len most a b held grown status gains end =
    elim (cases_lt (length grown) (start + len)) [
      | inl below ↦ inl (end below)
      | inr above ↦ inr (rw gains.2 (complete_determines held aim start len status gains.0 (rw gains.2 at above)))
    ]

-- bytes behind a head without a fault leave it as it is
pub complete_stays : (aim : Aim Key) (start len most : ℕ) (a b : Option (List ℕ)) (held grown : List ℕ) → IsHeadStatus held (Complete aim start len) → Gains most a b held grown
    → IsHeadStatus grown (Complete aim start len)
complete_stays aim start len most a b held grown status gains = rw gains.2 ((statuses_stay held gains.0).2 aim start len status)

-- and its body in reach
pub reach_stays : (status : HeadStatus) (most : ℕ) (a b : Option (List ℕ)) (held grown : List ℕ) → IsInReach held status → Gains most a b held grown → IsInReach grown status
reach_stays Partial most a b held grown reach gains = tt
reach_stays Invalid most a b held grown reach gains = tt
reach_stays (Rejected fault) most a b held grown reach gains = tt
reach_stays (Complete aim start len) most a b held grown reach gains = (rw (gains.2, length-append) (omega (arith, reach.0)), reach.1, reach.2)

-- where no body is announced, the bytes at which a head is no longer waited for are enough
pub head_enough : (status : HeadStatus) (left : Option (List ℕ)) (bytes : List ℕ) → IsHeadStatus bytes status → (status ≡ Partial → length bytes < 16384 → IsAtEnd left)
    → ((aim : Aim Key) (start len : ℕ) → status ≡ Complete aim start len → ⊥) → IsEnough left bytes
head_enough Partial left bytes is end bodiless = partial_enough left bytes is (end refl)
head_enough Invalid left bytes is end bodiless = inr (invalid_determines bytes is)
head_enough (Rejected fault) left bytes is end bodiless = inr (rejected_determines bytes fault is)
head_enough (Complete aim start len) left bytes is end bodiless = absurd (bodiless aim start len refl)

-- within a limit the bytes stay within it
pub gains_few : (limit : ℕ) (a b : Option (List ℕ)) (held grown : List ℕ) → length held ≤ limit → Gains (limit - length held) a b held grown → length grown ≤ limit
gains_few limit a b held grown fits gains = rw (gains.2, length-append) (omega (arith, gains.1))

-- nothing was lost
pub loses_none : (most : ℕ) (a : Option (List ℕ)) → ConsumesUpTo most a a
loses_none most a = ([], omega arith, Consumes-nil a)

-- bytes, and others up to the limit, are bytes up to the limit
pub loses_next : (limit : ℕ) (a b c : Option (List ℕ)) (held : List ℕ) → length held ≤ limit → Consumes a b held → ConsumesUpTo (limit - length held) b c → ConsumesUpTo limit a c
loses_next limit a b c held fits p q = (held ++ q.0, rw length-append (omega (arith, q.1)), Consumes-trans a b c held q.0 p q.2)

-- bytes that a head may have, and no more
no_more : (a b c : Option (List ℕ)) (held : List ℕ) → length held ≤ 16384 → Consumes a b held → ConsumesUpTo 0 b c → ReadsNoFurther a c
no_more a b c held few p q =
    let fits : length (held ++ q.0) ≤ 16384 = rw length-append (omega (arith, q.1)) in
    (held ++ q.0, Consumes-trans a b c held q.0 p q.2, inl fits)

-- a head's bytes, and those that its body waits for, are no more than the request's
pub no_further : (status : HeadStatus) (a b c : Option (List ℕ)) (held : List ℕ) → length held ≤ 16384 → IsHeadStatus held status → Consumes a b held → ConsumesUpTo (missing_bytes status (length held)) b c → ReadsNoFurther a c
no_further (Complete aim start len) a b c held few is p q =
    let bytes = held ++ q.0 in
    let taken = Consumes-trans a b c held q.0 p q.2 in
    let counted : length bytes ≡ length held + length q.0 = length-append held q.0 in
    elim (cases_lt (length held) (start + len)) [
      | inl below ↦
          let fits : length bytes ≤ start + len = omega (arith, q.1) in
          (bytes, taken, inr (aim, start, len, (statuses_stay held q.0).2 aim start len is, fits))
      | inr above ↦ let fits : length bytes ≤ 16384 = omega (arith, q.1) in (bytes, taken, inl fits)
    ]
no_further Partial a b c held few is p q = no_more a b c held few p q
no_further Invalid a b c held few is p q = no_more a b c held few p q
no_further (Rejected fault) a b c held few is p q = no_more a b c held few p q
