-- How many events there are with one request more.
use Rattle.std.proofs.Common.{◌≡◌, ◌∙◌, ◌+◌, ◌≤◌, List, [], ◌∷◌, ◌++◌, length, cond, Bool, true, false, None, refl, ap, append-nil, arith, length-append}
use Rattle.std.proofs.lemmas.List.Elements.{filter_map-append}
use Rattle.mds_core.specs.declared.request.Request.{Request}
use Rattle.mds_core.specs.declared.request.Request.TheVariants.{Register, Report, Look}
use Rattle.mds_core.specs.History.{report_of, reports}

-- a request that reports none adds no event
pub none_more : (all : List Request) (request : Request) (stays : Bool) → report_of request ≡ None → length (reports (all ++ cond stays (request ∷ []) [])) ≡ length (reports all)
none_more all request false none = ap (λ one. length (reports one)) (append-nil all)
none_more all (Register key) true none = ap length (filter_map-append report_of all (Register key ∷ []) ∙ append-nil (reports all))
none_more all (Look key) true none = ap length (filter_map-append report_of all (Look key ∷ []) ∙ append-nil (reports all))
none_more all (Report event) true none = absurd (cc none)

-- one that reports an event adds one, where it stays
pub event_more : (all : List Request) (request : Request) → (report_of request ≡ None → ⊥) → length (reports (all ++ request ∷ [])) ≡ length (reports all) + 1
event_more all (Register key) some = absurd (some refl)
event_more all (Look key) some = absurd (some refl)
event_more all (Report event) some = ap length (filter_map-append report_of all (Report event ∷ [])) ∙ length-append (reports all) (event ∷ [])

-- there are no more events than requests
pub reports_few : (all : List Request) → length (reports all) ≤ length all
reports_few [] = omega arith
reports_few (Register key ∷ all) = omega (arith, reports_few all)
reports_few (Look key ∷ all) = omega (arith, reports_few all)
reports_few (Report event ∷ all) = omega (arith, reports_few all)
