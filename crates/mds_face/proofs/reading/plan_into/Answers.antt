use Rattle.std.proofs.Common.{sym, subst}
use Rattle.mds_http.specs.Asked.{asked_in}
use Rattle.mds_http.specs.Plan.{IsPlan}
use Rattle.mds_face.proofs.ReadingLemmas.{no_further, plan_of_read, read_on, status_of_same}
use Rattle.mds_face.proofs.reading.plan_into.Goals as goal

pub plan-requires-clause-status : goal.plan-requires-clause-status
plan-requires-clause-status g c = status_of_same _ _ _ (sym c.deref.ensures.value) c.in_ok-read_body.ensures.status.head

pub returns-in_err-read_body-clause-no_further : goal.returns-in_err-read_body-clause-no_further
returns-in_err-read_body-clause-no_further g c = no_further _ _ _ _ _ c.in-Ok.ensures.few c.in-Ok.ensures.status.head c.in-Ok.ensures.taken c.in_err-read_body.ensures.lost

pub returns-in-Ok-plan-clause-plan : goal.returns-in-Ok-plan-clause-plan
returns-in-Ok-plan-clause-plan g c =
    let plan = subst (λ bytes. IsPlan bytes (asked_in c.in-Ok-plan.plan)) c.deref.ensures.value c.in-Ok-plan.ensures.plan in
    plan_of_read _ _ _ _ (read_on _ _ _ _ _ c.in-Ok.ensures.taken c.in_ok-read_body.ensures.grown) c.in_ok-read_body.ensures.enough plan

pub returns-in-Ok-plan-clause-no_further : goal.returns-in-Ok-plan-clause-no_further
returns-in-Ok-plan-clause-no_further g c = no_further _ _ _ _ _ c.in-Ok.ensures.few c.in-Ok.ensures.status.head c.in-Ok.ensures.taken c.in_ok-read_body.ensures.lost

pub returns-in-Err-plan-clause-no_further : goal.returns-in-Err-plan-clause-no_further
returns-in-Err-plan-clause-no_further g c = no_further _ _ _ _ _ c.in-Ok.ensures.few c.in-Ok.ensures.status.head c.in-Ok.ensures.taken c.in_ok-read_body.ensures.lost
