use Rattle.std.proofs.Common.{subst}
use Rattle.mds_file.specs.Followed.{IsRest}
use Rattle.mds_retention.proofs.Places.{gives_behind}
use Rattle.mds_retention.proofs.Telling.{passed_on}
use Rattle.mds_retention.proofs.rest.read_on.Goals as goal

pub returns-clause-draft : goal.returns-clause-draft
returns-clause-draft g c = (_, c.in_ok-next.ensures.copied.5 c.requires.draft.0 c.requires.draft.1)

pub returns-clause-read : goal.returns-clause-read
returns-clause-read g c =
    let content = g.F.Followed.content c.rest.new.self in
    let known = g.F.Rest.Read.remaining c.in_ok-rest.rest in
    let copied = c.in_ok-next.ensures.copied in (
      copied.0,
      copied.1,
      copied.2,
      λ lines groups begins is. copied.3 content lines groups is (gives_behind content known lines begins (subst (λ n. IsRest n content known) is.at.bytes c.in_ok-rest.ensures.rest)),
      copied.4,
      copied.5,
    )

pub returns-in_err-next-clause-fault : goal.returns-in_err-next-clause-fault
returns-in_err-next-clause-fault g c =
    let content = g.F.Followed.content c.rest.new.self in
    let known = g.F.Rest.Read.remaining c.in_ok-rest.rest in
    passed_on _ _ _ c.from_residual-in_err-next.ensures.1 (λ lines groups history begins is told.
    c.in_err-next.ensures.fault content lines groups history is (gives_behind content known lines begins (subst (λ n. IsRest n content known) is.at.bytes c.in_ok-rest.ensures.rest)) told)

pub returns-in_err-rest-clause-fault : goal.returns-in_err-rest-clause-fault
returns-in_err-rest-clause-fault g c = passed_on _ _ _ c.from_residual.ensures.1 (λ lines groups history begins is told. tt)
