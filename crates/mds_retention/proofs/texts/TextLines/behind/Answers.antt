use Rattle.std.proofs.Common.{sym, subst}
use Rattle.mds_groups.specs.Stream.{HasTaken}
use Rattle.mds_retention.specs.Place.{IsAt}
use Rattle.mds_retention.proofs.Reading.{begun}
use Rattle.mds_retention.proofs.texts.TextLines.behind.Goals as goal

pub returns-clause-behind : goal.returns-clause-behind
returns-clause-behind g c = λ known lines groups at gives.
    begun g.R.Read.remaining known c.with.result (g.R.Read.remaining c.args.reader) lines groups c.with.ensures.all gives
    (subst (λ w. HasTaken w lines groups) (sym c.with.ensures.groups) (c.behind.ensures lines groups at.journal)) (subst (IsAt lines) (sym c.with.ensures.place) at.at) c.with.ensures.none
