use Rattle.std.proofs.Common.{◌∙◌, [], ap, sym, subst}
use Rattle.mds_groups.specs.Stream.{HasTaken}
use Rattle.mds_retention.specs.declared.place.Place.{Place}
use Rattle.mds_retention.proofs.Telling.{gives_none}
use Rattle.mds_retention.proofs.Reading.{at_start, begun}
use Rattle.mds_retention.proofs.texts.TextLines.open.Goals as goal

pub returns-clause-none : goal.returns-clause-none
returns-clause-none g c =
    let known = g.R.Read.remaining c.args.reader in
    let place = c.with.ensures.place in
    begun g.R.Read.remaining known c.with.result known [] [] c.with.ensures.all (gives_none known) (subst (λ w. HasTaken w [] []) (sym c.with.ensures.groups) c.new.ensures)
    (at_start c.with.result.place (ap (λ (w : Place). w.bytes) place ∙ c.start.ensures.bytes) (ap (λ (w : Place). w.lines) place ∙ c.start.ensures.lines)) c.with.ensures.none
