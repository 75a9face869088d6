use Rattle.std.proofs.Common.{subst}
use Rattle.std.specs.Prelude.{MatchOption}
use Rattle.mds_retention.specs.Events.{HasEvents, HasNothingOf}
use Rattle.mds_commands.proofs.events.lines_named.Goals as goal

pub returns-in-Some-found-clause-ok : goal.returns-in-Some-found-clause-ok
returns-in-Some-found-clause-ok g c =
    let key = c.in-Some.key in
    let remaining = g.R.Read.remaining in
    let reader = c.in-Some-reader.reader in
    let told = subst (λ one. MatchOption c.in-Ok.found (HasNothingOf key (remaining one)) (λ lines. HasEvents key (remaining one) lines.items))
    c.in-Some-reader.reader-is c.in-Ok.ensures.told in
    let has = subst (λ found. MatchOption found (HasNothingOf key (remaining reader)) (λ lines. HasEvents key (remaining reader) lines.items)) c.in-Some-found.is told in
    (key, reader, (c.in-Some.ensures, c.in-Some-reader.is), has)
