use Rattle.std.proofs.Common.{◌+◌, refl}
use Rattle.mds_retention.proofs.Reading.{handed_on, is_next}
use Rattle.mds_retention.proofs.texts.TextLines.hand_out.Goals as goal

pub returns-clause-next : goal.returns-clause-next
returns-clause-next g c = λ known texts read.
    let remaining = g.R.Read.remaining in
    let old = c.args.self.now in
    let new = record old { count = c.in-Some.count; next = old.next + 1 } in
    (handed_on remaining known old new texts read c.requires.within refl refl refl refl refl, is_next remaining known old new texts read c.requires.within refl refl)
