use Rattle.std.proofs.Common.{◌≡◌, refl, ap, ◌∙◌}
use Rattle.mds_journal.specs.Lines.{recovered_texts}
use Rattle.mds_journal.proofs.LineLemmas.{texts_have_no_feed}
use Rattle.mds_journal.proofs.GroupLemmas.{recovered-at_rest}
use Rattle.mds_follow.proofs.Readings.{all_whole, end_stops}
use Rattle.mds_follow.proofs.reader.RequestReader.into_disk.Goals as goal

-- the file is at rest, with the lines that it had, which are whole groups
pub returns-in-Ok-finish-clause-stands : goal.returns-in-Ok-finish-clause-stands
returns-in-Ok-finish-clause-stands g c truth texts has =
    let seen = g.D.Device.seen in
    let reader = c.args.self in
    let file = seen reader.opening.device in
    let was = c.in-Ok-finish.ensures.was_true truth in
    let now : recovered_texts (seen c.in-Ok-finish.journal.device) ≡ recovered_texts file =
    ap recovered_texts (c.in-Ok-finish.ensures.at_rest truth) ∙ recovered-at_rest (recovered_texts file) (texts_have_no_feed file) in
    record {
      tells = all_whole seen g.D.Device.is_true reader file texts has was refl c.in-Ok.form (c.requires.done was) c.in-Ok.ensures.whole;
      stands = record { now = now; outcomes = λ outcome may. ap recovered_texts (c.in-Ok-finish.ensures.durable truth outcome may) ∙ now };
    }

-- the last group isn't
pub returns-in-Err-clause-fault : goal.returns-in-Err-clause-fault
returns-in-Err-clause-fault g c =
    let seen = g.D.Device.seen in
    let reader = c.args.self in
    rw c.into_device.ensures (λ truth texts has.
    end_stops seen g.D.Device.is_true reader (seen reader.opening.device) texts has truth refl c.in-Err.fault (c.requires.done truth) (rw c.number.ensures at c.in-Err.ensures.fault))
