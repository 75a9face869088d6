use Rattle.std.proofs.Common.{◌<◌, ◌∙◌, Err, ℕ, List, length, refl, sym, ap, subst}
use Rattle.mds_journal.specs.Lines.{recovered_texts}
use Rattle.mds_journal.specs.declared.group.TheConstants.{MAX_GROUP_BYTES}
use Rattle.mds_groups.specs.Laws.{TellsTexts}
use Rattle.mds_follow.specs.End.{end_of, IsEnd}
use Rattle.mds_follow.specs.Reading.{StopsBehind}
use Rattle.mds_follow.proofs.Readings.{all_whole, end_stops, hurt_stops}
use Rattle.mds_follow.proofs.EndLemmas.{end_is, if_err, if_ok, not_short}
use Rattle.mds_follow.proofs.reader.RequestReader.read_end.Goals as goal

-- the last group isn't whole
pub returns-in-Err-clause-fault : goal.returns-in-Err-clause-fault
returns-in-Err-clause-fault g c truth texts has =
    let reader = c.args.self.now in
    end_stops g.D.Device.seen g.D.Device.is_true reader (g.D.Device.seen reader.opening.device) texts has truth refl c.in-Err.fault (c.requires.done truth)
    (rw c.number-number.ensures at c.in-Err.ensures.fault)

-- all are, and this stands behind them
pub returns-in-Ok-rest-clause-end : goal.returns-in-Ok-rest-clause-end
returns-in-Ok-rest-clause-end g c =
    let seen = g.D.Device.seen in
    let reader = c.args.self.now in
    let file = seen reader.opening.device in
    let form = c.in-Ok.form in
    if_ok c.of.result _ _
    (λ end found truth texts has.
    let was = c.rest.ensures.was_true truth in
    let same = (c.rest.ensures.untouched truth).file in
    let read = c.requires.reading.reading.read was in
    let are = c.in-Ok-rest.ensures.rest truth ∙ end_is file reader.opening.end read.lines read.within (c.requires.done was) ∙ ap end_of (sym same) in
    let whole = all_whole seen g.D.Device.is_true reader file texts has was refl form (c.requires.done was) c.in-Ok.ensures.whole in
    record {
      form = form;
      tells = subst (λ (w : List ℕ). TellsTexts form (recovered_texts w) texts) (sym same) whole;
      found = subst (λ (w : List ℕ). IsEnd form w end) are found;
    })
    c.of.ensures.end

-- or nothing can be said of that
pub returns-in-Ok-rest-clause-fault : goal.returns-in-Ok-rest-clause-fault
returns-in-Ok-rest-clause-fault g c =
    let seen = g.D.Device.seen in
    let reader = c.args.self.now in
    let file = seen reader.opening.device in
    let form = c.in-Ok.form in
    if_err c.of.result _ _
    (λ fault why truth texts has.
    let was = c.rest.ensures.was_true truth in
    let same = (c.rest.ensures.untouched truth).file in
    let read = c.requires.reading.reading.read was in
    let are = c.in-Ok-rest.ensures.rest truth ∙ end_is file reader.opening.end read.lines read.within (c.requires.done was) in
    subst (λ (w : List ℕ). StopsBehind w texts fault) (sym same)
    (hurt_stops seen g.D.Device.is_true reader file texts has was refl form _ fault (c.requires.done was) c.in-Ok.ensures.whole are why))
    (rw c.number-number.ensures at c.of.ensures.fault)

-- it is too long
pub returns-in-Err-Damaged-clause-fault : goal.returns-in-Err-Damaged-clause-fault
returns-in-Err-Damaged-clause-fault g c =
    let seen = g.D.Device.seen in
    let reader = c.args.self.now in
    let file = seen reader.opening.device in
    rw c.of_journal.ensures (λ truth texts has.
    let was = c.rest.ensures.was_true truth in
    let same = (c.rest.ensures.untouched truth).file in
    let read = c.requires.reading.reading.read was in
    let are = end_is file reader.opening.end read.lines read.within (c.requires.done was) ∙ ap end_of (sym same) in
    let many = c.in-Err-Damaged.ensures.damaged (ap Err c.in-Err-Damaged.field-0-is) truth in
    not_short (seen c.rest.new.self.device) (subst (λ (w : List ℕ). MAX_GROUP_BYTES < length w) are many))
