use Rattle.std.proofs.Common.{◌∙◌, List, ℕ, ap, sym, subst}
use Rattle.mds_journal.specs.Lines.{recovered_texts}
use Rattle.mds_follow.specs.Reading.{IsFormFault}
use Rattle.mds_follow.proofs.Blanks.{open_leaves, open_fault, stays}
use Rattle.mds_follow.proofs.reader.RequestReader.open.Goals as goal

-- the first line of the file was taken
pub returns-in-Ok-take_form-clause-at_first : goal.returns-in-Ok-take_form-clause-at_first
returns-in-Ok-take_form-clause-at_first g c =
    let form = c.in-Ok-take_form.ensures.form in
    let reading = c.take_form.ensures.reading in
    record {
      reading = reading.reading;
      limit = reading.limit;
      form = (
        form.0,
        record {
          groups = form.1.groups;
          taken = form.1.taken;
          none = form.1.none;
          number = form.1.number;
          given = λ truth.
              let opened = c.take_form.ensures.read_on.was_true truth in
              ap recovered_texts ((c.take_form.ensures.read_on.untouched truth).file ∙ c.in-Ok-start.ensures.same opened ∙ sym (c.in-Ok-start.ensures.all opened)) ∙ form.1.given truth;
        },
      );
    }

pub returns-in-Ok-take_form-clause-any_moment : goal.returns-in-Ok-take_form-clause-any_moment
returns-in-Ok-take_form-clause-any_moment g c truth =
    let opened = c.take_form.ensures.read_on.was_true truth in
    let made = c.in-Ok-start.ensures.was_true opened in
    open_leaves g.D.Device.seen g.D.Device.may_leave g.D.Device.moment g.D.Device.left_since c.args.device c.in-Ok-with_form.device c.in-Ok-start.opening.device c.take_form.new.self.opening.device
    (g.met.D.Device.counts_now c.in-Ok-with_form.device) (c.in-Ok-with_form.ensures.any_moment made) (c.in-Ok-start.ensures.any_moment opened) (c.take_form.ensures.read_on.untouched truth)

pub returns-in-Err-take_form-clause-fault : goal.returns-in-Err-take_form-clause-fault
returns-in-Err-take_form-clause-fault g c =
    rw c.into_device.ensures (λ truth.
    let opened = c.take_form.ensures.read_on.was_true truth in
    let made = c.in-Ok-start.ensures.was_true opened in
    let why = subst (λ (w : List ℕ). IsFormFault w c.in-Err-take_form.fault) (c.in-Ok-start.ensures.all opened) (c.in-Err-take_form.ensures.fault truth) in
    open_fault (g.D.Device.seen c.args.device) (g.D.Device.seen c.in-Ok-with_form.device) c.in-Err-take_form.fault (c.in-Ok-with_form.ensures.kept made) (c.in-Ok-with_form.ensures.empty made) why)

pub returns-in-Err-take_form-clause-same : goal.returns-in-Err-take_form-clause-same
returns-in-Err-take_form-clause-same g c =
    rw c.into_device.ensures (λ truth journal.
    let opened = c.take_form.ensures.read_on.was_true truth in
    let made = c.in-Ok-start.ensures.was_true opened in
    let why = subst (λ (w : List ℕ). IsFormFault w c.in-Err-take_form.fault) (c.in-Ok-start.ensures.all opened) (c.in-Err-take_form.ensures.fault truth) in
    (c.take_form.ensures.read_on.untouched truth).file
    ∙ (c.in-Ok-start.ensures.same opened ∙ stays (g.D.Device.seen c.args.device) (g.D.Device.seen c.in-Ok-with_form.device) c.in-Err-take_form.fault (c.in-Ok-with_form.ensures.kept made) why journal))
