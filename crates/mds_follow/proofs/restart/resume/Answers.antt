use Rattle.std.proofs.Common.{◌≡◌, ◌∙◌, ℕ, List, length, drop, refl, sym, ap, subst, arith}
use Rattle.mds_core.specs.declared.request.Request.{Request}
use Rattle.mds_log.specs.Log.{requests}
use Rattle.mds_journal.specs.Lines.{recovered_texts}
use Rattle.mds_follow.specs.Disk.{IsTold}
use Rattle.mds_follow.specs.End.{EndsWith, IsCutOff, IsRefusedEnd}
use Rattle.mds_follow.specs.Record.{recorded_at}
use Rattle.mds_follow.specs.Reading.{IsStartFault}
use Rattle.mds_follow.proofs.Blanks.{keeps_all}
use Rattle.mds_follow.proofs.EndLemmas.{both_untouched, refused_is}
use Rattle.mds_follow.proofs.ReadBack.{read_only, stop_fault}
use Rattle.mds_follow.proofs.restart.resume.Goals as goal

-- the file was read, and nothing else was done to it
pub returns-in-Err-clause-any_moment_err : goal.returns-in-Err-clause-any_moment_err
returns-in-Err-clause-any_moment_err g c =
    let opened = c.args.reader.opening.device in
    let read = c.read_back.new.ahead.reader.opening.device in
    rw c.into_device-in-Err.ensures (λ truth.
    let then = c.read_back.ensures.read_on.was_true truth in
    keeps_all g.D.Device.seen g.D.Device.may_leave g.D.Device.moment g.D.Device.left_since opened read (c.requires.at_first.reading.read then).durable ((g.met.D.Device g.world.𝓛 g.world.𝓜 g.world.𝓡 ((λ s x. x), (λ x. x), (λ x. x), λ x. x)).only_now read)
    (c.read_back.ensures.read_on.untouched truth))

-- the file wasn't read further
pub returns-in_default-clause-any_moment_err : goal.returns-in_default-clause-any_moment_err
returns-in_default-clause-any_moment_err g c =
    let opened = c.args.reader.opening.device in
    rw c.into_device.ensures (λ truth.
    keeps_all g.D.Device.seen g.D.Device.may_leave g.D.Device.moment g.D.Device.left_since opened opened (c.requires.at_first.reading.read truth).durable ((g.met.D.Device g.world.𝓛 g.world.𝓜 g.world.𝓡 ((λ s x. x), (λ x. x), (λ x. x), λ x. x)).only_now opened)
    (record { file = refl; outcomes = λ outcome may. may; time = refl; past = λ t outcome was. was }))

-- it was read, and its fault is the start's
pub returns-in-Err-clause-fault : goal.returns-in-Err-clause-fault
returns-in-Err-clause-fault g c =
    rw c.into_device-in-Err.ensures (λ truth. (
      c.read_back.ensures.read_on.was_true truth,
      record { why = c.in-Err.ensures.fault truth; same = λ journal. (c.read_back.ensures.read_on.untouched truth).file },
    ))

-- the end was read too, and its fault is the start's
pub returns-in-Err-read_end-clause-fault : goal.returns-in-Err-read_end-clause-fault
returns-in-Err-read_end-clause-fault g c =
    rw c.into_device-in-Err-read_end.ensures (λ truth.
    let mid = c.read_end.ensures.read_on.was_true truth in
    let same = (c.read_end.ensures.read_on.untouched truth).file ∙ (c.read_back.ensures.read_on.untouched mid).file in
    let fault = c.in-Err-read_end.fault in
    let all = c.in-Ok.ensures.all in
    let Fault : List ℕ → Type 0 = λ w. IsStartFault c.args.book.now.tables w fault in (
      c.read_back.ensures.read_on.was_true mid,
      record {
        why = subst Fault same
            (stop_fault c.args.book.now.tables _ all.texts (requests c.read_back.new.keeper) fault all.told (c.in-Err-read_end.ensures.fault truth all.texts all.has));
        same = λ journal. same;
      },
    ))

-- nothing was done to the file
pub returns-in-Err-read_end-clause-any_moment_err : goal.returns-in-Err-read_end-clause-any_moment_err
returns-in-Err-read_end-clause-any_moment_err g c =
    let opened = c.args.reader.opening.device in
    let back = c.read_back.new.ahead.reader.opening.device in
    let last = c.read_end.new.self.opening.device in
    rw c.into_device-in-Err-read_end.ensures (λ truth.
    let mid = c.read_end.ensures.read_on.was_true truth in
    let then = c.read_back.ensures.read_on.was_true mid in
    keeps_all g.D.Device.seen g.D.Device.may_leave g.D.Device.moment g.D.Device.left_since opened last (c.requires.at_first.reading.read then).durable ((g.met.D.Device g.world.𝓛 g.world.𝓜 g.world.𝓡 ((λ s x. x), (λ x. x), (λ x. x), λ x. x)).only_now last)
    (both_untouched g.D.Device.seen g.D.Device.may_leave g.D.Device.moment g.D.Device.left_since opened back last (c.read_back.ensures.read_on.untouched mid) (c.read_end.ensures.read_on.untouched truth)))

pub returns-in-Err-take_end-clause-any_moment_err : goal.returns-in-Err-take_end-clause-any_moment_err
returns-in-Err-take_end-clause-any_moment_err g c =
    let opened = c.args.reader.opening.device in
    let back = c.read_back.new.ahead.reader.opening.device in
    let last = c.read_end.new.self.opening.device in
    rw c.into_device-in-Err-take_end.ensures (λ truth.
    let mid = c.read_end.ensures.read_on.was_true truth in
    let then = c.read_back.ensures.read_on.was_true mid in
    keeps_all g.D.Device.seen g.D.Device.may_leave g.D.Device.moment g.D.Device.left_since opened last (c.requires.at_first.reading.read then).durable ((g.met.D.Device g.world.𝓛 g.world.𝓜 g.world.𝓡 ((λ s x. x), (λ x. x), (λ x. x), λ x. x)).only_now last)
    (both_untouched g.D.Device.seen g.D.Device.may_leave g.D.Device.moment g.D.Device.left_since opened back last (c.read_back.ensures.read_on.untouched mid) (c.read_end.ensures.read_on.untouched truth)))

-- what stands there can't be cut off
pub returns-in-Err-into_disk-clause-fault : goal.returns-in-Err-into_disk-clause-fault
returns-in-Err-into_disk-clause-fault g c truth =
    let was = c.in-Err-into_disk.ensures.was_true truth in
    let mid = c.read_end.ensures.read_on.was_true was in
    let same = (c.read_end.ensures.read_on.untouched was).file ∙ (c.read_back.ensures.read_on.untouched mid).file in
    let fault = c.in-Err-into_disk.error.0 in
    let all = c.in-Ok.ensures.all in
    let has = c.in-Ok-read_end.ensures.texts all.texts all.has in
    let Fault : List ℕ → Type 0 = λ w. IsStartFault c.args.book.now.tables w fault in (
      c.read_back.ensures.read_on.was_true mid,
      record {
        why = subst Fault same (stop_fault c.args.book.now.tables _ all.texts (requests c.read_back.new.keeper) fault all.told (c.in-Err-into_disk.ensures.fault truth all.texts has));
        same = λ journal. c.in-Err-into_disk.ensures.same truth journal ∙ same;
      },
    )

-- the tables refuse the group that was found
pub returns-then-not-is_taken-clause-fault : goal.returns-then-not-is_taken-clause-fault
returns-then-not-is_taken-clause-fault g c =
    rw c.into_device-then-not-is_taken.ensures (λ truth.
    let was = c.in-Ok-into_disk.ensures.was_true truth in
    let mid = c.read_end.ensures.read_on.was_true was in
    let same = (c.read_end.ensures.read_on.untouched was).file ∙ (c.read_back.ensures.read_on.untouched mid).file in
    let tables = c.args.book.now.tables in
    let all = c.in-Ok.ensures.all in
    let told = requests c.read_back.new.keeper in
    let end = c.in-Ok-read_end.ensures.end was all.texts all.has in
    let refused = c.in-Ok-take_end.ensures.refused c.read_back.new.keeper all.refilled c.if-not-is_taken.true in
    let why = refused_is tables _ all.texts told c.in-Ok-read_end.end.requests.items end.form c.in-Ok-read_end.end.place end.tells end.found.group refused in (
      c.read_back.ensures.read_on.was_true mid,
      record {
        why = (all.texts, told, all.told, subst (λ (w : List ℕ). IsRefusedEnd tables w all.texts told) same why);
        same = λ journal. absurd journal;
      },
    ))

-- what is recorded is what the file tells
pub invariant_of-result : goal.invariant_of-result
invariant_of-result g c =
    let all = c.in-Ok.ensures.all in
    let told = c.read_back.new.keeper in
    let last = c.read_end.new.self.opening.device in
    let disk = c.in-Ok-into_disk.disk in
    let has = c.in-Ok-read_end.ensures.texts all.texts all.has in
    let At : ℕ → Type 0 = λ t. told ≡ recorded_at t (requests told) in
    let untouched = λ (was : g.D.Device.is_true last). both_untouched g.D.Device.seen g.D.Device.may_leave g.D.Device.moment g.D.Device.left_since c.args.reader.opening.device
    c.read_back.new.ahead.reader.opening.device last (c.read_back.ensures.read_on.untouched (c.read_end.ensures.read_on.was_true was)) (c.read_end.ensures.read_on.untouched was) in (
      c.in-Ok-into_disk.ensures.sound.1,
      all.short,
      (λ truth.
          omega (arith, c.requires.begins.at_moment, (untouched (c.in-Ok-into_disk.ensures.was_true truth)).time, (c.in-Ok-into_disk.ensures.any_moment truth).later)),
      (λ truth go.
          let stands = c.in-Ok-into_disk.ensures.stands truth all.texts has in
          record { lines = _; is_told = record { texts = all.texts; groups = stands.tells; tells = all.told }; stands = stands.stands }),
      (λ truth.
          let was = c.in-Ok-into_disk.ensures.was_true truth in
          let none = untouched was in
          let stands = c.in-Ok-into_disk.ensures.stands truth all.texts has in
          read_only g.D.Device.seen g.D.Device.moment g.D.Device.left_since last disk.journal.device told g.J.RecordLog.start (c.requires.begins.at_moment ∙ sym none.time)
          (disk.form, record { texts = all.texts; groups = stands.tells; tells = all.told })
          (subst At (sym none.time) (c.in-Ok.ensures.at_start (c.read_end.ensures.read_on.was_true was))) (c.in-Ok-into_disk.ensures.any_moment truth)),
      (λ truth.
          let was = c.in-Ok-into_disk.ensures.was_true truth in
          let stands = c.in-Ok-into_disk.ensures.stands truth all.texts has in
          let Told : List ℕ → Type 0 = λ w. IsTold (recovered_texts w) (requests told) in
          c.requires.begins.holds (requests told)
          (subst Told (untouched was).file (disk.form, record { texts = all.texts; groups = stands.tells; tells = all.told }))),
      c.progress-first.ensures.first ∙ ap (λ (w : List Request). record { seen = w; count = length w }) all.refilled.first,
      c.progress-first.ensures.second ∙ ap (λ (w : List Request). record { seen = w; count = length w }) all.refilled.second,
    )

-- and what stands behind that was found
pub returns-clause-end : goal.returns-clause-end
returns-clause-end g c = λ truth.
    let was = c.in-Ok-into_disk.ensures.was_true truth in
    let mid = c.read_end.ensures.read_on.was_true was in
    let same = (c.read_end.ensures.read_on.untouched was).file ∙ (c.read_back.ensures.read_on.untouched mid).file in
    let all = c.in-Ok.ensures.all in
    let end = c.in-Ok-read_end.end in
    let is = c.in-Ok-read_end.ensures.end was all.texts all.has in
    let stand = g.A.Aside.stand c.take_end.new.aside in
    let cut = c.in-Ok-take_end.ensures.cut c.if-not-is_taken.false in
    subst (λ (w : List ℕ). EndsWith w stand end.requests.items) same
    (record {
      form = is.form;
      texts = all.texts;
      tells = is.tells;
      whole = is.found.whole;
      place = end.place;
      group = is.found.group;
      all = is.found.all;
      cut = subst (λ (w : List ℕ). IsCutOff stand (drop end.place w)) is.found.bytes_are cut;
    })

-- nothing was read
pub returns-in_default-clause-fault : goal.returns-in_default-clause-fault
returns-in_default-clause-fault g c = rw c.into_device.ensures (λ truth. (truth, record { why = tt; same = λ journal. refl }))
