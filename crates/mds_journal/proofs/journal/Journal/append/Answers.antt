use Rattle.std.proofs.Common.{◌≡◌, ◌++◌, ℕ, List, sym, ap, ◌∙◌, append-nil}
use Rattle.mds_journal.specs.Lines.{recovered_texts}
use Rattle.mds_journal.proofs.AppendLemmas.{group_starts, ready_stands, room_and_group}
use Rattle.mds_journal.proofs.journal.Journal.append.Goals as goal

pub returns-then-is_empty-clause-any_moment : goal.returns-then-is_empty-clause-any_moment
returns-then-is_empty-clause-any_moment g c = λ go is.
    group_starts g.D.Device.seen g.D.Device.may_leave c.args.self.now (c.requires.ready go is) c.args.group.now g.D.Device.moment g.D.Device.left_since (g.met.D.Device.only_now c.args.self.now.device)

pub returns-then-self-bytes-clause-any_moment : goal.returns-then-self-bytes-clause-any_moment
returns-then-self-bytes-clause-any_moment g c = λ go is.
    group_starts g.D.Device.seen g.D.Device.may_leave c.args.self.now (c.requires.ready go is) c.args.group.now g.D.Device.moment g.D.Device.left_since (g.met.D.Device.only_now c.args.self.now.device)

pub returns-then-is_empty-clause-acknowledged : goal.returns-then-is_empty-clause-acknowledged
returns-then-is_empty-clause-acknowledged g c =
    let old = c.args.self.now in
    let texts = recovered_texts (g.D.Device.seen old.device) in
    let same : texts ≡ texts ++ c.args.group.now = sym (ap (λ (more : List (List ℕ)). texts ++ more) (c.is_empty.ensures.0 c.if-is_empty.true) ∙ append-nil texts) in
    (c.if-self.false, λ is. ready_stands g.D.Device.seen g.D.Device.may_leave (texts ++ c.args.group.now) old (c.requires.ready c.if-self.false is, same))

pub returns-clause-any_moment : goal.returns-clause-any_moment
returns-clause-any_moment g c = λ go is.
    let was = c.put.ensures.was_true is in
    room_and_group g.D.Device.seen g.D.Device.moment g.D.Device.left_since c.args.self.now.device c.make_room.new.self.device c.put.new.self.device c.args.group.now
    (c.make_room.ensures.same was) (c.make_room.ensures.any_moment was) (c.put.ensures.any_moment is)
