use Rattle.std.proofs.Common.{◌≡◌, ℕ, List, drop, sym, ap, ◌∙◌}
use Rattle.mds_journal.specs.Lines.{recovered_texts}
use Rattle.mds_journal.specs.Opening.{unread_bytes, at_hand}
use Rattle.mds_journal.proofs.ReadingLemmas.{more_nothing}
use Rattle.mds_journal.proofs.opening.Opening.next_line.Goals as goal

pub returns-in-Ok-More-clause-done : goal.returns-in-Ok-More-clause-done
returns-in-Ok-More-clause-done g c = λ done is.
    let old = c.args.self.now in
    let new = c.find.new.self in
    let seen = g.D.Device.seen in
    let same : unread_bytes seen new ≡ unread_bytes seen old =
    ap (λ (n : ℕ). drop n (seen new.device)) c.find.ensures.end ∙ ap (λ (file : List ℕ). drop old.end file) (c.find.ensures.untouched is).file in
    let whole = rw c.in-Ok-More.field-0-is at c.in-Ok-More.ensures.whole in
    let found = rw c.in-Ok-More.field-0-is at c.in-Ok-More.ensures.found in
    (ap recovered_texts (sym same ∙ whole is) ∙ more_nothing (at_hand new) found, same)
