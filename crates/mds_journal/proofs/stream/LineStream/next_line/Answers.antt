use Rattle.std.proofs.Common.{◌≡◌, []}
use Rattle.mds_journal.specs.Lines.{recovered_texts}
use Rattle.mds_journal.specs.Stream.{unread_of, held_by}
use Rattle.mds_journal.proofs.StreamLemmas.{same_if, none_at_end}
use Rattle.mds_journal.proofs.stream.LineStream.next_line.Goals as goal

pub returns-in-Ok-More-clause-done : goal.returns-in-Ok-More-clause-done
returns-in-Ok-More-clause-done g c = λ done.
    let old = c.args.self.now in
    let new = c.find.new.self in
    let remaining = g.R.Read.remaining in
    let whole = rw c.in-Ok-More.field-0-is at c.in-Ok-More.ensures.whole in
    let found = rw c.in-Ok-More.field-0-is at c.in-Ok-More.ensures.found in
    (same_if (unread_of remaining old) (unread_of remaining new) (λ bytes. recovered_texts bytes ≡ []) c.find.ensures.kept (none_at_end (remaining new.reader) (held_by new) found whole), c.find.ensures.kept)
