use Rattle.std.proofs.Common.{◌≡◌, refl, ◌+◌, List, ℕ, take, drop, not, sym, ap, subst, ◌∙◌, drop-drop}
use Rattle.std.specs.Io.KnownBytes.{prepend_known}
use Rattle.mds_journal.specs.Stream.{HandsOut}
use Rattle.mds_journal.proofs.StreamLemmas.{hands_out, line_is_too_long}
use Rattle.mds_journal.proofs.ReadingLemmas.{line_taken}
use Rattle.mds_journal.proofs.stream.LineStream.take_line.Goals as goal

pub returns-then-size-self-clause-cause : goal.returns-then-size-self-clause-cause
returns-then-size-self-clause-cause g c =
    let old = c.args.self.now in
    (refl, line_is_too_long (g.R.Read.remaining old.reader) (drop old.next old.bytes.items) c.args.size old.longest c.requires.found c.if-size-self.true)

pub returns-clause-line : goal.returns-clause-line
returns-clause-line g c =
    let old = c.args.self.now in
    let known = g.R.Read.remaining old.reader in
    let held = drop old.next old.bytes.items in
    let text = take c.args.size (drop 1 held) in
    let line : c.extend_from_slice.new.self.items ≡ text = line_taken c.deref.result.now old.bytes.items c.clear.new.self.items c.extend_from_slice.new.self.items old.next c.args.size _
    c.deref.ensures.value c.clear.ensures.items (c.is_err.ensures.negation ∙ ap not c.if-is_err.false) c.extend_from_slice.ensures.items in
    let handed : HandsOut (prepend_known held known) text (prepend_known (drop (old.next + (c.args.size + 2)) old.bytes.items) known) =
    subst (λ (rest : List ℕ). HandsOut (prepend_known held known) text (prepend_known rest known)) (drop-drop (c.args.size + 2) old.next old.bytes.items)
    (hands_out known held c.args.size c.requires.found) in
    subst (λ (l : List ℕ). HandsOut (prepend_known held known) l (prepend_known (drop (old.next + (c.args.size + 2)) old.bytes.items) known)) (sym line) handed
