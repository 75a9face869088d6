use Rattle.std.proofs.Common.{◌≡◌, ◌∙◌, ◌+◌, ◌<◌, ◌∷◌, ◌++◌, [], ℕ, List, true, false, length, refl, rules, ap, subst, take, arith}
use Rattle.std.proofs.lemmas.List.{take_all, length_push}
use Rattle.mds_compact.specs.Compaction.{kept_of}
use Rattle.mds_retention.specs.Draft.{IsDraftOf}
use Rattle.mds_retention.specs.Texts.{text_of}
use Rattle.mds_retention.proofs.Copied.{copied_if, fewer_texts}
use Rattle.mds_retention.proofs.Reading.{read_texts}
use Rattle.mds_retention.proofs.Telling.{copy_fault, passed_on}
use Rattle.mds_retention.proofs.copying.kept_lines.Goals as goal

pub loop-mark-init : goal.loop-mark-init
loop-mark-init g c = record { reading = c.open-lines.ensures.reading; usable = c.requires.usable; copied = ([], c.open-lines.ensures.none, refl, c.requires.draft) }

pub add_text_if-requires-clause-draft : goal.add_text_if-requires-clause-draft
add_text_if-requires-clause-draft g c = (_, c.loop-mark.invariant.copied.3)

pub loop-mark-preserved : goal.loop-mark-preserved
loop-mark-preserved g c =
    let marks = c.args.marks.now in
    let i = c.loop-mark.mark-index in
    let at = c.loop-mark.invariant in
    let texts = at.copied.0 in
    let text = text_of c.next.new.self in
    let more : c.in_ok-next.field-0 ≡ true = c.if-not-branch.false in
    let Drafted : List (List ℕ) → Type 0 = λ (all : List (List ℕ)). IsDraftOf g.D.Device.seen g.D.Device.may_leave g.D.Device.is_true all c.add_text_if.new.self in
    let drafted = c.in_ok-add_text_if.ensures.draft (kept_of (take i marks) texts) at.copied.3 in
    record {
      reading = c.next.ensures.reading;
      usable = c.in_ok-add_text_if.ensures.usable;
      copied = (
        texts ++ text ∷ [],
        (c.in_ok-next.ensures.next more (g.R.Read.remaining c.args.reader) texts at.copied.1).0,
        length_push texts text ∙ ap (λ n. n + 1) at.copied.2,
        subst Drafted (copied_if marks i _ texts text c.text.result.now c.text.ensures c.loop-mark-test.true at.copied.2) drafted,
      );
    }

pub returns-in_err-next-clause-fault : goal.returns-in_err-next-clause-fault
returns-in_err-next-clause-fault g c =
    let known = g.R.Read.remaining c.args.reader in
    let at = c.loop-mark.invariant in
    passed_on _ _ _ c.from_residual.ensures.1
    (copy_fault (length c.args.marks.now) known at.copied.0 c.in_err-next.field-0.0 (c.in_err-next.ensures.fault known at.copied.0 at.copied.1))

pub returns-then-not-branch-clause-fault : goal.returns-then-not-branch-clause-fault
returns-then-not-branch-clause-fault g c =
    let known = g.R.Read.remaining c.args.reader in
    let at = c.loop-mark.invariant in
    let none : c.in_ok-next.field-0 ≡ false = search rules in
    let few : length at.copied.0 < length c.args.marks.now = omega (arith, at.copied.2, c.loop-mark-test.true) in
    fewer_texts known at.copied.0 c.next.new.self.place (length c.args.marks.now) (c.in_ok-next.ensures.all none known at.copied.0 at.copied.1) few

pub returns-clause-kept : goal.returns-clause-kept
returns-clause-kept g c =
    let marks = c.args.marks.now in
    let at = c.loop-mark.invariant in
    let texts = at.copied.0 in
    let count : length texts ≡ length marks = omega (arith, at.copied.2, c.loop-mark-test.false, c.loop-mark.auto.mark-index-end) in (
      kept_of (take c.loop-mark.mark-index marks) texts,
      (
        texts,
        read_texts g.R.Read.remaining (g.R.Read.remaining c.args.reader) c.loop-mark.lines texts at.copied.1,
        count,
        ap (λ all. kept_of all texts) (take_all c.loop-mark.mark-index marks c.loop-mark-test.false),
      ),
      at.copied.3,
    )
