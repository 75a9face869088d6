use Rattle.mds_follow.proofs.EndLemmas.{nothing_left, room_has_none, was_room}
use Rattle.std.proofs.Common.{◌≡◌, ◌+◌, ◌++◌, ◌∙◌, [], ℕ, List, length, take, drop, ap, arith, append-nil}
use Rattle.std.proofs.lemmas.List.{drop_all}
use Rattle.mds_journal.specs.Lines.{open_lines}
use Rattle.mds_groups.specs.Form.{group_lines}
use Rattle.mds_groups.specs.declared.form.JournalForm.TheVariants.{Checked}
use Rattle.mds_follow.specs.Pieces.{texts_in}
use Rattle.mds_follow.proofs.EndLemmas.{behind_few, not_counted, tells_nothing, unopened}
use Rattle.mds_follow.proofs.end.group_in.Goals as goal

-- the lines have no more bytes than these
pub bytes_of-place-requires : goal.bytes_of-place-requires
bytes_of-place-requires c =
    let same = ap (λ (w : List (List ℕ)). length (open_lines w)) c.in_ok-lines.ensures.lines in
    let few = behind_few c.args.bytes.now in
    rw c.deref-2.ensures.value (omega (arith, same, few, c.requires))

-- a group was found, and nothing counts behind it
pub returns-in-Ok-Some-clause-found : goal.returns-in-Ok-Some-clause-found
returns-in-Ok-Some-clause-found c =
    let bytes = c.args.bytes.now in
    let lines = c.in_ok-lines.lines.items in
    let at = c.in-Some.texts in
    let texts = texts_in (take at lines) in
    let more = texts_in (drop (at + 1) lines) in
    let group = (rw c.deref.ensures.value at c.in-Some.ensures.some).1 in
    let none : more ≡ [] = ap texts_in (drop_all (at + 1) lines (omega (arith, c.len.ensures, c.if-len-texts.false))) in
    let told = rw c.deref-3.ensures.value at (rw c.in-Ok-Some.field-0-is at c.in-Ok-Some.ensures.some) in
    let place = rw c.deref-2.ensures.value at c.bytes_of-place.ensures in (
      not_counted bytes (texts_in lines) c.in_ok-lines.ensures.lines texts more group none,
      (
        texts,
        unopened bytes (texts_in lines) c.in_ok-lines.ensures.lines texts more group none,
        told,
        place
            ∙ ap (λ (w : List (List ℕ)). length (open_lines w)) (group.split ∙ ap (λ (w : List (List ℕ)). group_lines Checked texts ++ w) none ∙ append-nil (group_lines Checked texts)),
      ),
    )

-- one was found that tells no requests
pub returns-in-Ok-None-clause-found : goal.returns-in-Ok-None-clause-found
returns-in-Ok-None-clause-found c =
    let bytes = c.args.bytes.now in
    let lines = c.in_ok-lines.lines.items in
    let at = c.in-Some.texts in
    let texts = texts_in (take at lines) in
    let more = texts_in (drop (at + 1) lines) in
    let group = (rw c.deref.ensures.value at c.in-Some.ensures.some).1 in
    let none : more ≡ [] = ap texts_in (drop_all (at + 1) lines (omega (arith, c.len.ensures, c.if-len-texts.false))) in
    let told = rw c.deref-3.ensures.value at (rw c.in-Ok-None.field-0-is at c.in-Ok-None.ensures.none) in (
      not_counted bytes (texts_in lines) c.in_ok-lines.ensures.lines texts more group none,
      tells_nothing bytes (texts_in lines) c.in_ok-lines.ensures.lines texts more group told,
    )

-- there is but room
pub returns-then-is_empty-clause-found : goal.returns-then-is_empty-clause-found
returns-then-is_empty-clause-found c =
    let bytes = c.args.bytes.now in
    room_has_none bytes (was_room bytes c.without_room.result.now c.without_room.ensures (nothing_left c.without_room.result.now c.if-is_empty.ensures))
