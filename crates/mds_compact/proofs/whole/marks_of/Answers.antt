use Rattle.std.proofs.Common.{◌∙◌, ◌+◌, ◌≤◌, ◌++◌, ◌∷◌, ℕ, List, [], Bool, length, take, drop, sym, ap, subst}
use Rattle.std.proofs.lemmas.List.{take_all, drop_all, length_push}
use Rattle.indexmap.specs.IndexMap.{get}
use Rattle.mds_core.specs.declared.request.Request.{Request}
use Rattle.mds_core.specs.History.{same_key}
use Rattle.mds_compact.specs.Passes.{IsMarkingOf}
use Rattle.mds_compact.specs.declared.marking.Marking.{Marking}
use Rattle.mds_compact.proofs.Passes.{marked_is}
use Rattle.mds_compact.proofs.Items.{next_item}
use Rattle.mds_compact.proofs.whole.marks_of.Goals as goal

-- at the end of the history all is told
next : (from : ℕ) (history : List Request) (i : ℕ) (marks : List Bool) (marking : Marking) → length history ≤ i → IsMarkingOf from (take i history) (drop i history) marks marking
    → IsMarkingOf from history [] marks marking
next from history i marks marking past is =
    let Old : List Request → Type 0 = λ old. IsMarkingOf from old (drop i history) marks marking in
    let Rest : List Request → Type 0 = λ rest. IsMarkingOf from history rest marks marking in
    subst Rest (drop_all i history past) (subst Old (take_all i history past) is)

pub loop-request-init : goal.loop-request-init
loop-request-init c = record {
  count = ap length c.in_ok-marks.ensures.items;
  next = λ from is. rw c.in_ok-marks.ensures.items (c.open-marking.ensures from c.args.history.now is);
}

pub loop-request-preserved : goal.loop-request-preserved
loop-request-preserved c =
    let history = c.args.history.now in
    let i = c.loop-request.request-index in
    let next = next_item history i c.request-item.result c.loop-request-test.true c.request-item.is in
    record {
      count = ap length c.in_ok-push.ensures.items ∙ length_push c.loop-request.marks.items c.next_mark-mark.result ∙ ap (λ n. n + 1) c.loop-request.invariant.count;
      next = λ from is.
          let Was : List Request → Type 0 = λ rest. IsMarkingOf from (take i history) rest c.loop-request.marks.items c.loop-request.marking in
          let Is : List Request → Type 0 = λ old. IsMarkingOf from old (drop (i + 1) history) c.push.new.self.items c.next_mark-mark.new.self in
          let Marks : List Bool → Type 0 = λ marks. IsMarkingOf from (take i history ++ c.request-item.result ∷ []) (drop (i + 1) history) marks c.next_mark-mark.new.self in
          subst Is (sym next.0)
          (subst Marks (sym c.in_ok-push.ensures.items)
          (c.next_mark-mark.ensures from (take i history) (drop (i + 1) history) c.loop-request.marks.items (subst Was next.1 (c.loop-request.invariant.next from is))));
    }

pub returns-clause-compaction : goal.returns-clause-compaction
returns-clause-compaction c = λ from is.
    let history = c.args.history.now in
    let marks = c.loop-request.marks.items in
    let all = next from history c.loop-request.request-index marks c.loop-request.marking c.loop-request-test.false (c.loop-request.invariant.next from is) in
    (marked_is from history marks (get same_key c.loop-request.marking.paths) all.paths).0

pub returns-clause-thin : goal.returns-clause-thin
returns-clause-thin c = λ from tables is lawful.
    let history = c.args.history.now in
    let marks = c.loop-request.marks.items in
    let all = next from history c.loop-request.request-index marks c.loop-request.marking c.loop-request-test.false (c.loop-request.invariant.next from is) in
    (marked_is from history marks (get same_key c.loop-request.marking.paths) all.paths).1 tables lawful
