use Rattle.std.proofs.Common.{◌≡◌, ◌+◌, get_or, drop, true, None, []}
use Rattle.std.proofs.Common.{rules, subst, string_bytes, List, ℕ, ◌++◌}
use Rattle.std.proofs.lemmas.Result.{on_err_weaker, on_ok_weaker}
use Rattle.std.specs.Io.KnownBytes.{Keeps}
use Rattle.mds_io.specs.Page.{AppendsFront, AppendsUpTo, with_newline}
use Rattle.mds_trace.specs.declared.session.Place.{Place}
use Rattle.mds_trace.specs.Printed.{before_quit, goes_on, Prints, PrintsSome}
use Rattle.mds_trace.proofs.MoveLemmas.{kept_is, kept_on}
use Rattle.mds_io.proofs.PageLemmas.{next_item_or}
use Rattle.mds_trace.proofs.WalkLemmas.{IsUnderway, none_left, not_quit, quit_left, ends_on, front_at, one_more, stops_at, stops, waits, ends}
use Rattle.mds_trace.proofs.walk.print_walk.Goals as goal
use Rattle.mds_trace.proofs.walk.print_walk.Goals.{else-loop-command-test, then-loop-command-test+then-not-goes_on}

pub loop-command-preserved : goal.loop-command-preserved
loop-command-preserved g c =
    let contents = g.W.Write.contents in
    let walk = c.args.session.now in
    let script = c.args.script.now in
    let here = c.loop-command in
    let item = get_or script here.command-index None in
    let rest = drop (here.command-index + 1) script in
    let on : goes_on item ≡ true = search rules in
    let under = subst (λ left. IsUnderway walk script left here.session.place (contents c.args.writer.now) (contents here.writer) (string_bytes here.page))
    (next_item_or script here.command-index None c.loop-command-test.true) here.invariant.underway in
    let said = c.in_ok-add_answer.ensures.ok (not_quit item on) in
    let prints = subst (λ from. Prints from item c.add_answer.new.session.place said.0) (kept_is walk here.session here.invariant.kept) said.1 in
    record {
      kept = kept_on walk here.session c.add_answer.new.session here.invariant.kept c.add_answer.ensures.kept;
      underway = one_more walk script (contents c.args.writer.now) rest here.session.place (contents here.writer) (string_bytes here.page) item
          c.add_answer.new.session.place said.0 (contents c.add_answer.new.writer) (string_bytes c.add_answer.new.page) under on prints said.2;
    }

pub returns-in_err-add_answer-clause-kept : goal.returns-in_err-add_answer-clause-kept
returns-in_err-add_answer-clause-kept g c =
    let here = c.loop-command in
    kept_on c.args.session.now here.session c.add_answer.new.session here.invariant.kept c.add_answer.ensures.kept

pub returns-in_err-add_answer-clause-err : goal.returns-in_err-add_answer-clause-err
returns-in_err-add_answer-clause-err g c =
    let contents = g.W.Write.contents in
    let walk = c.args.session.now in
    let script = c.args.script.now in
    let here = c.loop-command in
    let item = get_or script here.command-index None in
    let rest = drop (here.command-index + 1) script in
    let on : goes_on item ≡ true = search rules in
    let under = subst (λ left. IsUnderway walk script left here.session.place (contents c.args.writer.now) (contents here.writer) (string_bytes here.page))
    (next_item_or script here.command-index None c.loop-command-test.true) here.invariant.underway in
    let same = kept_is walk here.session here.invariant.kept in
    let stopped : (to : Place) × (text : List ℕ) × Prints here.session item to text
    × AppendsFront (contents here.writer) (contents c.add_answer.new.writer) (string_bytes here.page ++ with_newline text)
    → PrintsSome walk script (AppendsFront (contents c.args.writer.now) (contents c.add_answer.new.writer)) = λ out.
    stops_at walk script (contents c.args.writer.now) rest here.session.place (contents here.writer) (string_bytes here.page) item
    out.0 out.1 (contents c.add_answer.new.writer) under on (subst (λ from. Prints from item out.0 out.1) same out.2) out.3 in
    let waiting : Keeps (contents here.writer) (contents c.add_answer.new.writer)
    → PrintsSome walk script (AppendsUpTo (contents c.args.writer.now) (contents c.add_answer.new.writer)) =
    waits walk script (contents c.args.writer.now) (drop here.command-index script) here.session.place (contents here.writer)
    (string_bytes here.page) (contents c.add_answer.new.writer) here.invariant.underway in
    let front = front_at c.in_err-add_answer.field-0.0 walk script (contents c.args.writer.now) (contents c.add_answer.new.writer)
    (c.in_err-add_answer.ensures.err (not_quit item on)) (c.in_err-add_answer.ensures.device (not_quit item on)) waiting stopped in
    search rules

pub returns-clause-ok : goal.returns-clause-ok
returns-clause-ok g c =
    let contents = g.W.Write.contents in
    let here = c.loop-command in
    let script = c.args.script.now in
    let over : before_quit (drop here.command-index script) ≡ [] = elim c.loop-command-test.branch [
      | else-loop-command-test w ↦ none_left script here.command-index w.loop-command-test.false
      | then-loop-command-test+then-not-goes_on w ↦ quit_left script here.command-index w.loop-command-test.true (search rules)
    ] in
    on_ok_weaker c.flush_page.result
    (λ out. ends c.args.session.now script (contents c.args.writer.now) (drop here.command-index script) here.session.place (contents here.writer)
    (string_bytes here.page) (contents c.flush_page.new.writer) here.invariant.underway over out) c.flush_page.ensures.ok

pub returns-clause-err : goal.returns-clause-err
returns-clause-err g c =
    let contents = g.W.Write.contents in
    let here = c.loop-command in
    let script = c.args.script.now in
    ends_on c.flush_page.result c.args.session.now script (contents c.args.writer.now) (contents c.flush_page.new.writer)
    (on_err_weaker c.flush_page.result
    (λ out. stops c.args.session.now script (contents c.args.writer.now) (drop here.command-index script) here.session.place (contents here.writer)
    (string_bytes here.page) (contents c.flush_page.new.writer) here.invariant.underway out) c.flush_page.ensures.err)
