use Rattle.std.proofs.Common.{◌≡◌, None, map, take, subst, sym, ◌∙◌, ap}
use Rattle.std.specs.List.{All}
use Rattle.std.specs.Option.{is_some}
use Rattle.std.proofs.lemmas.List.Elements.{All-push}
use Rattle.serde_json.specs.View.{view}
use Rattle.mds_table.specs.Json.{state_in}
use Rattle.mds_table.specs.TableFile.{IsStateName}
use Rattle.mds_table.specs.Entry.{AreMarked}
use Rattle.mds_table.proofs.Marks.{marked_more}
use Rattle.mds_table.proofs.Values.{taken_more, taken_all, all_at}
use Rattle.mds_table.proofs.entry.states_among.Goals as goal

pub returns-in_err-state_of-clause-none : goal.returns-in_err-state_of-clause-none
returns-in_err-state_of-clause-none c =
    rw c.from_residual.ensures (λ all.
    let named = all_at IsStateName c.args.values.now c.loop-value.value-index c.value-item.result c.loop-value-test.true c.value-item.is all in
    let none : state_in (view c.value-item.result) ≡ None = sym c.state_of.ensures ∙ c.in_err-state_of.was in
    let nothing = rw none at named in cc)

pub loop-value-preserved : goal.loop-value-preserved
loop-value-preserved c =
    let state = c.in_ok-state_of.field-0 in
    let value = view c.value-item.result in
    let front = take c.loop-value.value-index (map view c.args.values.now) in
    rw (taken_more c.args.values.now c.loop-value.value-index c.value-item.result c.loop-value-test.true c.value-item.is) (record {
      form = All-push IsStateName front value c.loop-value.invariant.form (ap is_some (sym c.in_ok-state_of.ensures));
      marked = marked_more front value state c.loop-value.states c.mark.new.self c.in_ok-state_of.ensures c.mark.ensures.marked c.mark.ensures.others c.loop-value.invariant.marked;
    })

pub returns-clause-form : goal.returns-clause-form
returns-clause-form c = subst (All IsStateName) (taken_all c.args.values.now c.loop-value.value-index c.loop-value-test.false) c.loop-value.invariant.form

pub returns-clause-states : goal.returns-clause-states
returns-clause-states c =
    subst (λ values. AreMarked values c.loop-value.states) (taken_all c.args.values.now c.loop-value.value-index c.loop-value-test.false) c.loop-value.invariant.marked
