use Rattle.std.proofs.Common.{sym, ◌∙◌}
use Rattle.std.proofs.lemmas.Option.{IfSome_then}
use Rattle.serde_json.specs.View.{view}
use Rattle.mds_table.proofs.Values.{lists_states, IfNone_then}
use Rattle.mds_table.proofs.entry.states_in.Goals as goal

pub returns-clause-form : goal.returns-clause-form
returns-clause-form c =
    IfSome_then c.states_among.result c.states_among.ensures.form
    (λ states all. lists_states (view c.args.value.now) c.values_in-values.result.now c.values_in-values.ensures (sym c.is_empty.ensures ∙ c.if-is_empty.false) all)

pub returns-clause-none : goal.returns-clause-none
returns-clause-none c =
    IfNone_then c.states_among.result c.states_among.ensures.none
    (λ bad lists. bad (rw c.values_in-values.ensures lists.names))
