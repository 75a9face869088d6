use Rattle.std.proofs.Common.{◌∙◌, sym, ap}
use Rattle.indexmap.specs.IndexSet.{insert_key}
use Rattle.mds_core.specs.History.{key_of, same_event}
use Rattle.mds_known.proofs.Names.{is_inserted}
use Rattle.mds_commands.proofs.NameLemmas.{name_put}
use Rattle.mds_commands.proofs.roster.keep.Goals as goal

pub returns-in_ok-add_event-clause-names : goal.returns-in_ok-add_event-clause-names
returns-in_ok-add_event-clause-names c =
    let request = c.args.request.now in
    let names = c.args.known.now.names in
    let kept = c.put.new.self.names in
    let key = c.key.result.now in
    let id = c.id.result in
    let at = c.in_ok-place.ensures.place in
    is_inserted kept c.add_event.new.self.names (record { key = key; id = id }) c.in_ok-add_event.field-0
    (c.in_ok-add_event.ensures.new key c.args.standing at) (c.in_ok-add_event.ensures.names key c.args.standing at)
    ∙ ap (λ all. insert_key same_event all (record { key = key; id = id })) (c.in_ok-place.ensures.names ∙ c.in_ok-reserve_event.ensures.same.names)
    ∙ ap (λ k. insert_key same_event names (record { key = k; id = id })) c.key.ensures
    ∙ ap (λ i. insert_key same_event names (record { key = key_of request; id = i })) c.id.ensures
    ∙ name_put names request c.in-Some.event.now (sym c.in-Some.ensures)
