use Rattle.std.proofs.Common.{◌∙◌, sym, ap}
use Rattle.std.specs.List.{list_any}
use Rattle.mds_core.specs.History.{key_of, same_event, requests_of}
use Rattle.mds_shard.proofs.Names.{is_repeated_report}
use Rattle.mds_shard.proofs.shard.Shard.has_event.Goals as goal

pub returns-in-Some-place_of : goal.returns-in-Some-place_of
returns-in-Some-place_of g c =
    let history = c.self.inside.past.requests in
    let names = c.self.inside.known.names in
    let request = c.args.request.now in
    let event = c.in-Some.event.now in
    let at = c.in-Some-place_of.ensures.some in
    rw (← c.self.view_is) (
    c.has_event.ensures c.key.result.now at.0 at.1
    ∙ ap (λ key. list_any (same_event (record { key = key; id = c.id.result })) names) c.key.ensures
    ∙ ap (λ id. list_any (same_event (record { key = key_of request; id = id })) names) c.id.ensures
    ∙ c.self.invariant.held (record { key = key_of request; id = event.id })
    ∙ sym (is_repeated_report (requests_of history (key_of request)) request event (sym c.in-Some.ensures)))
