use Rattle.std.proofs.Common.{◌≡◌, ◌∙◌, ◌++◌, ◌∷◌, [], List, Bool, if◌then◌else◌, sym, ap}
use Rattle.mds_core.specs.declared.event_name.EventName.{EventName}
use Rattle.mds_core.specs.History.{key_of}
use Rattle.mds_shard.proofs.Names.{adds_name}
use Rattle.mds_shard.proofs.vehicle.keep_name.Goals as goal

-- the names with this one, where it is new
added : (c : goal.In_ok-is_new) → c.add_event.new.self.names
    ≡ (if c.in_ok-is_new.is_new then c.args.known.now.names ++ record { key = key_of c.args.request.now; id = c.in-Some.event.now.id } ∷ [] else c.args.known.now.names)
added c =
    let at = c.in-Some-place_of.ensures.some in
    let names = c.args.known.now.names in
    let Put : EventName → List EventName = λ name. if c.in_ok-is_new.is_new then names ++ name ∷ [] else names in
    c.in_ok-is_new.ensures.names c.key.result.now at.0 at.1
    ∙ ap (λ key. Put (record { key = key; id = c.id.result })) c.key.ensures
    ∙ ap (λ id. Put (record { key = key_of c.args.request.now; id = id })) c.id.ensures

pub returns-clause-names : goal.returns-clause-names
returns-clause-names c = λ is.
    let request = c.args.request.now in
    let event = c.in-Some.event.now in
    let names = c.args.known.now.names in
    adds_name request event names c.add_event.new.self.names (sym c.in-Some.ensures)
    (added c ∙ ap (λ (b : Bool). if b then names ++ record { key = key_of request; id = event.id } ∷ [] else names) is)

pub returns-clause-same : goal.returns-clause-same
returns-clause-same c = λ is.
    let names = c.args.known.now.names in
    added c ∙ ap (λ (b : Bool). if b then names ++ record { key = key_of c.args.request.now; id = c.in-Some.event.now.id } ∷ [] else names) is
