use Rattle.std.proofs.Common.{◌≡◌, ◌<◌, ◌∙◌, length, not, sym, ap, arith}
use Rattle.std.specs.Map.{keys_of}
use Rattle.std.proofs.lemmas.Map.Entries.{length-keys_of}
use Rattle.mds_known.specs.declared.own_name.OwnName.{OwnName}
use Rattle.mds_known.proofs.Names.{named_at, named_after, added_within}
use Rattle.mds_known.proofs.known_vehicles.KnownVehicles.add_event.Goals as goal

pub returns-in_default-clause-absent : goal.returns-in_default-clause-absent
returns-in_default-clause-absent g c = λ key value at.
    let entries = c.self.inside.vehicles.entries in
    let names = c.self.inside.names.keys in
    let kept = rw (← c.self.view_is) at at in
    rw (← c.self.view_is)
    (sym (named_at entries names c.self.invariant c.args.place c.args.id c.own_name-name.result c.own_name-name.ensures key value kept) ∙ c.in_default.ensures.absent)

pub invariant_of-self-2 : goal.invariant_of-self-2
invariant_of-self-2 g c =
    let entries = c.self.inside.vehicles.entries in
    let names = c.self.inside.names.keys in
    let own = c.own_name-name.result in
    let here = rw (← c.self.view_is) at c.requires in
    let place : own.vehicle ≡ c.args.place = ap (λ (o : OwnName). o.vehicle) c.own_name-name.ensures in
    let within : own.vehicle < length (keys_of entries) = omega (arith, here, place, length-keys_of entries) in record {
      apart = c.self.invariant.apart;
      within = rw c.in-Ok.ensures.keys (added_within (length (keys_of entries)) own names within c.self.invariant.within);
      few = c.self.invariant.few;
    }

pub returns-clause-new : goal.returns-clause-new
returns-clause-new g c = λ key value at.
    let entries = c.self.inside.vehicles.entries in
    let names = c.self.inside.names.keys in
    let kept = rw (← c.self.view_is) at at in
    rw (← c.self.view_is)
    (c.in-Ok.ensures.added ∙ ap not (named_at entries names c.self.invariant c.args.place c.args.id c.own_name-name.result c.own_name-name.ensures key value kept))

pub returns-clause-names : goal.returns-clause-names
returns-clause-names g c = λ key value at.
    let entries = c.self.inside.vehicles.entries in
    let names = c.self.inside.names.keys in
    let kept = rw (← c.self.view_is) at at in
    rw (← c.self.view_is)
    (named_after entries names c.self.invariant c.args.place c.args.id c.own_name-name.result c.own_name-name.ensures key value kept
    c.in-Ok.is_new c.insert.new.self.keys c.in-Ok.ensures.added c.in-Ok.ensures.keys)
