use Rattle.std.proofs.Common.{◌∙◌, map, ap}
use Rattle.std.specs.Map.{lookup}
use Rattle.indexmap.proofs.CallerLemmas.{keys-with_value_at}
use Rattle.mds_core.specs.History.{same_key}
use Rattle.mds_known.specs.Kept.{name_at}
use Rattle.mds_known.proofs.Names.{names_put}
use Rattle.mds_known.proofs.Places.{written_at, stands_at, puts_value, put_at}
use Rattle.mds_known.proofs.known_vehicles.KnownVehicles.put.Goals as goal

pub invariant_of-self : goal.invariant_of-self
invariant_of-self g c = rw (keys-with_value_at c.self.inside.vehicles c.in-Some.at c.args.value) c.self.invariant

pub returns-in-Some-clause-entries : goal.returns-in-Some-clause-entries
returns-in-Some-clause-entries g c =
    let entries = c.self.inside.vehicles.entries in
    let found = rw (← c.self.view_is) at c.in-Some.ensures in
    rw (← c.self.view_is) (written_at entries c.in-Some.at c.args.key.now found.0 c.args.value c.self.invariant.apart found.1)

pub returns-in-Some-clause-puts : goal.returns-in-Some-clause-puts
returns-in-Some-clause-puts g c = λ other.
    let entries = c.self.inside.vehicles.entries in
    let key = c.args.key.now in
    let found = rw (← c.self.view_is) at c.in-Some.ensures in
    rw (← c.self.view_is)
    (ap (lookup (same_key other)) (written_at entries c.in-Some.at key found.0 c.args.value c.self.invariant.apart found.1) ∙ puts_value entries key c.args.value other)

pub returns-in-Some-clause-place : goal.returns-in-Some-clause-place
returns-in-Some-clause-place g c =
    let found = rw (← c.self.view_is) at c.in-Some.ensures in
    stands_at c.self.inside.vehicles.entries c.in-Some.at c.args.key.now found.0 c.args.value found.1

pub returns-in-Some-clause-names : goal.returns-in-Some-clause-names
returns-in-Some-clause-names g c =
    rw (← c.self.view_is) (ap (λ keys. map (name_at keys) c.self.inside.names.keys) (keys-with_value_at c.self.inside.vehicles c.in-Some.at c.args.value))

pub returns-clause-puts : goal.returns-clause-puts
returns-clause-puts g c = λ other.
    rw (← c.self.view_is) (ap (lookup (same_key other)) c.in-Ok.ensures.entries ∙ puts_value c.self.inside.vehicles.entries c.args.key.now c.args.value other)

pub returns-clause-place : goal.returns-clause-place
returns-clause-place g c = rw (c.in-Ok.ensures.entries, c.in-Ok.ensures.index) (put_at c.self.inside.vehicles.entries c.args.key.now c.args.value)

pub returns-clause-names : goal.returns-clause-names
returns-clause-names g c =
    rw (← c.self.view_is)
    (names_put c.self.inside.vehicles.entries c.insert_full.new.self.entries c.self.inside.names.keys c.args.key.now c.args.value c.self.invariant c.in-Ok.ensures.entries)
