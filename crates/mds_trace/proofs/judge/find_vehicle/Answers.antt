use Rattle.std.proofs.Common.{◌≡◌, ◌<◌, None, Some, List, [], length, sym, ◌∙◌, ap, subst, arith}
use Rattle.std.specs.List.{list_any}
use Rattle.std.specs.Map.{lookup}
use Rattle.std.proofs.lemmas.Option.{slice_get_within}
use Rattle.mds_core.specs.declared.key.Key.{Key as Vehicle}
use Rattle.mds_core.specs.Reported.{Reported}
use Rattle.mds_core.specs.History.{same_key, same_event, has_event}
use Rattle.mds_core.proofs.Histories.{same_key_is, same_key_refl}
use Rattle.mds_trace.specs.Replay.{as_requests, prior_of}
use Rattle.mds_trace.specs.Followed.{IsFollowed}
use Rattle.mds_trace.proofs.Entries.{found, not_found}
use Rattle.mds_trace.proofs.Keeping.{repeated_is}
use Rattle.mds_trace.proofs.judge.find_vehicle.Goals as goal

pub returns-in_default-clause-followed : goal.returns-in_default-clause-followed
returns-in_default-clause-followed c = λ tables mentioned accepted are.
    let nothing : lookup (same_key c.args.event.now.key) c.args.vehicles.now.entries ≡ None =
    ap (λ key. lookup (same_key key) c.args.vehicles.now.entries) (sym c.key.ensures) ∙ sym c.in_default.ensures.value in
    let new = not_found same_key same_key_is same_key_refl (λ key vehicle. IsFollowed c.args.opening tables key (prior_of key accepted) vehicle) mentioned _ c.args.event.now.key are.vehicles nothing in
    subst (λ prior. IsFollowed c.args.opening tables c.args.event.now.key prior c.begins.result) (sym (are.unknown c.args.event.now.key new)) (c.begins.ensures tables c.args.event.now.key)

pub returns-in_default-clause-repeated : goal.returns-in_default-clause-repeated
returns-in_default-clause-repeated c = λ tables mentioned accepted are.
    let nothing : lookup (same_key c.args.event.now.key) c.args.vehicles.now.entries ≡ None =
    ap (λ key. lookup (same_key key) c.args.vehicles.now.entries) (sym c.key.ensures) ∙ sym c.in_default.ensures.value in
    let new = not_found same_key same_key_is same_key_refl (λ key vehicle. IsFollowed c.args.opening tables key (prior_of key accepted) vehicle) mentioned _ c.args.event.now.key are.vehicles nothing in
    let none : prior_of c.args.event.now.key accepted ≡ [] = are.unknown c.args.event.now.key new in
    ap (λ prior. has_event (as_requests c.args.event.now.key prior) c.args.event.now.id) (sym none)

pub has_event-is_repeated-requires : goal.has_event-is_repeated-requires
has_event-is_repeated-requires c = slice_get_within c.args.vehicles.now.entries c.in-Some.place _ c.in-Some.ensures.place

pub returns-clause-followed : goal.returns-clause-followed
returns-clause-followed c = λ tables mentioned accepted are.
    let at : lookup (same_key c.args.event.now.key) c.args.vehicles.now.entries ≡ Some c.copy.result =
    ap (λ key. lookup (same_key key) c.args.vehicles.now.entries) (sym c.key.ensures) ∙ sym c.in-Some.ensures.value ∙ ap Some (sym c.copy.ensures) in
    found same_key same_key_is same_key_refl (λ key vehicle. IsFollowed c.args.opening tables key (prior_of key accepted) vehicle) mentioned _ c.args.event.now.key c.copy.result are.vehicles at

pub returns-clause-repeated : goal.returns-clause-repeated
returns-clause-repeated c = λ tables mentioned accepted are.
    let event = c.args.event.now in
    let names = c.args.vehicles.now.names in
    c.has_event-is_repeated.ensures c.key.result.now c.in-Some.vehicle.now c.in-Some.ensures.place
    ∙ ap (λ key. list_any (same_event (record { key = key; id = c.id.result })) names) c.key.ensures
    ∙ ap (λ id. list_any (same_event (record { key = event.key; id = id })) names) c.id.ensures
    ∙ repeated_is event.key event.id accepted names are.named
