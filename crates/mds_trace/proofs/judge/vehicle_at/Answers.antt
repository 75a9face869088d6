use Rattle.std.proofs.Common.{◌≡◌, None, Some, sym, ◌∙◌, ap, subst}
use Rattle.std.specs.Map.{lookup}
use Rattle.mds_core.specs.History.{same_key}
use Rattle.mds_core.proofs.Histories.{same_key_is, same_key_refl}
use Rattle.mds_trace.specs.Replay.{prior_of}
use Rattle.mds_trace.specs.Followed.{IsFollowed}
use Rattle.mds_trace.proofs.Entries.{found, not_found}
use Rattle.mds_trace.proofs.judge.vehicle_at.Goals as goal

pub returns-in-Some : goal.returns-in-Some
returns-in-Some c = λ tables mentioned accepted seen are.
    let at : lookup (same_key c.args.key.now) c.args.vehicles.now.entries ≡ Some c.copy.result = sym c.in-Some.ensures.value ∙ ap Some (sym c.copy.ensures) in
    found same_key same_key_is same_key_refl (λ key vehicle. IsFollowed c.args.opening tables key (prior_of key accepted) vehicle) mentioned _ c.args.key.now c.copy.result are.vehicles at

pub returns-in-None : goal.returns-in-None
returns-in-None c = λ tables mentioned accepted seen are.
    let nothing : lookup (same_key c.args.key.now) c.args.vehicles.now.entries ≡ None = sym c.in-None.ensures.value in
    let new = not_found same_key same_key_is same_key_refl (λ key vehicle. IsFollowed c.args.opening tables key (prior_of key accepted) vehicle) mentioned _ c.args.key.now are.vehicles nothing in
    subst (λ prior. IsFollowed c.args.opening tables c.args.key.now prior c.begins.result) (sym (are.unknown c.args.key.now new)) (c.begins.ensures tables c.args.key.now)
