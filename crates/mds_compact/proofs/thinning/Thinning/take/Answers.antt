use Rattle.std.proofs.Common.{◌∙◌, ◌++◌, ◌∷◌, [], ℕ, Option, sym, ap, subst, rules}
use Rattle.std.proofs.lemmas.Result.{on_ok_weaker}
use Rattle.indexmap.specs.IndexMap.{get}
use Rattle.mds_core.specs.declared.key.Key.{Key}
use Rattle.mds_core.specs.History.{same_key, key_of, requests_of}
use Rattle.mds_compact.specs.Path.{Way, IsPath}
use Rattle.mds_compact.proofs.Passes.{thinned_more, has_own, own_path, known_at, unknown_at, written_for}
use Rattle.mds_compact.proofs.thinning.Thinning.take.Goals as goal

pub returns-in-Some : goal.returns-in-Some
returns-in-Some c = on_ok_weaker c.take.result (λ takes from old rest is.
    let request = c.args.request.now in
    let key = key_of request in
    let way = c.take.new.self in
    let before : Key → Option Way = get same_key c.args.self.now.paths in
    let after : Key → Option Way = get same_key (c.get_mut.follows.lender way) in
    let found = c.in-Some.ensures.value ∙ ap before c.key.ensures in
    let known = own_path from old rest request c.in-Some.path.now
    (known_at (IsPath from (requests_of old key) (requests_of (request ∷ rest) key)) (requests_of (old ++ request ∷ rest) key) (before key) c.in-Some.path.now found (is.paths key)) in
    let updates = written_for before after c.key.result.now key way c.key.ensures (λ other. ((c.get_mut.follows.holds way).3 (search rules)).0 other) in
    let Was : ℕ → Type 0 = λ since. IsPath since (requests_of old key) (request ∷ requests_of rest key) c.in-Some.path.now in
    let Is : ℕ → Type 0 = λ since. IsPath since (requests_of old key ++ request ∷ []) (requests_of rest key) way in
    let taken = subst Is is.since (takes (requests_of old key) (requests_of rest key) (subst Was (sym is.since) known)) in
    record { since = is.since; paths = thinned_more from old rest request before after way is.paths updates taken }) c.take.ensures

pub returns-in-None : goal.returns-in-None
returns-in-None c = λ from old rest is.
    let request = c.args.request.now in
    let key = key_of request in
    let before : Key → Option Way = get same_key c.args.self.now.paths in
    let absent = c.in-None.ensures.value ∙ ap before c.key.ensures in
    absurd (has_own old request rest (unknown_at (IsPath from (requests_of old key) (requests_of (request ∷ rest) key)) (requests_of (old ++ request ∷ rest) key) (before key) absent (is.paths key)))
