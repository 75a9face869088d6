use Rattle.std.proofs.Common.{◌≡◌, ◌∙◌, ◌++◌, ◌∷◌, [], cond, Option, Some, List, sym, ap, subst, arith, rules}
use Rattle.indexmap.specs.IndexMap.{get}
use Rattle.mds_core.specs.declared.key.Key.{Key}
use Rattle.mds_core.specs.declared.request.Request.{Request}
use Rattle.mds_core.specs.History.{same_key, key_of, requests_of}
use Rattle.mds_compact.specs.Path.{Way, way_to}
use Rattle.mds_compact.proofs.Passes.{surveyed_more, own_few, known_at, unknown_at, written_for}
use Rattle.mds_compact.proofs.survey.Survey.note.Goals as goal

pub returns-in-Some : goal.returns-in-Some
returns-in-Some c = λ history few is.
    let request = c.args.request.now in
    let before : Key → Option Way = get same_key c.args.self.now.paths in
    let after : Key → Option Way = get same_key (c.get_mut.follows.lender c.note.new.self) in
    let own = requests_of history (key_of request) in
    let found = c.in-Some.ensures.value ∙ ap before c.key.ensures in
    let known = known_at (λ way. way ≡ way_to own) own (before (key_of request)) c.in-Some.path.now found (is (key_of request)) in
    let updates = written_for before after c.key.result.now (key_of request) c.note.new.self c.key.ensures (λ other. ((c.get_mut.follows.holds c.note.new.self).3 (search rules)).0 other) in
    surveyed_more history request before after c.note.new.self is updates (c.note.ensures own (omega (arith, own_few history (key_of request))) known)

pub returns : goal.returns
returns c = λ history few is.
    let request = c.args.request.now in
    let before : Key → Option Way = get same_key c.args.self.now.paths in
    let after : Key → Option Way = get same_key c.insert.new.self in
    let own = requests_of history (key_of request) in
    let absent = c.in_default.ensures.value ∙ ap before c.key.ensures in
    let none = unknown_at (λ way. way ≡ way_to own) own (before (key_of request)) absent (is (key_of request)) in
    let updates = written_for before after c.key-2.result.now (key_of request) c.note-2.new.self c.key-2.ensures
    (λ other. c.in-Ok.ensures.updates.0 other ∙ ap (λ map. cond (same_key c.key-2.result.now other) (Some c.note-2.new.self) (get same_key map other)) c.get_mut.follows.holds-at-none) in
    let P : List Request → Type 0 = λ requests. c.note-2.new.self ≡ way_to (requests ++ request ∷ []) in
    surveyed_more history request before after c.note-2.new.self is updates (subst P (sym none) (c.note-2.ensures [] (omega arith) c.in_ok-path.ensures))
