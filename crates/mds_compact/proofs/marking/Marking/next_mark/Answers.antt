use Rattle.std.proofs.Common.{◌∙◌, ◌++◌, ◌∷◌, Option, ap, rules}
use Rattle.indexmap.specs.IndexMap.{get}
use Rattle.mds_core.specs.declared.key.Key.{Key}
use Rattle.mds_core.specs.History.{same_key, key_of, requests_of}
use Rattle.mds_compact.specs.Path.{Way, IsMarked}
use Rattle.mds_compact.specs.Passes.{marks_of}
use Rattle.mds_compact.proofs.Passes.{marked_more, has_own, own_marked, known_at, unknown_at, written_for, longer}
use Rattle.mds_compact.proofs.marking.Marking.next_mark.Goals as goal

pub returns-in-Some : goal.returns-in-Some
returns-in-Some c = λ from old rest marks is.
    let request = c.args.request.now in
    let key = key_of request in
    let way = c.next_mark.new.self in
    let ours = marks_of marks old key in
    let before : Key → Option Way = get same_key c.args.self.now.paths in
    let after : Key → Option Way = get same_key (c.get_mut.follows.lender way) in
    let found = c.in-Some.ensures.value ∙ ap before c.key.ensures in
    let known = own_marked from ours old rest request c.in-Some.path.now
    (known_at (IsMarked from ours (requests_of old key) (requests_of (request ∷ rest) key)) (requests_of (old ++ request ∷ rest) key) (before key) c.in-Some.path.now found (is.paths key)) in
    let updates = written_for before after c.key.result.now key way c.key.ensures (λ other. ((c.get_mut.follows.holds way).3 (search rules)).0 other) in
    record {
      count = longer marks old c.next_mark.result request is.count;
      paths = marked_more from marks old rest request c.next_mark.result before after way is.count is.paths updates (c.next_mark.ensures from ours (requests_of old key) (requests_of rest key) request known);
    }

pub returns-in-None : goal.returns-in-None
returns-in-None c = λ from old rest marks is.
    let request = c.args.request.now in
    let key = key_of request in
    let before : Key → Option Way = get same_key c.args.self.now.paths in
    let absent = c.in-None.ensures.value ∙ ap before c.key.ensures in
    absurd (has_own old request rest (unknown_at (IsMarked from (marks_of marks old key) (requests_of old key) (requests_of (request ∷ rest) key)) (requests_of (old ++ request ∷ rest) key) (before key) absent (is.paths key)))
