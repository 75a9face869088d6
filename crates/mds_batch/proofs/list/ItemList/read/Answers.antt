use Rattle.std.proofs.Common.{◌∷◌, [], ap, subst, ◌∙◌, refl}
use Rattle.json.specs.Json.{parse_map}
use Rattle.serde_json.specs.Data.{array, object}
use Rattle.mds_table.specs.Json.{items_in}
use Rattle.mds_batch.specs.Reading.{HasBegun}
use Rattle.mds_batch.proofs.Listed.{no_items_yet}
use Rattle.mds_batch.proofs.list.ItemList.read.Goals as goal

pub read_items-requires : goal.read_items-requires
read_items-requires g c = rw (c.requires.none, c.requires.short) (no_items_yet _ _ c.requires.took)

pub returns-in_ok-read_items-in-Array-clause-list : goal.returns-in_ok-read_items-in-Array-clause-list
returns-in_ok-read_items-in-Array-clause-list g c =
    let begun = subst (λ head. HasBegun c.args.depth c.args.tokens.now head c.begin.new.tokens) c.in-Array.is c.in_ok-begin.ensures.begun in
    let read = c.in_ok-read_items-in-Array.ensures.items in
    (array read.0, begun.1 ∙ ap (parse_map array) read.1, (items_in read.0, refl, read.2))

pub returns-in_ok-hand_on-in-Object-clause-list : goal.returns-in_ok-hand_on-in-Object-clause-list
returns-in_ok-hand_on-in-Object-clause-list g c =
    let begun = subst (λ head. HasBegun c.args.depth c.args.tokens.now head c.begin.new.tokens) c.in-Object.is c.in_ok-begin.ensures.begun in
    let read = c.in_ok-read_members-in-Object.ensures.members in
    let is = c.fill.ensures read.0 read.2 in
    let handed = c.in_ok-hand_on-in-Object.ensures in
    (object read.0, begun.1 ∙ ap (parse_map object) read.1, (object read.0 ∷ [], refl, handed _ [] (object read.0) (rw (c.requires.none, c.requires.short) (no_items_yet _ _ c.requires.took)) is))
