use Rattle.std.proofs.Common.{◌≡◌, ℕ, ◌+◌, ◌*◌, ◌/◌, ◌%◌, ◌<◌, ◌≤◌, ◌∙◌, ◌++◌, length, get_or, Some, refl, ap, subst, arith}
use Rattle.std.specs.Prelude.{slice_get}
use Rattle.std.proofs.Math.Nat.{mod-lt}
use Rattle.std.proofs.lemmas.Nat.{div-add-mod'}
use Rattle.std.proofs.lemmas.Option.{slice_get_read}
use Rattle.std.proofs.lemmas.List.Elements.{All-get_or}
use Rattle.mds_past.specs.Pieces.{joined}
use Rattle.mds_past.proofs.PiecesOfOneSize.{in_full, within_last, in_last}
use Rattle.mds_past.proofs.pieces.Pieces.get.Goals as goal

pub index-requires-in-None : goal.index-requires-in-None
index-requires-in-None g c =
    let inside = c.self.inside in
    let within : (c.args.at / inside.size) * inside.size + c.args.at % inside.size < length (joined inside.full.items ++ inside.last.items) =
    rw (div-add-mod' c.args.at inside.size) (rw (← c.self.view_is) at c.requires) in
    let past : length inside.full.items ≤ c.args.at / inside.size = rw c.deref.ensures.value at c.in-None.ensures.lookup.3 in
    let few : length inside.last.items ≤ inside.size = omega (arith, c.self.invariant.few, inside.last.ok.0) in
    omega (arith, inside.last.ok.0, within_last inside.size inside.full.items inside.last.items (c.args.at / inside.size) (c.args.at % inside.size) c.self.invariant.each few within past)

pub returns-in-Some : goal.returns-in-Some
returns-in-Some g c =
    let inside = c.self.inside in
    let number = c.args.at / inside.size in
    let place = c.args.at % inside.size in
    let found = c.in-Some.ensures.lookup in
    let items = c.deref.ensures.value in
    let piece = c.in-Some.piece.now in
    let some = c.self.invariant.some in
    let less : place < inside.size = mod-lt c.args.at some in
    let within : number < length inside.full.items = rw items at found.3.0 in
    let is : piece ≡ get_or inside.full.items number piece = rw items at found.1 in
    let sized : length (get_or inside.full.items number piece).items ≡ inside.size = All-get_or (λ one. length one.items ≡ inside.size) inside.full.items number piece within c.self.invariant.each in
    rw (← c.self.view_is)
    (subst (λ (at : ℕ). slice_get (joined inside.full.items ++ inside.last.items) at ≡ Some c.index.result.now) (div-add-mod' c.args.at inside.size)
    (in_full inside.size inside.full.items inside.last.items number place piece c.self.invariant.each (slice_get_read inside.full.items (length inside.full.items) number piece refl within is) less
    ∙ slice_get_read piece.items (length piece.items) place c.index.result.now refl (omega (arith, less, sized, ap (λ one. length one.items) is)) c.index.ensures))

pub returns-in-None : goal.returns-in-None
returns-in-None g c =
    let inside = c.self.inside in
    let number = c.args.at / inside.size in
    let place = c.args.at % inside.size in
    let within : number * inside.size + place < length (joined inside.full.items ++ inside.last.items) = rw (div-add-mod' c.args.at inside.size) (rw (← c.self.view_is) at c.requires) in
    let past : length inside.full.items ≤ number = rw c.deref.ensures.value at c.in-None.ensures.lookup.3 in
    let few : length inside.last.items ≤ inside.size = omega (arith, c.self.invariant.few, inside.last.ok.0) in
    rw (← c.self.view_is)
    (subst (λ (at : ℕ). slice_get (joined inside.full.items ++ inside.last.items) at ≡ Some c.index-in-None.result.now) (div-add-mod' c.args.at inside.size)
    (in_last inside.size inside.full.items inside.last.items number place c.self.invariant.each few within past
    ∙ slice_get_read inside.last.items (length inside.last.items) place c.index-in-None.result.now refl
    (within_last inside.size inside.full.items inside.last.items number place c.self.invariant.each few within past) c.index-in-None.ensures))
