use Rattle.std.proofs.Common.{◌≡◌, ◌-◌, List, ℕ, [], ◌∷◌, ◌++◌, not, slice_set, refl, sym, ap, ◌∙◌, arith}
use Rattle.mds_journal.specs.Lines.{HasNoFeed}
use Rattle.mds_journal.proofs.GroupLemmas.{pushed, when_ok, when_none}
use Rattle.mds_journal.proofs.group.Group.push.Goals as goal

pub invariant_of-self-2 : goal.invariant_of-self-2
invariant_of-self-2 c =
    let old = c.self.inside.bytes.items in
    let laid = c.add_line.new.bytes.items in
    let text = c.args.text.now in
    let n = c.len-used.result - 1 in
    let laid_out = when_ok c.add_line.result (laid ≡ old ++ (text ++ 10 ∷ 35 ∷ [])) (c.is_err.ensures.negation ∙ ap not c.if-is_err.false) c.add_line.ensures.ok in
    let none = when_none c.find_feed.result (HasNoFeed text) (sym c.is_some.ensures ∙ c.if-is_some.false) c.find_feed.ensures.none in
    let line = pushed old laid (slice_set laid n 32) text n c.self.invariant.0 (omega (arith, c.len-used.ensures)) laid_out refl none in
    (line.whole, omega (arith, line.size, c.has_room.ensures.0 c.if-not-has_room.false, c.len-used.ensures))

pub returns-clause-ok : goal.returns-clause-ok
returns-clause-ok c =
    let old = c.self.inside.bytes.items in
    let laid = c.add_line.new.bytes.items in
    let text = c.args.text.now in
    let n = c.len-used.result - 1 in
    let laid_out = when_ok c.add_line.result (laid ≡ old ++ (text ++ 10 ∷ 35 ∷ [])) (c.is_err.ensures.negation ∙ ap not c.if-is_err.false) c.add_line.ensures.ok in
    let none = when_none c.find_feed.result (HasNoFeed text) (sym c.is_some.ensures ∙ c.if-is_some.false) c.find_feed.ensures.none in
    let line = pushed old laid (slice_set laid n 32) text n c.self.invariant.0 (omega (arith, c.len-used.ensures)) laid_out refl none in
    line.texts ∙ ap (λ (texts : List (List ℕ)). texts ++ text ∷ []) c.self.view_is
