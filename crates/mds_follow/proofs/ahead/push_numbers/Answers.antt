use Rattle.std.proofs.Common.{◌≡◌, suc, ◌+◌, ◌++◌, ◌∷◌, ◌∙◌, [], List, ℕ, sym, ap, arith, append_assoc}
use Rattle.mds_groups.specs.Entries.{numbers_from}
use Rattle.mds_groups.proofs.EntryLemmas.{numbers_more}
use Rattle.mds_follow.proofs.ahead.push_numbers.Goals as goal

-- one more number
pub loop-at-preserved : goal.loop-at-preserved
loop-at-preserved c =
    let was = c.loop-at.invariant in
    let before = c.args.numbers.now.items in
    let first = c.args.first in
    let at = c.loop-at.at in
    let next : suc at ≡ at + 1 = omega arith in
    let more : numbers_from first at ++ (first + at) ∷ [] ≡ numbers_from first (at + 1) = sym (numbers_more first at) ∙ ap (numbers_from first) next in
    record {
      items = c.push_reserved.ensures.items ∙ ap (λ (w : List ℕ). w ++ (first + at) ∷ []) was.items ∙ append_assoc before (numbers_from first at) ((first + at) ∷ [])
          ∙ ap (λ (w : List ℕ). before ++ w) more;
      room = omega (arith, was.room, c.push_reserved.ensures.len, c.push_reserved.ensures.capacity, c.loop-at-test.true);
    }
