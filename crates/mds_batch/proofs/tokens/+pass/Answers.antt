use Rattle.std.proofs.Common.{[], ◌∷◌, ◌++◌, Some, subst, arith, rules}
use Rattle.json.proofs.Grammar.{read_key-shorter}
use Rattle.serde_json.specs.Data.{no_members, put}
use Rattle.mds_batch.specs.Reading.{HasBegun}
use Rattle.mds_batch.proofs.Turns.{value_at-shorter, items_begun, items_turn, items_refused, items_over, members_begun, members_turn, members_refused, key_refused, members_over}
use Rattle.mds_batch.proofs.tokens.+pass.Goals as goal

pub pass-pass_items-requires : goal.pass-pass_items-requires
pass-pass_items-requires t c =
    let begun = subst (λ head. HasBegun c.args.depth c.args.tokens.now head c.begin.new.tokens) c.in-Array.is c.in_ok-head.ensures.begun in
    (omega (arith, begun.0), tt)

pub pass-pass_members-requires : goal.pass-pass_members-requires
pass-pass_members-requires t c =
    let begun = subst (λ head. HasBegun c.args.depth c.args.tokens.now head c.begin.new.tokens) c.in-Object.is c.in_ok-head.ensures.begun in
    (omega (arith, begun.0), tt)

pub pass_items-loop-tokens-init : goal.pass_items-loop-tokens-init
pass_items-loop-tokens-init t c = ([], items_begun c.args.depth c.args.tokens.now)

pub pass_items-pass-requires : goal.pass_items-pass-requires
pass_items-pass-requires t c = search rules

pub pass_items-loop-tokens-smaller : goal.pass_items-loop-tokens-smaller
pass_items-loop-tokens-smaller t c = grind (arith, value_at-shorter _ _ _ _ c.in_ok-pass.ensures.head.1)

pub pass_items-loop-tokens-preserved : goal.pass_items-loop-tokens-preserved
pass_items-loop-tokens-preserved t c =
    let so = c.loop-tokens.invariant in
    let head = c.in_ok-pass.ensures.head in
    (so.0 ++ head.0 ∷ [], items_turn so.1 _ _ _ head.1 (grind arith))

pub pass_items-returns-in_err-pass-clause-fault : goal.pass_items-returns-in_err-pass-clause-fault
pass_items-returns-in_err-pass-clause-fault t c =
    let none = items_refused c.loop-tokens.invariant.1 _ c.in_err-pass.ensures.fault.1 (grind arith) in search (rules, none)

pub pass_items-returns-clause-items : goal.pass_items-returns-clause-items
pass_items-returns-clause-items t c =
    let over = items_over c.loop-tokens.invariant.1 c.take_end_array.new.self (grind arith) in (over.0, over.1)

pub pass_members-loop-tokens-init : goal.pass_members-loop-tokens-init
pass_members-loop-tokens-init t c = (no_members, members_begun c.args.depth c.args.tokens.now)

pub pass_members-returns-in_err-next_key-clause-fault : goal.pass_members-returns-in_err-next_key-clause-fault
pass_members-returns-in_err-next_key-clause-fault t c =
    let none = key_refused c.loop-tokens.invariant.1 c.in_err-next_key.ensures.value in search (rules, none)

pub pass_members-pass-requires : goal.pass_members-pass-requires
pass_members-pass-requires t c = search rules

pub pass_members-loop-tokens-smaller : goal.pass_members-loop-tokens-smaller
pass_members-loop-tokens-smaller t c =
    omega (arith, read_key-shorter c.loop-tokens.tokens (Some c.in-Some.field-0.now) c.next_key.new.self (grind arith), value_at-shorter _ _ _ _ c.in_ok-pass.ensures.head.1)

pub pass_members-loop-tokens-preserved : goal.pass_members-loop-tokens-preserved
pass_members-loop-tokens-preserved t c =
    let so = c.loop-tokens.invariant in
    let head = c.in_ok-pass.ensures.head in
    (put c.in-Some.field-0.now head.0 so.0, members_turn so.1 c.in-Some.field-0.now _ _ _ head.1 (grind arith))

pub pass_members-returns-in_err-pass-clause-fault : goal.pass_members-returns-in_err-pass-clause-fault
pass_members-returns-in_err-pass-clause-fault t c =
    let none = members_refused c.loop-tokens.invariant.1 c.in-Some.field-0.now _ c.in_err-pass.ensures.fault.1 (grind arith) in search (rules, none)

pub pass_members-returns-clause-members : goal.pass_members-returns-clause-members
pass_members-returns-clause-members t c = (c.loop-tokens.invariant.0, members_over c.loop-tokens.invariant.1 c.next_key.new.self (grind arith))
