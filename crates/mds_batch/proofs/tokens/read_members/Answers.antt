use Rattle.std.proofs.Common.{Some, arith}
use Rattle.json.proofs.Grammar.{read_key-shorter}
use Rattle.serde_json.specs.Data.{no_members, put}
use Rattle.mds_batch.proofs.Turns.{value_at-shorter, members_begun, members_turn, members_refused, key_refused, members_over}
use Rattle.mds_batch.proofs.tokens.read_members.Goals as goal

pub loop-name-init : goal.loop-name-init
loop-name-init g c = (no_members, members_begun c.args.depth c.args.tokens.now, c.requires)

pub returns-in_err-name-clause-fault : goal.returns-in_err-name-clause-fault
returns-in_err-name-clause-fault g c refused = key_refused c.loop-name.invariant.1 c.in_err-name.ensures.value

pub loop-name-smaller : goal.loop-name-smaller
loop-name-smaller g c =
    omega (arith, read_key-shorter c.loop-name.tokens (Some c.in-Some.name.now) c.next_key.new.self (grind arith), value_at-shorter _ _ _ _ c.in_ok-take.ensures.taken.1)

pub loop-name-preserved : goal.loop-name-preserved
loop-name-preserved g c =
    let so = c.loop-name.invariant in
    let taken = c.in_ok-take.ensures.taken in
    (put c.in-Some.name.now taken.0 so.0, members_turn so.1 c.in-Some.name.now _ _ _ taken.1 (grind arith), taken.2 so.0 so.2)

pub returns-in_err-take-clause-fault : goal.returns-in_err-take-clause-fault
returns-in_err-take-clause-fault g c refused = members_refused c.loop-name.invariant.1 c.in-Some.name.now _ (c.take.ensures.fault (grind arith)) (grind arith)

pub returns-clause-members : goal.returns-clause-members
returns-clause-members g c =
    let so = c.loop-name.invariant in
    (so.0, members_over so.1 c.next_key.new.self (grind arith), so.2)
