use Rattle.std.proofs.Common.{◌≡◌, ◌≤◌, ℕ, List, length, arith, not, position, Some, None, sym, ◌∙◌, refl, subst}
use Rattle.std.proofs.lemmas.Bool.Decides.{nat_tests}
use Rattle.mds_table.specs.TypeName.{may_stand, IsTypeName}
use Rattle.mds_table.proofs.Tested.{all_pass, one_fails}
use Rattle.mds_table.proofs.type_name.TypeName.new.Goals as goal

pub returns-in-Some-clause-exact : goal.returns-in-Some-clause-exact
returns-in-Some-clause-exact c =
    let bad : position (λ byte. not (may_stand byte)) c.args.text.now ≡ Some c.in-Some.at = cc in
    let fails = one_fails may_stand c.args.text.now c.in-Some.at bad in
    (λ no. cc, λ name. sym fails ∙ name.bytes)

-- a text in which each byte may stand
named : (text : List ℕ) → 1 ≤ length text → length text ≤ 32 → position (λ byte. not (may_stand byte)) text ≡ None → IsTypeName text
named text some short good = record { some = some; short = short; bytes = all_pass may_stand text good }

pub of_bytes-requires : goal.of_bytes-requires
of_bytes-requires c =
    let good : position (λ byte. not (may_stand byte)) c.args.text.now ≡ None = cc in
    let some : 1 ≤ length c.args.text.now = grind (arith, nat_tests) in
    let same : c.as_bytes-2.result.now ≡ c.args.text.now = cc in
    subst IsTypeName (sym same) (named c.args.text.now some (omega arith) good)

pub returns-clause-exact : goal.returns-clause-exact
returns-clause-exact c =
    let good : position (λ byte. not (may_stand byte)) c.args.text.now ≡ None = cc in
    let some : 1 ≤ length c.args.text.now = grind (arith, nat_tests) in
    (λ _. named c.args.text.now some (omega arith) good, λ _. refl)
