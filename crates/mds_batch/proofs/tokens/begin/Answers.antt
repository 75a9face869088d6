use Rattle.std.proofs.Common.{◌≡◌, [], ◌∷◌, Some, None, refl, arith, rules}
use Rattle.json.specs.Token.{Token}
use Rattle.json.specs.Reads.{token_of}
use Rattle.serde_json.specs.Data.{null, boolean, number, string}
use Rattle.serde_json.specs.View.{number_view}
use Rattle.mds_batch.specs.Reading.{value_at}
use Rattle.mds_batch.proofs.Starts.{of_tokens, of_number, of_array, of_object, at_last_level}
use Rattle.mds_batch.proofs.tokens.begin.Goals as goal

pub returns-in_err-ok_or-clause-fault : goal.returns-in_err-ok_or-clause-fault
returns-in_err-ok_or-clause-fault c =
    let none : value_at c.args.depth c.args.tokens.now ≡ None = (of_tokens c.args.depth c.args.tokens.now [] (grind arith)).2 in search (rules, none)

pub returns-in_err-ok_or-in-Number-clause-fault : goal.returns-in_err-ok_or-in-Number-clause-fault
returns-in_err-ok_or-in-Number-clause-fault c =
    let none = of_number c.args.depth c.args.tokens.now c.next.new.self c.in-Number.text.now None (grind arith) (grind arith) in search (rules, none)

pub returns-in-Null-clause-begun : goal.returns-in-Null-clause-begun
returns-in-Null-clause-begun c = (null, (of_tokens c.args.depth c.args.tokens.now (Token.null ∷ c.next.new.self) (grind arith)).2, refl)

pub returns-in-Bool-clause-begun : goal.returns-in-Bool-clause-begun
returns-in-Bool-clause-begun c =
    let b = c.in-Bool.field-0 in
    (boolean b, (of_tokens c.args.depth c.args.tokens.now (Token.boolean b ∷ c.next.new.self) (grind arith)).2, (b, refl))

pub returns-in_ok-ok_or-in-Number-clause-begun : goal.returns-in_ok-ok_or-in-Number-clause-begun
returns-in_ok-ok_or-in-Number-clause-begun c =
    let n = number_view c.in_ok-ok_or-in-Number.field-0 in
    (number n, of_number c.args.depth c.args.tokens.now c.next.new.self c.in-Number.text.now (Some n) (grind arith) (grind arith), refl)

pub returns-in-String-clause-begun : goal.returns-in-String-clause-begun
returns-in-String-clause-begun c =
    let text = c.in-String.text.now in
    (string text, (of_tokens c.args.depth c.args.tokens.now (Token.string text ∷ c.next.new.self) (grind arith)).2, refl)

pub returns-then-depth-eq0-clause-fault : goal.returns-then-depth-eq0-clause-fault
returns-then-depth-eq0-clause-fault c = (refl, at_last_level c.args.depth c.args.tokens.now (Token.begin_array ∷ c.next.new.self) (omega arith) (grind arith))

pub returns-else-depth-eq0-clause-begun : goal.returns-else-depth-eq0-clause-begun
returns-else-depth-eq0-clause-begun c = (omega arith, of_array c.args.depth c.args.tokens.now c.next.new.self (omega arith) (grind arith))

pub returns-then-depth-eq0-2-clause-fault : goal.returns-then-depth-eq0-2-clause-fault
returns-then-depth-eq0-2-clause-fault c = (refl, at_last_level c.args.depth c.args.tokens.now (Token.begin_object ∷ c.next.new.self) (omega arith) (grind arith))

pub returns-else-depth-eq0-2-clause-begun : goal.returns-else-depth-eq0-2-clause-begun
returns-else-depth-eq0-2-clause-begun c = (omega arith, of_object c.args.depth c.args.tokens.now c.next.new.self (omega arith) (grind arith))

pub returns-in-EndArray-clause-fault : goal.returns-in-EndArray-clause-fault
returns-in-EndArray-clause-fault c =
    let first = of_tokens c.args.depth c.args.tokens.now (token_of c.in_ok-ok_or.field-0 ∷ c.next.new.self) (grind arith) in (refl, rw first.2 (grind arith))
