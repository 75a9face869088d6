use Rattle.std.proofs.Common.{◌≡◌, ◌≢◌, ℕ, true, List, length, Vec, Global, ap, ◌∙◌, rules, arith}
use Rattle.std.proofs.lemmas.List.{length-map}
use Rattle.mds_groups.specs.Stream.{texts_held}
use Rattle.mds_groups.proofs.StreamLemmas.{takes_check, takes_text}
use Rattle.mds_groups.proofs.stream.GroupStream.take_checked.Goals as goal

held_length : (texts : List (Vec ℕ Global)) → length (texts_held texts) ≡ length texts
held_length texts = length-map texts (λ text. text.items)

pub returns-then-line-ne-CHECK_BYTES-clause-taken : goal.returns-then-line-ne-CHECK_BYTES-clause-taken
returns-then-line-ne-CHECK_BYTES-clause-taken c =
    let text : length c.args.line.now ≢ 20 = search rules in
    takes_text c.args.self.now _ c.args.number c.args.line.now c.requires.stage c.requires.stage text c.in_ok-push_copy.ensures.pushed (c.take.ensures.text text).1

pub returns-clause-taken : goal.returns-clause-taken
returns-clause-taken c =
    let is : length c.args.line.now ≡ 20 = search rules in
    let yes : c.take-2.result ≡ true = search rules in
    let texts = ap (λ (w : List (Vec ℕ Global)). texts_held w) (ap (λ (w : Vec (Vec ℕ Global) Global). w.items) c.replace-texts.ensures.value) in
    let none = ap (λ (w : List (Vec ℕ Global)). texts_held w) (ap (λ (w : Vec (Vec ℕ Global) Global). w.items) c.replace-texts.ensures.after ∙ c.new.ensures.items) in
    takes_check c.args.self.now _ c.args.number c.args.line.now _ c.requires.stage c.requires.stage ((c.take-2.ensures.check is).0 yes) texts none (c.take-2.ensures.ended is yes)
    (λ within. omega (arith, within, held_length c.args.self.now.texts.items, c.begin-first.ensures.begin))
