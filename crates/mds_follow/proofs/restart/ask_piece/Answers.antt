use Rattle.std.proofs.Common.{◌≡◌, ◌-◌, ◌∙◌, ℕ, List, IfErr, length, take, drop, ap, subst, arith}
use Rattle.std.proofs.lemmas.List.{length-drop, take_all}
use Rattle.mds_log.specs.Log.{Acceptance, requests}
use Rattle.mds_follow.specs.Restart.{IsAskFault, IsRefilled}
use Rattle.mds_follow.proofs.Asking.{second_fault}
use Rattle.mds_follow.proofs.restart.ask_piece.Goals as goal

-- why the second half isn't asked is why the piece isn't
pub returns-clause-fault : goal.returns-clause-fault
returns-clause-fault g c told refilled =
    let first = c.as_slice-first.result.now in
    let second = c.as_slice-second.result.now in
    let numbers = c.deref-2.result.now in
    let tables = c.args.book.now.tables in
    let count = length first in
    let behind : take (length numbers - count) (drop count numbers) ≡ drop count c.args.piece.now.numbers.items =
    take_all (length numbers - count) (drop count numbers) (omega (arith, length-drop count numbers)) ∙ ap (λ (w : List ℕ). drop count w) c.deref-2.ensures.value in
    let Why : List ℕ → Type 0 = λ w. (told : List Acceptance) → IsRefilled c.ask_portion.new.seat told → IfErr c.ask_portion-2.result (IsAskFault tables (requests told) w second) in
    rw (← c.as_slice-first.ensures.value, ← c.as_slice-second.ensures.value)
    (second_fault tables c.args.seat.now c.ask_portion.new.seat told c.args.piece.now.numbers.items first second c.ask_portion-2.result refilled c.in-Ok.ensures.filled.0
    c.in-Ok.ensures.filled.1 (subst Why behind c.ask_portion-2.ensures.fault))
