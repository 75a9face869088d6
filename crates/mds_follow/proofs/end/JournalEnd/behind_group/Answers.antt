use Rattle.std.proofs.Common.{◌≡◌, ◌∙◌, ◌<◌, inl, inr, [], ℕ, List, length, drop, refl, sym, ap, subst, arith}
use Rattle.std.proofs.lemmas.List.{drop_all, take_rest}
use Rattle.std.proofs.lemmas.List.Elements.{All-nil}
use Rattle.mds_follow.specs.End.{IsWithoutRoom}
use Rattle.mds_follow.proofs.end.JournalEnd.behind_group.Goals as goal

-- more stands there
pub returns-in-Some : goal.returns-in-Some
returns-in-Some c =
    let place = c.args.self.now.place in
    let behind = c.in-Some.ensures.lookup.0.2 ∙ take_rest c.deref.result.now place ∙ ap (λ (w : List ℕ). drop place w) c.deref.ensures.value in
    subst (λ (w : List ℕ). IsWithoutRoom w c.without_room.result.now) behind c.without_room.ensures

-- nothing does
pub returns-in-None : goal.returns-in-None
returns-in-None c =
    let place = c.args.self.now.place in
    let bytes = c.args.self.now.bytes.items in
    let same = ap length c.deref.ensures.value in
    let none : drop place bytes ≡ [] = elim c.in-None.ensures.lookup.0 [
      | inl less ↦ drop_all place bytes (omega (arith, less, same))
      | inr never ↦ absurd (omega (arith, never))
    ] in
    subst (λ (w : List ℕ). IsWithoutRoom w []) (sym none) (inl ((All-nil (λ (byte : ℕ). byte ≡ 10), λ many. absurd (omega (arith, many))), refl))
