use Rattle.std.proofs.Common.{◌≡◌, ◌⊎◌, inl, inr, ℕ, List, [], length, IsErrOf, IfErr, Result, Ok, Err, refl, sym, ap, ◌∙◌, subst}
use Rattle.mds_journal.specs.Lines.{HasNoFeed}
use Rattle.mds_journal.specs.declared.group.PushError.{PushError}
use Rattle.mds_journal.specs.declared.group.PushError.TheVariants as push
use Rattle.mds_check.specs.Form.{check_text}
use Rattle.mds_check.proofs.FormLemmas.{check_text-length, check_text-no_feed}
use Rattle.mds_groups.proofs.ending.end_group.Goals as goal

-- a text that is a check is one of a line
only : (result : Result (Unit {0}) PushError) (text : List ℕ) (check : ℕ) → text ≡ check_text check → (IsErrOf result push.Empty → text ≡ [])
    → (IsErrOf result push.LineFeed → HasNoFeed text → ⊥) → IfErr result (λ error. (error ≡ push.TooLarge) ⊎ (error ≡ push.Memory))
only (Ok done) text check is empty feed = tt
only (Err push.Empty) text check is empty feed =
    let none : length text ≡ 0 = ap (λ (w : List ℕ). length w) (empty refl) in
    let long : length text ≡ 20 = ap (λ (w : List ℕ). length w) is ∙ check_text-length check in
    absurd (cc (none, long))
only (Err push.LineFeed) text check is empty feed = absurd (feed refl (subst HasNoFeed (sym is) (check_text-no_feed check)))
only (Err push.TooLarge) text check is empty feed = inl refl
only (Err push.Memory) text check is empty feed = inr refl

pub returns-clause-only : goal.returns-clause-only
returns-clause-only c =
    let check = c.checksum.result in
    only c.push.result c.as_slice.result.now check (c.as_slice.ensures ∙ c.check_text-check.ensures) c.push.ensures.empty c.push.ensures.line_feed
