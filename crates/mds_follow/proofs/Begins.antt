-- How a follower begins, and how it ends.
use Rattle.std.proofs.Common.{◌≡◌, ℕ, ◌≤◌, List, [], length, sym, ap, ◌∙◌, subst, arith, take_all, le_refl}
use mathlib.Core.List.{IsPrefix}
use Rattle.mds_core.specs.declared.request.Request.{Request}
use Rattle.mds_log.specs.Log.{Acceptance, requests}
use Rattle.mds_log.proofs.Lists.{prefix_self}
use Rattle.mds_book.specs.Copying.{Progressed}
use Rattle.mds_book.specs.Shards.{part}
use Rattle.mds_follow.specs.Parts.{Follows}
use Rattle.mds_follow.specs.Record.{recorded_at, IsSafe}
use Rattle.mds_follow.specs.Restart.{IsRead}
use Rattle.mds_follow.proofs.Safety.{safe_more}

-- nothing is recorded
safe_none : (left : ℕ → List Request → Type 0) (now : ℕ) → IsSafe left now []
safe_none left now place one here = absurd cc

-- what was recorded by a moment is safe at a later one
safe_later : (left : ℕ → List Request → Type 0) (start now : ℕ) (told : List Acceptance) → start ≤ now → IsSafe left start told → IsSafe left now told
safe_later left start now told later safe place one here =
    let was = safe place one here in (omega (arith, was.0, later), was.1)

-- what was read is safe
pub safe_read : (left : ℕ → List Request → Type 0) (start now : ℕ) (told : List Acceptance) → start ≤ now → IsRead left start told → IsSafe left now told
safe_read left start now told later read =
    let Safe : List Acceptance → Type 0 = λ w. IsSafe left now w in
    subst Safe (sym read.at_start) (safe_later left start now (recorded_at start (requests told)) later (safe_more left start [] (requests told) (safe_none left start) read.only))

-- what was read at the start is recorded since then
pub begins_at : (left : ℕ → List Request → Type 0) (start : ℕ) (told : List Acceptance) → IsRead left start told → IsPrefix (recorded_at start (requests told)) told
begins_at left start told read =
    let then = recorded_at start (requests told) in
    subst (λ (w : List Acceptance). IsPrefix then w) (sym read.at_start) (prefix_self then)

-- a seat's progress has all that it has seen
pub follows_all : (number : ℕ) (told : List Request) (seen : List Request) (progress : Progressed) → seen ≡ part number told → progress ≡ record { seen = seen; count = length seen }
    → Follows number told progress
follows_all number told seen progress same is =
    let Follow : Progressed → Type 0 = λ p. Follows number told p in
    subst Follow (sym is) (sym same ∙ sym (take_all (length seen) seen (le_refl (length seen))))

-- and whatever a restart reads since the start is what was read
pub sound_all : (left : ℕ → List Request → Type 0) (start number : ℕ) (told : List Acceptance) (seen : List Request) (progress : Progressed) → IsRead left start told
    → seen ≡ part number (requests told) → progress ≡ record { seen = seen; count = length seen } → (c : List Request) → left start c → IsPrefix (part number c) progress.seen
sound_all left start number told seen progress read same is c was =
    let whole : part number c ≡ progress.seen = ap (λ w. part number w) (read.only c was) ∙ (sym same ∙ sym (ap (λ (p : Progressed). p.seen) is)) in
    subst (IsPrefix (part number c)) whole (prefix_self (part number c))
