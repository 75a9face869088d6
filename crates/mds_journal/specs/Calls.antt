-- A file by the calls that were made of it, of which the newest comes first.
use Rattle.std.specs.Prelude.{◌≡◌, ◌⊎◌, ℕ, ◌+◌, ◌≤◌, List, [], ◌∷◌}
use Rattle.std.specs.Prelude.{◌++◌, length, take, drop, reverse}
use Rattle.std.proofs.Common.{sym, subst, le_refl, take_all}
use Rattle.mds_journal.specs.Device.{Torn}
use Rattle.mds_journal.specs.Device.{Cut as IsCut}
use Rattle.mds_journal.specs.declared.memory.Call.{Call}
use Rattle.mds_journal.specs.declared.memory.Call.TheVariants.{Write, Cut, Sync}

-- the bytes after the calls
abbrev pub contents : List ℕ → List Call → List ℕ
contents first [] = first
contents first (Write at bytes ∷ earlier) =
    take at (contents first earlier) ++ bytes.items
    ++ drop (at + length bytes.items) (contents first earlier)
contents first (Cut size ∷ earlier) = take size (contents first earlier)
contents first (Sync ∷ earlier) = contents first earlier

-- what a crash may leave after them: of a call since the last sync all may be done, or a part
abbrev pub Outcome : List ℕ → List Call → List ℕ → Type 0
Outcome first [] c = c ≡ first
Outcome first (Write at bytes ∷ earlier) c =
    (c ≡ contents first (Write at bytes ∷ earlier))
    ⊎ ((d : List ℕ) × Outcome first earlier d × Torn at (length bytes.items) d c)
Outcome first (Cut size ∷ earlier) c =
    (c ≡ contents first (Cut size ∷ earlier))
    ⊎ ((d : List ℕ) × Outcome first earlier d × IsCut size d c)
Outcome first (Sync ∷ earlier) c = c ≡ contents first earlier

-- what a crash may leave after some of all calls, at least so many
abbrev pub LeftSince : List ℕ → List Call → ℕ → List ℕ → Type 0
LeftSince first calls t c =
    (k : ℕ) × (t ≤ k) × (k ≤ length calls) × Outcome first (reverse (take k calls)) c

-- after all of them
pub left_now : (first : List ℕ) (calls : List Call) (t : ℕ) (c : List ℕ)
    → t ≤ length calls → Outcome first (reverse calls) c → LeftSince first calls t c
left_now first calls t c le now =
    let all : take (length calls) calls ≡ calls =
    take_all (length calls) calls (le_refl (length calls)) in (
      length calls,
      le,
      le_refl (length calls),
      subst (λ (made : List Call). Outcome first (reverse made) c) (sym all) now,
    )

-- and after no fewer
pub left_last : (first : List ℕ) (calls : List Call) (c : List ℕ)
    → LeftSince first calls (length calls) c → Outcome first (reverse calls) c
left_last first calls c left =
    subst (λ (made : List Call). Outcome first (reverse made) c)
    (take_all left.0 calls left.1) left.3
