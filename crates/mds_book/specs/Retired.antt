-- The seats of a book that were handed back beside the whole log of a shard.
use Rattle.std.specs.Prelude.{◌≡◌, ◌≢◌, ℕ, List, true, Some, slice_get, All, AllPairs}
use mathlib.Core.List.{IsPrefix}
use Rattle.mds_settle.specs.declared.note.Note.{Note}
use Rattle.mds_log.specs.Log.{Acceptance, requests}
use Rattle.mds_log.specs.Marks.{Has, HasNot}
use Rattle.mds_book.specs.Seats.{Seated, accepted_in, seen_in}
use Rattle.mds_book.specs.Sights.{AreTrue, ShardRules, accepted_of}

-- the seat handed back its mark in this shard, which had not been handed back, and its notes are
-- true to the whole log
pub record IsRetired (rules : ShardRules) (log : List Acceptance) (marks : List ℕ) (seat : Seated)
    (left : List ℕ) : Type 0 where
  pub mark : ℕ
  pub fresh : HasNot marks mark
  pub here : Has left mark
  pub begins : IsPrefix marks left
  pub notes : AreTrue rules log mark seat.notes (accepted_in seat rules.number)
  pub seen : IsPrefix (seen_in seat rules.number) (requests log)

-- no accepted note of this shard in one list has the place of one in the other
abbrev pub HaveOtherPlaces : ℕ → List Note → List Note → Type 0
HaveOtherPlaces shard xs ys =
    All (λ x. All
    (λ y. accepted_of shard x ≡ true → accepted_of shard y ≡ true → x.reply.place ≢ y.reply.place)
    ys) xs

-- what each accepted note of this shard says was asked under a mark that was handed back
abbrev pub AreKnown : ℕ → List ℕ → List Acceptance → List Note → Type 0
AreKnown shard marks log notes =
    All (λ note. accepted_of shard note ≡ true
    → (one : Acceptance) × (slice_get log note.reply.place ≡ Some one) × Has marks one.tag) notes

-- these seats handed back these marks, and their notes are true to the whole log
pub record AreRetired (rules : ShardRules) (log : List Acceptance) (marks : List ℕ)
    (seats : List Seated) : Type 0 where
  pub fit : All
      (λ seat. (mark : ℕ) × AreTrue rules log mark seat.notes (accepted_in seat rules.number)) seats
  pub apart : AllPairs (λ seat other. HaveOtherPlaces rules.number seat.notes other.notes) seats
  pub known : All (λ seat. AreKnown rules.number marks log seat.notes) seats
  pub seen : All (λ seat. IsPrefix (seen_in seat rules.number) (requests log)) seats
