-- What holds of the answers to a POST, whoever writes them.
use Rattle.std.specs.Prelude.{◌≡◌, ℕ, ◌+◌, ◌<◌, ◌≤◌, List, ◌∷◌, ◌++◌}
use Rattle.std.specs.Prelude.{length, count_by, Option, None, is_none, All}
use Rattle.mds_core.specs.declared.reply.Reply.{Reply}
use Rattle.mds_batch.specs.declared.item.ItemFault.{ItemFault}
use Rattle.mds_http.specs.Found.{standing_seen, accepted_in}
use Rattle.mds_http.specs.Verdicts.{verdicts, failures_from}

-- the item of this index is no fault, and before it stand as many that are none as there are
-- replies
abbrev pub IsNextWithout : List (Option ItemFault) → List Reply → ℕ → Type 0
IsNextWithout items replies index =
    (before : List (Option ItemFault)) × (after : List (Option ItemFault))
    × (items ≡ before ++ None ∷ after) × (length before ≡ index)
    × (count_by is_none before ≡ length replies)

-- where nothing is said of some items, the first of those is the next that has no reply
abbrev pub MemoryNamesTheNext : Type 0
MemoryNamesTheNext =
    (items : List (Option ItemFault)) (replies : List Reply)
    → length (verdicts items replies) < length items
    → IsNextWithout items replies (length (verdicts items replies))

-- where there is a reply for each item that is no fault, something is said of every item
abbrev pub RepliesAreEnough : Type 0
RepliesAreEnough =
    (items : List (Option ItemFault)) (replies : List Reply)
    → count_by is_none items ≤ length replies → length (verdicts items replies) ≡ length items

-- where there is one reply for each item that is no fault, and none shows a standing, each item is
-- accepted or a failure
abbrev pub CountsAddUp : Type 0
CountsAddUp =
    (items : List (Option ItemFault)) (replies : List Reply)
    → count_by is_none items ≡ length replies
    → All (λ reply. standing_seen reply.outcome ≡ None) replies
    → accepted_in replies + length (failures_from 0 (verdicts items replies)) ≡ length items
