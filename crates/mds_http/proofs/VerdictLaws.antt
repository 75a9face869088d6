-- Items of a POST, and what is said of them.
use Rattle.std.proofs.Common.{◌≡◌, ◌+◌, ℕ, suc, List, [], ◌∷◌, length, Bool, Option, Some, None, is_none, cond, refl, ap, arith}
use Rattle.std.specs.List.{All, count_by}
use Rattle.std.proofs.lemmas.List.Elements.{All-head, All-tail}
use Rattle.std.proofs.lemmas.List.Sums.{sum_by-cons}
use Rattle.mds_core.specs.declared.reply.Outcome.{Outcome}
use Rattle.mds_core.specs.declared.reply.Outcome.TheVariants.{Done, Seen, Refused}
use Rattle.mds_core.specs.declared.reply.Reply.{Reply}
use Rattle.mds_core.specs.Headline.{is_done}
use Rattle.mds_batch.specs.declared.item.ItemFault.{ItemFault}
use Rattle.mds_http.specs.declared.response.failure.Cause.{Cause}
use Rattle.mds_http.specs.Found.{standing_seen, accepted_in}
use Rattle.mds_http.specs.Verdicts.{verdicts, cause_of, failures_from}
use Rattle.mds_http.specs.VerdictLaws.{MemoryNamesTheNext, RepliesAreEnough, CountsAddUp}

-- one more of a list counts where the test passes
count-cons : {X : Type 0} (p : X → Bool) (x : X) (xs : List X) → count_by p (x ∷ xs) ≡ cond (p x) 1 0 + count_by p xs
count-cons p x xs = sum_by-cons (λ y. cond (p y) 1 0) x xs

-- the first item of which nothing is said is the next without a reply
pub memory_names_the_next : MemoryNamesTheNext
memory_names_the_next [] replies short = absurd (omega arith)
memory_names_the_next (Some fault ∷ items) replies short =
    let found = memory_names_the_next items replies (omega arith) in
    (Some fault ∷ found.0, found.1, ap (λ rest. Some fault ∷ rest) found.2, ap suc found.3, omega (arith, count-cons is_none (Some fault) found.0, found.4))
memory_names_the_next (None ∷ items) [] short = ([], items, refl, refl, refl)
memory_names_the_next (None ∷ items) (reply ∷ replies) short =
    let found = memory_names_the_next items replies (omega arith) in
    (None ∷ found.0, found.1, ap (λ rest. None ∷ rest) found.2, ap suc found.3, omega (arith, count-cons is_none None found.0, found.4))

-- as many replies as items that are no faults leave no item out
pub replies_are_enough : RepliesAreEnough
replies_are_enough [] replies enough = refl
replies_are_enough (Some fault ∷ items) replies enough =
    ap suc (replies_are_enough items replies (omega (arith, count-cons is_none (Some fault) items)))
replies_are_enough (None ∷ items) [] enough = absurd (omega (arith, count-cons is_none None items))
replies_are_enough (None ∷ items) (reply ∷ replies) enough =
    ap suc (replies_are_enough items replies (omega (arith, count-cons is_none None items)))

-- an item with such an outcome is accepted or a failure, beside those behind it
one_more : (outcome : Outcome) (index : ℕ) (said : List (Option Cause)) (accepted total : ℕ) → standing_seen outcome ≡ None
    → accepted + length (failures_from (index + 1) said) ≡ total
    → (cond (is_done outcome) 1 0 + accepted) + length (failures_from index (cause_of outcome ∷ said)) ≡ suc total
one_more Done index said accepted total no_look is = omega arith
one_more (Refused refusal) index said accepted total no_look is = omega arith
one_more (Seen standing) index said accepted total no_look is = cc

-- the same of items of which the first has this index
add_up_from : (index : ℕ) (items : List (Option ItemFault)) (replies : List Reply) → count_by is_none items ≡ length replies
    → All (λ reply. standing_seen reply.outcome ≡ None) replies
    → accepted_in replies + length (failures_from index (verdicts items replies)) ≡ length items
add_up_from index [] [] even no_look = refl
add_up_from index [] (reply ∷ replies) even no_look = absurd (omega arith)
add_up_from index (Some fault ∷ items) replies even no_look =
    let behind = add_up_from (index + 1) items replies (omega (arith, count-cons is_none (Some fault) items)) no_look in omega arith
add_up_from index (None ∷ items) [] even no_look = absurd (omega (arith, count-cons is_none None items))
add_up_from index (None ∷ items) (reply ∷ replies) even no_look =
    let behind = add_up_from (index + 1) items replies (omega (arith, count-cons is_none None items)) (All-tail (λ r. standing_seen r.outcome ≡ None) reply replies no_look) in
    rw (count-cons (λ r. is_done r.outcome) reply replies)
    (one_more reply.outcome index (verdicts items replies) (accepted_in replies) (length items) (All-head (λ r. standing_seen r.outcome ≡ None) reply replies no_look) behind)

-- each item is accepted or a failure
pub counts_add_up : CountsAddUp
counts_add_up items replies even no_look = add_up_from 0 items replies even no_look
