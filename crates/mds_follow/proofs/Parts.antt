-- What is recorded of each shard, as groups are added to it.
use Rattle.std.proofs.Common.{◌≡◌, ◌≢◌, ◌⊎◌, inl, inr, ℕ, suc, ◌==◌, ◌≤◌, List, [], ◌∷◌, ◌++◌, true, false, length, drop, refl, sym, ap, ◌∙◌, subst, arith, append-nil, take-append-drop}
use Rattle.std.proofs.lemmas.Bool.Decides.{nat_tests}
use Rattle.std.proofs.lemmas.List.Elements.{filter-append, All-take, All-drop}
use mathlib.Core.List.{IsPrefix}
use Rattle.mds_table.specs.Tables.{Tables}
use Rattle.mds_core.specs.declared.request.Request.{Request}
use Rattle.mds_core.specs.History.{key_of}
use Rattle.mds_log.proofs.Lists.{prefix_trans}
use Rattle.mds_book.specs.Shards.{shard_of, AreOfShard, part}
use Rattle.mds_book.specs.Copying.{Progressed, copied_requests, IsPiece}
use Rattle.mds_book.proofs.Copying.{take_longer}
use Rattle.mds_follow.specs.Parts.{Follows}
use Rattle.mds_follow.specs.Group.{IsGroup}
use Rattle.mds_follow.specs.Record.{IsBeforeOrAfter}

-- requests of one shard alone are its part
pub part_own : (number : ℕ) (requests : List Request) → AreOfShard number requests → part number requests ≡ requests
part_own number [] all = refl
part_own number (request ∷ rest) all =
    let first : shard_of (key_of request) ≡ number = all 0 request (omega arith) in
    let here : (shard_of (key_of request) == number) ≡ true = grind (arith, nat_tests) in
    rw here (ap (λ w. request ∷ w) (part_own number rest (λ k d below. all (suc k) d (omega (arith, below)))))

-- and none of them is of another one's
pub part_other : (number other : ℕ) (requests : List Request) → number ≢ other → AreOfShard other requests → part number requests ≡ []
part_other number other [] different all = refl
part_other number other (request ∷ rest) different all =
    let first : shard_of (key_of request) ≡ other = all 0 request (omega arith) in
    let here : (shard_of (key_of request) == number) ≡ false = grind (arith, nat_tests) in
    rw here (part_other number other rest different (λ k d below. all (suc k) d (omega (arith, below))))

-- a piece is of the shard of the history
piece_of_shard : (number from : ℕ) (history piece : List Request) → IsPiece from history piece → AreOfShard number history → AreOfShard number piece
piece_of_shard number from history piece is all =
    let OfShard : Request → Type 0 = λ request. shard_of (key_of request) ≡ number in
    subst (AreOfShard number) (sym is.here) (All-take OfShard (length piece) (drop from history) (All-drop OfShard from history all))

-- of a group the first shard's part is its first piece
first_part : (tables : Tables) (first second : Progressed) (group : List Request) (new_first new_second : Progressed)
    → (is : IsGroup tables (first, second) group (new_first, new_second)) → part 0 group ≡ is.ones
first_part tables first second group new_first new_second is =
    let ones = piece_of_shard 0 first.count new_first.seen is.ones is.first_copied.next is.first_copied.of_shard in
    let others = piece_of_shard 1 second.count new_second.seen is.others is.second_copied.next is.second_copied.of_shard in
    ap (λ w. part 0 w) is.both ∙ (filter-append _ is.ones is.others
    ∙ (ap (λ w. w ++ part 0 is.others) (part_own 0 is.ones ones) ∙ (ap (λ w. is.ones ++ w) (part_other 0 1 is.others (λ same. absurd (omega (arith, same))) others) ∙ append-nil is.ones)))

-- and the second's its second
second_part : (tables : Tables) (first second : Progressed) (group : List Request) (new_first new_second : Progressed)
    → (is : IsGroup tables (first, second) group (new_first, new_second)) → part 1 group ≡ is.others
second_part tables first second group new_first new_second is =
    let ones = piece_of_shard 0 first.count new_first.seen is.ones is.first_copied.next is.first_copied.of_shard in
    let others = piece_of_shard 1 second.count new_second.seen is.others is.second_copied.next is.second_copied.of_shard in
    ap (λ w. part 1 w) is.both ∙ (filter-append _ is.ones is.others
    ∙ (ap (λ w. w ++ part 1 is.others) (part_other 1 0 is.ones (λ same. absurd (omega (arith, same))) ones) ∙ part_own 1 is.others others))

-- a group is recorded of the first shard
pub follows_first : (tables : Tables) (first second : Progressed) (group : List Request) (new_first new_second : Progressed) (recorded : List Request)
    → IsGroup tables (first, second) group (new_first, new_second) → Follows 0 recorded first → Follows 0 (recorded ++ group) new_first
follows_first tables first second group new_first new_second recorded is follows =
    filter-append _ recorded group ∙ (ap (λ w. w ++ part 0 group) follows
    ∙ (ap (λ w. copied_requests first ++ w) (first_part tables first second group new_first new_second is) ∙ sym is.first_copied.copied))

-- and of the second
pub follows_second : (tables : Tables) (first second : Progressed) (group : List Request) (new_first new_second : Progressed) (recorded : List Request)
    → IsGroup tables (first, second) group (new_first, new_second) → Follows 1 recorded second → Follows 1 (recorded ++ group) new_second
follows_second tables first second group new_first new_second recorded is follows =
    filter-append _ recorded group ∙ (ap (λ w. w ++ part 1 group) follows
    ∙ (ap (λ w. copied_requests second ++ w) (second_part tables first second group new_first new_second is) ∙ sym is.second_copied.copied))

-- more of the history was seen, and no more of it copied
pub follows_still : (number : ℕ) (recorded : List Request) (old : Progressed) (longer : List Request) → IsPrefix old.seen longer → old.count ≤ length old.seen
    → Follows number recorded old → Follows number recorded (record { seen = longer; count = old.count })
follows_still number recorded old longer begins within follows = follows ∙ sym (take_longer old.count old.seen longer begins within)

-- what was copied begins what was seen
pub copied_begins : (progress : Progressed) → IsPrefix (copied_requests progress) progress.seen
copied_begins progress = (drop progress.count progress.seen, take-append-drop progress.count progress.seen)

-- what is recorded of a shard begins its history
pub recorded_begins : (number : ℕ) (recorded : List Request) (progress : Progressed) → Follows number recorded progress → IsPrefix (part number recorded) progress.seen
recorded_begins number recorded progress follows =
    let Begins : List Request → Type 0 = λ w. IsPrefix w progress.seen in
    subst Begins (sym follows) (copied_begins progress)

-- what crashes left stays a beginning of a history that goes on, where they may leave a group of it besides
pub sound_more : (before now : List Request → Type 0) (number : ℕ) (recorded group seen longer : List Request) → IsPrefix seen longer
    → IsPrefix (part number recorded) longer → IsPrefix (part number (recorded ++ group)) longer
    → ((c : List Request) → before c → IsPrefix (part number c) seen) → ((c : List Request) → now c → before c ⊎ IsBeforeOrAfter recorded group c)
    → (c : List Request) → now c → IsPrefix (part number c) longer
sound_more before now number recorded group seen longer begins without with_group was may c left = by_case (may c left) where
  Begins : List Request → Type 0
  Begins w = IsPrefix (part number w) longer

  by_case : before c ⊎ IsBeforeOrAfter recorded group c → IsPrefix (part number c) longer
  by_case (inl earlier) = prefix_trans (part number c) seen longer (was c earlier) begins
  by_case (inr (inl same)) = subst Begins (sym same) without
  by_case (inr (inr same)) = subst Begins (sym same) with_group
