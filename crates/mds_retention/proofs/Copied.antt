-- The texts that were copied, and how many there are.
use Rattle.std.proofs.Common.{◌≡◌, ◌∙◌, ℕ, ◌+◌, ◌<◌, List, [], ◌∷◌, ◌++◌, length, take, get_or, cond, Bool, Option, sym, ap, arith, length-take}
use Rattle.std.proofs.lemmas.List.{take_more}
use Rattle.mds_compact.specs.Compaction.{kept_of}
use Rattle.mds_compact.proofs.Kept.{kept_more}
use Rattle.mds_retention.specs.declared.place.Place.{Place}
use Rattle.mds_retention.specs.Place.{HasAll}
use Rattle.mds_retention.specs.Telling.{HasFewer}

-- one more is copied where it's marked
copied_more : (marks : List Bool) (i : ℕ) (one : Bool) (texts : List (List ℕ)) (text : List ℕ) → i < length marks → length texts ≡ i
    → kept_of (take i marks) texts ++ cond (get_or marks i one) (text ∷ []) [] ≡ kept_of (take (i + 1) marks) (texts ++ text ∷ [])
copied_more marks i one texts text within count =
    let front : length (take i marks) ≡ length texts = omega (arith, length-take i marks) in
    let marked : take (i + 1) marks ≡ take i marks ++ get_or marks i one ∷ [] = take_more marks i one within in
    sym (ap (λ all. kept_of all (texts ++ text ∷ [])) marked ∙ kept_more (take i marks) texts (get_or marks i one) text front)

-- the same of a line that is this text
pub copied_if : (marks : List Bool) (i : ℕ) (one : Bool) (texts : List (List ℕ)) (text line : List ℕ) → line ≡ text → i < length marks → length texts ≡ i
    → kept_of (take i marks) texts ++ cond (get_or marks i one) (line ∷ []) [] ≡ kept_of (take (i + 1) marks) (texts ++ text ∷ [])
copied_if marks i one texts text line same within count =
    ap (λ (all : List ℕ). kept_of (take i marks) texts ++ cond (get_or marks i one) (all ∷ []) []) same ∙ copied_more marks i one texts text within count

-- there are fewer texts than marks where all were handed out
pub fewer_texts : (known : Option (List ℕ)) (texts : List (List ℕ)) (place : Place) (count : ℕ) → HasAll known texts place → length texts < count → HasFewer known count
fewer_texts known texts place count all few =
    (place.form, all.lines, all.groups, all.counted, all.is.journal, omega (arith, few, ap (λ (w : List (List ℕ)). length w) all.told))
