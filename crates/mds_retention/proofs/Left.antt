-- The requests that cuts leave, with one more, and the marks of those.
use Rattle.std.proofs.Common.{◌≡◌, ◌≢◌, ◌∙◌, ◌≤◌, ◌<◌, ◌+◌, ℕ, List, [], ◌∷◌, ◌++◌, length, take, drop, get_or, cond, Bool, true, false, Some, None, Contains, refl, sym, ap, ap₂, subst, append-nil, arith}
use Rattle.std.proofs.lemmas.List.{get_or_default, length-take, map-append, take-append-drop, take_all}
use Rattle.std.proofs.lemmas.List.Elements.{Contains-append_right}
use Rattle.mds_core.specs.declared.request.Request.{Request}
use Rattle.mds_core.specs.History.{requests_of, reports}
use Rattle.mds_table.specs.Tables.{Tables}
use Rattle.mds_core.specs.Lawful.{IsLawful}
use Rattle.mds_compact.specs.Compaction.{kept_of, IsCompaction, IsThin}
use Rattle.mds_compact.specs.Passes.{IsMarkingOf, IsThinningOf}
use Rattle.mds_compact.specs.declared.marking.Marking.{Marking}
use Rattle.mds_compact.specs.declared.thinning.Thinning.{Thinning}
use Rattle.mds_compact.proofs.Passes.{marked_is}
use Rattle.mds_retention.specs.Copying.{IsMarkedBy, cut_totals}
use Rattle.mds_compact.specs.Cutting.{events_in, most_events}
use Rattle.mds_compact.specs.declared.cutting.Cut.{Cut}
use Rattle.mds_compact.proofs.Marks.{named_cut}
use Rattle.mds_compact.proofs.Items.{next_item}
use Rattle.mds_compact.proofs.Kept.{kept_more, kept_nil}

module _ {A : Type 0} where
  -- what is kept of a list from its first item on
  pub kept_first_one : (mark : Bool) (marks : List Bool) (item : A) (rest : List A) → kept_of (mark ∷ marks) (item ∷ rest) ≡ cond mark (item ∷ []) [] ++ kept_of marks rest
  kept_first_one true marks item rest = refl
  kept_first_one false marks item rest = refl

  -- no more is kept than there is
  pub kept_few : (marks : List Bool) (all : List A) → length (kept_of marks all) ≤ length all
  kept_few [] all = omega arith
  kept_few (mark ∷ marks) [] = omega arith
  kept_few (true ∷ marks) (item ∷ all) = omega (arith, kept_few marks all)
  kept_few (false ∷ marks) (item ∷ all) = omega (arith, kept_few marks all)

  -- A list is left of another, and marks keep of it what others keep of the whole. So it is with one item more, which is left or not, and stays only where it's left.
  pub both_more : (all left : List A) (both marks : List Bool) (item : A) (is_left stays : Bool) → length both ≡ length all → length marks ≡ length left → kept_of both all ≡ kept_of marks left
      → (is_left ≡ false → stays ≡ false)
      → kept_of (both ++ stays ∷ []) (all ++ item ∷ []) ≡ kept_of (marks ++ cond is_left (stays ∷ []) []) (left ++ cond is_left (item ∷ []) [])
  both_more all left both marks item true stays count same is less =
      kept_more both all stays item count ∙ ap (λ kept. kept ++ cond stays (item ∷ []) []) is ∙ sym (kept_more marks left stays item same)
  both_more all left both marks item false stays count same is less =
      kept_more both all stays item count ∙ ap (λ b. kept_of both all ++ cond b (item ∷ []) []) (less refl) ∙ append-nil (kept_of both all) ∙ is
      ∙ sym (ap₂ kept_of (append-nil marks) (append-nil left))

-- how many events a vehicle has is told where a request is about it
pub events_told : (requests : List Request) (events : ℕ) → Some events ≡ events_in requests → events ≡ length (reports requests)
events_told [] events is = cc
events_told (request ∷ requests) events is = cc

pub none_told : (requests : List Request) → None ≡ events_in requests → requests ≡ []
none_told [] is = refl
none_told (request ∷ requests) is = cc

-- a mark more takes one of those that are left to come
left_more : (stays : List Bool) (i : ℕ) (one : Bool) (old rest : List Request) (request : Request) (behind : List Request) → length old ≡ i → i < length stays → rest ≡ request ∷ behind
    → (kept_of (take (i + 1) stays) (old ++ request ∷ []) ≡ kept_of (take i stays) old ++ cond (get_or stays i one) (request ∷ []) [])
    × (kept_of (drop i stays) rest ≡ cond (get_or stays i one) (request ∷ []) [] ++ kept_of (drop (i + 1) stays) behind)
left_more stays i one old rest request behind count within next =
    let mark = get_or stays i one in
    let items = next_item stays i mark within (get_or_default stays i one mark within) in
    let same : length (take i stays) ≡ length old = omega (arith, length-take i stays, count, within) in (
      ap (λ marks. kept_of marks (old ++ request ∷ [])) items.0 ∙ kept_more (take i stays) old mark request same,
      ap₂ kept_of items.1 next ∙ kept_first_one mark (drop (i + 1) stays) request behind,
    )

-- a thinning goes on by a request that is left, and stays as it is at one that isn't
pub thinned_on : (stays : List Bool) (i : ℕ) (one : Bool) (from : ℕ) (old rest : List Request) (request : Request) (behind : List Request) (was now : Thinning)
    → ((from : ℕ) (before after : List Request) → IsThinningOf from before (cond (get_or stays i one) (request ∷ []) [] ++ after) was
    → IsThinningOf from (before ++ cond (get_or stays i one) (request ∷ []) []) after now) → length old ≡ i → i < length stays → rest ≡ request ∷ behind
    → IsThinningOf from (kept_of (take i stays) old) (kept_of (drop i stays) rest) was → IsThinningOf from (kept_of (take (i + 1) stays) (old ++ request ∷ [])) (kept_of (drop (i + 1) stays) behind) now
thinned_on stays i one from old rest request behind was now takes count within next is =
    let cut = kept_of (take i stays) old in
    let after = kept_of (drop (i + 1) stays) behind in
    let both = left_more stays i one old rest request behind count within next in
    let Rest : List Request → Type 0 = λ all. IsThinningOf from cut all was in
    let Old : List Request → Type 0 = λ all. IsThinningOf from all after now in
    subst Old (sym both.0) (takes from cut after (subst Rest both.1 is))

-- what was marked of those that are left: these marks keep of them what the marks `both` keep of all
abbrev pub IsMarkedSo : ℕ → List Bool → ℕ → List Request → List Request → List Bool → Marking → Type 0
IsMarkedSo from stays i old rest both marking =
    (marks : List Bool) × IsMarkingOf from (kept_of (take i stays) old) (kept_of (drop i stays) rest) marks marking × (kept_of both old ≡ kept_of marks (kept_of (take i stays) old))

-- a marking goes on so too
pub marked_on : (stays : List Bool) (i : ℕ) (one : Bool) (from : ℕ) (old rest : List Request) (request : Request) (behind : List Request) (both : List Bool) (mark : Bool) (was now : Marking)
    → (get_or stays i one ≡ false → mark ≡ false)
    → ((from : ℕ) (before after : List Request) (marks : List Bool) → IsMarkingOf from before (cond (get_or stays i one) (request ∷ []) [] ++ after) marks was
    → IsMarkingOf from (before ++ cond (get_or stays i one) (request ∷ []) []) after (marks ++ cond (get_or stays i one) (mark ∷ []) []) now) → length old ≡ i → i < length stays
    → rest ≡ request ∷ behind → length both ≡ length old → IsMarkedSo from stays i old rest both was → IsMarkedSo from stays (i + 1) (old ++ request ∷ []) behind (both ++ mark ∷ []) now
marked_on stays i one from old rest request behind both mark was now less marks_on count within next same is =
    let cut = kept_of (take i stays) old in
    let after = kept_of (drop (i + 1) stays) behind in
    let marks = is.0 in
    let more = marks ++ cond (get_or stays i one) (mark ∷ []) [] in
    let kept = left_more stays i one old rest request behind count within next in
    let Rest : List Request → Type 0 = λ all. IsMarkingOf from cut all marks was in
    let Old : List Request → Type 0 = λ all. IsMarkingOf from all after more now in (
      more,
      subst Old (sym kept.0) (marks_on from cut after marks (subst Rest kept.1 is.1)),
      both_more old cut both marks request (get_or stays i one) mark same is.1.count is.2 less ∙ sym (ap (kept_of more) kept.0),
    )

-- at the end nothing is left to come
pub left_all : (stays : List Bool) (i : ℕ) (old rest history : List Request) → length stays ≤ i → rest ≡ [] → old ≡ history
    → (kept_of (take i stays) old ≡ kept_of stays history) × (kept_of (drop i stays) rest ≡ [])
left_all stays i old rest history past none all = (ap₂ kept_of (take_all i stays past) all, ap (kept_of (drop i stays)) none ∙ kept_nil (drop i stays))

-- marks that keep of the whole what the marks of a pass keep of what the cuts leave
pub marked_by : (from : ℕ) (cut history : List Request) (marks both : List Bool) (marking : Marking) → length both ≡ length history → kept_of both history ≡ kept_of marks cut
    → IsMarkingOf from cut [] marks marking → IsMarkedBy from cut history both
marked_by from cut history marks both marking count same is =
    let marked = marked_is from cut marks _ is.paths in
    let Compact : List Request → Type 0 = λ new. IsCompaction from cut new in
    let Thin : List Request → Type 0 = λ new. (tables : Tables) → IsLawful tables cut → IsThin from cut new in
    record { count = count; compaction = subst Compact (sym same) marked.0; thin = subst Thin (sym same) marked.1 }

module _ (cuts : List Cut) (i : ℕ) (cut : Cut) where
  -- the vehicle of a cut is one that cuts name
  pub named_at : drop i cuts ≡ cut ∷ drop (i + 1) cuts → most_events cuts cut.key ≢ None
  named_at first =
      let P : List Cut → Type 0 = λ all. most_events all cut.key ≢ None in
      let whole : take i cuts ++ cut ∷ drop (i + 1) cuts ≡ cuts = ap (λ tail. take i cuts ++ tail) (sym first) ∙ take-append-drop i cuts in
      subst P whole (named_cut (take i cuts) cut (drop (i + 1) cuts))

  -- it's one of them
  pub contained_at : drop i cuts ≡ cut ∷ drop (i + 1) cuts → Contains cuts cut
  contained_at first =
      let P : List Cut → Type 0 = λ all. Contains all cut in
      let whole : take i cuts ++ cut ∷ drop (i + 1) cuts ≡ cuts = ap (λ tail. take i cuts ++ tail) (sym first) ∙ take-append-drop i cuts in
      let here : Contains (cut ∷ drop (i + 1) cuts) cut = (0, omega arith, refl) in
      subst P whole (Contains-append_right (take i cuts) (cut ∷ drop (i + 1) cuts) cut here)

-- the totals of one cut more
pub totals_more : (history : List Request) (cuts : List Cut) (i : ℕ) (cut : Cut) (events : ℕ) → take (i + 1) cuts ≡ take i cuts ++ cut ∷ []
    → events ≡ length (reports (requests_of history cut.key)) → cut_totals history (take i cuts) ++ record { cut = cut; events = events } ∷ [] ≡ cut_totals history (take (i + 1) cuts)
totals_more history cuts i cut events last is =
    ap (λ n. cut_totals history (take i cuts) ++ record { cut = cut; events = n } ∷ []) is
    ∙ sym (map-append (λ one. record { cut = one; events = length (reports (requests_of history one.key)) }) (take i cuts) (cut ∷ [])) ∙ sym (ap (cut_totals history) last)
