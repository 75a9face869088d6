-- Cuts that words ask for, one by one.
use Rattle.std.proofs.Common.{◌≡◌, ℕ, ◌+◌, ◌<◌, List, [], ◌∷◌, ◌++◌, length, take, drop, get_or, ap, sym, ◌∙◌, subst}
use Rattle.std.proofs.lemmas.List.{get_or_default, take-append-drop}
use Rattle.mds_args.specs.declared.cuts.CutWords.{CutWords}
use Rattle.mds_compact.specs.declared.cutting.Cut.{Cut}
use Rattle.mds_compact.proofs.Items.{next_item}
use Rattle.mds_city.specs.Cuts.{AreCutsOf, IsCutOf}

-- one more
cuts_more : (words : List CutWords) (cuts : List Cut) (one : CutWords) (cut : Cut) → AreCutsOf words cuts → IsCutOf one cut → AreCutsOf (words ++ one ∷ []) (cuts ++ cut ∷ [])
cuts_more [] [] one cut are is = (is, tt)
cuts_more [] (other ∷ cuts) one cut are is = absurd are
cuts_more (first ∷ words) [] one cut are is = absurd are
cuts_more (first ∷ words) (other ∷ cuts) one cut are is = (are.0, cuts_more words cuts one cut are.1 is)

-- where one of the words names no cut, they ask for none
none_among : (before : List CutWords) (one : CutWords) (after : List CutWords) → ((cut : Cut) → IsCutOf one cut → ⊥) → (cuts : List Cut) → AreCutsOf (before ++ one ∷ after) cuts → ⊥
none_among [] one after none [] are = are
none_among [] one after none (cut ∷ cuts) are = none cut are.0
none_among (first ∷ before) one after none [] are = are
none_among (first ∷ before) one after none (cut ∷ cuts) are = none_among before one after none cuts are.1

module _ (words : List CutWords) (i : ℕ) (one : CutWords) (within : i < length words) where
  -- so it is where one of them names none
  pub none_at : ((cut : Cut) → IsCutOf (get_or words i one) cut → ⊥) → (cuts : List Cut) → AreCutsOf words cuts → ⊥
  none_at none =
      let this = get_or words i one in
      let items = next_item words i this within (get_or_default words i one this within) in
      let whole : take i words ++ this ∷ drop (i + 1) words ≡ words = ap (λ tail. take i words ++ tail) (sym items.1) ∙ take-append-drop i words in
      let P : List CutWords → Type 0 = λ all. (cuts : List Cut) → AreCutsOf all cuts → ⊥ in
      subst P whole (none_among (take i words) this (drop (i + 1) words) none)

  -- the cut of one more of them
  pub cuts_next : (cuts now : List Cut) (cut : Cut) → now ≡ cuts ++ cut ∷ [] → AreCutsOf (take i words) cuts → IsCutOf (get_or words i one) cut → AreCutsOf (take (i + 1) words) now
  cuts_next cuts now cut pushed are is =
      let this = get_or words i one in
      let items = next_item words i this within (get_or_default words i one this within) in
      let Words : List CutWords → Type 0 = λ all. AreCutsOf all (cuts ++ cut ∷ []) in
      let Cuts : List Cut → Type 0 = λ all. AreCutsOf (take (i + 1) words) all in
      subst Cuts (sym pushed) (subst Words (sym items.0) (cuts_more (take i words) cuts this cut are is))
