-- Maps by their entries: what a look-up finds, and what an insertion leaves.
use Rattle.std.proofs.Common.{◌≡◌, ◌||◌, if◌then◌else◌, cond, List, [], ◌∷◌, ◌++◌, Some, None, Bool, true, false, refl, sym, ◌∙◌, ap, subst}
use Rattle.std.specs.List.{list_any}
use Rattle.std.specs.Map.{lookup}
use Rattle.std.proofs.lemmas.Bool.{true≢false}
use Rattle.std.proofs.lemmas.List.Folds.{list_any-append}
use Rattle.indexmap.specs.IndexMap.{insert_entry}
use Rattle.indexmap.specs.IndexSet.{insert_key}
use Rattle.mds_trace.specs.Followed.{AreApart, AreEntries}

-- where no key of some is equal to this one, none of fewer is
pub either_false : (a b : Bool) → (a || b) ≡ false → (a ≡ false) × (b ≡ false)
either_false false b none = (refl, none)
either_false true b none = absurd (true≢false none)

module _ {K : Type 0} (same : K → K → Bool) (same_is : (a b : K) → same a b ≡ true → a ≡ b) (same_refl : (a : K) → same a a ≡ true) where
  pub other_way : (a b : K) → same a b ≡ false → same b a ≡ false
  other_way a b other = by_test (same b a) refl where
    by_test : (test : Bool) → same b a ≡ test → test ≡ false
    by_test false is = refl
    by_test true is = let itself : same a a ≡ true = same_refl a in let b_is_a : b ≡ a = same_is b a is in absurd (true≢false (sym itself ∙ sym (ap (same a) b_is_a) ∙ other))

  -- a key more, where the first is another
  pub insert_cons : (first : K) (keys : List K) (key : K) → same key first ≡ false → insert_key same (first ∷ keys) key ≡ first ∷ insert_key same keys key
  insert_cons first keys key other =
      ap (λ b. if b || list_any (same key) keys then first ∷ keys else first ∷ (keys ++ key ∷ [])) other ∙ by_rest (list_any (same key) keys) where
        by_rest : (b : Bool) → (if b then first ∷ keys else first ∷ (keys ++ key ∷ [])) ≡ first ∷ (if b then keys else keys ++ key ∷ [])
        by_rest true = refl
        by_rest false = refl

  -- a key that stands there isn't put there again
  pub insert_first : (first : K) (keys : List K) (key : K) → same key first ≡ true → insert_key same (first ∷ keys) key ≡ first ∷ keys
  insert_first first keys key is = ap (λ b. if b || list_any (same key) keys then first ∷ keys else first ∷ (keys ++ key ∷ [])) is

  -- a key that doesn't stand there goes last
  pub insert_new : (keys : List K) (key : K) → list_any (same key) keys ≡ false → insert_key same keys key ≡ keys ++ key ∷ []
  insert_new keys key new = ap (λ b. if b then keys else keys ++ key ∷ []) new

  apart_push : (keys : List K) (key : K) → list_any (same key) keys ≡ false → AreApart same keys → AreApart same (keys ++ key ∷ [])
  apart_push [] key new apart = (refl, tt)
  apart_push (first ∷ keys) key new apart =
      let others = either_false (same key first) (list_any (same key) keys) new in
      let last : same first key ≡ false = other_way key first others.0 in
      (rw (list_any-append (same first) keys (key ∷ []), apart.0, last) refl, apart_push keys key others.1 apart.1)

  -- no key stands twice after an insertion
  pub apart_insert : (keys : List K) (key : K) → AreApart same keys → AreApart same (insert_key same keys key)
  apart_insert keys key apart = by_test (list_any (same key) keys) refl where
    by_test : (b : Bool) → list_any (same key) keys ≡ b → AreApart same (if b then keys else keys ++ key ∷ [])
    by_test true is = apart
    by_test false is = apart_push keys key is apart

  -- a key that isn't there after an insertion wasn't there before, and isn't the one inserted
  pub none_inserted : (keys : List K) (key other : K) → list_any (same other) (insert_key same keys key) ≡ false
      → (list_any (same other) keys ≡ false) × (same other key ≡ false)
  none_inserted keys key other none = by_test (list_any (same key) keys) refl none where
    by_test : (b : Bool) → list_any (same key) keys ≡ b → list_any (same other) (if b then keys else keys ++ key ∷ []) ≡ false
        → (list_any (same other) keys ≡ false) × (same other key ≡ false)
    by_test true is none = (none, apart_from keys is none) where
      apart_from : (some : List K) → list_any (same key) some ≡ true → list_any (same other) some ≡ false → same other key ≡ false
      apart_from [] there absent = absurd (true≢false (sym there))
      apart_from (first ∷ rest) there absent =
          let others = either_false (same other first) (list_any (same other) rest) absent in
          by_first (same key first) refl (λ later. apart_from rest later others.1) where
            by_first : (b : Bool) → same key first ≡ b → (list_any (same key) rest ≡ true → same other key ≡ false) → same other key ≡ false
            by_first true equal later =
                let none_first = either_false (same other first) (list_any (same other) rest) absent in
                ap (same other) (same_is key first equal) ∙ none_first.0
            by_first false unequal later = later (sym (ap (λ b. b || list_any (same key) rest) unequal) ∙ there)
    by_test false is none =
        let both = either_false (list_any (same other) keys) (same other key || false) (sym (list_any-append (same other) keys (key ∷ [])) ∙ none) in
        let last = either_false (same other key) false both.1 in
        (both.0, last.0)

  module _ {V : Type 0} where
    -- what a look-up finds holds of its key
    pub found : (Holds : K → V → Type 0) (keys : List K) (entries : List (K × V)) (key : K) (value : V) → AreEntries Holds keys entries
        → lookup (same key) entries ≡ Some value → Holds key value
    found Holds [] [] key value are at = cc
    found Holds [] (entry ∷ entries) key value are at = absurd are
    found Holds (first ∷ keys) [] key value are at = absurd are
    found Holds (first ∷ keys) (entry ∷ entries) key value are at = by_first (same key entry.0) refl (λ later. found Holds keys entries key value are.1 later) where
      by_first : (b : Bool) → same key entry.0 ≡ b → (lookup (same key) entries ≡ Some value → Holds key value) → Holds key value
      by_first true is later =
          let here : Some entry.1 ≡ Some value = sym (ap (λ b. cond b (Some entry.1) (lookup (same key) entries)) is) ∙ at in
          let held : entry.1 ≡ value = cc in
          let key_is : first ≡ key = sym (same_is key entry.0 is ∙ are.0.0) in
          subst (Holds key) held (subst (λ k. Holds k entry.1) key_is are.0.1)
      by_first false is later = later (sym (ap (λ b. cond b (Some entry.1) (lookup (same key) entries)) is) ∙ at)

    -- where nothing is found, the key is none of them
    pub not_found : (Holds : K → V → Type 0) (keys : List K) (entries : List (K × V)) (key : K) → AreEntries Holds keys entries
        → lookup (same key) entries ≡ None → list_any (same key) keys ≡ false
    not_found Holds [] [] key are nothing = refl
    not_found Holds [] (entry ∷ entries) key are nothing = absurd are
    not_found Holds (first ∷ keys) [] key are nothing = absurd are
    not_found Holds (first ∷ keys) (entry ∷ entries) key are nothing = by_first (same key entry.0) refl (λ later. not_found Holds keys entries key are.1 later) where
      by_first : (b : Bool) → same key entry.0 ≡ b → (lookup (same key) entries ≡ None → list_any (same key) keys ≡ false)
          → (same key first || list_any (same key) keys) ≡ false
      by_first true is later =
          let here : Some entry.1 ≡ None = sym (ap (λ b. cond b (Some entry.1) (lookup (same key) entries)) is) ∙ nothing in cc
      by_first false is later =
          let other : same key first ≡ false = ap (same key) (sym are.0.0) ∙ is in
          rw other (later (sym (ap (λ b. cond b (Some entry.1) (lookup (same key) entries)) is) ∙ nothing))

    module _ (Holds Now : K → V → Type 0) (key : K) (value : V) (others : (other : K) (held : V) → same key other ≡ false → Holds other held → Now other held) where
      -- entries of other keys stay as they are
      kept : (keys : List K) (entries : List (K × V)) → list_any (same key) keys ≡ false → AreEntries Holds keys entries → AreEntries Now keys entries
      kept [] [] none are = tt
      kept [] (entry ∷ entries) none are = absurd are
      kept (first ∷ keys) [] none are = absurd are
      kept (first ∷ keys) (entry ∷ entries) none are =
          let apart = either_false (same key first) (list_any (same key) keys) none in
          ((are.0.0, others first entry.1 apart.0 are.0.1), kept keys entries apart.1 are.1)

      -- after an insertion the key holds the value, and each other key what it held, where that still holds of it
      pub inserted : Now key value → (keys : List K) (entries : List (K × V)) → AreApart same keys → AreEntries Holds keys entries
          → AreEntries Now (insert_key same keys key) (insert_entry same entries key value)
      inserted now [] [] apart are = ((refl, now), tt)
      inserted now [] (entry ∷ entries) apart are = absurd are
      inserted now (first ∷ keys) [] apart are = absurd are
      inserted now (first ∷ keys) (entry ∷ entries) apart are = by_first (same key entry.0) refl (inserted now keys entries apart.1 are.1) where
        by_first : (b : Bool) → same key entry.0 ≡ b → AreEntries Now (insert_key same keys key) (insert_entry same entries key value)
            → AreEntries Now (insert_key same (first ∷ keys) key) (if b then (entry.0, value) ∷ entries else entry ∷ insert_entry same entries key value)
        by_first true is rest =
            let here : same key first ≡ true = ap (same key) (sym are.0.0) ∙ is in
            let key_is : key ≡ first = same_is key first here in
            let apart_here : list_any (same key) keys ≡ false = ap (λ k. list_any (same k) keys) key_is ∙ apart.0 in
            subst (λ all. AreEntries Now all ((entry.0, value) ∷ entries)) (sym (insert_first first keys key here))
            ((are.0.0, subst (λ k. Now k value) key_is now), kept keys entries apart_here are.1)
        by_first false is rest =
            let other : same key first ≡ false = ap (same key) (sym are.0.0) ∙ is in
            subst (λ all. AreEntries Now all (entry ∷ insert_entry same entries key value)) (sym (insert_cons first keys key other))
            ((are.0.0, others first entry.1 other are.0.1), rest)
