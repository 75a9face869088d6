-- Vehicles by their places: what is found there, and what a value that is put leaves.
use Rattle.std.proofs.Common.{◌≡◌, ◌+◌, not, ℕ, zero, suc, List, [], ◌∷◌, ◌++◌, get_or, cond, if◌then◌else◌, Bool, true, false, Some, None, is_some, refl, sym, ap, ◌∙◌, arith}
use Rattle.std.specs.Prelude.{slice_get, Option}
use Rattle.std.specs.Option.{option_map}
use Rattle.std.specs.List.{IsDistinct, position_or_len}
use Rattle.std.specs.Map.{keys_of, lookup, lookup_key}
use Rattle.std.specs.Cmp.{IsEquivalence, and_equiv}
use Rattle.std.specs.Cmp.Lexicographic.{on_texts_equal}
use Rattle.std.proofs.lemmas.List.{append-nil}
use Rattle.std.proofs.lemmas.Map.Made.{lookup_key_passes}
use Rattle.std.proofs.lemmas.Option.{slice_get-map, get_or_from_slice_get}
use Rattle.indexmap.specs.IndexMap.{insert_entry, set_value_at}
use Rattle.indexmap.proofs.MapLemmas.{insert_entry-first, insert_entry-absent, absent_from_lookup}
use Rattle.indexmap.proofs.RemoveLemmas.{own_first}
use Rattle.mds_core.specs.declared.key.Key.{Key}
use Rattle.mds_core.specs.History.{same_key, no_key}
use Rattle.mds_core.proofs.Histories.{same_key_is}

-- to be the same key is an equivalence
pub same_key_equiv : IsEquivalence same_key
same_key_equiv = and_equiv (on_texts_equal (λ key. key.provider)) (on_texts_equal (λ key. key.device))

module _ {V : Type 0} where
  -- the key that a look-up finds is the one that it was asked
  pub found_at : (entries : List (Key × V)) (key kept : Key) (value : V) (place : ℕ) → Some kept ≡ lookup_key (same_key key) entries
      → slice_get entries place ≡ Some (kept, value) → slice_get entries place ≡ Some (key, value)
  found_at entries key kept value place found at =
      at ∙ ap (λ k. Some (k, value)) (sym (same_key_is key kept (lookup_key_passes (same_key key) entries kept (sym found))))

  -- and the one that is the same as this is this one
  pub same_at : (entries : List (Key × V)) (key kept : Key) (value : V) (place : ℕ) → same_key kept key ≡ true
      → Some (kept, value) ≡ slice_get entries place → slice_get entries place ≡ Some (key, value)
  same_at entries key kept value place same at = sym at ∙ ap (λ k. Some (k, value)) (same_key_is kept key same)

  -- the key at a place
  pub key_at : (entries : List (Key × V)) (place : ℕ) (key : Key) (value : V) → slice_get entries place ≡ Some (key, value) → get_or (keys_of entries) place no_key ≡ key
  key_at entries place key value at =
      get_or_from_slice_get (keys_of entries) place key no_key (slice_get-map (λ entry. entry.0) entries place ∙ ap (λ o. option_map (λ entry. entry.0) o) at)

  -- a value that is written at a vehicle's place is put for the vehicle
  pub written_at : (entries : List (Key × V)) (place : ℕ) (key : Key) (old new : V) → IsDistinct same_key (keys_of entries)
      → slice_get entries place ≡ Some (key, old) → set_value_at entries place new ≡ insert_entry same_key entries key new
  written_at entries place key old new apart at =
      sym (insert_entry-first same_key key new entries place (own_first same_key same_key_equiv entries place key old apart at))

  -- and stands there
  pub stands_at : (entries : List (Key × V)) (place : ℕ) (key : Key) (old new : V) → slice_get entries place ≡ Some (key, old)
      → slice_get (set_value_at entries place new) place ≡ Some (key, new)
  stands_at [] place key old new at = absurd cc
  stands_at (entry ∷ entries) zero key old new at = let same : entry ≡ (key, old) = cc in ap (λ e. Some (e.0, new)) same
  stands_at (entry ∷ entries) (suc place) key old new at = stands_at entries place key old new at

  -- the keys stay in their order where a value is put, and at most one comes behind them
  pub keys_put : (entries : List (Key × V)) (key : Key) (value : V) → (more : List Key) × (keys_of (insert_entry same_key entries key value) ≡ keys_of entries ++ more)
  keys_put [] key value = (key ∷ [], refl)
  keys_put (entry ∷ entries) key value = by_first (same_key key entry.0) (keys_put entries key value) where
    by_first : (b : Bool) → (more : List Key) × (keys_of (insert_entry same_key entries key value) ≡ keys_of entries ++ more)
        → (more : List Key) × (keys_of (if b then (entry.0, value) ∷ entries else entry ∷ insert_entry same_key entries key value) ≡ (entry.0 ∷ keys_of entries) ++ more)
    by_first true rest = ([], sym (append-nil (entry.0 ∷ keys_of entries)))
    by_first false rest = (rest.0, ap (λ keys. entry.0 ∷ keys) rest.1)

  -- what is kept of each vehicle where a value is put
  pub puts_value : (entries : List (Key × V)) (key : Key) (value : V) (other : Key)
      → lookup (same_key other) (insert_entry same_key entries key value) ≡ cond (same_key key other) (Some value) (lookup (same_key other) entries)
  puts_value [] key value other = ap (λ b. cond b (Some value) None) (same_key_equiv.symm other key)
  puts_value (entry ∷ entries) key value other = by_first (same_key key entry.0) refl (puts_value entries key value other) where
    Rest : Type 0
    Rest = lookup (same_key other) (insert_entry same_key entries key value) ≡ cond (same_key key other) (Some value) (lookup (same_key other) entries)

    apart : (mine here : Bool) (rest : Option V) → (mine ≡ true → here ≡ false) → cond here (Some entry.1) (cond mine (Some value) rest) ≡ cond mine (Some value) (cond here (Some entry.1) rest)
    apart true true rest none = absurd (let no : true ≡ false = none refl in cc)
    apart true false rest none = refl
    apart false here rest none = refl

    by_first : (b : Bool) → same_key key entry.0 ≡ b → Rest
        → lookup (same_key other) (if b then (entry.0, value) ∷ entries else entry ∷ insert_entry same_key entries key value)
        ≡ cond (same_key key other) (Some value) (cond (same_key other entry.0) (Some entry.1) (lookup (same_key other) entries))
    by_first true is rest =
        let here : same_key other entry.0 ≡ same_key key other = same_key_equiv.symm other entry.0 ∙ sym (same_key_equiv.congr key entry.0 other is) in
        rw here (by_test (same_key key other) (lookup (same_key other) entries)) where
          by_test : (mine : Bool) (behind : Option V) → cond mine (Some value) behind ≡ cond mine (Some value) (cond mine (Some entry.1) behind)
          by_test true behind = refl
          by_test false behind = refl
    by_first false is rest =
        ap (λ o. cond (same_key other entry.0) (Some entry.1) o) rest
        ∙ apart (same_key key other) (same_key other entry.0) (lookup (same_key other) entries) (λ mine. sym (same_key_equiv.congr key other entry.0 mine) ∙ is)

  -- a value that is put stands at the vehicle's place
  pub put_at : (entries : List (Key × V)) (key : Key) (value : V)
      → slice_get (insert_entry same_key entries key value) (position_or_len (same_key key) (keys_of entries)) ≡ Some (key, value)
  put_at [] key value = refl
  put_at (entry ∷ entries) key value = by_first (same_key key entry.0) refl (put_at entries key value) where
    place : ℕ
    place = position_or_len (same_key key) (keys_of entries)

    by_first : (b : Bool) → same_key key entry.0 ≡ b → slice_get (insert_entry same_key entries key value) place ≡ Some (key, value)
        → slice_get (if b then (entry.0, value) ∷ entries else entry ∷ insert_entry same_key entries key value) (cond (not b) (1 + place) 0) ≡ Some (key, value)
    by_first true is rest = ap (λ k. Some (k, value)) (sym (same_key_is key entry.0 is))
    by_first false is rest = let next : 1 + place ≡ suc place = omega arith in ap (λ at. slice_get (entry ∷ insert_entry same_key entries key value) at) next ∙ rest

  -- a vehicle of which nothing was kept comes behind the others
  pub put_new : (entries : List (Key × V)) (key : Key) (value : V) → lookup (same_key key) entries ≡ None → insert_entry same_key entries key value ≡ entries ++ (key, value) ∷ []
  put_new entries key value none = insert_entry-absent same_key key value entries (absent_from_lookup (same_key key) entries none)

  -- and the keys stay where something was
  pub keys_known : (entries : List (Key × V)) (key : Key) (value : V) → is_some (lookup (same_key key) entries) ≡ true → keys_of (insert_entry same_key entries key value) ≡ keys_of entries
  keys_known [] key value some = absurd cc
  keys_known (entry ∷ entries) key value some = by_first (same_key key entry.0) refl some (keys_known entries key value) where
    by_first : (b : Bool) → same_key key entry.0 ≡ b → is_some (cond b (Some entry.1) (lookup (same_key key) entries)) ≡ true
        → (is_some (lookup (same_key key) entries) ≡ true → keys_of (insert_entry same_key entries key value) ≡ keys_of entries)
        → keys_of (if b then (entry.0, value) ∷ entries else entry ∷ insert_entry same_key entries key value) ≡ entry.0 ∷ keys_of entries
    by_first true is some rest = refl
    by_first false is some rest = ap (λ keys. entry.0 ∷ keys) (rest some)
