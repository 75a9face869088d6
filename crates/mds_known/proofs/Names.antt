-- Names by their vehicles' places, and the names that they stand for.
use Rattle.std.proofs.Common.{◌≡◌, ◌⊎◌, inl, inr, ◌<◌, ◌≤◌, ℕ, ◌&&◌, ◌||◌, List, [], ◌∷◌, ◌++◌, length, map, get_or, not, if◌then◌else◌, Bool, true, false, Some, refl, sym, ap, ◌∙◌, arith, nat_eq}
use Rattle.std.specs.List.{list_any, All, AllByRecursion, IsDistinct}
use Rattle.std.specs.Map.{keys_of}
use Rattle.std.specs.Prelude.{slice_get}
use Rattle.std.specs.Str.{bytes_eq}
use Rattle.std.proofs.lemmas.List.{map-append, get_or_append_left}
use Rattle.std.proofs.lemmas.List.Elements.{All-push, recursion_from_All}
use Rattle.std.proofs.lemmas.Map.Keys.{apart_from_distinct}
use Rattle.std.proofs.lemmas.Map.Entries.{length-keys_of}
use Rattle.std.proofs.lemmas.Bool.{cases_lt}
use Rattle.std.proofs.lemmas.Bool.Decides.{nat_tests}
use Rattle.std.proofs.lemmas.Option.{slice_get_within}
use Rattle.indexmap.specs.IndexMap.{insert_entry}
use Rattle.indexmap.specs.IndexSet.{insert_key}
use Rattle.mds_core.specs.declared.key.Key.{Key}
use Rattle.mds_core.specs.declared.event_name.EventName.{EventName}
use Rattle.mds_core.specs.History.{same_key, same_event, no_key}
use Rattle.mds_core.proofs.Histories.{same_key_refl}
use Rattle.mds_known.specs.declared.own_name.OwnName.{OwnName}
use Rattle.mds_known.specs.Kept.{name_at, AreOwn}
use Rattle.mds_known.proofs.Places.{same_key_equiv, key_at, keys_put}

-- the same vehicle, by its place, and the same identifier
abbrev pub same_own : OwnName → OwnName → Bool
same_own a b = nat_eq a.vehicle b.vehicle && bytes_eq a.id b.id

-- two places have the same key where they are the same
same_place : (keys : List Key) (one other : ℕ) → IsDistinct same_key keys → one < length keys → other < length keys
    → same_key (get_or keys one no_key) (get_or keys other no_key) ≡ nat_eq one other
same_place keys one other apart within there = by_order (cases_lt one other) (cases_lt other one) where
  by_order : (one < other) ⊎ (other ≤ one) → (other < one) ⊎ (one ≤ other) → same_key (get_or keys one no_key) (get_or keys other no_key) ≡ nat_eq one other
  by_order (inl before) there_too = let no : nat_eq one other ≡ false = grind (arith, nat_tests) in apart_from_distinct same_key keys one other no_key apart before there ∙ sym no
  by_order (inr behind) (inl before) =
      let no : nat_eq one other ≡ false = grind (arith, nat_tests) in
      same_key_equiv.symm (get_or keys one no_key) (get_or keys other no_key) ∙ apart_from_distinct same_key keys other one no_key apart before within ∙ sym no
  by_order (inr behind) (inr ahead) =
      let same : one ≡ other = omega arith in
      let yes : nat_eq one other ≡ true = grind (arith, nat_tests) in
      ap (λ place. same_key (get_or keys one no_key) (get_or keys place no_key)) (sym same) ∙ same_key_refl (get_or keys one no_key) ∙ sym yes

module _ (keys : List Key) (apart : IsDistinct same_key keys) (place : ℕ) (within : place < length keys) (id : List ℕ) where
  of_own : (names : List OwnName) → AllByRecursion (λ own. own.vehicle < length keys) names
      → list_any (same_own (record { vehicle = place; id = id })) names ≡ list_any (same_event (name_at keys (record { vehicle = place; id = id }))) (map (name_at keys) names)
  of_own [] each = refl
  of_own (own ∷ names) each =
      ap (λ b. (b && bytes_eq id own.id) || list_any (same_own (record { vehicle = place; id = id })) names) (sym (same_place keys place own.vehicle apart within each.0))
      ∙ ap (λ b. (same_key (get_or keys place no_key) (get_or keys own.vehicle no_key) && bytes_eq id own.id) || b) (of_own names each.1)

  -- a name is there by its vehicle's place where it is there by its vehicle
  pub named_by_place : (names : List OwnName) (key : Key) → All (λ own. own.vehicle < length keys) names → get_or keys place no_key ≡ key
      → list_any (same_own (record { vehicle = place; id = id })) names ≡ list_any (same_event (record { key = key; id = id })) (map (name_at keys) names)
  named_by_place names key each is =
      of_own names (recursion_from_All (λ own. own.vehicle < length keys) names each)
      ∙ ap (λ k. list_any (same_event (record { key = k; id = id })) (map (name_at keys) names)) is

-- the names after one more is put
pub names_added : (keys : List Key) (own : OwnName) (names : List OwnName) (is_new : Bool) → is_new ≡ not (list_any (same_own own) names)
    → map (name_at keys) (insert_key same_own names own) ≡ (if is_new then map (name_at keys) names ++ name_at keys own ∷ [] else map (name_at keys) names)
names_added keys own names is_new new = rw new (by_test (list_any (same_own own) names)) where
  by_test : (there : Bool) → map (name_at keys) (if there then names else names ++ own ∷ []) ≡ (if not there then map (name_at keys) names ++ name_at keys own ∷ [] else map (name_at keys) names)
  by_test true = refl
  by_test false = map-append (name_at keys) names (own ∷ [])

-- and their vehicles are there
pub added_within : (count : ℕ) (own : OwnName) (names : List OwnName) → own.vehicle < count → All (λ own. own.vehicle < count) names
    → All (λ own. own.vehicle < count) (insert_key same_own names own)
added_within count own names within each = by_test (list_any (same_own own) names) where
  by_test : (there : Bool) → All (λ own. own.vehicle < count) (if there then names else names ++ own ∷ [])
  by_test true = each
  by_test false = All-push (λ own. own.vehicle < count) names own each within

still_named : (keys more : List Key) (names : List OwnName) → AllByRecursion (λ own. own.vehicle < length keys) names → map (name_at (keys ++ more)) names ≡ map (name_at keys) names
still_named keys more [] each = refl
still_named keys more (own ∷ names) each =
    ap (λ key. record { key = key; id = own.id } ∷ map (name_at (keys ++ more)) names) (get_or_append_left keys more no_key own.vehicle each.0)
    ∙ ap (λ rest. name_at keys own ∷ rest) (still_named keys more names each.1)

-- the names stay where keys come behind
names_stay : (keys more now : List Key) (names : List OwnName) → All (λ own. own.vehicle < length keys) names → now ≡ keys ++ more
    → map (name_at now) names ≡ map (name_at keys) names
names_stay keys more now names each is =
    ap (λ k. map (name_at k) names) is ∙ still_named keys more names (recursion_from_All (λ own. own.vehicle < length keys) names each)

module _ {V : Type 0} (entries : List (Key × V)) (names : List OwnName) (are : AreOwn (keys_of entries) names) (place : ℕ) (id : List ℕ) (own : OwnName) (is : own ≡ record { vehicle = place; id = id })
    (key : Key) (value : V) (at : slice_get entries place ≡ Some (key, value)) where
  -- a name is there where the one is that stands for it
  pub named_at : list_any (same_own own) names ≡ list_any (same_event (record { key = key; id = id })) (map (name_at (keys_of entries)) names)
  named_at =
      let within : place < length (keys_of entries) = omega (arith, slice_get_within entries place (key, value) at, length-keys_of entries) in
      ap (λ o. list_any (same_own o) names) is
      ∙ named_by_place (keys_of entries) are.apart place within id names key are.within (key_at entries place key value at)

  -- and comes behind the others where that one does
  pub named_after : (is_new : Bool) (now : List OwnName) → is_new ≡ not (list_any (same_own own) names) → now ≡ insert_key same_own names own
      → map (name_at (keys_of entries)) now
      ≡ (if is_new then map (name_at (keys_of entries)) names ++ record { key = key; id = id } ∷ [] else map (name_at (keys_of entries)) names)
  named_after is_new now new is_now =
      let named : name_at (keys_of entries) own ≡ record { key = key; id = id } =
      ap (name_at (keys_of entries)) is ∙ ap (λ k. record { key = k; id = id }) (key_at entries place key value at) in
      ap (map (name_at (keys_of entries))) is_now ∙ names_added (keys_of entries) own names is_new new
      ∙ ap (λ name. if is_new then map (name_at (keys_of entries)) names ++ name ∷ [] else map (name_at (keys_of entries)) names) named

-- the names stay where a value is put
pub names_put : {V : Type 0} (entries now : List (Key × V)) (names : List OwnName) (key : Key) (value : V) → AreOwn (keys_of entries) names
    → now ≡ insert_entry same_key entries key value → map (name_at (keys_of now)) names ≡ map (name_at (keys_of entries)) names
names_put entries now names key value are is =
    let more = keys_put entries key value in
    let now_is : keys_of now ≡ keys_of entries ++ more.0 = ap keys_of is ∙ more.1 in
    names_stay (keys_of entries) more.0 (keys_of now) names are.within now_is

-- a name that is added where it's new is inserted
pub is_inserted : (names now : List EventName) (name : EventName) (is_new : Bool) → is_new ≡ not (list_any (same_event name) names)
    → now ≡ (if is_new then names ++ name ∷ [] else names) → now ≡ insert_key same_event names name
is_inserted names now name is_new new is = is ∙ ap (λ b. if b then names ++ name ∷ [] else names) new ∙ by_test (list_any (same_event name) names) where
  by_test : (there : Bool) → (if not there then names ++ name ∷ [] else names) ≡ (if there then names else names ++ name ∷ [])
  by_test true = refl
  by_test false = refl
