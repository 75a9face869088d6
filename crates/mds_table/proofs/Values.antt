-- JSON values as data.
use Rattle.std.proofs.Common.{◌≡◌, ◌==◌, ℕ, suc, zero, false, IfNone, List, [], ◌∷◌, ◌++◌, ◌+◌, ◌<◌, ◌≤◌, length, take, get_or, slice_get, IsSomeAnd, map, Option, Some, None, refl, ap, sym, ◌∙◌, subst, arith}
use Rattle.std.specs.List.{All}
use Rattle.std.proofs.lemmas.List.{take_more, take_all, get_or-map, length-map}
use Rattle.serde_json.specs.Data.{Data, null, boolean, number, string, array, object}
use Rattle.serde_json.specs.Find.{as_array}
use Rattle.serde_json.specs.View.{view, items_of, items_view}
use Rattle.serde_json.specs.declared.value.Value.{Value}
use Rattle.mds_table.specs.Json.{items_in}
use Rattle.mds_table.specs.TableFile.{listed_values, IsStateName, ListsStates}

pub items_in-items_of : (ds : List Data) → items_in (items_of ds) ≡ ds
items_in-items_of [] = refl
items_in-items_of (d ∷ ds) = ap (λ rest. d ∷ rest) (items_in-items_of ds)

-- a list lists its items
pub listed_array : (d : Data) (values : List Value) → Some (items_view values) ≡ as_array d → listed_values d ≡ map view values
listed_array (array ds) values is =
    let same : items_view values ≡ ds = cc in
    ap items_in (sym same) ∙ items_in-items_of (map view values)
listed_array null values is = cc
listed_array (boolean b) values is = cc
listed_array (number n) values is = cc
listed_array (string s) values is = cc
listed_array (object ms) values is = cc

-- one more value
pub taken_more : (values : List Value) (i : ℕ) (value : Value) → i < length values → value ≡ get_or values i value
    → take (i + 1) (map view values) ≡ take i (map view values) ++ view value ∷ []
taken_more values i value within is =
    take_more (map view values) i (view value) (omega (arith, length-map values view))
    ∙ ap (λ d. take i (map view values) ++ d ∷ []) (get_or-map view values i value (view value) within ∙ ap view (sym is))

-- every value
pub taken_all : (values : List Value) (i : ℕ) → length values ≤ i → take i (map view values) ≡ map view values
taken_all values i past = take_all i (map view values) (omega (arith, length-map values view))

-- what holds of every value holds of this one
pub all_at : (P : Data → Type 0) (values : List Value) (i : ℕ) (value : Value) → i < length values → value ≡ get_or values i value → All P (map view values) → P (view value)
all_at P values i value within is all =
    let here : get_or (map view values) i (view value) ≡ view value = get_or-map view values i value (view value) within ∙ ap view (sym is) in
    subst P here (all i (view value) (omega (arith, length-map values view)))

-- values that name states, if there is one, are a list of states
pub lists_states : (d : Data) (values : List Value) → map view values ≡ listed_values d → (length values == 0) ≡ false → All IsStateName (map view values) → ListsStates d
lists_states d values same some all = record {
  some = subst (λ ds. 1 ≤ length ds) same (rw length-map (not_none (length values) some));
  names = subst (All IsStateName) same all;
} where
  not_none : (n : ℕ) → (n == 0) ≡ false → 1 ≤ n
  not_none zero is = cc
  not_none (suc n) is = omega arith

pub IfNone_then : {X : Type 0} (r : Option X) {P Q : Type 0} → IfNone r P → (P → Q) → IfNone r Q
IfNone_then None p then = then p
IfNone_then (Some x) p then = tt

-- what holds of the value at a place
some_at : (P : Data → Type 0) (values : List Data) (i : ℕ) (value : Data) → i < length values → get_or values i value ≡ value → P value
    → IsSomeAnd (slice_get values i) P
some_at P [] i value within is holds = absurd (omega arith)
some_at P (first ∷ rest) zero value within is holds = subst P (sym is) holds
some_at P (first ∷ rest) (suc i) value within is holds = some_at P rest i value (omega arith) is holds

pub value_at : (P : Data → Type 0) (values : List Value) (i : ℕ) (value : Value) → i < length values → value ≡ get_or values i value → P (view value)
    → IsSomeAnd (slice_get (map view values) i) P
value_at P values i value within is holds =
    some_at P (map view values) i (view value) (omega (arith, length-map values view)) (get_or-map view values i value (view value) within ∙ ap view (sym is)) holds
