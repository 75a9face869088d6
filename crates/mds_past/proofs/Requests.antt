-- The requests that are told, as one more comes behind them.
use Rattle.std.proofs.Common.{◌≡◌, ℕ, ◌++◌, List, [], ◌∷◌, map, refl, ap, ◌∙◌}
use Rattle.std.specs.List.{All}
use Rattle.std.proofs.lemmas.List.{map-append}
use Rattle.std.proofs.lemmas.List.Elements.{All-head, All-tail}
use Rattle.mds_core.specs.declared.key.Key.{Key}
use Rattle.mds_core.specs.declared.request.Request.{Request}
use Rattle.mds_past.specs.Shared.{AddsBehind}

-- over any form, by its law that more keys and names change nothing
module _ {K : Type 0} (tells : K → List Key → List (List ℕ) → Request) (is_kept : K → List Key → List (List ℕ) → Type 0)
    (same : (kept : K) (keys more_keys : List Key) (names more_names : List (List ℕ)) → is_kept kept keys names → tells kept (keys ++ more_keys) (names ++ more_names) ≡ tells kept keys names)
    (keys more_keys : List Key) (names more_names : List (List ℕ)) where
  same_requests : (all : List K) → All (λ kept. is_kept kept keys names) all
      → map (λ kept. tells kept (keys ++ more_keys) (names ++ more_names)) all ≡ map (λ kept. tells kept keys names) all
  same_requests [] are = refl
  same_requests (kept ∷ all) are =
      ap (λ (first : Request). first ∷ map (λ one. tells one (keys ++ more_keys) (names ++ more_names)) all)
      (same kept keys more_keys names more_names (All-head (λ one. is_kept one keys names) kept all are))
      ∙ ap (λ (rest : List Request). tells kept keys names ∷ rest) (same_requests all (All-tail (λ one. is_kept one keys names) kept all are))

  pushed_behind : (all : List K) (one : K) (request : Request) → All (λ kept. is_kept kept keys names) all → tells one (keys ++ more_keys) (names ++ more_names) ≡ request
      → map (λ kept. tells kept (keys ++ more_keys) (names ++ more_names)) (all ++ one ∷ []) ≡ map (λ kept. tells kept keys names) all ++ request ∷ []
  pushed_behind all one request are told =
      map-append (λ kept. tells kept (keys ++ more_keys) (names ++ more_names)) all (one ∷ [])
      ∙ ap (λ (front : List Request). front ++ tells one (keys ++ more_keys) (names ++ more_names) ∷ []) (same_requests all are)
      ∙ ap (λ (last : Request). map (λ kept. tells kept keys names) all ++ last ∷ []) told

-- the same where both lists got more behind them
pub requests_pushed : {K : Type 0} (tells : K → List Key → List (List ℕ) → Request) (is_kept : K → List Key → List (List ℕ) → Type 0)
    → ((kept : K) (keys more_keys : List Key) (names more_names : List (List ℕ)) → is_kept kept keys names → tells kept (keys ++ more_keys) (names ++ more_names) ≡ tells kept keys names)
    → (keys new_keys : List Key) (names new_names : List (List ℕ)) (most_keys most_names : ℕ) → AddsBehind most_keys keys new_keys → AddsBehind most_names names new_names
    → (all : List K) (one : K) (request : Request) → All (λ kept. is_kept kept keys names) all → tells one new_keys new_names ≡ request
    → map (λ kept. tells kept new_keys new_names) (all ++ one ∷ []) ≡ map (λ kept. tells kept keys names) all ++ request ∷ []
requests_pushed tells is_kept same keys new_keys names new_names most_keys most_names adds_keys adds_names all one request are told =
    rw (adds_keys.is, adds_names.is)
    (pushed_behind tells is_kept same keys adds_keys.more names adds_names.more all one request are (rw (adds_keys.is, adds_names.is) at told))
