-- The body of several tables.
use Rattle.std.proofs.Common.{◌≡◌, ◌≢◌, ℕ, List, [], ◌∷◌, ◌++◌, Vec, map, length, codes, refl, ap}
use Rattle.std.proofs.lemmas.List.Folds.{flat_map-map}
use Rattle.mds_table.specs.declared.row.Row.{Row}
use Rattle.mds_batch.specs.Texts.{◌+++◌, with_commas, table_text}
use Rattle.mds_http.specs.Found.{tables_of}
use Rattle.mds_http.specs.Bodies.{tables_body}

-- texts of what the items of a list are taken to
with_commas-map : {A B : Type 0} (text : B → List ℕ) (f : A → B) (items : List A) → with_commas text (map f items) ≡ with_commas (λ item. text (f item)) items
with_commas-map text f [] = refl
with_commas-map text f (first ∷ rest) = ap (λ more. text (f first) ++ more) (flat_map-map (λ item. codes "," ++ text item) f rest)

-- where there isn't one table alone, all are listed
pub several_listed : {A : Type 0} (tables : List (ℕ × Vec Row A)) → length tables ≢ 1
    → tables_body (tables_of tables) ≡ codes "{\"tables\":[" +++ with_commas (λ table. table_text (table.0, table.1.items)) tables +++ codes "]}"
several_listed [] several = refl
several_listed (only ∷ []) several = absurd (several refl)
several_listed (first ∷ second ∷ rest) several =
    ap (λ texts. codes "{\"tables\":[" +++ texts +++ codes "]}") (with_commas-map table_text (λ table. (table.0, table.1.items)) (first ∷ second ∷ rest))
