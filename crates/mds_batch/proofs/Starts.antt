-- What a text's first token says of the value that comes first.
use Rattle.std.proofs.Common.{◌≡◌, ℕ, ◌-◌, ◌<◌, List, ◌∷◌, Option, Some, None, option_map, refl, ap, ap₂, ◌∙◌}
use Rattle.json.specs.Token.{Token}
use Rattle.json.specs.Json as json
use Rattle.json.specs.Json.{Parse, parse_map, value_with}
use Rattle.json.proofs.Grammar.{value_is, value-begin_array, value-begin_object}
use Rattle.serde_json.specs.Data.{Num, Data, number, array, object, no_members}
use Rattle.serde_json.specs.Read.{number_of, of_json, of_items, of_members, converted}
use Rattle.mds_batch.specs.Reading.{value_at, items_at, members_at}

-- what comes first is by the tokens alone, but for the items of a list and the members of an object
pub of_tokens : (depth : ℕ) (tokens those : List Token) → tokens ≡ those
    → (list : Parse json.Items) × (members : Parse json.Members) × (value_at depth tokens ≡ converted of_json (value_with list members those))
of_tokens depth tokens those is = (_, _, ap (value_at depth) is ∙ ap (converted of_json) (value_is depth those))

-- a number comes first, if its text is that of one
pub of_number : (depth : ℕ) (tokens rest : List Token) (text : List ℕ) (read : Option Num) → tokens ≡ Token.number text ∷ rest → number_of text ≡ read
    → value_at depth tokens ≡ option_map {U = Data × List Token} (λ value. (value, rest)) (option_map number read)
of_number depth tokens rest text read is found = (of_tokens depth tokens _ is).2 ∙ ap (λ one. option_map {U = Data × List Token} (λ value. (value, rest)) (option_map number one)) found

-- a change before the rest is put beside it is a change after
pub twice : {A B : Type 0} (f : A → B) (rest : List Token) (read : Option A) → option_map (λ made. (made, rest)) (option_map f read) ≡ parse_map f (option_map (λ made. (made, rest)) read)
twice f rest None = refl
twice f rest (Some made) = refl

pub of_array : (depth : ℕ) (tokens rest : List Token) → 0 < depth → tokens ≡ Token.begin_array ∷ rest → value_at depth tokens ≡ parse_map array (items_at (depth - 1) rest)
of_array depth tokens rest deep is =
    ap (value_at depth) is ∙ ap (converted of_json) (value-begin_array depth rest deep) ∙ whole (json.items (json.value (depth - 1)) _ rest) where
      whole : (read : Option (json.Items × List Token)) → converted of_json (parse_map json.array read) ≡ parse_map array (converted of_items read)
      whole None = refl
      whole (Some read) = twice array read.1 (of_items read.0)

pub of_object : (depth : ℕ) (tokens rest : List Token) → 0 < depth → tokens ≡ Token.begin_object ∷ rest → value_at depth tokens ≡ parse_map object (members_at (depth - 1) rest)
of_object depth tokens rest deep is =
    ap (value_at depth) is ∙ ap (converted of_json) (value-begin_object depth rest deep) ∙ whole (json.members (json.value (depth - 1)) _ rest) where
      whole : (read : Option (json.Members × List Token)) → converted of_json (parse_map json.object read) ≡ parse_map object (converted (λ members. of_members members no_members) read)
      whole None = refl
      whole (Some read) = twice object read.1 (of_members read.0 no_members)

-- nothing may nest at the last level
pub at_last_level : (depth : ℕ) (tokens those : List Token) → depth ≡ 0 → tokens ≡ those → value_at depth tokens ≡ converted of_json (value_with (λ ts. None) (λ ts. None) those)
at_last_level depth tokens those last is = ap₂ value_at last is ∙ ap (converted of_json) (value_is 0 those)
