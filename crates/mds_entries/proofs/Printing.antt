-- What is printed of a value of JSON is read as that value.
use Rattle.std.proofs.Common.{◌≡◌, ◌≤◌, [], option_and_then, sym, ap, ◌∙◌, append-nil}
use Rattle.json.specs.Json as json
use Rattle.json.specs.Print.{print}
use Rattle.json.specs.Tree.{json_tokens, depth, HasNumbers}
use Rattle.json.proofs.Printed.Tokens.{tokens-print}
use Rattle.json.proofs.Printed.Trees.{value-json_tokens, ArePrintable-json_tokens}
use Rattle.serde_json.specs.Read.{of_json, read, max_depth}
use Rattle.serde_json.specs.Written.{outline, compact_text}
use Rattle.serde_json.proofs.Texts.{print-outline}
use Rattle.serde_json.specs.Data.{Data}

-- a value of JSON whose numbers are numbers is read from what is printed of it
pub read_printed : (value : json.Json) → HasNumbers value → depth value ≤ max_depth → read (print (json_tokens value)) ≡ of_json value
read_printed value numbers shallow =
    ap (λ o. option_and_then of_json (option_and_then (λ p. json.if_last p.0 p.1) o))
    (ap (json.value max_depth) (tokens-print (json_tokens value) (ArePrintable-json_tokens value numbers) ∙ sym (append-nil (json_tokens value)))
    ∙ value-json_tokens value max_depth [] shallow)

-- the compact text of data is read as what its outline stands for
pub read_compact : (d : Data) → HasNumbers (outline d) → depth (outline d) ≤ max_depth → read (compact_text d) ≡ of_json (outline d)
read_compact d numbers shallow = ap read (sym (print-outline d)) ∙ read_printed (outline d) numbers shallow
