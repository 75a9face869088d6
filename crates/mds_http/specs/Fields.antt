-- What was read of a head: its parts, and what the fields of a name give.
use Rattle.std.specs.Prelude.{◌≡◌, ℕ, ◌<◌, List, [], ◌∷◌, length, map}
use Rattle.std.specs.Prelude.{IsUtf8, Some, None, Result, Ok, Err}
use Rattle.httparse.specs.Grammar.{RequestHead, print_request}
use Rattle.httparse.specs.Spans.{span_bytes, header_bytes, name_and_value}
use Rattle.httparse.specs.declared.spans.RequestSpans.{RequestSpans}
use Rattle.httparse.specs.declared.spans.HeaderSpan.{HeaderSpan}
use Rattle.mds_http.specs.declared.request.fault.HttpFault.{HttpFault}
use Rattle.mds_http.specs.Plan.{length_faults, first_fault, announced_length}
use Rattle.mds_http.specs.declared.request.field.FieldValues.{FieldValues}
use Rattle.mds_http.specs.declared.request.field.FieldValues.TheVariants.{Nothing, Once, Often}

-- of all the values of a name this is said: there are none, there is this one, or there are several
abbrev pub AreFieldValues : List (List ℕ) → FieldValues → Type 0
AreFieldValues values Nothing = values ≡ []
AreFieldValues values (Once value) = values ≡ value.now ∷ []
AreFieldValues values Often = 1 < length values

-- these are the parts of a head, as they stand in bytes
pub record ArePartsOf (bytes : List ℕ) (spans : RequestSpans) (headers : List HeaderSpan)
    (head : RequestHead) : Type 0 where
  pub method : span_bytes bytes spans.method ≡ head.method
  pub target : span_bytes bytes spans.path ≡ head.target
  pub text : IsUtf8 head.target
  pub fields : map (header_bytes bytes) headers ≡ map name_and_value head.fields
  pub len : spans.len ≡ length (print_request head)

-- the length of a body by the lengths that are given for it, or the first thing that is wrong with
-- these
abbrev pub IsLengthOf : List (List ℕ) → Result ℕ HttpFault → Type 0
IsLengthOf lengths (Ok len) =
    (first_fault (length_faults lengths) ≡ None) × (len ≡ announced_length lengths)
IsLengthOf lengths (Err fault) = first_fault (length_faults lengths) ≡ Some fault
