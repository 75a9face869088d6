-- The head of a request (RFC 9112, sections 2 to 5): where it stands in a stream, and the values of
-- its fields.
use Rattle.std.specs.Prelude.{ℕ, ◌≤◌, List, ◌++◌, length, take, drop, map, filter, codes}
use Rattle.std.specs.Str.{str_eq_ignore_ascii_case}
use Rattle.httparse.specs.Grammar.{RequestHead, print_request, ReadsRequest}
use Rattle.httparse.specs.Spans.{name_and_value}

-- the most bytes of a head, with the empty lines before it
abbrev pub max_head : ℕ
max_head = 16384

-- the most fields of a head
abbrev pub max_fields : ℕ
max_fields = 64

-- a stream begins with this head, which is short enough and has few enough fields
pub record HasHead (stream : List ℕ) (head : RequestHead) : Type 0 where
  pub rest : List ℕ
  pub reads : ReadsRequest (take max_head stream) head rest
  pub few : length head.fields ≤ max_fields

-- it begins with none
abbrev pub HasNoHead : List ℕ → Type 0
HasNoHead stream = (head : RequestHead) → HasHead stream head → ⊥

-- whatever bytes follow, it begins with none
abbrev pub NeverHasHead : List ℕ → Type 0
NeverHasHead front = (more : List ℕ) → HasNoHead (front ++ more)

-- the bytes of a stream behind its head
abbrev pub after_head : RequestHead → List ℕ → List ℕ
after_head head stream = drop (length (print_request head)) stream

-- of fields, each a name and a value without the spaces and tabs round it, the values of those of a
-- name, whatever the case of its letters
abbrev pub values_of : List ℕ → List (List ℕ × List ℕ) → List (List ℕ)
values_of name fields =
    map (λ field. field.1) (filter (λ field. str_eq_ignore_ascii_case field.0 name) fields)

-- the codings of the body that a head names
abbrev pub encodings : RequestHead → List (List ℕ)
encodings head = values_of (codes "transfer-encoding") (map name_and_value head.fields)

-- the lengths of the body that a head names
abbrev pub lengths : RequestHead → List (List ℕ)
lengths head = values_of (codes "content-length") (map name_and_value head.fields)
