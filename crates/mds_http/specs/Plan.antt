-- What a stream of request bytes asks for.
use Rattle.std.specs.Prelude.{◌≡◌, ◌⊎◌, ℕ, ◌<◌, ◌≤◌, Bool, true, false, not, ◌&&◌, nat_lt}
use Rattle.std.specs.Prelude.{nat_eq, if◌then◌else◌, List, [], ◌∷◌, length, take, find}
use Rattle.std.specs.Prelude.{Option, Some, None, is_none, option_map, MatchOption}
use Rattle.std.specs.List.{list_all}
use Rattle.std.specs.Char.{is_ascii_digit}
use Rattle.std.specs.Str.{bytes_eq}
use Rattle.std.specs.Str.Parse.{digits_value}
use Rattle.serde_json.specs.Data.{Data}
use Rattle.httparse.specs.Grammar.{RequestHead}
use Rattle.mds_table.specs.Json.{max_bytes}
use Rattle.mds_batch.specs.Items.{IsVehicleItem, IsEventItem}
use Rattle.mds_batch.specs.Batch.{HasItems, HasFault}
use Rattle.mds_batch.specs.declared.batch.BatchFault.{BatchFault}
use Rattle.mds_batch.specs.declared.batch.BatchFault.TheVariants as batch
use Rattle.mds_core.specs.declared.key.Key.{Key}
use Rattle.mds_http.specs.declared.request.aim.Aim.{Aim}
use Rattle.mds_http.specs.declared.request.aim.Aim.TheVariants as aim
use Rattle.mds_http.specs.declared.request.fault.HttpFault.{HttpFault}
use Rattle.mds_http.specs.declared.request.fault.HttpFault.TheVariants.{BadHead, TransferEncoding}
use Rattle.mds_http.specs.declared.request.fault.HttpFault.TheVariants.{NotFound, MethodNotAllowed}
use Rattle.mds_http.specs.declared.request.fault.HttpFault.TheVariants.{LengthRequired, BadLength}
use Rattle.mds_http.specs.declared.request.fault.HttpFault.TheVariants.{TooLong, CutShort}
use Rattle.mds_http.specs.declared.request.fault.HttpFault.TheVariants.{NotJson, NotList, TooMany}
use Rattle.mds_http.specs.declared.request.method.Method.{Method}
use Rattle.mds_http.specs.declared.request.method.Method.TheVariants.{Get, Post}
use Rattle.mds_http.specs.Method.{method_name}
use Rattle.mds_http.specs.Asked.{Asked, Fixed, Vehicles, Events, One, History, Rows}
use Rattle.mds_http.specs.Head.{HasHead, HasNoHead, after_head, encodings, lengths}
use Rattle.mds_http.specs.Routes.{aim_in}

-- whether something is posted: items
abbrev pub is_post : Option (Aim Key) → Bool
is_post (Some aim.Vehicles) = true
is_post (Some aim.Events) = true
is_post other = false

-- the method of a route
abbrev pub method_for : Option (Aim Key) → Method
method_for about = if is_post about then Post else Get

-- a length is given once, as one or more digits
abbrev pub is_one_length : List (List ℕ) → Bool
is_one_length (value ∷ []) = nat_lt 0 (length value) && list_all is_ascii_digit value
is_one_length other = false

-- the number that the one length given writes
abbrev pub announced_length : List (List ℕ) → ℕ
announced_length (value ∷ []) = digits_value 10 value
announced_length other = 0

-- the bytes of the body: as many as the one length of a POST says, and none of a GET
abbrev pub body_length : RequestHead → ℕ
body_length head = if is_post (aim_in head.target) then announced_length (lengths head) else 0

-- what can be wrong with the lengths that are given for a body, each with where it is, in the order
-- in which it is looked for
abbrev pub length_faults : List (List ℕ) → List (Bool × HttpFault)
length_faults lengths =
    (nat_eq (length lengths) 0, LengthRequired)
    ∷ (not (is_one_length lengths), BadLength)
    ∷ (nat_lt max_bytes (announced_length lengths), TooLong)
    ∷ []

-- what can be wrong with a head
abbrev pub head_faults : RequestHead → List (Bool × HttpFault)
head_faults head =
    (nat_lt 0 (length (encodings head)), TransferEncoding)
    ∷ (is_none (aim_in head.target), NotFound)
    ∷ (
      not (bytes_eq head.method (method_name (method_for (aim_in head.target)))),
      MethodNotAllowed (method_for (aim_in head.target)),
    )
    ∷ (if is_post (aim_in head.target) then length_faults (lengths head) else [])

-- the first that holds
abbrev pub first_fault : List (Bool × HttpFault) → Option HttpFault
first_fault faults = option_map (λ row. row.1) (find (λ row. row.0) faults)

-- the first thing that is wrong with a head
abbrev pub head_fault : RequestHead → Option HttpFault
head_fault head = first_fault (head_faults head)

-- what is asked for by a body that is no batch: nothing but the answer to its fault; its length was
-- looked at before
abbrev pub body_fault : BatchFault → Option HttpFault
body_fault batch.NotJson = Some NotJson
body_fault batch.NotList = Some NotList
body_fault batch.TooMany = Some TooMany
body_fault other = None

-- what a body asks for: the items of the batch that it is, or else the answer to its first fault
abbrev pub IsBatch : {A : Type 0} → (Data → A → Type 0) → (List A → Asked) → List ℕ → Asked → Type 0
IsBatch {A} IsItemOf Items body asked =
    ((items : List A) × HasItems IsItemOf body items × (asked ≡ Items items))
    ⊎ ((told : BatchFault) × (fault : HttpFault)
    × HasFault body told × (body_fault told ≡ Some fault) × (asked ≡ Fixed fault))

-- the stream ends before the length is reached, or else the body of that length says what is asked
-- for
abbrev pub IsPosted : (List ℕ → Asked → Type 0) → ℕ → List ℕ → Asked → Type 0
IsPosted Asks len after asked =
    ((length after < len) × (asked ≡ Fixed CutShort))
    ⊎ ((len ≤ length after) × Asks (take len after) asked)

-- what a request asks for by what it is about, the length of its body, and the bytes behind its
-- head
abbrev pub IsAsked : Aim Key → ℕ → List ℕ → Asked → Type 0
IsAsked aim.Vehicles len after asked = IsPosted (IsBatch IsVehicleItem Vehicles) len after asked
IsAsked aim.Events len after asked = IsPosted (IsBatch IsEventItem Events) len after asked
IsAsked (aim.One key) len after asked = asked ≡ One key
IsAsked (aim.History key) len after asked = asked ≡ History key
IsAsked aim.Rows len after asked = asked ≡ Rows

-- what a request asks for by its head and the bytes behind it: the first fault of the head, or else
-- what it is about
abbrev pub IsPlanOf : RequestHead → List ℕ → Asked → Type 0
IsPlanOf head after asked =
    MatchOption (head_fault head)
    (MatchOption (aim_in head.target) ⊥ (λ aim. IsAsked aim (body_length head) after asked))
    (λ fault. asked ≡ Fixed fault)

-- what a stream asks for
abbrev pub IsPlan : List ℕ → Asked → Type 0
IsPlan stream asked =
    (HasNoHead stream × (asked ≡ Fixed BadHead))
    ⊎ ((head : RequestHead) × HasHead stream head × IsPlanOf head (after_head head stream) asked)
