-- Calls made one by one.
use Rattle.std.proofs.Common.{◌≡◌, ℕ, ◌+◌, ◌≤◌, ◌++◌, List, [], ◌∷◌, drop, length, slice_get, Option, Some, None, refl, add-one}
use Rattle.std.specs.List.{filter_map, cons_option}
use Rattle.std.proofs.Math.Seq.{drop-cons}
use Rattle.std.proofs.lemmas.List.{append_assoc, append-nil, drop_all}
use Rattle.std.proofs.lemmas.Option.{slice_get_within, get_or_from_slice_get}
use Rattle.mds_core.specs.declared.request.Request.{Request}
use Rattle.mds_core.specs.declared.reply.Reply.{Reply}
use Rattle.mds_face.specs.Desk.{AreCalls}
use Rattle.mds_face.specs.Asking.{IsTurn, IsLastTurn}

-- of calls from a state: the items, and the request that each of them asks for
module _ {S I : Type 0} (Calls : S → Request → Option Reply → S → Type 0) (start : S) (asked : I → Option Request) (items : List I) where
  -- whatever calls go on from here with what is left are, behind the replies so far, calls of the whole list
  abbrev pub GoOn : S → List Request → List Reply → Type 0
  GoOn now left replies = (more : List Reply) (new : S) → AreCalls Calls now left more new → AreCalls Calls start (filter_map asked items) (replies ++ more) new

  -- the same with what the items from a place on ask for
  abbrev pub GoOnFrom : S → ℕ → List Reply → Type 0
  GoOnFrom now place replies = GoOn now (filter_map asked (drop place items)) replies

  -- what the items from a place on ask for begins with what the item at that place asks for
  from_item : (place : ℕ) (item : I) → slice_get items place ≡ Some item
      → filter_map asked (drop place items) ≡ cons_option (asked item) (filter_map asked (drop (place + 1) items))
  from_item place item is =
      rw (drop-cons items place item (slice_get_within items place item is), get_or_from_slice_get items place item item is, add-one) refl

  turn : (old new : S) (left : List Request) (one : Option Request) (replies told : List Reply)
      → GoOn old (cons_option one left) replies → IsTurn Calls old one replies new told → GoOn new left told
  turn old new left None replies told on turned more end calls = rw turned.1 (on more end (rw (← turned.0) calls))
  turn old new left (Some request) replies told on turned more end calls =
      rw (turned.2, append_assoc) (on (turned.0 ∷ more) end (new, turned.1, calls))

  stop : (old new : S) (left : List Request) (one : Option Request) (replies told : List Reply)
      → GoOn old (cons_option one left) replies → IsLastTurn Calls old one replies new told → AreCalls Calls start (filter_map asked items) told new
  stop old new left None replies told on turned = absurd turned
  stop old new left (Some request) replies told on turned = rw (turned.1, ← append-nil replies) (on [] new turned.0)

  pub turns : (old new : S) (place : ℕ) (replies told : List Reply) → GoOnFrom old place replies
      → ((item : I) × (slice_get items place ≡ Some item) × IsTurn Calls old (asked item) replies new told) → GoOnFrom new (place + 1) told
  turns old new place replies told on turned =
      turn old new (filter_map asked (drop (place + 1) items)) (asked turned.0) replies told (rw (from_item place turned.0 turned.1) at on) turned.2

  pub stops : (old new : S) (place : ℕ) (replies told : List Reply) → GoOnFrom old place replies
      → ((item : I) × (slice_get items place ≡ Some item) × IsLastTurn Calls old (asked item) replies new told) → AreCalls Calls start (filter_map asked items) told new
  stops old new place replies told on turned =
      stop old new (filter_map asked (drop (place + 1) items)) (asked turned.0) replies told (rw (from_item place turned.0 turned.1) at on) turned.2

  pub ends : (now : S) (place : ℕ) (replies : List Reply) → length items ≤ place → GoOnFrom now place replies → AreCalls Calls start (filter_map asked items) replies now
  ends now place replies past on = rw append-nil at (on [] now (rw (drop_all place items past) refl))
