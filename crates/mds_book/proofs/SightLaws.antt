-- What callers of a book saw of its shards.
use Rattle.std.proofs.Common.{◌≡◌, ◌⊎◌, ◌<◌, ℕ, zero, suc, ◌==◌, inl, inr, List, ◌∷◌, [], ◌++◌, length, Some, slice_get, Bool, true, false, refl, ◌∙◌, ap, subst, arith, if◌then◌else◌}
use Rattle.std.proofs.lemmas.Nat.{mod_below}
use Rattle.std.proofs.lemmas.Option.{get_or_from_slice_get, slice_get_within}
use Rattle.std.specs.List.{All}
use Rattle.std.specs.Int.{from_be_bytes, w128}
use mathlib.Core.List.{IsPrefix}
use Rattle.mds_table.specs.Tables.{Tables}
use Rattle.mds_core.specs.declared.request.Request.{Request}
use Rattle.mds_core.specs.declared.reply.Reply.{Reply}
use Rattle.mds_core.specs.declared.reply.Outcome.TheVariants.{Done}
use Rattle.mds_core.specs.History.{key_of}
use Rattle.mds_core.specs.Answer.{next}
use Rattle.mds_log.proofs.Lists.{one_begins_other, prefix_get, prefix_self}
use Rattle.mds_log.specs.Log.{Acceptance, requests}
use Rattle.mds_book.specs.Laws.{OneBegins}
use Rattle.mds_book.specs.Shards.{shard_of}
use Rattle.mds_book.specs.Seats.{IsCalled, Seated, after_call, seen_in, seen_after}
use Rattle.mds_book.specs.Gathering.{Collected}
use Rattle.mds_book.specs.Settling.{AreBeginnings, IsSettledBook, IsTorn}
use Rattle.mds_settle.specs.Settled.{IsSettled}
use Rattle.mds_settle.specs.Faults.{IsLeastFault}
use Rattle.mds_settle.proofs.Judged.{exactly}
use Rattle.std.specs.Prelude.{Result, Err}
use Rattle.mds_book.proofs.Trues.{requests_prefix}

-- an element of a list has what each has
of_all : {X : Type 0} (P : X → Type 0) (xs : List X) (place : ℕ) (x : X) → All P xs → slice_get xs place ≡ Some x → P x
of_all P xs place x all is = subst P (get_or_from_slice_get xs place x x is) (all place x (slice_get_within xs place x is))

pub sights_are_one : (all : Collected) (place next shard : ℕ) (seat other : Seated) → AreBeginnings all → slice_get all.seats place ≡ Some seat
    → slice_get all.seats next ≡ Some other → IsPrefix (seen_in seat shard) (seen_in other shard) ⊎ IsPrefix (seen_in other shard) (seen_in seat shard)
sights_are_one all place next shard seat other begins is_seat is_other = by_first (shard == 0) (shard == 1) where
  first : IsPrefix seat.first_seen other.first_seen ⊎ IsPrefix other.first_seen seat.first_seen
  first = one_begins_other seat.first_seen other.first_seen all.first
      (of_all (λ seat. IsPrefix seat.first_seen all.first) all.seats place seat begins.first is_seat)
      (of_all (λ seat. IsPrefix seat.first_seen all.first) all.seats next other begins.first is_other)

  second : IsPrefix seat.second_seen other.second_seen ⊎ IsPrefix other.second_seen seat.second_seen
  second = one_begins_other seat.second_seen other.second_seen all.second
      (of_all (λ seat. IsPrefix seat.second_seen all.second) all.seats place seat begins.second is_seat)
      (of_all (λ seat. IsPrefix seat.second_seen all.second) all.seats next other begins.second is_other)

  by_first : (zeroth one : Bool)
      → IsPrefix (if zeroth then seat.first_seen else (if one then seat.second_seen else [])) (if zeroth then other.first_seen else (if one then other.second_seen else []))
      ⊎ IsPrefix (if zeroth then other.first_seen else (if one then other.second_seen else [])) (if zeroth then seat.first_seen else (if one then seat.second_seen else []))
  by_first true one = first
  by_first false true = second
  by_first false false = inl (prefix_self [])

-- what is at the end of a list is at its length
at_end : {X : Type 0} (xs : List X) (x : X) → slice_get (xs ++ x ∷ []) (length xs) ≡ Some x
at_end [] x = refl
at_end (y ∷ ys) x = at_end ys x

-- what a seat has seen of the shard of its call is the history with what the call added
seen_after_call : (seat : Seated) (before : List Request) (request : Request) (reply : Reply)
    → seen_in (after_call seat before request reply) (shard_of (key_of request)) ≡ next before request reply.outcome
seen_after_call seat before request reply = by_number (shard_of (key_of request)) (mod_below (from_be_bytes w128 (key_of request).device) 2 (omega arith)) where
  by_number : (number : ℕ) → number < 2
      → (if number == 0 then seen_after 0 number before request reply seat.first_seen else (if number == 1 then seen_after 1 number before request reply seat.second_seen else []))
      ≡ next before request reply.outcome
  by_number zero small = refl
  by_number (suc zero) small = refl
  by_number (suc (suc more)) small = absurd (omega arith)

pub accepted_stands : (tables : Tables) (old new later : Seated) (request : Request) (reply : Reply) → IsCalled tables old request reply new → reply.outcome ≡ Done
    → IsPrefix (seen_in new (shard_of (key_of request))) (seen_in later (shard_of (key_of request)))
    → slice_get (seen_in later (shard_of (key_of request))) reply.place ≡ Some request
accepted_stands tables old new later request reply called done begins =
    let seen : seen_in new (shard_of (key_of request)) ≡ called.before ++ request ∷ [] =
    ap (λ seat. seen_in seat (shard_of (key_of request))) called.seat ∙ seen_after_call old called.before request reply ∙ ap (next called.before request) done in
    let stood : slice_get (seen_in new (shard_of (key_of request))) reply.place ≡ Some request =
    rw (seen, called.answer.place) (at_end called.before request) in
    prefix_get (seen_in new (shard_of (key_of request))) (seen_in later (shard_of (key_of request))) reply.place request begins stood

-- what two seats saw of a log are beginnings of one history
pub requests_order : (log other : List Acceptance) → IsPrefix log other ⊎ IsPrefix other log → OneBegins (requests log) (requests other)
requests_order log other (inl begins) = inl (requests_prefix log other begins)
requests_order log other (inr begins) = inr (requests_prefix other log begins)

-- where the notes fit a history, no place is at fault
fits : (tables : Tables) (shard : ℕ) (history : List Request) (seats : List Seated) (place : ℕ) → IsSettled tables shard history (λ (seat : Seated). seat.notes) seats
    → IsLeastFault tables shard history (λ (seat : Seated). seat.notes) seats place → ⊥
fits tables shard history seats place settled fault =
    let told : Result (Unit {0}) ℕ = Err place in
    absurd (cc ((exactly tables shard history (λ (seat : Seated). seat.notes) seats told fault).1 settled))

pub settled_is_not_torn : (all : Collected) (shard place : ℕ) → IsSettledBook all → IsTorn all shard place → ⊥
settled_is_not_torn all zero place settled torn = fits all.tables 0 all.first all.seats place settled.first torn
settled_is_not_torn all (suc zero) place settled torn = fits all.tables 1 all.second all.seats place settled.second torn.1
settled_is_not_torn all (suc (suc shard)) place settled torn = torn
