-- Notes of accepted calls, each kept as twice its place and the number of its shard.
use Rattle.std.specs.Prelude.{◌≡◌, ℕ, ◌%◌, ◌/◌, ◌<◌, ◌++◌, [], List, length, get_or}
use Rattle.std.proofs.Common.{ap, arith, length-append}
use Rattle.std.proofs.lemmas.List.{get_or_append_left}
use Rattle.mds_core.specs.declared.request.Request.{Request}
use Rattle.mds_core.specs.declared.request.Request.TheVariants.{Look}
use Rattle.mds_core.specs.declared.reply.Outcome.TheVariants.{Done}
use Rattle.mds_settle.specs.declared.note.Note.{Note}

-- the number of the shard
abbrev pub number_in : ℕ → ℕ
number_in doubled = doubled % 2

-- what stands where nothing was seen
abbrev pub no_request : Request
no_request = Look (record { provider = []; device = [] })

-- the note: the request at its place in the shard's history was accepted there
abbrev pub note_at : ℕ → List Request → Note
note_at doubled history = record {
  shard = doubled % 2;
  request = get_or history (doubled / 2) no_request;
  reply = record { place = doubled / 2; outcome = Done };
}

-- its place is within the history
abbrev pub is_at : ℕ → List Request → Type 0
is_at doubled history = doubled / 2 < length history

-- it stays so where the history grows
pub still_at : (doubled : ℕ) (history more : List Request) → is_at doubled history
    → is_at doubled (history ++ more) × (note_at doubled (history ++ more) ≡ note_at doubled history)
still_at doubled history more within =
    let With : Request → Note = λ request. record {
      shard = doubled % 2;
      request = request;
      reply = record { place = doubled / 2; outcome = Done };
    } in (
      omega (arith, within, length-append history more),
      ap With (get_or_append_left history more no_request (doubled / 2) within),
    )
