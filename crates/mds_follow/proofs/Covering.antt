-- What is recorded of what seats have seen, as more is recorded.
use Rattle.std.proofs.Common.{◌≡◌, ℕ, ◌+◌, ◌<◌, List, [], ◌∷◌, ◌++◌, length, take, get_or, slice_index_or, sym, ap, ◌∙◌, subst}
use Rattle.std.specs.List.{All}
use Rattle.std.proofs.lemmas.List.Elements.{filter-append, All-push}
use Rattle.std.proofs.lemmas.List.{take_more}
use mathlib.Core.List.{IsPrefix}
use Rattle.mds_core.specs.declared.request.Request.{Request}
use Rattle.mds_log.specs.Log.{Acceptance, requests}
use Rattle.mds_log.proofs.Lists.{prefix_trans}
use Rattle.mds_book.proofs.Trues.{requests_prefix}
use Rattle.mds_book.specs.Seats.{Seated}
use Rattle.mds_book.specs.Shards.{part}
use Rattle.mds_follow.specs.Parts.{Covers}

-- what is recorded of a shard begins what is where more is recorded
pub part_begins : (number : ℕ) (told longer : List Request) → IsPrefix told longer → IsPrefix (part number told) (part number longer)
part_begins number told longer begins =
    (part number begins.0, sym (filter-append _ told begins.0) ∙ ap (λ w. part number w) begins.1)

-- what a seat has seen stays recorded
pub covers_still : (seat : Seated) (told longer : List Acceptance) → IsPrefix told longer → Covers seat (requests told) → Covers seat (requests longer)
covers_still seat told longer begins covers =
    let more = requests_prefix told longer begins in record {
      first = prefix_trans seat.first_seen (part 0 (requests told)) (part 0 (requests longer)) covers.first (part_begins 0 (requests told) (requests longer) more);
      second = prefix_trans seat.second_seen (part 1 (requests told)) (part 1 (requests longer)) covers.second (part_begins 1 (requests told) (requests longer) more);
    }

-- what the seats so far have seen stays recorded, and with it what the next has seen
pub covered_next : (seats : List Seated) (index : ℕ) (seat : Seated) (told longer : List Acceptance) → index < length seats
    → seat ≡ get_or seats index seat → IsPrefix told longer → All (λ one. Covers one (requests told)) (take index seats)
    → Covers seat (requests longer) → All (λ one. Covers one (requests longer)) (take (index + 1) seats)
covered_next seats index seat told longer within same begins all covers =
    let P : Seated → Type 0 = λ one. Covers one (requests longer) in
    let still : All P (take index seats) =
    λ place other inside. covers_still (slice_index_or (take index seats) place other) told longer begins (all place other inside) in
    let next : take index seats ++ seat ∷ [] ≡ take (index + 1) seats =
    ap (λ r. take index seats ++ r ∷ []) same ∙ sym (take_more seats index seat within) in
    subst (All P) next (All-push P (take index seats) seat still covers)
