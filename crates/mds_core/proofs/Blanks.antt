-- The slots of an event's types that hold none.
use Rattle.std.proofs.Common.{◌≡◌, ◌≤◌, ◌+◌, ◌-◌, ◌++◌, ℕ, List, length, take, drop, replicate, sym, ◌∙◌, ap, arith}
use Rattle.std.proofs.Math.Seq.{take-append_seam, drop-append_seam}
use Rattle.std.proofs.lemmas.List.{drop-replicate, replicate-append-replicate}
use Rattle.mds_core.specs.Reported.{max_event_types}
use Rattle.mds_core.specs.EventTypes.{blank_type, padded_types, ArePadded}

-- types that are written over blanks alone
pub are_padded : (types : List (List ℕ)) → length types ≤ max_event_types
    → ArePadded (types ++ drop (length types) (replicate max_event_types blank_type)) (length types)
are_padded types few =
    let front = take-append_seam types (drop (length types) (replicate max_event_types blank_type)) in
    record {
      few = few;
      count = ap length front;
      whole = ap padded_types front ∙ ap (λ rest. types ++ rest) (sym (drop-replicate (length types) max_event_types blank_type));
    }

-- behind the types stand blanks
blanks_behind : (types names : List (List ℕ)) (n : ℕ) → length types ≡ n → padded_types types ≡ names
    → drop n names ≡ replicate (max_event_types - n) blank_type
blanks_behind types names n count whole =
    rw (← count, ← whole) (drop-append_seam types (replicate (max_event_types - length types) blank_type))

-- blanks in the place of the types leave blanks alone
pub all_blank : (names : List (List ℕ)) (n : ℕ) → ArePadded names n → replicate n blank_type ++ drop n names ≡ replicate max_event_types blank_type
all_blank names n are =
    let all : n + (max_event_types - n) ≡ max_event_types = omega (arith, are.few) in
    ap (λ rest. replicate n blank_type ++ rest) (blanks_behind (take n names) names n are.count are.whole)
    ∙ replicate-append-replicate n (max_event_types - n) blank_type ∙ ap (λ m. replicate m blank_type) all
