-- More keys and names behind the others change nothing of a packed request.
use Rattle.std.proofs.Common.{◌≡◌, ℕ, ◌+◌, ◌<◌, ◌≤◌, ◌++◌, List, length, drop, refl, sym}
use Rattle.std.proofs.Common.{ap, subst, arith}
use Rattle.std.proofs.lemmas.List.{take-append-le, drop-append-le, length-drop, length-append}
use Rattle.std.proofs.lemmas.List.{get_or_append_left}
use Rattle.mds_core.specs.declared.key.Key.{Key}
use Rattle.mds_core.specs.declared.request.Request.TheVariants.{Register, Look}
use Rattle.mds_core.specs.Reported.{MayBeReported}
use Rattle.mds_past.specs.declared.packed.Kind.{Kind}
use Rattle.mds_past.specs.declared.packed.Kind.TheVariants as kind
use Rattle.mds_past.specs.declared.packed.PackedRequest.{PackedRequest}
use Rattle.mds_core.specs.History.{no_key, key_at}
use Rattle.mds_past.specs.Packed.{types_kept, told_by, packed_tells}
use Rattle.mds_past.specs.Packed.{AreTypesKept, MayBeTold, IsPacked}

module _ (keys more_keys : List Key) (names more_names : List (List ℕ)) (packed : PackedRequest)
  where
    -- its types stay
    same_types : packed.first + packed.count ≤ length names
        → types_kept (names ++ more_names) packed ≡ types_kept names packed
    same_types within =
        rw (drop-append-le packed.first names more_names (omega (arith, within)))
        (take-append-le packed.count (drop packed.first names) more_names
        (omega (arith, within, length-drop packed.first names)))

    -- they stay kept
    still_types : AreTypesKept packed names → AreTypesKept packed (names ++ more_names)
    still_types are = record {
      within = omega (arith, are.within, length-append names more_names);
      reported =
          subst (λ (types : List (List ℕ)). MayBeReported types packed.time)
          (sym (same_types are.within)) are.reported;
    }

    -- so they do by the kind
    may_still : (kind : Kind) → MayBeTold kind packed names
        → MayBeTold kind packed (names ++ more_names)
    may_still kind.Registration may = tt
    may_still kind.Look may = tt
    may_still (kind.Event state) may = still_types may

    -- its key stays
    same_key_at : packed.key < length keys
        → key_at (keys ++ more_keys) packed.key ≡ key_at keys packed.key
    same_key_at within = get_or_append_left keys more_keys no_key packed.key within

    -- the request stays, by the kind
    same_by : (kind : Kind) → packed.key < length keys → MayBeTold kind packed names
        → told_by kind packed (keys ++ more_keys) (names ++ more_names)
        ≡ told_by kind packed keys names
    same_by kind.Registration within may = ap Register (same_key_at within)
    same_by kind.Look within may = ap Look (same_key_at within)
    same_by (kind.Event state) within may = rw (same_key_at within, same_types may.within) refl

-- it is kept beside more keys and names
pub still_packed : (packed : PackedRequest) (keys more_keys : List Key)
    (names more_names : List (List ℕ)) → IsPacked packed keys names
    → IsPacked packed (keys ++ more_keys) (names ++ more_names)
still_packed packed keys more_keys names more_names is = record {
  key = omega (arith, is.key, length-append keys more_keys);
  types = may_still keys more_keys names more_names packed packed.kind is.types;
}

-- and tells the same request
pub same_request : (packed : PackedRequest) (keys more_keys : List Key)
    (names more_names : List (List ℕ)) → IsPacked packed keys names
    → packed_tells packed (keys ++ more_keys) (names ++ more_names) ≡ packed_tells packed keys names
same_request packed keys more_keys names more_names is =
    same_by keys more_keys names more_names packed packed.kind is.key is.types
