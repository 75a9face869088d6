-- Where the first line feed stands.
use Rattle.std.proofs.Common.{◌≡◌, ◌≢◌, ℕ, ◌<◌, List, length, take, Option, Some, None, IfSome, IfNone, slice_index, sym, ◌∙◌, subst, arith, length-take}
use Rattle.std.proofs.lemmas.Bool.{eqb-true, eq-eqb}
use Rattle.std.proofs.lemmas.List.{get_or-take, take_all}
use Rattle.std.proofs.lemmas.List.Elements.{All-from_get_or}
use Rattle.memchr.specs.Find.{IsFirstByte, Nowhere, Passes, is_byte}
use Rattle.mds_journal.specs.Lines.{HasNoFeed}

-- the bytes up to where none was found have none
none_up_to : (bytes : List ℕ) (n : ℕ) → Nowhere (Passes (is_byte 10) bytes) 0 n → HasNoFeed (take n bytes)
none_up_to bytes n none = All-from_get_or (λ byte. byte ≢ 10) (take n bytes) 0 (λ i within is.
    let less : i < n = omega (arith, within, length-take n bytes) in
    none i (omega arith) less (eq-eqb _ _ (sym (get_or-take n bytes i 0 less) ∙ is)))

-- none was found, so there is none
pub feed_none : (bytes : List ℕ) (found : Option ℕ) → IsFirstByte (is_byte 10) bytes found → IfNone found (HasNoFeed bytes)
feed_none bytes None first = subst HasNoFeed (take_all (length bytes) bytes (omega arith)) (none_up_to bytes (length bytes) first)
feed_none bytes (Some at) first = tt

-- one was found, and none stands before it
pub feed_some : (bytes : List ℕ) (found : Option ℕ) → IsFirstByte (is_byte 10) bytes found → IfSome found (λ at. (at < length bytes) × (slice_index bytes at ≡ 10) × HasNoFeed (take at bytes))
feed_some bytes None first = tt
feed_some bytes (Some at) first = (first.0.high, eqb-true (slice_index bytes at) 10 first.1, none_up_to bytes at first.0.before)
