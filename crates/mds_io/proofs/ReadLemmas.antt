-- Lemmas on fronts of texts that were read.
use Rattle.std.proofs.Common.{◌≡◌, ℕ, ◌+◌, ◌-◌, ◌<◌, ◌≤◌, List, [], ◌++◌, length, take, None, Some, IfSome, inl, inr, sym, ap, ◌∙◌, arith, append-nil, append_assoc, length-append}
use Rattle.std.proofs.Math.Seq.{take-append_seam, take-length}
use Rattle.std.proofs.lemmas.Bool.{cases_lt}
use Rattle.std.proofs.lemmas.List.{take_min}
use Rattle.std.specs.Io.KnownBytes.{Consumes, IsAtEnd}
use Rattle.std.proofs.KnownBytes.{Consumes-trans}
use Rattle.std.specs.Prelude.{Option}
use Rattle.mds_io.specs.declared.read.ReadError.{ReadError}
use Rattle.mds_io.specs.declared.read.ReadError.TheVariants.{Memory, Device, TooManyTurns}
use Rattle.mds_io.specs.Read.{ConsumesUpTo, Gains, HasFront, StopsAt}

-- a call that gave nothing
pub gains_nothing : (most : ℕ) (a b : Option (List ℕ)) (held : List ℕ) → Consumes a b [] → Gains most a b held held
gains_nothing most a b held lost = ([], omega arith, sym (append-nil held), lost)

-- a call that gave some bytes, for which there was no memory
pub loses_given : (room most : ℕ) (a b : Option (List ℕ)) (held grown given : List ℕ) → 0 < length given → length given ≤ room → length given ≤ most → grown ≡ held
    → Consumes a b given → StopsAt Memory room most a b held grown
loses_given room most a b held grown given some few fits same lost = ([], given, some, few, omega (arith, fits), same ∙ sym (append-nil held), lost)

-- what was read when reading stopped
pub stop_loses : (fault : ReadError) (room most : ℕ) (a b : Option (List ℕ)) (held grown : List ℕ) → StopsAt fault room most a b held grown → ConsumesUpTo most a b
stop_loses Device room most a b held grown stop = (stop.0, stop.1, stop.3)
stop_loses TooManyTurns room most a b held grown stop = (stop.0, stop.1, stop.3)
stop_loses Memory room most a b held grown stop = (stop.0 ++ stop.1, rw length-append stop.4, stop.6)

-- what was read when it didn't
pub gains_lose : (most : ℕ) (a b : Option (List ℕ)) (held grown : List ℕ) → Gains most a b held grown → ConsumesUpTo most a b
gains_lose most a b held grown gains = (gains.0, gains.1, gains.3)

-- one read after others
pub gains_then : (limit : ℕ) (a b c : Option (List ℕ)) (held grown all : List ℕ) → Gains (limit - length held) a b held grown
    → Gains (limit - length grown) b c grown all → Gains (limit - length held) a c held all
gains_then limit a b c held grown all p q =
    let counted : length grown ≡ length held + length p.0 = ap length p.2 ∙ length-append held p.0 in
    let joined : length (p.0 ++ q.0) ≤ limit - length held = rw length-append (omega (arith, p.1, q.1)) in
    (p.0 ++ q.0, joined, q.2 ∙ ap (λ l. l ++ q.0) p.2 ∙ append_assoc held p.0 q.0, Consumes-trans a b c p.0 q.0 p.3 q.3)

-- reading that stopped after others
pub stops_then : (fault : ReadError) (room limit : ℕ) (a b c : Option (List ℕ)) (held grown all : List ℕ) → Gains (limit - length held) a b held grown
    → StopsAt fault room (limit - length grown) b c grown all → StopsAt fault room (limit - length held) a c held all
stops_then Device room limit a b c held grown all p q = gains_then limit a b c held grown all p q
stops_then TooManyTurns room limit a b c held grown all p q = gains_then limit a b c held grown all p q
stops_then Memory room limit a b c held grown all p q =
    let counted : length grown ≡ length held + length p.0 = ap length p.2 ∙ length-append held p.0 in
    let joined : length (p.0 ++ q.0) + length q.1 ≤ limit - length held = rw length-append (omega (arith, p.1, q.2, q.4)) in
    let whole : Consumes a c ((p.0 ++ q.0) ++ q.1) = rw append_assoc (Consumes-trans a b c p.0 (q.0 ++ q.1) p.3 q.6) in
    (p.0 ++ q.0, q.1, q.2, q.3, joined, q.5 ∙ ap (λ l. l ++ q.0) p.2 ∙ append_assoc held p.0 q.0, whole)

-- a list within the limit is all up to the limit
take_whole : (limit : ℕ) (bytes : List ℕ) → length bytes ≤ limit → take limit bytes ≡ bytes
take_whole limit bytes fits = sym (take_min limit bytes) ∙ ap (λ n. take n bytes) (omega arith) ∙ take-length bytes

-- bytes before others that are none, or that begin at the limit, are all up to the limit
take_front : (limit : ℕ) (xs bytes rest : List ℕ) → xs ≡ bytes ++ rest → length bytes ≤ limit → (length bytes < limit → rest ≡ []) → bytes ≡ take limit xs
take_front limit xs bytes rest p fits end =
    elim (cases_lt (length bytes) limit) [
      | inl below ↦ rw (p ∙ ap (λ r. bytes ++ r) (end below) ∙ append-nil bytes) (sym (take_whole limit bytes fits))
      | inr above ↦ let full : limit ≡ length bytes = omega arith in rw (p, full) (sym (take-append_seam bytes rest))
    ]

-- bytes and then none, or bytes up to the limit, are the front of what they and the rest make
read_to_limit : (limit : ℕ) (a b : Option (List ℕ)) (bytes : List ℕ) → Consumes a b bytes → length bytes ≤ limit → (length bytes < limit → IsAtEnd b) → IfSome a (λ xs. bytes ≡ take limit xs)
read_to_limit limit None b bytes p fits end = tt
read_to_limit limit (Some x) None bytes p fits end = absurd p
read_to_limit limit (Some x) (Some y) bytes p fits end = take_front limit x bytes y p fits end

-- reading from none that stopped at the limit or at the reader's end has all up to the limit
pub read_from_none : (limit : ℕ) (a b : Option (List ℕ)) (held bytes : List ℕ) → held ≡ [] → Gains (limit - length held) a b held bytes → (length bytes < limit → IsAtEnd b)
    → HasFront limit a bytes
read_from_none limit a b held bytes none gains end =
    let same : bytes ≡ gains.0 = gains.2 ∙ ap (λ l. l ++ gains.0) none in
    let fits : length gains.0 ≤ limit = omega (arith, gains.1) in
    let at_end : length gains.0 < limit → IsAtEnd b = rw same at end in
    rw same (read_to_limit limit a b gains.0 gains.3 fits at_end)
