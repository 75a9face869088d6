-- How lines are handed out of what a reader gives.
use Rattle.std.proofs.Common.{◌≡◌, ℕ, ◌+◌, ◌<◌, List, ◌∷◌, ◌++◌, length, take, drop, Option, Some, None, IfSome, refl, sym, ap, ◌∙◌, subst, append_assoc, append-nil, arith, drop-drop, take-add}
use Rattle.std.proofs.lemmas.List.{take_at}
use Rattle.std.specs.Io.KnownBytes.{Consumes, IsAtEnd, Keeps, prepend_known}
use Rattle.mds_journal.specs.Lines.{recovered_texts}
use Rattle.mds_journal.specs.Opening.{GoesOn, IsTooLong, IsFound}
use Rattle.mds_journal.specs.Stream.{CountsFirst, HandsOut, StandsForNothing}
use Rattle.mds_journal.specs.declared.opening.Found.TheVariants.{Line, Shut, More}
use Rattle.mds_journal.proofs.LineLemmas.{recovered_line}
use Rattle.mds_journal.proofs.ReadingLemmas.{more_nothing, shut_nothing, more_too_long, line_too_long}

-- from its beginning on a file has its own first bytes
goes_on : (held rest : List ℕ) → GoesOn (held ++ rest) 0 held
goes_on held rest = record { rest = rest; split = refl }

-- what a read gave stands behind what was held, and nothing is lost
pub kept_given : (a b : Option (List ℕ)) (held given : List ℕ) → Consumes a b given → Keeps (prepend_known held a) (prepend_known (held ++ given) b)
kept_given None b held given lost = tt
kept_given (Some x) None held given lost = absurd lost
kept_given (Some x) (Some y) held given lost = append_assoc held given y ∙ ap (λ (l : List ℕ). held ++ l) (sym lost)

-- a read that failed changed nothing
pub kept_none : (a b : Option (List ℕ)) (held : List ℕ) → Keeps a b → Keeps (prepend_known held a) (prepend_known held b)
kept_none None b held same = tt
kept_none (Some x) None held same = absurd same
kept_none (Some x) (Some y) held same = ap (λ (l : List ℕ). held ++ l) same

-- the line at hand comes first
pub hands_out : (known : Option (List ℕ)) (held : List ℕ) (size : ℕ) → IsFound held (Line size)
    → HandsOut (prepend_known held known) (take size (drop 1 held)) (prepend_known (drop (size + 2) held) known)
hands_out None held size found = tt
hands_out (Some rest) held size found =
    let text = take size (drop 1 held) in
    let back = drop (size + 1) (drop 1 held) in
    let place : 1 + (size + 1) ≡ size + 2 = omega arith in
    let behind : back ≡ drop (size + 2) held = drop-drop (size + 1) 1 held ∙ ap (λ (n : ℕ). drop n held) place in (
      ap (λ (l : List ℕ). l ++ rest) found.1 ∙ ap (λ (l : List ℕ). 32 ∷ l) (append_assoc text (10 ∷ back) rest) ∙ ap (λ (l : List ℕ). 32 ∷ (text ++ 10 ∷ (l ++ rest))) behind,
      found.2,
    )

-- a line that is handed out counts first
pub counts_first : (known left : Option (List ℕ)) (text : List ℕ) → HandsOut known text left → CountsFirst known text left
counts_first None left text out = tt
counts_first (Some bytes) None text out = absurd out
counts_first (Some bytes) (Some rest) text out = ap recovered_texts out.0 ∙ recovered_line text rest out.1

-- behind a gate that isn't open nothing counts
pub none_behind : (known : Option (List ℕ)) (held : List ℕ) → IsFound held Shut → StandsForNothing (prepend_known held known)
none_behind None held found = tt
none_behind (Some rest) held found = shut_nothing (held ++ rest) 0 held (goes_on held rest) found

-- nor does a line that the end cuts off
pub none_at_end : (known : Option (List ℕ)) (held : List ℕ) → IsFound held More → IsAtEnd known → StandsForNothing (prepend_known held known)
none_at_end None held found end = tt
none_at_end (Some rest) held found end = ap (λ (l : List ℕ). recovered_texts (held ++ l)) end ∙ ap recovered_texts (append-nil held) ∙ more_nothing held found

-- bytes at hand that are too many for a line
pub more_is_too_long : (known : Option (List ℕ)) (held : List ℕ) (limit : ℕ) → IsFound held More → limit + 1 < length held → IfSome (prepend_known held known) (IsTooLong limit)
more_is_too_long None held limit found many = tt
more_is_too_long (Some rest) held limit found many = more_too_long (held ++ rest) 0 held (goes_on held rest) limit found many

-- a line at hand that has too many
pub line_is_too_long : (known : Option (List ℕ)) (held : List ℕ) (size limit : ℕ) → IsFound held (Line size) → limit < size → IfSome (prepend_known held known) (IsTooLong limit)
line_is_too_long None held size limit found many = tt
line_is_too_long (Some rest) held size limit found many = line_too_long (held ++ rest) 0 held (goes_on held rest) size found limit many

-- ---- what holds of the same bytes

pub same_if : (a b : Option (List ℕ)) (P : List ℕ → Type 0) → Keeps a b → IfSome b P → IfSome a P
same_if None b P same is = tt
same_if (Some x) None P same is = absurd same
same_if (Some x) (Some y) P same is = subst P same is

pub same_hands_out : (a b c : Option (List ℕ)) (text : List ℕ) → Keeps a b → HandsOut b text c → HandsOut a text c
same_hands_out None b c text same is = tt
same_hands_out (Some x) None c text same is = absurd same
same_hands_out (Some x) (Some y) None text same is = absurd is
same_hands_out (Some x) (Some y) (Some z) text same is = (sym same ∙ is.0, is.1)

-- the bytes that were held, and those that a read put behind them
pub held_and_given : (held empty joined filled cut : List ℕ) (at count : ℕ) → length held ≡ at → joined ≡ held ++ empty → take at filled ≡ take at joined
    → cut ≡ take (at + count) filled → cut ≡ held ++ take count (drop at filled)
held_and_given held empty joined filled cut at count size is front left =
    let same : take at filled ≡ held = front ∙ ap (λ (l : List ℕ). take at l) is ∙ take_at held empty at size in
    left ∙ take-add at count filled ∙ ap (λ (l : List ℕ). l ++ take count (drop at filled)) same
