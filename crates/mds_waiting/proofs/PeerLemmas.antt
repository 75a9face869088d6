-- What calls at the other side of a connection do, one after the other.
use Rattle.std.proofs.Common.{◌≡◌, ◌⊎◌, inl, inr, ℕ, ◌-◌, ◌≤◌, List, [], ◌++◌, length, take, drop, None, Some, refl, sym, ap, ◌∙◌, subst, arith, append-nil, append_assoc, length-append, length-drop, take-append-drop}
use Rattle.std.proofs.Math.Seq.{drop-drop, take-add, take-length}
use Rattle.std.specs.Prelude.{Option}
use Rattle.std.specs.Io.KnownBytes.{Appends, Consumes, append_known}
use Rattle.std.proofs.KnownBytes.{Appends-nil, Appends-trans, Consumes-nil, Consumes-trans}
use Rattle.mds_waiting.specs.declared.look.Look.{Look}
use Rattle.mds_waiting.specs.declared.look.Look.TheVariants.{Done, Waits, Gone}
use Rattle.mds_waiting.specs.Looks.{IfDone, IsWholeOrEnded}
use Rattle.mds_waiting.specs.Peers.{Grows, SendsPart, TakesOf}
use Rattle.mds_waiting.specs.Requests.{IsWhole}

-- what was kept behind what was sent goes on to be, with more behind it
pub appended : (x b : Option (List ℕ)) (held more front : List ℕ) → Appends x (append_known b held) front
    → Appends x (append_known b (held ++ more)) (front ++ more)
appended None b held more front went = tt
appended (Some xs) None held more front went = absurd went
appended (Some xs) (Some ys) held more front went =
    sym (append_assoc ys held more) ∙ ap (λ l. l ++ more) went ∙ append_assoc xs front more

-- the front of a text, and the slice that is left, are all of it
pub front_and_rest : (text : List ℕ) (n : ℕ) → take n text ++ take (length text - n) (drop n text) ≡ take (length text) text
front_and_rest text n =
    let left : take (length text - n) (drop n text) ≡ drop n text =
    ap (λ k. take k (drop n text)) (sym (length-drop n text)) ∙ take-length (drop n text) in
    ap (λ l. take n text ++ l) left ∙ take-append-drop n text ∙ sym (take-length text)

-- a part that was sent, and then the part behind it
pub parts_join : (a b c : Option (List ℕ)) (bytes : List ℕ) (i j k : ℕ) → SendsPart a b bytes i j → SendsPart b c bytes j k
    → SendsPart a c bytes i k
parts_join a b c bytes i j k p q =
    let front = take (j - i) (drop i bytes) in
    let from : drop (j - i) (drop i bytes) ≡ drop j bytes =
    drop-drop (j - i) i bytes ∙ ap (λ n. drop n bytes) (omega (arith, p.0)) in
    let whole : front ++ take (k - j) (drop j bytes) ≡ take (k - i) (drop i bytes) =
    ap (λ l. front ++ take (k - j) l) (sym from) ∙ sym (take-add (j - i) (k - j) (drop i bytes))
    ∙ ap (λ n. take n (drop i bytes)) (omega (arith, p.0, q.0)) in
    (omega (arith, p.0, q.0), omega (arith, p.1, q.1), subst (Appends a c) whole (Appends-trans a b c _ _ p.2 q.2))

-- none of some bytes
none_left : (bytes : List ℕ) (n : ℕ) → n ≡ 0 → [] ≡ take n bytes
none_left bytes n none = rw none refl

-- nothing was sent
pub no_part : (a : Option (List ℕ)) (bytes : List ℕ) (i : ℕ) → SendsPart a a bytes i i
no_part a bytes i =
    let none : [] ≡ take (i - i) (drop i bytes) = none_left (drop i bytes) (i - i) (omega arith) in
    (omega arith, omega arith, subst (Appends a a) none (Appends-nil a))

-- where all was sent, no more is
pub still_all : {X : Type 0} (all j k : ℕ) → X ⊎ (all ≤ j) → j ≤ k → X ⊎ (all ≤ k)
still_all all j k (inl x) less = inl x
still_all all j k (inr is) less = inr (omega arith)

-- what stayed or became this, and then did so again
pub stays_or_is : {A : Type 0} (first second third this : A) → (second ≡ first) ⊎ (second ≡ this) → (third ≡ second) ⊎ (third ≡ this) → (third ≡ first) ⊎ (third ≡ this)
stays_or_is first second third this was (inr is) = inr is
stays_or_is first second third this (inl same) (inl stays) = inl (stays ∙ same)
stays_or_is first second third this (inr is) (inl stays) = inr (stays ∙ is)

-- what became this, or stayed what it was, is this where it was this
pub stays_last : {A : Type 0} (first second this : A) → first ≡ this → (second ≡ first) ⊎ (second ≡ this) → second ≡ this
stays_last first second this was (inl same) = same ∙ was
stays_last first second this was (inr is) = is

-- some bytes were taken, and then more
pub takes_of_join : (a b c : Option (List ℕ)) (most between left : ℕ) → TakesOf a b most between → TakesOf b c between left → TakesOf a c most left
takes_of_join a b c most between left p q =
    (p.0 ++ q.0, omega (arith, p.1, q.1, length-append p.0 q.0), Consumes-trans a b c p.0 q.0 p.2 q.2)

-- the bytes held grew, and then again
pub grows_then : (a b c : Option (List ℕ)) (held grown all : List ℕ) → Grows a b held grown → Grows b c grown all → Grows a c held all
grows_then a b c held grown all p q =
    (p.0 ++ q.0, q.1 ∙ ap (λ l. l ++ q.0) p.1 ∙ append_assoc held p.0 q.0, Consumes-trans a b c p.0 q.0 p.2 q.2)

-- the bytes held didn't grow
pub grows_nothing : (a b : Option (List ℕ)) (held : List ℕ) → Consumes a b [] → Grows a b held held
grows_nothing a b held none = ([], sym (append-nil held), none)

pub grows_not : (a : Option (List ℕ)) (held : List ℕ) → Grows a a held held
grows_not a held = grows_nothing a a held (Consumes-nil a)

-- a request that is whole is so whether or not its client has ended
pub whole_anyway : (look : Look) (bytes : List ℕ) (coming : Option (List ℕ)) → IfDone look (IsWhole bytes) → IfDone look (IsWholeOrEnded bytes coming)
whole_anyway (Done head) bytes coming whole = inl whole
whole_anyway Waits bytes coming whole = tt
whole_anyway Gone bytes coming whole = tt
