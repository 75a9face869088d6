-- Lemmas on fronts of texts that were written.
use Rattle.std.proofs.Common.{◌≡◌, ℕ, ◌+◌, ◌-◌, ◌<◌, List, length, take, drop, inl, inr, sym, ap, ◌∙◌, subst, arith, length-drop, take-append-drop}
use Rattle.std.proofs.Math.Seq.{take-add, take-length}
use Rattle.std.specs.Io.KnownBytes.{Appends}
use Rattle.std.proofs.KnownBytes.{Appends-trans}
use Rattle.std.specs.Prelude.{Option, Result, Ok, Err, OnOk, IfErr}
use Rattle.mds_io.specs.declared.write.WriteError.{WriteError}
use Rattle.mds_io.specs.Page.{AppendsFront, AppendsUpTo}

-- what went out first, and then the front of the slice that was left, is a longer front
pub appends_next : (a b c : Option (List ℕ)) (text : List ℕ) (n m : ℕ) → Appends a b (take n text) → Appends b c (take m (take (length text - n) (drop n text))) → Appends a c (take (n + m) text)
appends_next a b c text n m p q =
    let left : take (length text - n) (drop n text) ≡ drop n text = ap (λ k. take k (drop n text)) (sym (length-drop n text)) ∙ take-length (drop n text) in
    let next : Appends b c (take m (drop n text)) = subst (λ l. Appends b c (take m l)) left q in
    rw take-add (Appends-trans a b c _ _ p next)

-- the first n bytes are a front, where there are more
pub front_of_sent : (a b : Option (List ℕ)) (text : List ℕ) (n : ℕ) → n < length text → Appends a b (take n text) → AppendsFront a b text
front_of_sent a b text n fewer p = (take n text, drop n text, omega (arith, fewer, length-drop n text), sym (take-append-drop n text), p)

-- all the bytes went out, or the first of them
pub front_either : (result : Result (Unit {0}) WriteError) (a b : Option (List ℕ)) (text : List ℕ) → OnOk result (Appends a b text)
    → IfErr result (λ stop. (stop.sent < length text) × Appends a b (take stop.sent text)) → AppendsUpTo a b text
front_either (Ok done) a b text all some = inl all
front_either (Err stop) a b text all some = inr (front_of_sent a b text stop.sent some.0 some.1)
