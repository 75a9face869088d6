-- Beginnings of lists.
use Rattle.std.proofs.Common.{◌≡◌, ℕ, zero, suc, ◌+◌, ◌<◌, ◌≤◌, ◌⊎◌, inl, inr, List, [], ◌∷◌, ◌++◌, length, map, Some, slice_get, refl, ap, sym, ◌∙◌, arith, append_assoc, length-append}
use Rattle.std.proofs.lemmas.Bool.{cases_lt}
use Rattle.std.proofs.lemmas.List.{append-nil}
use mathlib.Core.List.{IsPrefix}
use Rattle.mds_log.specs.declared.entry.Entry.{Entry}
use Rattle.mds_log.specs.Log.{acceptances, acceptance_of}

pub prefix_self : {A : Type 0} (xs : List A) → IsPrefix xs xs
prefix_self xs = ([], append-nil xs)

pub prefix_trans : {A : Type 0} (xs ys zs : List A) → IsPrefix xs ys → IsPrefix ys zs → IsPrefix xs zs
prefix_trans xs ys zs p q = (p.0 ++ q.0, sym (append_assoc xs p.0 q.0) ∙ (ap (λ w. w ++ q.0) p.1 ∙ q.1))

-- of two beginnings of one list the shorter begins the longer
pub prefix_shorter : {A : Type 0} (xs ys zs : List A) → IsPrefix xs zs → IsPrefix ys zs → length xs ≤ length ys → IsPrefix xs ys
prefix_shorter [] ys zs p q le = (ys, refl)
prefix_shorter (x ∷ xs) [] zs p q le = absurd (omega arith)
prefix_shorter (x ∷ xs) (y ∷ ys) [] p q le = absurd (cc (p.1))
prefix_shorter (x ∷ xs) (y ∷ ys) (z ∷ zs) p q le =
    let heads : x ≡ y = cc (p.1, q.1) in
    let rest = prefix_shorter xs ys zs (p.0, cc (p.1)) (q.0, cc (q.1)) (omega arith) in
    (rest.0, cc (heads, rest.1))

-- of two beginnings of one list, one begins the other
pub one_begins_other : {A : Type 0} (xs ys zs : List A) → IsPrefix xs zs → IsPrefix ys zs → IsPrefix xs ys ⊎ IsPrefix ys xs
one_begins_other xs ys zs first second = by_length (cases_lt (length xs) (length ys)) where
  by_length : (length xs < length ys) ⊎ (length ys ≤ length xs) → IsPrefix xs ys ⊎ IsPrefix ys xs
  by_length (inl shorter) = inl (prefix_shorter xs ys zs first second (omega arith))
  by_length (inr longer) = inr (prefix_shorter ys xs zs second first longer)

-- a beginning as long as the whole is the whole
pub prefix_whole : {A : Type 0} (xs ys : List A) → IsPrefix xs ys → length ys ≤ length xs → xs ≡ ys
prefix_whole [] [] p le = refl
prefix_whole [] (y ∷ ys) p le = absurd (omega arith)
prefix_whole (x ∷ xs) [] p le = absurd (cc (p.1))
prefix_whole (x ∷ xs) (y ∷ ys) p le =
    let rest = prefix_whole xs ys (p.0, cc (p.1)) (omega arith) in cc (p.1, rest)

pub prefix_length : {A : Type 0} (xs ys : List A) → IsPrefix xs ys → length xs ≤ length ys
prefix_length xs ys p = omega (arith, sym (ap length p.1) ∙ length-append xs p.0)

-- what stands in a beginning stands in the whole, at the same place
pub prefix_get : {A : Type 0} (xs ys : List A) (k : ℕ) (x : A) → IsPrefix xs ys → slice_get xs k ≡ Some x → slice_get ys k ≡ Some x
prefix_get [] ys k x p h = absurd cc
prefix_get (y ∷ xs) [] k x p h = absurd (cc (p.1))
prefix_get (y ∷ xs) (z ∷ ys) zero x p h = cc (p.1, h)
prefix_get (y ∷ xs) (z ∷ ys) (suc k) x p h = prefix_get xs ys k x (p.0, cc (p.1)) h

-- the last of a list stands behind the others
pub get_last : {A : Type 0} (xs : List A) (x : A) → slice_get (xs ++ x ∷ []) (length xs) ≡ Some x
get_last [] x = refl
get_last (y ∷ xs) x = get_last xs x

-- a part of a list with an entry behind it ends before that entry, or with it
pub cut : {A : Type 0} (xs log : List A) (x y : A) (ys : List A) → xs ++ x ∷ ys ≡ log ++ y ∷ [] → (xs ≡ log) ⊎ ((zs : List A) × (xs ++ x ∷ zs ≡ log))
cut [] [] x y ys e = inl refl
cut [] (z ∷ log) x y ys e = inr (log, cc (e))
cut (w ∷ []) [] x y ys e = absurd (cc (e))
cut (w ∷ v ∷ xs) [] x y ys e = absurd (cc (e))
cut {A = A} (w ∷ xs) (z ∷ log) x y ys e = longer (cut xs log x y ys (cc (e))) where
  longer : (xs ≡ log) ⊎ ((zs : List A) × (xs ++ x ∷ zs ≡ log)) → (w ∷ xs ≡ z ∷ log) ⊎ ((zs : List A) × (w ∷ xs ++ x ∷ zs ≡ z ∷ log))
  longer (inl same) = inl (cc (e, same))
  longer (inr more) = inr (more.0, cc (e, more.1))

-- what a beginning of a log says of acceptances is a beginning of what the log says
pub acceptances_prefix : (xs ys : List Entry) → IsPrefix xs ys → IsPrefix (acceptances xs) (acceptances ys)
acceptances_prefix [] ys p = (acceptances ys, refl)
acceptances_prefix (x ∷ xs) [] p = absurd (cc (p.1))
acceptances_prefix (x ∷ xs) (y ∷ ys) p = mapped xs ys (p.0, cc (p.1)) where
  mapped : (xs ys : List Entry) → IsPrefix xs ys → IsPrefix (map acceptance_of xs) (map acceptance_of ys)
  mapped [] ys p = (map acceptance_of ys, refl)
  mapped (x ∷ xs) [] p = absurd (cc (p.1))
  mapped (x ∷ xs) (y ∷ ys) p =
      let rest = mapped xs ys (p.0, cc (p.1)) in (rest.0, cc (p.1, rest.1))

-- it says one acceptance less than it has entries
pub acceptances_length : (log : List Entry) → 0 < length log → length (acceptances log) + 1 ≡ length log
acceptances_length [] some = absurd (omega arith)
acceptances_length (first ∷ entries) some = omega (arith, mapped entries) where
  mapped : (xs : List Entry) → length (map acceptance_of xs) ≡ length xs
  mapped [] = refl
  mapped (x ∷ xs) = ap (λ n. suc n) (mapped xs)

-- an entry more says one acceptance more
pub acceptances_push : (log : List Entry) (entry : Entry) → 0 < length log → acceptances (log ++ entry ∷ []) ≡ acceptances log ++ acceptance_of entry ∷ []
acceptances_push [] entry some = absurd (omega arith)
acceptances_push (first ∷ entries) entry some = mapped entries where
  mapped : (xs : List Entry) → map acceptance_of (xs ++ entry ∷ []) ≡ map acceptance_of xs ++ acceptance_of entry ∷ []
  mapped [] = refl
  mapped (x ∷ xs) = ap (λ w. acceptance_of x ∷ w) (mapped xs)

-- of two logs of which one begins the other, so do the acceptances
pub acceptances_order : (xs ys : List Entry) → IsPrefix xs ys ⊎ IsPrefix ys xs
    → IsPrefix (acceptances xs) (acceptances ys) ⊎ IsPrefix (acceptances ys) (acceptances xs)
acceptances_order xs ys (inl begins) = inl (acceptances_prefix xs ys begins)
acceptances_order xs ys (inr begins) = inr (acceptances_prefix ys xs begins)
