-- Each step keeps the rule of a log.
use Rattle.std.proofs.Common.{◌≡◌, ℕ, ◌+◌, ◌<◌, ◌==◌, ◌⊎◌, inl, inr, Bool, true, false, List, [], ◌∷◌, ◌++◌, length, slice_set, None, refl, sym, ap, ◌∙◌, subst, arith, length-append}
use Rattle.std.proofs.lemmas.List.{append-nil}
use Rattle.std.proofs.lemmas.Bool.Decides.{nat_tests}
use mathlib.Core.List.{IsPrefix}
use prog.Atomic.{either}
use Rattle.logbook.specs.Pages.{Cell, cell, Nib, no_nib, may_write, keeps, gives, adds, step, Moves}
use Rattle.mds_log.specs.declared.entry.Entry.{Entry}
use Rattle.mds_log.specs.Rules.{IsKey, IsSpent, IsKept, Begins, Makes, Checks, Adds}
use Rattle.mds_log.proofs.Lists.{cut, prefix_trans}
use Rattle.mds_log.proofs.Cells.{home_set, home_more, set_here, set_length, head_set, head_more, spent_stays, seen_all, key_spent}

-- clients see nothing, and nothing moves
abbrev pub shown : List Entry → List Entry
shown log = []

abbrev pub moved : List Entry → List Entry → ℕ → Type 0
moved xs ys n = Unit {0}

-- a log with nothing in it
pub none_kept : IsKept ((0, true) ∷ (0, true) ∷ []) []
none_kept = record { some = omega arith; head = refl; spent = follows } where
  follows : (xs : List Entry) (x : Entry) (ys : List Entry) → xs ++ x ∷ ys ≡ [] → IsSpent ((0, true) ∷ (0, true) ∷ []) xs
  follows [] x ys e = absurd (cc (e))
  follows (w ∷ xs) x ys e = absurd (cc (e))

-- the word is what it was
word_kept : (cs : List Cell) (log : List Entry) (n : ℕ) → IsKept cs log → n ≡ length log → IsKept (slice_set cs 0 (n, true)) (log ++ [])
word_kept cs log n kept is =
    let all : log ++ [] ≡ log = append-nil log in
    let same : IsKept (slice_set cs 0 (n, true)) log = record {
      some = omega (arith, kept.some, set_length cs 0 (n, true));
      head = set_here cs 0 (n, true) kept.some ∙ ap (λ (k : ℕ). (k, true)) is;
      spent = λ xs entry ys e. spent_stays cs (slice_set cs 0 (n, true)) (home_set cs 0 n) xs (kept.spent xs entry ys e);
    } in subst (IsKept (slice_set cs 0 (n, true))) (sym all) same

-- a cell more
cell_kept : (cs : List Cell) (log : List Entry) → IsKept cs log → IsKept (cs ++ (0, false) ∷ []) log
cell_kept cs log kept = record {
  some = omega (arith, length-append cs ((0, false) ∷ []));
  head = head_more cs (0, false) kept.some ∙ kept.head;
  spent = λ xs entry ys e. spent_stays cs (cs ++ (0, false) ∷ []) (home_more cs) xs (kept.spent xs entry ys e);
}

-- the first entry, which follows none
first_kept : (cs : List Cell) (n : ℕ) (entry : Entry) → IsKept cs [] → n ≡ 1 → IsKept (slice_set cs 0 (n, true) ++ (0, false) ∷ []) (entry ∷ [])
first_kept cs n entry kept is =
    cell_kept (slice_set cs 0 (n, true)) (entry ∷ []) (record {
      some = omega (arith, kept.some, set_length cs 0 (n, true));
      head = set_here cs 0 (n, true) kept.some ∙ ap (λ (k : ℕ). (k, true)) is;
      spent = follows;
    }) where
      follows : (xs : List Entry) (x : Entry) (ys : List Entry) → xs ++ x ∷ ys ≡ entry ∷ [] → IsSpent (slice_set cs 0 (n, true)) xs
      follows [] x ys e = tt
      follows (w ∷ []) x ys e = absurd (cc (e))
      follows (w ∷ v ∷ xs) x ys e = absurd (cc (e))

-- an entry more, whose pen is used up
entry_kept : (cs : List Cell) (log : List Entry) (n key value : ℕ) (entry : Entry) → IsKept cs log → IsKey key log → key < length cs → (cell cs key).1 ≡ false
    → n ≡ length log + 1 → IsKept (slice_set (slice_set cs 0 (n, true)) key (value, true)) (log ++ entry ∷ [])
entry_kept cs log n key value entry kept is below away many = record {
  some = omega (arith, kept.some, set_length cs 0 (n, true), set_length ds key (value, true));
  head = head_set cs n key value kept.some (ap (λ c. c.1) kept.head) away ∙ ap (λ (k : ℕ). (k, true)) (omega (arith, many, length-append log (entry ∷ [])));
  spent = spent;
} where
  ds : List Cell
  ds = slice_set cs 0 (n, true)

  es : List Cell
  es = slice_set ds key (value, true)

  here : (cell es key).1 ≡ true
  here = ap (λ c. c.1) (set_here ds key (value, true) (omega (arith, below, set_length cs 0 (n, true))))

  either_way : (xs : List Entry) (x : Entry) → (xs ≡ log) ⊎ ((zs : List Entry) × (xs ++ x ∷ zs ≡ log)) → IsSpent es xs
  either_way xs x (inl all) = subst (IsSpent es) (sym all) (key_spent es log key is here)
  either_way xs x (inr more) = spent_stays cs es (λ k h. home_set ds key value k (home_set cs 0 n k h)) xs (kept.spent xs x more.0 more.1)

  spent : (xs : List Entry) (x : Entry) (ys : List Entry) → xs ++ x ∷ ys ≡ log ++ entry ∷ [] → IsSpent es xs
  spent xs x ys e = either_way xs x (cut xs log x entry ys e)

-- an exchange for the same number changes none
same_either : (b : Bool) (n old : ℕ) → (n == old) ≡ b → either b old n ≡ n
same_either true n old is = grind (arith, nat_tests)
same_either false n old is = refl

-- no more does one for 1 of a number that is not 0
some_either : (b : Bool) (n : ℕ) → (n == 0) ≡ b → 0 < n → either b 1 n ≡ n
some_either true n is some = absurd (grind (arith, nat_tests))
some_either false n is some = refl

-- whatever the book is, the first pen is made, and an entry that names it, if nothing was there
pub begins_moves : (e : Entry) → Moves IsKept shown moved 0 ([], (no_nib, None)) (λ n. either (n == 0) 1 n) (Begins (step 0 0 1 e) ([], (no_nib, None)))
begins_moves e cs [] kept pre away =
    let n : (cell cs 0).0 ≡ 0 = ap (λ c. c.0) kept.head in
    let new : Entry = record { tag = e.tag; request = e.request; next = length cs } in
    let one : either ((cell cs 0).0 == 0) 1 (cell cs 0).0 ≡ 1 = rw n refl in
    (kept.some, ap (λ c. c.1) kept.head, (adds, new ∷ [], None, tt, first_kept cs _ new kept one, inl (refl, refl), λ zero. (refl, refl, refl)))
begins_moves e cs (x ∷ xs) kept pre away =
    let n : (cell cs 0).0 ≡ length (x ∷ xs) = ap (λ c. c.0) kept.head in
    let same : either ((cell cs 0).0 == 0) 1 (cell cs 0).0 ≡ length (x ∷ xs) = some_either _ (cell cs 0).0 refl (omega (arith, n)) ∙ n in
    (kept.some, ap (λ c. c.1) kept.head, (keeps, [], None, tt, word_kept cs (x ∷ xs) _ kept same, inl (refl, refl), λ zero. absurd (omega (arith, n, zero))))

-- a pen is made
pub makes_moves : (v : List Entry) (old : ℕ) (e : Entry) → Moves IsKept shown moved 0 (v, (no_nib, None)) (λ n. either (n == old) old n) (Makes (step 0 old old e) (v, (no_nib, None)))
makes_moves v old e cs log kept pre away =
    let n : either ((cell cs 0).0 == old) old (cell cs 0).0 ≡ length log = same_either _ (cell cs 0).0 old refl ∙ ap (λ c. c.0) kept.head in
    (kept.some, ap (λ c. c.1) kept.head, (adds, [], None, tt, cell_kept (slice_set cs 0 (_, true)) (log ++ []) (word_kept cs log _ kept n), inl (refl, refl), refl))

-- the log is as long as whoever has its pen knows
pub checks_moves : (v known : List Entry) (p : Nib) (old : ℕ) (e : Entry) → p.right ≡ may_write → IsKey p.key known → IsPrefix known v → length known ≡ old
    → Moves IsKept shown moved 0 (v, (p, None)) (λ n. either (n == old) old n) (Checks (step 0 old old e) (v, (p, None)))
checks_moves v known p old e right is begins many cs log kept pre away =
    let n : either ((cell cs 0).0 == old) old (cell cs 0).0 ≡ length log = same_either _ (cell cs 0).0 old refl ∙ ap (λ c. c.0) kept.head in
    let all : known ≡ log = seen_all cs log known p.key kept (prefix_trans known v log begins pre) is (away right).1 in
    (kept.some, ap (λ c. c.1) kept.head, (keeps, [], None, tt, word_kept cs log _ kept n, inl (refl, refl), (ap length (append-nil log) ∙ (sym (ap length all) ∙ many), refl)))

-- the entry is added to all that was seen
pub adds_moves : (v : List Entry) (p : Nib) (old : ℕ) (e : Entry) → p.right ≡ may_write → IsKey p.key v → length v ≡ old
    → Moves IsKept shown moved 0 (v, (p, None)) (λ n. either (n == old) (old + 1) n) (Adds (step 0 old (old + 1) e) (v, (p, None)))
adds_moves v p old e right is many cs log kept pre away =
    let out = away right in
    let all : v ≡ log = seen_all cs log v p.key kept pre is out.1 in
    let n : (cell cs 0).0 ≡ old = ap (λ c. c.0) kept.head ∙ (sym (ap length all) ∙ many) in
    let next : either ((cell cs 0).0 == old) (old + 1) (cell cs 0).0 ≡ length log + 1 = more _ (cell cs 0).0 refl n ∙ omega (arith, many, ap length all) in
    let key : IsKey p.key log = subst (IsKey p.key) all is in
    (kept.some, ap (λ c. c.1) kept.head, (gives, e ∷ [], None, right, entry_kept cs log _ p.key p.value e kept key out.0 out.1 next, inl (refl, refl), ap (λ w. w ++ e ∷ []) (sym all))) where
      more : (b : Bool) (m : ℕ) → (m == old) ≡ b → m ≡ old → either b (old + 1) m ≡ old + 1
      more true m is same = refl
      more false m is same = absurd (grind (arith, nat_tests))
