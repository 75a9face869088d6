-- A cell at home stays at home, and whose pen is away has seen all.
use Rattle.std.proofs.Common.{◌≡◌, ℕ, zero, suc, ◌<◌, true, false, List, [], ◌∷◌, ◌++◌, length, slice_set, refl, sym, ap, ◌∙◌, subst, arith}
use Rattle.std.proofs.lemmas.List.{append-nil}
use mathlib.Core.List.{IsPrefix}
use Rattle.logbook.specs.Pages.{Cell, cell}
use Rattle.mds_log.specs.declared.entry.Entry.{Entry}
use Rattle.mds_log.specs.Rules.{last_key, IsKey, IsSpent, IsKept}

-- each cell that is at home in the first list is in the second
abbrev pub StayHome : List Cell → List Cell → Type 0
StayHome cs ds = (k : ℕ) → (cell cs k).1 ≡ true → (cell ds k).1 ≡ true

pub home_set : (cs : List Cell) (j n : ℕ) → StayHome cs (slice_set cs j (n, true))
home_set [] j n k h = h
home_set (c ∷ cs) zero n zero h = refl
home_set (c ∷ cs) zero n (suc k) h = h
home_set (c ∷ cs) (suc j) n zero h = h
home_set (c ∷ cs) (suc j) n (suc k) h = home_set cs j n k h

pub home_more : (cs : List Cell) → StayHome cs (cs ++ (0, false) ∷ [])
home_more [] k h = absurd (cc (h))
home_more (c ∷ cs) zero h = h
home_more (c ∷ cs) (suc k) h = home_more cs k h

pub set_here : (cs : List Cell) (k : ℕ) (c : Cell) → k < length cs → cell (slice_set cs k c) k ≡ c
set_here [] k c below = absurd (omega arith)
set_here (d ∷ cs) zero c below = refl
set_here (d ∷ cs) (suc k) c below = set_here cs k c (omega arith)

pub set_length : (cs : List Cell) (k : ℕ) (c : Cell) → length (slice_set cs k c) ≡ length cs
set_length [] k c = refl
set_length (d ∷ cs) zero c = refl
set_length (d ∷ cs) (suc k) c = ap (λ n. suc n) (set_length cs k c)

-- the first cell, where a cell that is not at home was written
pub head_set : (cs : List Cell) (n key value : ℕ) → 0 < length cs → (cell cs 0).1 ≡ true → (cell cs key).1 ≡ false
    → cell (slice_set (slice_set cs 0 (n, true)) key (value, true)) 0 ≡ (n, true)
head_set [] n key value some home away = absurd (omega arith)
head_set (c ∷ cs) n zero value some home away = absurd (cc (home, away))
head_set (c ∷ cs) n (suc key) value some home away = refl

pub head_more : (cs : List Cell) (c : Cell) → 0 < length cs → cell (cs ++ c ∷ []) 0 ≡ cell cs 0
head_more [] c some = absurd (omega arith)
head_more (d ∷ cs) c some = refl

pub spent_stays : (cs ds : List Cell) → StayHome cs ds → (xs : List Entry) → IsSpent cs xs → IsSpent ds xs
spent_stays cs ds stay [] h = tt
spent_stays cs ds stay (x ∷ xs) h = stay (last_key x.next xs) h

-- whose pen is away has seen the whole log
pub seen_all : (cs : List Cell) (log known : List Entry) (key : ℕ) → IsKept cs log → IsPrefix known log → IsKey key known → (cell cs key).1 ≡ false → known ≡ log
seen_all cs log [] key kept p is away = absurd is
seen_all cs log (x ∷ xs) key kept p is away = by_rest p.0 p.1 where
  by_rest : (rest : List Entry) → (x ∷ xs) ++ rest ≡ log → x ∷ xs ≡ log
  by_rest [] e = sym (append-nil (x ∷ xs)) ∙ e
  by_rest (y ∷ ys) e =
      let home : (cell cs (last_key x.next xs)).1 ≡ true = kept.spent (x ∷ xs) y ys e in
      let here : (cell cs key).1 ≡ true = subst (λ (k : ℕ). (cell cs k).1 ≡ true) is home in
      absurd (cc (here, away))

-- the pen that the last entry names
pub key_push : (log : List Entry) (entry : Entry) → IsKey entry.next (log ++ entry ∷ [])
key_push [] entry = refl
key_push (x ∷ xs) entry = last x.next xs where
  last : (key : ℕ) (ys : List Entry) → last_key key (ys ++ entry ∷ []) ≡ entry.next
  last key [] = refl
  last key (y ∷ ys) = last y.next ys

pub key_spent : (cs : List Cell) (log : List Entry) (key : ℕ) → IsKey key log → (cell cs key).1 ≡ true → IsSpent cs log
key_spent cs [] key is home = tt
key_spent cs (x ∷ xs) key is home = subst (λ (k : ℕ). (cell cs k).1 ≡ true) (sym is) home
