-- What a crash leaves while the end of a file is repaired.
use Rattle.std.proofs.Common.{◌≡◌, ◌≢◌, ◌⊎◌, inl, inr, ℕ, zero, suc, ◌+◌, ◌-◌, ◌≤◌, max, List, [], ◌∷◌, ◌++◌, length, take, drop, refl, sym, ◌∙◌, ap, subst, arith, append-nil, length-drop, length-take, take-append-drop}
use Rattle.std.proofs.lemmas.Bool.{cases_eq}
use Rattle.std.proofs.lemmas.List.{take_all, drop_all, length-take-le}
use Rattle.std.proofs.lemmas.List.Elements.{All-nil}
use Rattle.mds_journal.specs.Device.{Holds, Torn, TornFrom, Cut, Follows, Only, Elapses, LeavesOnly, Untouched}
use Rattle.mds_journal.specs.Lines.{recovered_texts, open_lines, at_rest}
use Rattle.mds_journal.specs.Journal.{IsKept}
use Rattle.mds_journal.specs.Opening.{AreLines, KeepsLines, IsReadToEnd}
use Rattle.mds_journal.proofs.MomentLemmas.{started, goes_on, weaker, and_then, after_none}
use Rattle.mds_journal.proofs.LineLemmas.{recovered_end, recovered_torn, recovered_shut, front_nothing}

-- no more than one byte is no line
short_nothing : (bytes : List ℕ) → length bytes ≤ 1 → recovered_texts bytes ≡ []
short_nothing [] short = refl
short_nothing (a ∷ []) short = elim (cases_eq a 32) [
  | inl is_open ↦ ap (λ (gate : ℕ). recovered_texts (gate ∷ [])) is_open ∙ recovered_torn [] (All-nil (λ (byte : ℕ). byte ≢ 10))
  | inr shut ↦ recovered_shut a [] shut
]
short_nothing (a ∷ b ∷ bytes) short = absurd (omega arith)

take_past : (xs ys : List ℕ) (m n : ℕ) → m ≡ length xs + n → take m (xs ++ ys) ≡ xs ++ take n ys
take_past [] ys m n is = let same : m ≡ n = omega arith in ap (λ (k : ℕ). take k ys) same
take_past (x ∷ xs) ys zero n is = absurd (omega arith)
take_past (x ∷ xs) ys (suc m) n is = ap (λ (l : List ℕ). x ∷ l) (take_past xs ys m n (omega arith))

-- a file at rest with nothing behind its gate
pub kept_rest : (texts : List (List ℕ)) → IsKept texts (at_rest texts)
kept_rest texts = record { rest = []; split = sym (append-nil (at_rest texts)); few = omega arith }

-- the same texts, and no longer than the old end or the new one
keeps : (file c : List ℕ) → recovered_texts c ≡ recovered_texts file → length c ≤ max (length file) (length (open_lines (recovered_texts file)) + 1) → KeepsLines file c
keeps file c same short = record {
  lines = same;
  short = λ was. omega (arith, was, short, ap (λ (texts : List (List ℕ)). length (open_lines texts)) same);
}

-- what is there now
pub keeps_itself : (file : List ℕ) → KeepsLines file file
keeps_itself file = record { lines = refl; short = λ was. was }

module _ (file : List ℕ) (end : ℕ) (within : end ≤ length file) (lines : AreLines (take end file)) (nothing : recovered_texts (drop end file) ≡ []) where
  abbrev texts : List (List ℕ)
  texts = lines.texts

  abbrev tail : List ℕ
  tail = drop end file

  split : file ≡ open_lines texts ++ tail
  split = sym (take-append-drop end file) ∙ ap (λ (all : List ℕ). all ++ tail) lines.split

  pub stands : recovered_texts file ≡ texts
  stands = ap recovered_texts split ∙ recovered_end texts tail lines.none nothing

  lines_length : length (open_lines texts) ≡ end
  lines_length = sym (ap length lines.split) ∙ length-take-le end file within

  -- the lines end where the reading did
  pub end_is : end ≡ length (open_lines (recovered_texts file))
  end_is = sym (ap (λ (all : List (List ℕ)). length (open_lines all)) stands ∙ lines_length)

  -- any cut keeps the texts
  pub cut_keeps : (c : List ℕ) → Cut end file c → KeepsLines file c
  cut_keeps c cut =
      let n = length c - end in
      let whole : c ≡ open_lines texts ++ take n tail =
      sym cut.front ∙ ap (λ (all : List ℕ). take (length c) all) split ∙ take_past (open_lines texts) tail (length c) n (omega (arith, cut.no_shorter, within, lines_length)) in
      let same : recovered_texts c ≡ texts = ap recovered_texts whole ∙ recovered_end texts (take n tail) lines.none (front_nothing n tail nothing) in
      keeps file c (same ∙ sym stands) (omega (arith, ap length cut.front, length-take (length c) file))

  pub cut_done : take end file ≡ open_lines texts
  cut_done = lines.split

  -- one byte behind the lines is no line
  pub torn_end : (c : List ℕ) → Torn end 1 (open_lines texts) c → KeepsLines file c
  torn_end c torn =
      let front : take end c ≡ open_lines texts = torn.before ∙ take_all end (open_lines texts) (omega (arith, lines_length)) in
      let whole : c ≡ open_lines texts ++ drop end c = sym (take-append-drop end c) ∙ ap (λ (all : List ℕ). all ++ drop end c) front in
      let one : length (drop end c) ≤ 1 = omega (arith, length-drop end c, lines_length, torn.no_longer) in
      let same : recovered_texts c ≡ texts = ap recovered_texts whole ∙ recovered_end texts (drop end c) lines.none (short_nothing (drop end c) one) in
      keeps file c (same ∙ sym stands) (omega (arith, torn.no_longer, lines_length, end_is))

  pub written_end : (c : List ℕ) → Holds (open_lines texts) end (35 ∷ []) c → c ≡ at_rest (recovered_texts file)
  written_end c holds =
      holds
      ∙ ap (λ (all : List ℕ). all ++ (35 ∷ []) ++ drop (end + 1) (open_lines texts)) (take_all end (open_lines texts) (omega (arith, lines_length)))
      ∙ ap (λ (all : List ℕ). open_lines texts ++ (35 ∷ []) ++ all) (drop_all (end + 1) (open_lines texts) (omega (arith, lines_length)))
      ∙ append-nil (at_rest texts)
      ∙ ap at_rest (sym stands)

-- the steps of a repair, each of which leaves the same texts
module _ {D : Type 0} (seen : D → List ℕ) (may_leave : D → List ℕ → Type 0) (moment : D → ℕ) (left_since : D → ℕ → List ℕ → Type 0) (end : ℕ) (old : D)
    (read : IsReadToEnd seen may_leave end old) where
  abbrev file : List ℕ
  file = seen old

  abbrev Kept : List ℕ → Type 0
  Kept = KeepsLines file

  after_cut : (mid : D) → Follows (Cut end) (may_leave old) (may_leave mid) → (c : List ℕ) → may_leave mid c → Kept c
  after_cut mid crash c now =
      let from = crash c now in
      cut_keeps file end read.within read.lines read.done c (subst (λ (d : List ℕ). Cut end d c) (read.durable from.0 from.1) from.2)

  pub cut_leaves : (mid : D) → ((c : List ℕ) → left_since old (moment old) c → may_leave old c)
      → Elapses (moment old) (moment mid) (left_since old) (left_since mid) (may_leave mid)
      → Follows (Cut end) (may_leave old) (may_leave mid) → LeavesOnly moment left_since old mid Kept
  cut_leaves mid only time crash =
      let here : (c : List ℕ) → left_since old (moment old) c → Kept c = λ c left. subst Kept (sym (read.durable c (only c left))) (keeps_itself file) in
      goes_on moment left_since old old mid Kept (may_leave mid) (started moment left_since old Kept here) time (after_cut mid crash)

  pub sync_leaves : (mid new : D) → LeavesOnly moment left_since old mid Kept → Follows (Cut end) (may_leave old) (may_leave mid)
      → Elapses (moment mid) (moment new) (left_since mid) (left_since new) (may_leave new)
      → ((c : List ℕ) → may_leave new c → may_leave mid c) → LeavesOnly moment left_since old new Kept
  sync_leaves mid new leaves crash time kept =
      goes_on moment left_since old mid new Kept (may_leave new) leaves time (λ c now. after_cut mid crash c (kept c now))

  pub write_leaves : (mid kept new : D) → LeavesOnly moment left_since old kept Kept → seen mid ≡ take end file → Only (seen mid) (may_leave kept)
      → LeavesOnly moment left_since kept new (TornFrom end 1 (may_leave kept)) → LeavesOnly moment left_since old new Kept
  write_leaves mid kept new leaves is_cut only more =
      let whole : seen mid ≡ open_lines read.lines.texts = is_cut ∙ read.lines.split in
      and_then moment left_since old kept new Kept leaves
      (weaker moment left_since kept new (TornFrom end 1 (may_leave kept)) Kept
      (λ c from. torn_end file end read.within read.lines read.done c (subst (λ (d : List ℕ). Torn end 1 d c) (only from.0 from.1 ∙ whole) from.2)) more)

  pub gate_closed : (mid kept new : D) → seen mid ≡ take end file → seen kept ≡ seen mid → Holds (seen kept) end (35 ∷ []) (seen new) → seen new ≡ at_rest (recovered_texts file)
  gate_closed mid kept new is_cut same holds =
      written_end file end read.within read.lines read.done (seen new) (subst (λ (d : List ℕ). Holds d end (35 ∷ []) (seen new)) (same ∙ is_cut ∙ read.lines.split) holds)

-- a whole opening: a sync, a reading that changed nothing, and a repair
pub opening_leaves : {D : Type 0} (seen : D → List ℕ) (may_leave : D → List ℕ → Type 0) (moment : D → ℕ) (left_since : D → ℕ → List ℕ → Type 0) (old synced read new : D)
    → LeavesOnly moment left_since old synced (may_leave old) → Untouched seen may_leave moment left_since synced read → seen read ≡ seen old
    → LeavesOnly moment left_since read new (KeepsLines (seen read)) → LeavesOnly moment left_since old new (λ c. may_leave old c ⊎ KeepsLines (seen old) c)
opening_leaves seen may_leave moment left_since old synced read new first none same last =
    let P : List ℕ → Type 0 = λ c. may_leave old c ⊎ KeepsLines (seen old) c in
    and_then moment left_since old synced new P
    (weaker moment left_since old synced (may_leave old) P (λ c left. inl left) first)
    (after_none moment left_since seen may_leave synced read new P none
    (weaker moment left_since read new (KeepsLines (seen read)) P (λ c kept. inr (subst (λ (file : List ℕ). KeepsLines file c) same kept)) last))
