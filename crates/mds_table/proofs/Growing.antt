-- Rows in order to which a row is added at its place, and tallies that say so.
use Rattle.std.proofs.Common.{◌≡◌, ◌↔◌, ℕ, suc, zero, ◌+◌, ◌<◌, ◌≤◌, List, [], ◌∷◌, length, true, false, Contains, slice_set, bit_or, get_or, refl, sym, ◌∙◌, ap, subst, inl, inr, ⊎_elim, arith, ◌^◌}
use Rattle.std.specs.List.{insert, AllWithin}
use Rattle.std.specs.declared.cmp.Ordering.{Ordering}
use Rattle.std.specs.declared.cmp.Ordering.TheVariants.{Less, Equal, Greater}
use Rattle.std.specs.Ordering.{ordering_reverse}
use Rattle.std.specs.Cmp.{IsTotalOrder}
use Rattle.std.proofs.lemmas.Bool.{cases_eq, or_cases, or_left, or_right}
use Rattle.std.proofs.lemmas.List.{get_or_default, get_or-set_same, get_or-set_other}
use Rattle.std.proofs.lemmas.List.Edits.{length-insert}
use Rattle.mds_table.specs.declared.state.State.{State}
use Rattle.mds_table.specs.declared.state.TheConstants.State.{COUNT}
use Rattle.mds_table.specs.declared.row.Row.{Row}
use Rattle.mds_table.specs.declared.row_set.Tally.{Tally}
use Rattle.mds_table.specs.State.{code_of}
use Rattle.mds_table.specs.Row.{row_of, ascends, in_order}
use Rattle.mds_table.specs.RowLaws.{row_cmp_total}
use Rattle.mds_table.specs.Mask.{has_bit, mask_from, AreMasks}
use Rattle.mds_table.specs.TableFile.{max_rows}
use Rattle.mds_table.specs.Entry.{Adds}
use Rattle.mds_table.specs.RowSet.{IsCountOf, Grows}
use Rattle.mds_table.proofs.Ascending.{Contains-tail, head_or_tail, inserted, insert_adds}
use Rattle.mds_table.proofs.Bits.{has_bit-or, has_bit-same, has_bit-one}
use Rattle.mds_table.proofs.OneTable.{before_all, rest_ascends}
use Rattle.mds_table.proofs.RowOrder.{same_row_by_cmp}
use Rattle.mds_table.proofs.Rows.{code_of_injective, code_below}

-- Where a row goes in: behind those before it and in front of those behind it.
record IsPlace {X : Type 0} (cmp : X → X → Ordering) (x : X) (xs : List X) (i : ℕ) : Type 0 where
  within : i ≤ length xs
  below : AllWithin (λ y. cmp y x ≡ Less) xs 0 i
  above : AllWithin (λ y. cmp y x ≡ Greater) xs i (length xs)

one_further : {X : Type 0} {cmp : X → X → Ordering} (x y : X) (ys : List X) (i : ℕ) → cmp y x ≡ Less → IsPlace cmp x ys i → IsPlace cmp x (y ∷ ys) (suc i)
one_further {X} {cmp} x y ys i less at = record {
  within = omega (arith, at.within);
  below = lower;
  above = upper;
} where
  lower : (k : ℕ) (d : X) → 0 ≤ k → k < suc i → cmp (get_or (y ∷ ys) k d) x ≡ Less
  lower zero d low high = less
  lower (suc k) d low high = at.below k d (omega arith) (omega (arith, high))

  upper : (k : ℕ) (d : X) → suc i ≤ k → k < length (y ∷ ys) → cmp (get_or (y ∷ ys) k d) x ≡ Greater
  upper zero d low high = absurd (omega (arith, low))
  upper (suc k) d low high = at.above k d (omega (arith, low)) (omega (arith, high))

in_front : {X : Type 0} {cmp : X → X → Ordering} (x : X) (xs : List X) → ((y : X) → Contains xs y → cmp y x ≡ Greater) → IsPlace cmp x xs 0
in_front x xs each = record {
  within = omega arith;
  below = λ k d low high. absurd (omega (arith, high));
  above = λ k d low high. each (get_or xs k d) (k, high, get_or_default xs k (get_or xs k d) d high);
}

first_or_later : {X : Type 0} {cmp : X → X → Ordering} (o : IsTotalOrder cmp) (same : (x y : X) → cmp x y ≡ Equal → x ≡ y) (x y : X) (ys : List X)
    → ascends cmp (y ∷ ys) ≡ true → (Contains (y ∷ ys) x → ⊥) → (i : ℕ) × IsPlace cmp x ys i
    → (side : Ordering) → cmp y x ≡ side → (i : ℕ) × IsPlace cmp x (y ∷ ys) i
first_or_later o same x y ys up lacks later Less is = (suc later.0, one_further x y ys later.0 is later.1)
first_or_later o same x y ys up lacks later Equal is = absurd (lacks (0, omega arith, same y x is))
first_or_later {X} {cmp} o same x y ys up lacks later Greater is =
    let first : cmp x y ≡ Less = o.antisymm x y ∙ ap ordering_reverse is in (
      0,
      in_front x (y ∷ ys) (λ z there. ⊎_elim
          (λ behind. o.antisymm z x ∙ ap ordering_reverse (o.trans x y z first (before_all o y ys up z behind)))
          (λ here. subst (λ w. cmp w x ≡ Greater) (sym here) is)
          (head_or_tail z y ys there)),
    )

-- A list that ascends has a place for what it lacks.
place : {X : Type 0} {cmp : X → X → Ordering} (o : IsTotalOrder cmp) (same : (x y : X) → cmp x y ≡ Equal → x ≡ y) (x : X) (xs : List X)
    → ascends cmp xs ≡ true → (Contains xs x → ⊥) → (i : ℕ) × IsPlace cmp x xs i
place o same x [] up lacks = (0, in_front x [] (λ y there. absurd (omega (arith, there.1))))
place {X} {cmp} o same x (y ∷ ys) up lacks =
    first_or_later o same x y ys up lacks (place o same x ys (rest_ascends cmp y ys up) (λ there. lacks (Contains-tail x y ys there))) (cmp y x) refl

-- one row more
pub grown : (rows : List Row) (row : Row) → in_order rows ≡ true → (Contains rows row → ⊥)
    → (more : List Row) × (in_order more ≡ true) × Adds rows more (λ other. other ≡ row) × (length more ≡ length rows + 1)
grown rows row up lacks =
    let at = place row_cmp_total same_row_by_cmp row rows up lacks in
    (insert rows at.0 row, inserted row_cmp_total row rows at.0 at.1.within up at.1.below at.1.above, insert_adds rows at.0 row, length-insert rows at.0 row at.1.within)

-- so many and one more, or past the most
pub counted : (rows more : List Row) (count : ℕ) → length more ≡ length rows + 1 → IsCountOf rows count → count ≤ max_rows → IsCountOf more (count + 1)
counted rows more count longer is few = ⊎_elim (λ same. inl (ap (λ n. n + 1) same ∙ sym longer)) (λ past. absurd (omega (arith, past.0))) is

pub uncounted : (rows more : List Row) (count : ℕ) → length more ≡ length rows + 1 → IsCountOf rows count → max_rows < count → IsCountOf more count
uncounted rows more count longer is many = ⊎_elim
    (λ same. inr (many, omega arith))
    (λ past. inr (past.0, omega (arith, past.1)))
    is

-- a mask that has a state more, to which a row more leads
bit_leads : (rows more : List Row) (kind : List ℕ) (from to state : State) (mask : ℕ) → ((has_bit mask state ≡ true) ↔ Contains rows (row_of from kind state))
    → Adds rows more (λ other. other ≡ row_of from kind to) → (has_bit (bit_or mask (2 ^ code_of to)) state ≡ true) ↔ Contains more (row_of from kind state)
bit_leads rows more kind from to state mask are added = (
  λ has. ⊎_elim
      (λ before. added.keeps (row_of from kind state) (are.0 before))
      (λ now. added.adds (row_of from kind state) (ap (λ s. row_of from kind s) (sym (has_bit-one to state now))))
      (or_cases (has_bit mask state) (has_bit (2 ^ code_of to) state) (sym (has_bit-or mask (2 ^ code_of to) state) ∙ has)),
  λ there. has_bit-or mask (2 ^ code_of to) state ∙ ⊎_elim
      (λ before. or_left (has_bit mask state) (has_bit (2 ^ code_of to) state) (are.1 before))
      (λ is.
      let same : to ≡ state = sym (ap (λ row. row.to) is) in
      or_right (has_bit mask state) (has_bit (2 ^ code_of to) state) (subst (λ s. has_bit (2 ^ code_of to) s ≡ true) same (has_bit-same to)))
      (added.none_else (row_of from kind state) there),
)

-- the masks of a type that has a row more
mask_grown : (rows more : List Row) (kind : List ℕ) (masks : List ℕ) (from to : State) → length masks ≡ COUNT → AreMasks rows kind masks
    → Adds rows more (λ other. other ≡ row_of from kind to)
    → AreMasks more kind (slice_set masks (code_of from) (bit_or (mask_from masks from) (2 ^ code_of to)))
mask_grown rows more kind masks from to full are added f t = ⊎_elim
    (λ same.
    let is : from ≡ f = code_of_injective from f (sym same) in
    let wider : ℕ = bit_or (mask_from masks from) (2 ^ code_of to) in
    let put : mask_from (slice_set masks (code_of from) wider) from ≡ wider = get_or-set_same masks (code_of from) wider 0 (omega (arith, code_below from, full)) in
    subst (λ s. (has_bit (mask_from (slice_set masks (code_of from) wider) s) t ≡ true) ↔ Contains more (row_of s kind t)) is
    (subst (λ mask. (has_bit mask t ≡ true) ↔ Contains more (row_of from kind t)) (sym put)
    (bit_leads rows more kind from to t (mask_from masks from) (are from t) added)))
    (λ other.
    let wider : ℕ = bit_or (mask_from masks from) (2 ^ code_of to) in
    let kept : mask_from (slice_set masks (code_of from) wider) f ≡ mask_from masks f = get_or-set_other masks (code_of from) (code_of f) wider 0 other in
    subst (λ mask. (has_bit mask t ≡ true) ↔ Contains more (row_of f kind t)) (sym kept) (
      λ has. added.keeps (row_of f kind t) ((are f t).0 has),
      λ there. ⊎_elim
          (λ before. (are f t).1 before)
          (λ is. absurd (other (ap (λ row. code_of row.from) is)))
          (added.none_else (row_of f kind t) there),
    ))
    (cases_eq (code_of f) (code_of from))

-- a row that the tally lacks
pub row_grown : (kind : List ℕ) (from to : State) (old new : Tally) → length old.masks ≡ COUNT → has_bit (mask_from old.masks from) to ≡ false
    → new.masks ≡ slice_set old.masks (code_of from) (bit_or (mask_from old.masks from) (2 ^ code_of to))
    → ((rows more : List Row) → length more ≡ length rows + 1 → IsCountOf rows old.count → IsCountOf more new.count)
    → Grows kind old new (λ row. row ≡ row_of from kind to)
row_grown kind from to old new full lacks masks counts rows are =
    let more = grown rows (row_of from kind to) are.order (λ there. let has = (are.masks from to).1 there in cc) in (
      more.0,
      record {
        order = more.1;
        masks = rw masks (mask_grown rows more.0 kind old.masks from to full are.masks more.2);
        count = counts rows more.0 more.3 are.count;
      },
      more.2,
    )

pub grows_both : {P Q R : Row → Type 0} (kind : List ℕ) (old mid new : Tally) → Grows kind old mid P → Grows kind mid new Q
    → ((rows front more : List Row) → Adds rows front P → Adds front more Q → Adds rows more R) → Grows kind old new R
grows_both kind old mid new one two both rows are =
    let front = one rows are in
    let more = two front.0 front.1 in
    (more.0, more.1, both rows front.0 more.0 front.2 more.2)

pub grows_as : {P R : Row → Type 0} (kind : List ℕ) (old new : Tally) → Grows kind old new P
    → ((rows more : List Row) → Adds rows more P → Adds rows more R) → Grows kind old new R
grows_as kind old new one to rows are = let more = one rows are in (more.0, more.1, to rows more.0 more.2)

-- nothing of which nothing holds
pub grows_none : {P : Row → Type 0} (kind : List ℕ) (tally : Tally) → ((row : Row) → P row → ⊥) → Grows kind tally tally P
grows_none kind tally none rows are = (
  rows,
  are,
  record { keeps = λ row there. there; adds = λ row is. absurd (none row is); none_else = λ row there. inl there },
)
