-- A table file has no fault, and a file with a fault has one first fault.
use Rattle.std.proofs.Common.{◌≡◌, ℕ, suc, zero, ◌+◌, ◌<◌, ◌≤◌, List, [], ◌∷◌, length, take, slice_get, true, Option, Some, None, refl, sym, ◌∙◌, ap, subst, ◌⊎◌, inl, inr, ⊎_elim, arith}
use Rattle.std.specs.List.{Contains, All}
use Rattle.std.specs.Option.{IsSomeAnd}
use Rattle.std.specs.declared.cmp.Ordering.{Ordering}
use Rattle.std.specs.declared.cmp.Ordering.TheVariants.{Less, Greater}
use Rattle.std.specs.Ordering.{ordering_reverse}
use Rattle.std.specs.Cmp.{IsTotalOrder}
use Rattle.std.proofs.lemmas.Bool.{cases_order}
use Rattle.std.proofs.lemmas.Cmp.{nat_list_cmp_total}
use Rattle.std.proofs.lemmas.List.{take_all}
use Rattle.std.proofs.lemmas.List.Elements.{All-tail, All-head}
use Rattle.serde_json.specs.Data.{Data}
use Rattle.mds_table.specs.declared.row.Row.{Row}
use Rattle.mds_table.specs.declared.table_file.TableFault.{TableFault}
use Rattle.mds_table.specs.declared.table_file.TableFault.TheVariants.{Memory, TooLong, NotJson, NotRows, BadRow, TooManyRows, TooManyTypes, Empty}
use Rattle.mds_table.specs.Row.{ascends}
use Rattle.mds_table.specs.declared.json.TextFault.TheVariants as text
use Rattle.mds_table.specs.Json.{IsShortTextOf, HasTextFault}
use Rattle.mds_table.specs.TableFile.{IsRowEntry, AnyStandsFor, AreRowsOf, AreTypesOf, AreGood, AreGoodBefore, EntryFault, bad_form, many_rows, many_types, IsFaultAt, IsFirstFault, AreTableOf, HasRowsFault, HasTable, HasFault, entries_in}
use Rattle.mds_table.specs.RowLaws.{row_cmp_total}
use Rattle.mds_table.proofs.Ascending.{Contains-tail, head_or_tail}
use Rattle.mds_table.proofs.OneTable.{before_all, not_itself, rest_ascends, both_hold, same_rows, same_value}

-- a list that ascends is no longer than one that has its members
subset_length : {X : Type 0} {cmp : X → X → Ordering} (o : IsTotalOrder cmp) (xs ys : List X) → ascends cmp xs ≡ true → ascends cmp ys ≡ true
    → ((z : X) → Contains xs z → Contains ys z) → length xs ≤ length ys
subset_length o [] ys up vp to = omega arith
subset_length o (x ∷ xs) [] up vp to = absurd (omega (arith, (to x (0, omega arith, refl)).1))
subset_length {X} {cmp} o (x ∷ xs) (y ∷ ys) up vp to = ⊎_elim
    (λ later.
    let rest : length (x ∷ xs) ≤ length ys = subset_length o (x ∷ xs) ys up (rest_ascends cmp y ys vp)
    (λ z there. ⊎_elim (λ found. found) (λ same. absurd (behind_none later z there same)) (head_or_tail z y ys (to z there))) in
    omega (arith, rest))
    (λ same.
    let rest : length xs ≤ length ys = subset_length o xs ys (rest_ascends cmp x xs up) (rest_ascends cmp y ys vp)
    (λ z there. ⊎_elim (λ found. found) (λ is. absurd (not_itself o x z (before_all o x xs up z there) (is ∙ sym same))) (head_or_tail z y ys (to z (Contains-tail z x xs there)))) in
    omega (arith, rest))
    (head_or_tail x y ys (to x (0, omega arith, refl)))
  where
    behind_none : Contains ys x → (z : X) → Contains (x ∷ xs) z → z ≡ y → ⊥
    behind_none later z there same = ⊎_elim
        (λ late.
        let one : cmp y x ≡ Less = before_all o y ys vp x later in
        let other : cmp x y ≡ Less = subst (λ w. cmp x w ≡ Less) same (before_all o x xs up z late) in
        let turned : cmp y x ≡ Greater = o.antisymm y x ∙ ap ordering_reverse other in cc)
        (λ is. not_itself o y x (before_all o y ys vp x later) (sym is ∙ same))
        (head_or_tail z x xs there)

-- what is among the first m is among the first n
taken_in : {X : Type 0} (xs : List X) (m n : ℕ) (z : X) → m ≤ n → Contains (take m xs) z → Contains (take n xs) z
taken_in xs zero n z within found = absurd (omega (arith, found.1))
taken_in xs (suc m) zero z within found = absurd (omega arith)
taken_in [] (suc m) (suc n) z within found = found
taken_in (x ∷ xs) (suc m) (suc n) z within found = ⊎_elim
    (λ later. Contains-tail z x (take n xs) (taken_in xs m n z (omega arith) later))
    (λ same. (0, omega arith, sym same))
    (head_or_tail z x (take m xs) found)

still_stands : (entries : List Data) (m n : ℕ) → m ≤ n → (row : Row) → AnyStandsFor (take m entries) row → AnyStandsFor (take n entries) row
still_stands entries m n within row any = (any.0, taken_in entries m n any.0 within any.1, any.2)

-- rows of fewer entries are among those of more
rows_within : (entries : List Data) (m n : ℕ) (few many : List Row) → m ≤ n → AreRowsOf (take m entries) few → AreRowsOf (take n entries) many
    → (row : Row) → Contains few row → Contains many row
rows_within entries m n few many within is are row there = are.all row (still_stands entries m n within row (is.none_else row there))

fewer_rows : (few many : List Row) {m n : List Data} → AreRowsOf m few → AreRowsOf n many → ((row : Row) → Contains few row → Contains many row) → length few ≤ length many
fewer_rows few many is are to = subset_length row_cmp_total few many is.order are.order to

fewer_types : (few many : List Row) (kinds others : List (List ℕ)) → AreTypesOf few kinds → AreTypesOf many others → ((row : Row) → Contains few row → Contains many row)
    → length kinds ≤ length others
fewer_types few many kinds others is are to = subset_length nat_list_cmp_total kinds others is.order are.order
    (λ kind there. let row = is.none_else kind there in subst (Contains others) row.2 (are.all row.0 (to row.0 row.1)))

-- a place among entries of which something holds
not_bad : (P : Data → Type 0) (entries : List Data) (n at : ℕ) → at < n → All P (take n entries) → IsSomeAnd (slice_get entries at) (λ entry. P entry → ⊥) → ⊥
not_bad P [] n at within all bad = bad
not_bad P (entry ∷ rest) zero at within all bad = absurd (omega arith)
not_bad P (entry ∷ rest) (suc n) zero within all bad = bad (All-head P entry (take n rest) all)
not_bad P (entry ∷ rest) (suc n) (suc at) within all bad = not_bad P rest n at (omega arith) (All-tail P entry (take n rest) all) bad

at_within : (P : Data → Type 0) (entries : List Data) (at : ℕ) → IsSomeAnd (slice_get entries at) P → at < length entries
at_within P [] at some = absurd some
at_within P (entry ∷ rest) zero some = omega arith
at_within P (entry ∷ rest) (suc at) some = let later = at_within P rest at some in omega (arith, later)

-- no fault lies among entries without one
not_before : (entries : List Data) (n at : ℕ) (fault : EntryFault) → IsFaultAt entries at fault → at < n → AreGoodBefore entries n → ⊥
not_before entries n at bad_form bad within good = not_bad IsRowEntry entries n at within good.2.forms bad
not_before entries n at many_rows many within good =
    let fits : length many.1 ≤ length good.0 = fewer_rows many.1 good.0 many.2 good.2.exactly (rows_within entries (at + 1) n many.1 good.0 (omega arith) many.2 good.2.exactly) in
    omega (arith, fits, many.3, good.2.few_rows)
not_before entries n at many_types many within good =
    let fits : length many.4 ≤ length good.1 =
    fewer_types many.1 good.0 many.4 good.1 many.5 good.2.types (rows_within entries (at + 1) n many.1 good.0 (omega arith) many.2 good.2.exactly) in
    omega (arith, fits, many.6, good.2.few_kinds)

-- a fault lies at an entry
fault_within : (entries : List Data) (at : ℕ) (fault : EntryFault) → IsFaultAt entries at fault → at < length entries
fault_within entries at bad_form bad = at_within (λ entry. IsRowEntry entry → ⊥) entries at bad
fault_within entries at many_rows many = at_within IsRowEntry entries at many.0
fault_within entries at many_types many = at_within IsRowEntry entries at many.0

form_or_bad : (P : Data → Type 0) (o : Option Data) → IsSomeAnd o P → IsSomeAnd o (λ entry. P entry → ⊥) → ⊥
form_or_bad P o form bad = let both = both_hold o form bad in both.2 both.1

rows_or_types : (entries : List Data) (at : ℕ) → IsFaultAt entries at many_rows → IsFaultAt entries at many_types → ⊥
rows_or_types entries at many few =
    let same : many.1 ≡ few.1 = same_rows (take (at + 1) entries) many.1 few.1 many.2 few.2 in
    omega (arith, ap length same, many.3, few.3)

-- at a place there is one first fault
one_kind : (entries : List Data) (at : ℕ) (fault other : EntryFault) → IsFaultAt entries at fault → IsFaultAt entries at other → fault ≡ other
one_kind entries at bad_form bad_form is are = refl
one_kind entries at bad_form many_rows is are = absurd (form_or_bad IsRowEntry (slice_get entries at) are.0 is)
one_kind entries at bad_form many_types is are = absurd (form_or_bad IsRowEntry (slice_get entries at) are.0 is)
one_kind entries at many_rows bad_form is are = absurd (form_or_bad IsRowEntry (slice_get entries at) is.0 are)
one_kind entries at many_rows many_rows is are = refl
one_kind entries at many_rows many_types is are = absurd (rows_or_types entries at is are)
one_kind entries at many_types bad_form is are = absurd (form_or_bad IsRowEntry (slice_get entries at) is.0 are)
one_kind entries at many_types many_rows is are = absurd (rows_or_types entries at are is)
one_kind entries at many_types many_types is are = refl

-- and there is one first place
one_place : (entries : List Data) (at place : ℕ) (fault other : EntryFault) → IsFirstFault entries at fault → IsFirstFault entries place other → at ≡ place
one_place entries at place fault other is are = ⊎_elim
    (λ same. same)
    (λ apart. ⊎_elim
    (λ earlier. absurd (not_before entries place at fault is.here earlier are.before))
    (λ later. absurd (not_before entries at place other are.here later is.before))
    apart)
    (cases_order at place)

-- where the value of a text has its first fault: it has no list of entries, or one with none, or one with a fault at an entry
data Place : Type 0 where
  no_list : Place
  no_entry : Place
  at_entry : ℕ → EntryFault → Place

abbrev IsAt : Option (List Data) → Place → Type 0
IsAt entries no_list = entries ≡ None
IsAt entries no_entry = IsSomeAnd entries (λ list. list ≡ [])
IsAt entries (at_entry at fault) = IsSomeAnd entries (λ list. IsFirstFault list at fault)

abbrev fault_at : Place → TableFault
fault_at no_list = NotRows
fault_at no_entry = Empty
fault_at (at_entry at bad_form) = BadRow at
fault_at (at_entry at many_rows) = TooManyRows
fault_at (at_entry at many_types) = TooManyTypes

none_of_none : {T : Type 0} (P : T → Type 0) (o : Option T) → IsSomeAnd o P → o ≡ None → ⊥
none_of_none P o some none = subst (λ o. IsSomeAnd o P) none some

empty_or_at : (entries : List Data) (at : ℕ) (fault : EntryFault) → IsFirstFault entries at fault → entries ≡ [] → ⊥
empty_or_at entries at fault is none = omega (arith, fault_within entries at fault is.here, ap length none)

first_fault : (entries : List Data) (at place : ℕ) (fault other : EntryFault) → IsFirstFault entries at fault → IsFirstFault entries place other
    → at_entry at fault ≡ at_entry place other
first_fault entries at place fault other is are =
    let same : at ≡ place = one_place entries at place fault other is are in
    let kind : fault ≡ other = one_kind entries place fault other (subst (λ n. IsFaultAt entries n fault) same is.here) are.here in
    λ i. at_entry (same i) (kind i)

one_at : (o : Option (List Data)) (place other : Place) → IsAt o place → IsAt o other → place ≡ other
one_at o no_list no_list is are = refl
one_at o no_list no_entry is are = absurd (none_of_none (λ list. list ≡ []) o are is)
one_at o no_list (at_entry at fault) is are = absurd (none_of_none (λ list. IsFirstFault list at fault) o are is)
one_at o no_entry no_list is are = absurd (none_of_none (λ list. list ≡ []) o is are)
one_at o no_entry no_entry is are = refl
one_at o no_entry (at_entry at fault) is are = let both = both_hold o is are in absurd (empty_or_at both.0 at fault both.2 both.1)
one_at o (at_entry at fault) no_list is are = absurd (none_of_none (λ list. IsFirstFault list at fault) o is are)
one_at o (at_entry at fault) no_entry is are = let both = both_hold o is are in absurd (empty_or_at both.0 at fault both.1 both.2)
one_at o (at_entry at fault) (at_entry place other) is are = let both = both_hold o is are in first_fault both.0 at place fault other both.1 both.2

-- a file's fault lies in its text, or in the value of its text, if it isn't want of memory
abbrev InText : List ℕ → TableFault → Type 0
InText bytes fault = ((fault ≡ TooLong) × HasTextFault bytes text.TooLong) ⊎ ((fault ≡ NotJson) × HasTextFault bytes text.NotJson)

abbrev InValue : List ℕ → TableFault → Type 0
InValue bytes fault = (place : Place) × (fault ≡ fault_at place) × (value : Data) × IsShortTextOf value bytes × IsAt (entries_in value) place

-- the place at which something holds of a list
place_of : (P : ℕ → List Data → Type 0) (o : Option (List Data)) → IsSomeAnd o (λ list. (at : ℕ) × P at list) → (at : ℕ) × IsSomeAnd o (P at)
place_of P None some = absurd some
place_of P (Some list) some = some

located : (bytes : List ℕ) (fault : TableFault) → HasFault bytes fault → (fault ≡ Memory) ⊎ (InText bytes fault ⊎ InValue bytes fault)
located bytes Memory is = inl refl
located bytes TooLong is = inr (inl (inl (refl, is)))
located bytes NotJson is = inr (inl (inr (refl, is)))
located bytes NotRows is = inr (inr (no_list, refl, is.0, is.1, is.2))
located bytes Empty is = inr (inr (no_entry, refl, is.0, is.1, is.2))
located bytes (BadRow at) is = inr (inr (at_entry at bad_form, refl, is.0, is.1, is.2))
located bytes TooManyRows is =
    let found = place_of (λ at list. IsFirstFault list at many_rows) (entries_in is.0) is.2 in inr (inr (at_entry found.0 many_rows, refl, is.0, is.1, found.1))
located bytes TooManyTypes is =
    let found = place_of (λ at list. IsFirstFault list at many_types) (entries_in is.0) is.2 in inr (inr (at_entry found.0 many_types, refl, is.0, is.1, found.1))

no_text : (bytes : List ℕ) (fault : TableFault) (value : Data) → InText bytes fault → IsShortTextOf value bytes → ⊥
no_text bytes fault value is short = ⊎_elim (λ long. omega (arith, long.1, short.0)) (λ none. none.1.1 value short.1) is

one_text : (bytes : List ℕ) (fault other : TableFault) → InText bytes fault → InText bytes other → fault ≡ other
one_text bytes fault other is are = ⊎_elim
    (λ long. ⊎_elim (λ too. long.0 ∙ sym too.0) (λ none. absurd (omega (arith, long.1, none.1.0))) are)
    (λ none. ⊎_elim (λ long. absurd (omega (arith, long.1, none.1.0))) (λ too. none.0 ∙ sym too.0) are)
    is

one_value : (bytes : List ℕ) (fault other : TableFault) → InValue bytes fault → InValue bytes other → fault ≡ other
one_value bytes fault other is are =
    let here = subst (λ value. IsAt (entries_in value) are.0) (same_value bytes is.2 are.2 is.3 are.3) are.4 in
    is.1 ∙ ap fault_at (one_at (entries_in is.2) is.0 are.0 is.4 here) ∙ sym are.1

-- a file has one first fault
pub one_fault : (bytes : List ℕ) (fault other : TableFault) → HasFault bytes fault → HasFault bytes other → (fault ≡ Memory) ⊎ ((other ≡ Memory) ⊎ (fault ≡ other))
one_fault bytes fault other is are = ⊎_elim
    (λ memory. inl memory)
    (λ said. inr (⊎_elim (λ memory. inl memory) (λ too. inr (same said too)) (located bytes other are)))
    (located bytes fault is)
  where
    same : InText bytes fault ⊎ InValue bytes fault → InText bytes other ⊎ InValue bytes other → fault ≡ other
    same (inl said) (inl too) = one_text bytes fault other said too
    same (inl said) (inr too) = absurd (no_text bytes fault too.2 said too.3)
    same (inr said) (inl too) = absurd (no_text bytes other said.2 too said.3)
    same (inr said) (inr too) = one_value bytes fault other said too

-- entries without a fault have none at a place
good_nowhere : (entries : List Data) (rows : List Row) (kinds : List (List ℕ)) (at : ℕ) (fault : EntryFault) → AreGood entries rows kinds → IsFaultAt entries at fault → ⊥
good_nowhere entries rows kinds at fault good is =
    not_before entries (length entries) at fault is (fault_within entries at fault is)
    (rows, kinds, subst (λ front. AreGood front rows kinds) (sym (take_all (length entries) entries (omega arith))) good)

-- the entries of a table have no place with a fault
none_at : (entries : List Data) (rows : List Row) (place : Place) → AreTableOf entries rows → IsAt (Some entries) place → ⊥
none_at entries rows no_list good nothing = cc
none_at entries rows no_entry good empty = omega (arith, good.0, ap length empty)
none_at entries rows (at_entry n f) good first = good_nowhere entries rows good.1 n f good.2 first.here

-- where entries have their first fault
rows_located : (entries : List Data) (fault : TableFault) → HasRowsFault entries fault → (place : Place) × (fault ≡ fault_at place) × IsAt (Some entries) place
rows_located entries Empty is = (no_entry, refl, is)
rows_located entries (BadRow at) is = (at_entry at bad_form, refl, is)
rows_located entries TooManyRows is = (at_entry is.0 many_rows, refl, is.1)
rows_located entries TooManyTypes is = (at_entry is.0 many_types, refl, is.1)
rows_located entries Memory is = absurd is
rows_located entries TooLong is = absurd is
rows_located entries NotJson is = absurd is
rows_located entries NotRows is = absurd is

-- entries have one first fault, and those of a table none
pub one_rows_fault : (entries : List Data) (fault other : TableFault) → HasRowsFault entries fault → HasRowsFault entries other → fault ≡ other
one_rows_fault entries fault other is are =
    let one = rows_located entries fault is in
    let too = rows_located entries other are in
    one.1 ∙ ap fault_at (one_at (Some entries) one.0 too.0 one.2 too.2) ∙ sym too.1

pub no_rows_fault : (entries : List Data) (rows : List Row) (fault : TableFault) → AreTableOf entries rows → HasRowsFault entries fault → ⊥
no_rows_fault entries rows fault good is = let one = rows_located entries fault is in none_at entries rows one.0 good one.2

-- a table file has no fault
pub no_fault : (bytes : List ℕ) (rows : List Row) (fault : TableFault) → HasTable bytes rows → HasFault bytes fault → fault ≡ Memory
no_fault bytes rows fault is are = ⊎_elim (λ memory. memory) (λ said. absurd (none said)) (located bytes fault are) where
  whole : (o : Option (List Data)) (place : Place) → IsSomeAnd o (λ entries. AreTableOf entries rows) → IsAt o place → ⊥
  whole None place good said = absurd good
  whole (Some entries) place good said = none_at entries rows place good said

  none : InText bytes fault ⊎ InValue bytes fault → ⊥
  none (inl said) = no_text bytes fault is.0 said is.1
  none (inr said) = whole (entries_in is.0) said.0 is.2 (subst (λ value. IsAt (entries_in value) said.0) (same_value bytes is.0 said.2 is.1 said.3) said.4)
