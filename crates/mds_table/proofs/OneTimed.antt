-- A file of tables stands for one list of tables, has then no fault, and a file with a fault has one first fault.
use Rattle.std.proofs.Common.{◌≡◌, ◌≢◌, ℕ, suc, zero, ◌<◌, ◌≤◌, List, [], ◌∷◌, length, take, map, slice_get, true, Option, Some, None, option_map, codes, if◌then◌else◌, refl, sym, ◌∙◌, ap, subst, ◌⊎◌, inl, inr, ⊎_elim, arith}
use Rattle.std.specs.List.{AllZip, last_or}
use Rattle.std.specs.Option.{IsSomeAnd, is_some, option_and_then}
use Rattle.std.specs.Ordering.{nat_cmp, is_lt}
use Rattle.std.proofs.lemmas.Bool.{and_parts}
use Rattle.std.proofs.lemmas.Slice.Zip.{AllZip-long}
use Rattle.serde_json.specs.Data.{Data}
use Rattle.serde_json.specs.Find.{get, as_array}
use Rattle.mds_table.specs.declared.row.Row.{Row}
use Rattle.mds_table.specs.declared.json.TextFault.TheVariants as text
use Rattle.mds_table.specs.declared.table_file.TableFault.{TableFault}
use Rattle.mds_table.specs.declared.tables_fault.TablesFault.{TablesFault}
use Rattle.mds_table.specs.declared.tables_fault.TablesFault.TheVariants.{Memory, TooLong, NotJson, NotRows, InTable, NoTables, TooManyTables, BadEntry, FirstNotZero, NotRising}
use Rattle.mds_table.specs.Row.{ascends}
use Rattle.mds_table.specs.Json.{items_in, IsShortTextOf, HasTextFault}
use Rattle.mds_table.specs.TableFile.{AreTableOf, HasRowsFault, HasEntries, entries_in}
use Rattle.mds_table.specs.Tables.{Entry, start_of}
use Rattle.mds_table.specs.Timed.{max_tables, AreInTime}
use Rattle.mds_table.specs.TimedFile.{Follows, IsFirstAt, start_in, IsTableItem, HasItemFault, listed_in, tables_in, HasItems, AreTablesOf, HasTables, HasTablesFault}
use Rattle.mds_table.proofs.Ascending.{lt_is_Less}
use Rattle.mds_table.proofs.InForce.{below_of_less}
use Rattle.mds_table.proofs.OneTable.{both_hold, one_table, same_rows, same_value}
use Rattle.mds_table.proofs.OneAnswer.{no_rows_fault, one_rows_fault}

-- an item stands for one table
one_entry : (item : Data) (entry other : Entry) → IsTableItem item entry → IsTableItem item other → entry ≡ other
one_entry item entry other is are =
    let starts : Some (start_of entry) ≡ Some (start_of other) = sym is.start ∙ are.start in
    let start : start_of entry ≡ start_of other = cc in
    let both = both_hold (entries_in item) is.rows are.rows in
    let rows : entry.1 ≡ other.1 = same_rows both.0 entry.1 other.1 both.1.2.exactly both.2.2.exactly in
    λ i. (start i, rows i)

-- and items for one list
one_list : (items : List Data) (entries others : List Entry) → AllZip IsTableItem items entries → AllZip IsTableItem items others → entries ≡ others
one_list [] [] [] is are = refl
one_list [] [] (other ∷ others) is are = absurd are
one_list [] (entry ∷ entries) others is are = absurd is
one_list (item ∷ items) [] others is are = absurd is
one_list (item ∷ items) (entry ∷ entries) [] is are = absurd are
one_list (item ∷ items) (entry ∷ entries) (other ∷ others) is are =
    let first = one_entry item entry other is.0 are.0 in
    let rest = one_list items entries others is.1 are.1 in
    λ i. first i ∷ rest i

-- a value with a list `rows` has no tables
rows_or_tables : (value : Data) (P Q : List Data → Type 0) → IsSomeAnd (entries_in value) P → IsSomeAnd (tables_in value) Q → ⊥
rows_or_tables value P Q rows tables = by_member (get (codes "rows") value) (listed_in value) rows tables where
  by_member : (member : Option Data) (listed : Option (List Data)) → IsSomeAnd (option_map items_in (option_and_then as_array member)) P
      → IsSomeAnd (if is_some member then None else listed) Q → ⊥
  by_member None listed rows tables = absurd rows
  by_member (Some found) listed rows tables = absurd tables

-- what is said of the tables of a file is said of the same ones
joined_items : (bytes : List ℕ) {P Q : List Data → Type 0} → HasItems bytes P → HasItems bytes Q → (items : List Data) × P items × Q items
joined_items bytes {P} {Q} is are =
    both_hold (tables_in is.0) is.2 (subst (λ value. IsSomeAnd (tables_in value) Q) (same_value bytes is.0 are.0 is.1 are.1) are.2)

-- no file has both
apart : (bytes : List ℕ) {P Q : List Data → Type 0} → HasEntries bytes P → HasItems bytes Q → ⊥
apart bytes {P} {Q} is are =
    rows_or_tables is.0 P Q is.2 (subst (λ value. IsSomeAnd (tables_in value) Q) (same_value bytes is.0 are.0 is.1 are.1) are.2)

-- the bytes stand for one list of tables
pub one_tables : (bytes : List ℕ) (entries others : List Entry) → HasTables bytes entries → HasTables bytes others → entries ≡ others
one_tables bytes entries others (inl is) (inl are) =
    let rows = one_table bytes is.rows are.rows is.file are.file in
    is.one ∙ ap (λ (table : List Row). (0, table) ∷ []) rows ∙ sym are.one
one_tables bytes entries others (inl is) (inr are) = absurd (apart bytes is.file are)
one_tables bytes entries others (inr is) (inl are) = absurd (apart bytes are.file is)
one_tables bytes entries others (inr is) (inr are) =
    let both = joined_items bytes is are in one_list both.0 entries others both.1.each both.2.each

-- what is wrong with an item behind a start
data Wrong : Type 0 where
  form : Wrong
  late : Wrong
  early : Wrong
  table : TableFault → Wrong

abbrev IsWrong : Option ℕ → Data → Wrong → Type 0
IsWrong last item form = start_in item ≡ None
IsWrong last item late = (last ≡ None) × IsSomeAnd (start_in item) (λ start. start ≢ 0)
IsWrong last item early = IsSomeAnd (start_in item) (λ start. IsSomeAnd last (λ earlier. start ≤ earlier))
IsWrong last item (table fault) = IsSomeAnd (start_in item) (Follows last) × HasItemFault item fault

-- an item stands for a table that may start next
abbrev IsNext : Option ℕ → Data → Entry → Type 0
IsNext last item entry = IsTableItem item entry × Follows last (start_of entry)

-- of the start of an item something holds
at_start : (P : ℕ → Type 0) (item : Data) (start : ℕ) → start_in item ≡ Some start → IsSomeAnd (start_in item) P → P start
at_start P item start is some = subst (λ found. IsSomeAnd found P) is some

never : (P : ℕ → Type 0) (item : Data) → start_in item ≡ None → IsSomeAnd (start_in item) P → ⊥
never P item none some = subst (λ found. IsSomeAnd found P) none some

-- of two starts behind a start, one is later than it and one isn't
not_both : (last : Option ℕ) (start : ℕ) → Follows last start → IsSomeAnd last (λ earlier. start ≤ earlier) → ⊥
not_both None start follows behind = absurd behind
not_both (Some earlier) start follows behind = omega (arith, follows, behind)

not_first : (last : Option ℕ) (start : ℕ) → Follows last start → last ≡ None → start ≢ 0 → ⊥
not_first None start follows none some = some follows
not_first (Some earlier) start follows none some = cc

none_earlier : (last : Option ℕ) (start : ℕ) → last ≡ None → IsSomeAnd last (λ earlier. start ≤ earlier) → ⊥
none_earlier None start none behind = absurd behind
none_earlier (Some earlier) start none behind = cc

-- an item that stands for the next table isn't wrong
right_or_wrong : (last : Option ℕ) (item : Data) (entry : Entry) (wrong : Wrong) → IsNext last item entry → IsWrong last item wrong → ⊥
right_or_wrong last item entry form next is = let both : Some (start_of entry) ≡ None = sym next.0.start ∙ is in cc
right_or_wrong last item entry late next is =
    not_first last (start_of entry) next.1 is.0 (at_start _ item (start_of entry) next.0.start is.1)
right_or_wrong last item entry early next is = not_both last (start_of entry) next.1 (at_start _ item (start_of entry) next.0.start is)
right_or_wrong last item entry (table fault) next is =
    let both = both_hold (entries_in item) next.0.rows is.1 in no_rows_fault both.0 entry.1 fault both.1 both.2

-- what holds of the start that there is
both_starts : {P Q : ℕ → Type 0} (item : Data) → IsSomeAnd (start_in item) P → IsSomeAnd (start_in item) Q → (start : ℕ) × P start × Q start
both_starts item p q = both_hold (start_in item) p q

-- and an item that is wrong is so in one way
one_wrong : (last : Option ℕ) (item : Data) (wrong other : Wrong) → IsWrong last item wrong → IsWrong last item other → wrong ≡ other
one_wrong last item form form is are = refl
one_wrong last item form late is are = absurd (never _ item is are.1)
one_wrong last item form early is are = absurd (never _ item is are)
one_wrong last item form (table fault) is are = absurd (never _ item is are.0)
one_wrong last item late form is are = absurd (never _ item are is.1)
one_wrong last item late late is are = refl
one_wrong last item late early is are = let both = both_starts item is.1 are in absurd (none_earlier last both.0 is.0 both.2)
one_wrong last item late (table fault) is are = let both = both_starts item is.1 are.0 in absurd (not_first last both.0 both.2 is.0 both.1)
one_wrong last item early form is are = absurd (never _ item are is)
one_wrong last item early late is are = let both = both_starts item are.1 is in absurd (none_earlier last both.0 are.0 both.2)
one_wrong last item early early is are = refl
one_wrong last item early (table fault) is are = let both = both_starts item is are.0 in absurd (not_both last both.0 both.2 both.1)
one_wrong last item (table fault) form is are = absurd (never _ item are is.0)
one_wrong last item (table fault) late is are = let both = both_starts item are.1 is.0 in absurd (not_first last both.0 both.2 are.0 both.1)
one_wrong last item (table fault) early is are = let both = both_starts item are is.0 in absurd (not_both last both.0 both.2 both.1)
one_wrong last item (table fault) (table other) is are =
    let both = both_hold (entries_in item) is.1 are.1 in ap table (one_rows_fault both.0 fault other both.1 both.2)

-- items stand for tables in order of time, behind a start
abbrev AreNext : Option ℕ → List Data → List Entry → Type 0
AreNext last [] [] = Unit {0}
AreNext last [] (entry ∷ entries) = ⊥
AreNext last (item ∷ items) [] = ⊥
AreNext last (item ∷ items) (entry ∷ entries) = IsNext last item entry × AreNext (Some (start_of entry)) items entries

-- the first item that is wrong stands at this place
abbrev IsWrongAt : Option ℕ → List Data → ℕ → Wrong → Type 0
IsWrongAt last [] at wrong = ⊥
IsWrongAt last (item ∷ items) zero wrong = IsWrong last item wrong
IsWrongAt last (item ∷ items) (suc at) wrong = (entry : Entry) × IsNext last item entry × IsWrongAt (Some (start_of entry)) items at wrong

-- where all are right, none is wrong
none_wrong : (last : Option ℕ) (items : List Data) (entries : List Entry) (at : ℕ) (wrong : Wrong) → AreNext last items entries → IsWrongAt last items at wrong → ⊥
none_wrong last [] entries at wrong are is = is
none_wrong last (item ∷ items) [] at wrong are is = are
none_wrong last (item ∷ items) (entry ∷ entries) zero wrong are is = right_or_wrong last item entry wrong are.0 is
none_wrong last (item ∷ items) (entry ∷ entries) (suc at) wrong are is =
    let same = one_entry item is.0 entry is.1.0 are.0.0 in
    none_wrong (Some (start_of entry)) items entries at wrong are.1
    (subst (λ (e : Entry). IsWrongAt (Some (start_of e)) items at wrong) same is.2)

-- a place, and what is wrong there
abbrev Found : Type 0
Found = ℕ × Wrong

one_found : (last : Option ℕ) (items : List Data) (at place : ℕ) (wrong other : Wrong) → IsWrongAt last items at wrong → IsWrongAt last items place other
    → ◌≡◌ {A = Found} (at, wrong) (place, other)
one_found last [] at place wrong other is are = absurd is
one_found last (item ∷ items) zero zero wrong other is are = let same = one_wrong last item wrong other is are in λ i. (0, same i)
one_found last (item ∷ items) zero (suc place) wrong other is are = absurd (right_or_wrong last item are.0 wrong are.1 is)
one_found last (item ∷ items) (suc at) zero wrong other is are = absurd (right_or_wrong last item is.0 other is.1 are)
one_found last (item ∷ items) (suc at) (suc place) wrong other is are =
    let same = one_entry item are.0 is.0 are.1.0 is.1.0 in
    let later = subst (λ (e : Entry). IsWrongAt (Some (start_of e)) items place other) same are.2 in
    ap (λ (found : Found). (suc found.0, found.1)) (one_found (Some (start_of is.0)) items at place wrong other is.2 later)

-- tables in order of time, one behind the other
next_on : (start : ℕ) (items : List Data) (entries : List Entry) → AllZip IsTableItem items entries → ascends nat_cmp (start ∷ map start_of entries) ≡ true
    → AreNext (Some start) items entries
next_on start [] [] each up = tt
next_on start [] (entry ∷ entries) each up = absurd each
next_on start (item ∷ items) [] each up = absurd each
next_on start (item ∷ items) (entry ∷ entries) each up =
    let parts = and_parts (is_lt (nat_cmp start (start_of entry))) (ascends nat_cmp (start_of entry ∷ map start_of entries)) up in
    ((each.0, below_of_less start (start_of entry) (lt_is_Less (nat_cmp start (start_of entry)) parts.0)), next_on (start_of entry) items entries each.1 parts.1)

all_next : (items : List Data) (entries : List Entry) → AllZip IsTableItem items entries → AreInTime entries → AreNext None items entries
all_next [] [] each times = tt
all_next [] (entry ∷ entries) each times = absurd each
all_next (item ∷ items) [] each times = absurd each
all_next (item ∷ items) (entry ∷ entries) each times =
    ((each.0, times.first), next_on (start_of entry) items entries each.1 times.rising)

-- an item that is wrong behind others that are right
wrong_behind : (before : Option Entry) (items : List Data) (at : ℕ) (entries : List Entry) (wrong : Wrong) → AreNext (option_map start_of before) (take at items) entries
    → IsSomeAnd (slice_get items at) (λ item. IsWrong (option_map start_of (last_or before entries)) item wrong)
    → IsWrongAt (option_map start_of before) items at wrong
wrong_behind before [] at entries wrong are some = absurd some
wrong_behind before (item ∷ items) zero [] wrong are some = some
wrong_behind before (item ∷ items) zero (entry ∷ entries) wrong are some = absurd are
wrong_behind before (item ∷ items) (suc at) [] wrong are some = absurd are
wrong_behind before (item ∷ items) (suc at) (entry ∷ entries) wrong are some =
    (entry, are.0, wrong_behind (Some entry) items at entries wrong are.1 some)

first_wrong : (items : List Data) (at : ℕ) (wrong : Wrong) → IsFirstAt IsTableItem items at (λ last item. IsWrong last item wrong) → IsWrongAt None items at wrong
first_wrong items at wrong is = wrong_behind None items at is.1 wrong (all_next (take at items) is.1 is.2 is.3) is.4

-- the first table starts too late
first_late : (items : List Data) → IsFirstAt IsTableItem items 0 (λ last item. IsSomeAnd (start_in item) (λ start. start ≢ 0)) → IsWrongAt None items 0 late
first_late [] is = absurd is.4
first_late (item ∷ items) is = (refl, is.4)

-- where the value of a text has its first fault: it has neither list, or one of rows with a fault, or one of tables, which has
-- none, or too many, or an item that is wrong
data Place : Type 0 where
  no_list : Place
  in_rows : TableFault → Place
  no_item : Place
  many_items : Place
  at_item : Found → Place

abbrev IsAt : Data → Place → Type 0
IsAt value no_list = (entries_in value ≡ None) × (tables_in value ≡ None)
IsAt value (in_rows fault) = IsSomeAnd (entries_in value) (λ entries. HasRowsFault entries fault)
IsAt value no_item = IsSomeAnd (tables_in value) (λ items. items ≡ [])
IsAt value many_items = IsSomeAnd (tables_in value) (λ items. max_tables < length items)
IsAt value (at_item found) = IsSomeAnd (tables_in value) (λ items. (length items ≤ max_tables) × IsWrongAt None items found.0 found.1)

abbrev fault_at : Place → TablesFault
fault_at no_list = NotRows
fault_at (in_rows fault) = InTable None fault
fault_at no_item = NoTables
fault_at many_items = TooManyTables
fault_at (at_item (at, form)) = BadEntry at
fault_at (at_item (at, late)) = FirstNotZero
fault_at (at_item (at, early)) = NotRising at
fault_at (at_item (at, table fault)) = InTable (Some at) fault

none_of_none : {T : Type 0} (P : T → Type 0) (o : Option T) → IsSomeAnd o P → o ≡ None → ⊥
none_of_none P o some none = subst (λ o. IsSomeAnd o P) none some

not_empty : (items : List Data) (at : ℕ) (wrong : Wrong) → IsWrongAt None items at wrong → items ≡ [] → ⊥
not_empty items at wrong is none = subst (λ items. IsWrongAt None items at wrong) none is

one_at : (value : Data) (place other : Place) → IsAt value place → IsAt value other → place ≡ other
one_at value no_list no_list is are = refl
one_at value no_list (in_rows fault) is are = absurd (none_of_none (λ entries. HasRowsFault entries fault) (entries_in value) are is.0)
one_at value no_list no_item is are = absurd (none_of_none (λ items. items ≡ []) (tables_in value) are is.1)
one_at value no_list many_items is are = absurd (none_of_none (λ items. max_tables < length items) (tables_in value) are is.1)
one_at value no_list (at_item found) is are =
    absurd (none_of_none (λ items. (length items ≤ max_tables) × IsWrongAt None items found.0 found.1) (tables_in value) are is.1)
one_at value (in_rows fault) no_list is are = absurd (none_of_none (λ entries. HasRowsFault entries fault) (entries_in value) is are.0)
one_at value (in_rows fault) (in_rows other) is are =
    let both = both_hold (entries_in value) is are in ap in_rows (one_rows_fault both.0 fault other both.1 both.2)
one_at value (in_rows fault) no_item is are = absurd (rows_or_tables value _ _ is are)
one_at value (in_rows fault) many_items is are = absurd (rows_or_tables value _ _ is are)
one_at value (in_rows fault) (at_item found) is are = absurd (rows_or_tables value _ _ is are)
one_at value no_item no_list is are = absurd (none_of_none (λ items. items ≡ []) (tables_in value) is are.1)
one_at value no_item (in_rows fault) is are = absurd (rows_or_tables value _ _ are is)
one_at value no_item no_item is are = refl
one_at value no_item many_items is are =
    let both = both_hold (tables_in value) is are in absurd (omega (arith, ap length both.1, both.2))
one_at value no_item (at_item found) is are =
    let both = both_hold (tables_in value) is are in absurd (not_empty both.0 found.0 found.1 both.2.1 both.1)
one_at value many_items no_list is are = absurd (none_of_none (λ items. max_tables < length items) (tables_in value) is are.1)
one_at value many_items (in_rows fault) is are = absurd (rows_or_tables value _ _ are is)
one_at value many_items no_item is are =
    let both = both_hold (tables_in value) is are in absurd (omega (arith, ap length both.2, both.1))
one_at value many_items many_items is are = refl
one_at value many_items (at_item found) is are =
    let both = both_hold (tables_in value) is are in absurd (omega (arith, both.1, both.2.0))
one_at value (at_item found) no_list is are =
    absurd (none_of_none (λ items. (length items ≤ max_tables) × IsWrongAt None items found.0 found.1) (tables_in value) is are.1)
one_at value (at_item found) (in_rows fault) is are = absurd (rows_or_tables value _ _ are is)
one_at value (at_item found) no_item is are =
    let both = both_hold (tables_in value) is are in absurd (not_empty both.0 found.0 found.1 both.1.1 both.2)
one_at value (at_item found) many_items is are =
    let both = both_hold (tables_in value) is are in absurd (omega (arith, both.2, both.1.0))
one_at value (at_item found) (at_item other) is are =
    let both = both_hold (tables_in value) is are in ap at_item (one_found None both.0 found.0 other.0 found.1 other.1 both.1.1 both.2.1)

-- a file's fault lies in its text, or in the value of its text, if it isn't want of memory
abbrev InText : List ℕ → TablesFault → Type 0
InText bytes fault = ((fault ≡ TooLong) × HasTextFault bytes text.TooLong) ⊎ ((fault ≡ NotJson) × HasTextFault bytes text.NotJson)

abbrev InValue : List ℕ → TablesFault → Type 0
InValue bytes fault = (place : Place) × (fault ≡ fault_at place) × (value : Data) × IsShortTextOf value bytes × IsAt value place

-- the same of a list of items that something else holds of
some_weaker : {T : Type 0} {P Q : T → Type 0} (o : Option T) → ((x : T) → P x → Q x) → IsSomeAnd o P → IsSomeAnd o Q
some_weaker None to some = absurd some
some_weaker (Some x) to some = to x some

wrong_item : (bytes : List ℕ) (at : ℕ) (wrong : Wrong) {P : List Data → Type 0} → ((items : List Data) → P items → (length items ≤ max_tables) × IsWrongAt None items at wrong)
    → HasItems bytes P → (value : Data) × IsShortTextOf value bytes × IsAt value (at_item (at, wrong))
wrong_item bytes at wrong to is = (is.0, is.1, some_weaker (tables_in is.0) to is.2)

located : (bytes : List ℕ) (fault : TablesFault) → HasTablesFault bytes fault → (fault ≡ Memory) ⊎ (InText bytes fault ⊎ InValue bytes fault)
located bytes Memory is = inl refl
located bytes TooLong is = inr (inl (inl (refl, is)))
located bytes NotJson is = inr (inl (inr (refl, is)))
located bytes NotRows is = inr (inr (no_list, refl, is.0, is.1, (is.2, is.3)))
located bytes (InTable None fault) is = inr (inr (in_rows fault, refl, is.0, is.1, is.2))
located bytes NoTables is = inr (inr (no_item, refl, is.0, is.1, is.2))
located bytes TooManyTables is = inr (inr (many_items, refl, is.0, is.1, is.2))
located bytes (BadEntry at) is =
    let found = wrong_item bytes at form (λ items first. (first.0, first_wrong items at form first)) is in
    inr (inr (at_item (at, form), refl, found.0, found.1, found.2))
located bytes FirstNotZero is =
    let found = wrong_item bytes 0 late (λ items first. (first.0, first_late items first)) is in
    inr (inr (at_item (0, late), refl, found.0, found.1, found.2))
located bytes (NotRising at) is =
    let found = wrong_item bytes at early (λ items first. (first.0, first_wrong items at early first)) is in
    inr (inr (at_item (at, early), refl, found.0, found.1, found.2))
located bytes (InTable (Some at) fault) is =
    let found = wrong_item bytes at (table fault) (λ items first. (first.0, first_wrong items at (table fault) first)) is in
    inr (inr (at_item (at, table fault), refl, found.0, found.1, found.2))

no_text : (bytes : List ℕ) (fault : TablesFault) (value : Data) → InText bytes fault → IsShortTextOf value bytes → ⊥
no_text bytes fault value is short = ⊎_elim (λ long. omega (arith, long.1, short.0)) (λ none. none.1.1 value short.1) is

one_text : (bytes : List ℕ) (fault other : TablesFault) → InText bytes fault → InText bytes other → fault ≡ other
one_text bytes fault other is are = ⊎_elim
    (λ long. ⊎_elim (λ too. long.0 ∙ sym too.0) (λ none. absurd (omega (arith, long.1, none.1.0))) are)
    (λ none. ⊎_elim (λ long. absurd (omega (arith, long.1, none.1.0))) (λ too. none.0 ∙ sym too.0) are)
    is

one_value : (bytes : List ℕ) (fault other : TablesFault) → InValue bytes fault → InValue bytes other → fault ≡ other
one_value bytes fault other is are =
    let here = subst (λ value. IsAt value are.0) (same_value bytes is.2 are.2 is.3 are.3) are.4 in
    is.1 ∙ ap fault_at (one_at is.2 is.0 are.0 is.4 here) ∙ sym are.1

-- a file has one first fault
pub one_tables_fault : (bytes : List ℕ) (fault other : TablesFault) → HasTablesFault bytes fault → HasTablesFault bytes other
    → (fault ≡ Memory) ⊎ ((other ≡ Memory) ⊎ (fault ≡ other))
one_tables_fault bytes fault other is are = ⊎_elim
    (λ memory. inl memory)
    (λ said. inr (⊎_elim (λ memory. inl memory) (λ too. inr (same said too)) (located bytes other are)))
    (located bytes fault is)
  where
    same : InText bytes fault ⊎ InValue bytes fault → InText bytes other ⊎ InValue bytes other → fault ≡ other
    same (inl said) (inl too) = one_text bytes fault other said too
    same (inl said) (inr too) = absurd (no_text bytes fault too.2 said too.3)
    same (inr said) (inl too) = absurd (no_text bytes other said.2 too said.3)
    same (inr said) (inr too) = one_value bytes fault other said too

-- the value of a text that stands for tables
abbrev StandsFor : Data → List Entry → Type 0
StandsFor value entries =
    ((rows : List Row) × IsSomeAnd (entries_in value) (λ list. AreTableOf list rows)) ⊎ IsSomeAnd (tables_in value) (λ items. AreTablesOf items entries)

value_of : (bytes : List ℕ) (entries : List Entry) → HasTables bytes entries → (value : Data) × IsShortTextOf value bytes × StandsFor value entries
value_of bytes entries (inl is) = (is.file.0, is.file.1, inl (is.rows, is.file.2))
value_of bytes entries (inr is) = (is.0, is.1, inr is.2)

-- items that stand for tables have no fault
right_items : (items : List Data) (entries : List Entry) (found : Found) → AreTablesOf items entries → IsWrongAt None items found.0 found.1 → ⊥
right_items items entries found are is = none_wrong None items entries found.0 found.1 (all_next items entries are.each are.timed.times) is

-- and neither has such a value
nowhere : (value : Data) (entries : List Entry) (place : Place) → StandsFor value entries → IsAt value place → ⊥
nowhere value entries no_list (inl (rows, has)) is = none_of_none (λ list. AreTableOf list rows) (entries_in value) has is.0
nowhere value entries (in_rows fault) (inl (rows, has)) is =
    let both = both_hold (entries_in value) has is in no_rows_fault both.0 rows fault both.1 both.2
nowhere value entries no_item (inl (rows, has)) is = rows_or_tables value _ _ has is
nowhere value entries many_items (inl (rows, has)) is = rows_or_tables value _ _ has is
nowhere value entries (at_item found) (inl (rows, has)) is = rows_or_tables value _ _ has is
nowhere value entries no_list (inr has) is = none_of_none (λ items. AreTablesOf items entries) (tables_in value) has is.1
nowhere value entries (in_rows fault) (inr has) is = rows_or_tables value _ _ is has
nowhere value entries no_item (inr has) is =
    let both = both_hold (tables_in value) has is in
    omega (arith, AllZip-long IsTableItem both.0 entries both.1.each, ap length both.2, both.1.timed.some)
nowhere value entries many_items (inr has) is =
    let both = both_hold (tables_in value) has is in
    omega (arith, AllZip-long IsTableItem both.0 entries both.1.each, both.2, both.1.timed.few)
nowhere value entries (at_item found) (inr has) is =
    let both = both_hold (tables_in value) has is in right_items both.0 entries found both.1 both.2.1

-- a file of tables has no fault
pub no_tables_fault : (bytes : List ℕ) (entries : List Entry) (fault : TablesFault) → HasTables bytes entries → HasTablesFault bytes fault → fault ≡ Memory
no_tables_fault bytes entries fault is are = ⊎_elim (λ memory. memory) (λ said. absurd (none said)) (located bytes fault are) where
  none : InText bytes fault ⊎ InValue bytes fault → ⊥
  none (inl said) = let has = value_of bytes entries is in no_text bytes fault has.0 said has.1
  none (inr said) =
      let has = value_of bytes entries is in
      nowhere has.0 entries said.0 has.2 (subst (λ value. IsAt value said.0) (same_value bytes has.0 said.2 has.1 said.3) said.4)
