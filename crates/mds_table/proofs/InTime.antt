-- Tables in order of time, one more at a time, and what keeps one from coming next.
use Rattle.std.proofs.Common.{◌≡◌, ℕ, suc, ◌+◌, ◌<◌, ◌≤◌, List, [], ◌∷◌, ◌++◌, length, take, map, get_or, slice_get, true, false, Option, Some, None, option_map, nat_lt, nat_le, refl, sym, ◌∙◌, ap, subst, arith}
use Rattle.std.specs.List.{All, AllZip, last_or}
use Rattle.std.specs.Option.{IsSomeAnd}
use Rattle.std.specs.Ordering.{nat_cmp, is_lt}
use Rattle.std.proofs.lemmas.Bool.{and_parts}
use Rattle.std.proofs.lemmas.Bool.Decides.{nat_tests}
use Rattle.std.proofs.lemmas.List.{map_push, length-take, take_more}
use Rattle.std.proofs.lemmas.List.Elements.{All-push}
use Rattle.std.proofs.lemmas.Option.{slice_get_within, slice_get_read}
use Rattle.std.proofs.lemmas.Slice.Zip.{AllZip-long}
use Rattle.mds_table.specs.declared.table_file.TableFault.{TableFault}
use Rattle.mds_table.specs.declared.tables_fault.TablesFault.{TablesFault}
use Rattle.mds_table.specs.declared.tables_fault.TablesFault.TheVariants.{BadEntry}
use Rattle.mds_table.specs.Row.{ascends}
use Rattle.mds_table.specs.Json.{max_time}
use Rattle.mds_table.specs.Tables.{Entry, start_of}
use Rattle.mds_table.specs.Timed.{max_tables, AreInTime}
use Rattle.mds_table.specs.TimedFile.{start_told, Follows, IsFirstAt, HasListFault, HasTimesFault}
use Rattle.mds_table.specs.TimedRead.{IsStartFault}

-- the last of a list with one more is that one
pub last_push : {A : Type 0} (o : Option A) (xs : List A) (x : A) → last_or o (xs ++ x ∷ []) ≡ Some x
last_push o [] x = refl
last_push o (y ∷ ys) x = last_push (Some y) ys x

last_map : {A B : Type 0} (f : A → B) (o : Option A) (xs : List A) → option_map f (last_or o xs) ≡ last_or (option_map f o) (map f xs)
last_map f o [] = refl
last_map f o (x ∷ xs) = last_map f (Some x) xs

below_is_lt : (x y : ℕ) → x < y → is_lt (nat_cmp x y) ≡ true
below_is_lt x y less = let test : nat_lt x y ≡ true = grind (arith, nat_tests) in rw test refl

-- times that rise still do with a later one behind
rising_push : (x : ℕ) (xs : List ℕ) (time : ℕ) → ascends nat_cmp (x ∷ xs) ≡ true → IsSomeAnd (last_or (Some x) xs) (λ last. last < time)
    → ascends nat_cmp ((x ∷ xs) ++ time ∷ []) ≡ true
rising_push x [] time up later = rw (below_is_lt x time later) refl
rising_push x (y ∷ ys) time up later =
    let parts = and_parts (is_lt (nat_cmp x y)) (ascends nat_cmp (y ∷ ys)) up in
    rw (parts.0, rising_push y ys time parts.1 later) refl

-- behind some time the next is later than the last
follows_last : (x : ℕ) (xs : List ℕ) (time : ℕ) → Follows (last_or (Some x) xs) time → IsSomeAnd (last_or (Some x) xs) (λ last. last < time)
follows_last x [] time follows = follows
follows_last x (y ∷ ys) time follows = follows_last y ys time follows

-- a table that may start next
pub in_time_push : (before : List Entry) (entry : Entry) → AreInTime before → Follows (option_map start_of (last_or None before)) (start_of entry)
    → start_of entry ≤ max_time → AreInTime (before ++ entry ∷ [])
in_time_push [] entry times follows late = record {
  first = follows;
  rising = refl;
  in_range = All-push (λ start. start ≤ max_time) [] (start_of entry) times.in_range late;
}
in_time_push (x ∷ xs) entry times follows late = record {
  first = times.first;
  rising = subst (λ starts. ascends nat_cmp starts ≡ true) (sym (map_push start_of (x ∷ xs) entry)) (rising_push (start_of x) (map start_of xs) (start_of entry) times.rising later);
  in_range = subst (All (λ start. start ≤ max_time)) (sym (map_push start_of (x ∷ xs) entry))
      (All-push (λ start. start ≤ max_time) (map start_of (x ∷ xs)) (start_of entry) times.in_range late);
} where
  later : IsSomeAnd (last_or (Some (start_of x)) (map start_of xs)) (λ last. last < start_of entry)
  later = follows_last (start_of x) (map start_of xs) (start_of entry) (subst (λ last. Follows last (start_of entry)) (last_map start_of (Some x) xs) follows)

-- one more item and its table
pub entries_push : {X : Type 0} (IsEntryOf : X → Entry → Type 0) (items : List X) (entries : List Entry) (item : X) (entry : Entry)
    → AllZip IsEntryOf items entries → IsEntryOf item entry → AllZip IsEntryOf (items ++ item ∷ []) (entries ++ entry ∷ [])
entries_push IsEntryOf [] [] item entry are is = (is, tt)
entries_push IsEntryOf [] (e ∷ es) item entry are is = absurd are
entries_push IsEntryOf (i ∷ rest) [] item entry are is = absurd are
entries_push IsEntryOf (i ∷ rest) (e ∷ es) item entry are is = (are.0, entries_push IsEntryOf rest es item entry are.1 is)

-- tables that are there stand for themselves
pub own_entries : (entries : List Entry) → AllZip (λ told entry. entry ≡ told) entries entries
own_entries [] = tt
own_entries (e ∷ es) = (refl, own_entries es)

pub some_and : {A : Type 0} (P : A → Type 0) (o : Option A) (x : A) → o ≡ Some x → P x → IsSomeAnd o P
some_and P o x is holds = subst (λ o. IsSomeAnd o P) (sym is) holds

-- without a last table there is none
none_before : (before : List Entry) → option_map start_of (last_or None before) ≡ None → length before ≡ 0
none_before [] is = refl
none_before (x ∷ xs) is = absurd (some_last x xs is) where
  some_last : (x : Entry) (xs : List Entry) → option_map start_of (last_or (Some x) xs) ≡ None → ⊥
  some_last x [] is = cc
  some_last x (y ∷ ys) is = some_last y ys is

module _ {X : Type 0} (IsEntryOf : X → Entry → Type 0) (start_in : X → Option ℕ) (HasFaultIn : X → TableFault → Type 0) (items : List X) where
  -- a start that can't come next
  pub start_fault : (at : ℕ) (before : List Entry) (item : X) (start : ℕ) (last : Option ℕ) (fault : TablesFault) → length items ≤ max_tables
      → slice_get items at ≡ Some item → AllZip IsEntryOf (take at items) before → AreInTime before → last ≡ option_map start_of (last_or None before)
      → start_in item ≡ Some start → IsStartFault at last start fault → HasListFault IsEntryOf start_in HasFaultIn items fault
  start_fault at before item start None fault few here are times is told wrong =
      let first : at ≡ 0 = omega (arith, none_before before (sym is), AllZip-long IsEntryOf (take at items) before are, length-take at items, slice_get_within items at item here) in
      subst (HasListFault IsEntryOf start_in HasFaultIn items) (sym wrong.0)
      (subst (λ n. IsFirstAt IsEntryOf items n (λ last item. IsSomeAnd (start_in item) (λ start. start ≡ 0 → ⊥))) first (
        few,
        before,
        are,
        times,
        some_and (λ item. IsSomeAnd (start_in item) (λ start. start ≡ 0 → ⊥)) (slice_get items at) item here (some_and (λ start. start ≡ 0 → ⊥) (start_in item) start told wrong.1),
      ))
  start_fault at before item start (Some earlier) fault few here are times is told wrong =
      let last : Option ℕ = option_map start_of (last_or None before) in
      subst (HasListFault IsEntryOf start_in HasFaultIn items) (sym wrong.0) (
        few,
        before,
        are,
        times,
        some_and (λ item. IsSomeAnd (start_in item) (λ start. IsSomeAnd last (λ earlier. start ≤ earlier))) (slice_get items at) item here
            (some_and (λ start. IsSomeAnd last (λ earlier. start ≤ earlier)) (start_in item) start told (some_and (λ earlier. start ≤ earlier) last earlier (sym is) wrong.1)),
      )

pub le_true : (x y : ℕ) → x ≤ y → nat_le x y ≡ true
le_true x y early = grind (arith, nat_tests)

pub le_false : (x y : ℕ) → y < x → nat_le x y ≡ false
le_false x y late = grind (arith, nat_tests)

-- a table that is there, at its place
module _ (entries : List Entry) (at : ℕ) (entry : Entry) (within : at < length entries) (is : entry ≡ get_or entries at entry) where
  here : slice_get entries at ≡ Some entry
  here = slice_get_read entries (length entries) at entry refl within is

  more : take (at + 1) entries ≡ take at entries ++ entry ∷ []
  more = take_more entries at entry within ∙ ap (λ e. take at entries ++ e ∷ []) (sym is)

  -- it starts past the latest time
  pub late_fault : length entries ≤ max_tables → AreInTime (take at entries) → max_time < start_of entry → HasTimesFault entries (BadEntry at)
  late_fault few times late = (
    few,
    take at entries,
    own_entries (take at entries),
    times,
    some_and (λ told. start_told told ≡ None) (slice_get entries at) entry here (rw (le_false (start_of entry) max_time late) refl),
  )

  -- it can't come next
  pub early_fault : (last : Option ℕ) (fault : TablesFault) → length entries ≤ max_tables → AreInTime (take at entries)
      → last ≡ option_map start_of (last_or None (take at entries)) → start_of entry ≤ max_time → IsStartFault at last (start_of entry) fault → HasTimesFault entries fault
  early_fault last fault few times end early wrong =
      let told : start_told entry ≡ Some (start_of entry) = rw (le_true (start_of entry) max_time early) refl in
      start_fault (λ told entry. entry ≡ told) start_told (λ told fault. ⊥) entries at (take at entries) entry (start_of entry) last fault few here (own_entries (take at entries)) times end told wrong

  -- it comes next
  pub next_in_time : (last : Option ℕ) → AreInTime (take at entries) → last ≡ option_map start_of (last_or None (take at entries)) → start_of entry ≤ max_time
      → Follows last (start_of entry) → AreInTime (take (at + 1) entries)
  next_in_time last times end early follows =
      subst AreInTime (sym more) (in_time_push (take at entries) entry times (subst (λ last. Follows last (start_of entry)) end follows) early)

  pub next_last : Some (start_of entry) ≡ option_map start_of (last_or None (take (at + 1) entries))
  next_last = sym (ap (λ xs. option_map start_of (last_or None xs)) more ∙ ap (option_map start_of) (last_push None (take at entries) entry))
