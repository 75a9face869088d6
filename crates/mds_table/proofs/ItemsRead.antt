-- The items of a file of tables, read one at a time.
use Rattle.std.proofs.Common.{◌≡◌, ℕ, ◌+◌, ◌≤◌, List, ◌∷◌, [], ◌++◌, codes, length, take, slice_get, Bool, true, false, if◌then◌else◌, nat_le, Option, Some, None, option_map, option_and_then, refl, sym, ◌∙◌, ap, subst, inl, inr, ⊎_elim, leb-true, arith}
use Rattle.std.specs.List.{AllZip, last_or}
use Rattle.std.specs.Option.{IsSomeAnd}
use Rattle.std.proofs.lemmas.Slice.Zip.{AllZip-long}
use Rattle.serde_json.specs.Data.{Data}
use Rattle.serde_json.specs.Find.{get, as_number, as_u64}
use Rattle.mds_table.specs.declared.row.Row.{Row}
use Rattle.mds_table.specs.declared.tables_fault.TablesFault.{TablesFault}
use Rattle.mds_table.specs.declared.tables_fault.TablesFault.TheVariants.{BadEntry}
use Rattle.mds_table.specs.Json.{max_time, time_in}
use Rattle.mds_table.specs.TableFile.{entries_in, AreTableOf, HasRowsFault}
use Rattle.mds_table.specs.Tables.{Entry, start_of}
use Rattle.mds_table.specs.Timed.{max_tables, AreInTime, AreTimed}
use Rattle.mds_table.specs.TimedFile.{Follows, start_in, IsTableItem, HasItemFault, HasItemsFault}
use Rattle.mds_table.specs.TimedRead.{IsStartFault, IsTableFault, IsItemsFault}
use Rattle.mds_table.proofs.InTime.{some_and, start_fault, in_time_push, entries_push, last_push}

-- a start that is read isn't past the latest time
start_early : (item : Data) (start : ℕ) → start_in item ≡ Some start → start ≤ max_time
start_early item start is = by_time (get (codes "from_time") item) (entries_in item) is where
  by_test : (b : Bool) (time : ℕ) (rows : Option (List Data)) → (b ≡ true → time ≤ max_time)
      → option_and_then (λ time. option_map (λ rows. time) rows) (if b then Some time else None) ≡ Some start → start ≤ max_time
  by_test false time rows fits is = cc
  by_test true time None fits is = cc
  by_test true time (Some list) fits is = let same : time ≡ start = cc in subst (λ n. n ≤ max_time) same (fits refl)

  by_number : (number : Option ℕ) (rows : Option (List Data))
      → option_and_then (λ time. option_map (λ rows. time) rows) (option_and_then (λ time. if nat_le time max_time then Some time else None) number) ≡ Some start → start ≤ max_time
  by_number None rows is = cc
  by_number (Some time) rows is = by_test (nat_le time max_time) time rows (leb-true time max_time) is

  by_time : (time : Option Data) (rows : Option (List Data)) → option_and_then (λ time. option_map (λ rows. time) rows) (option_and_then time_in time) ≡ Some start → start ≤ max_time
  by_time None rows is = cc
  by_time (Some d) rows is = by_number (option_and_then as_u64 (as_number d)) rows is

-- all items are read
pub all_timed : (items : List Data) (at : ℕ) (entries : List Entry) → AllZip IsTableItem (take at items) entries → take at items ≡ items
    → 1 ≤ length items → length items ≤ max_tables → AreInTime entries → AreTimed entries
all_timed items at entries are whole some few times =
    let count : length entries ≡ length items = AllZip-long IsTableItem (take at items) entries are ∙ ap length whole in
    record { some = omega (arith, count, some); few = omega (arith, count, few); times = times }

module _ (items : List Data) (at : ℕ) (entries : List Entry) (item : Data) (few : length items ≤ max_tables) (here : slice_get items at ≡ Some item)
    (are : AllZip IsTableItem (take at items) entries) (times : AreInTime entries) where
  -- an item that isn't of the right form
  pub bad_item : start_in item ≡ None → IsItemsFault items (BadEntry at)
  bad_item none = inr (few, entries, are, times, some_and (λ item. start_in item ≡ None) (slice_get items at) item here none)

  module _ (last : Option ℕ) (end : last ≡ option_map start_of (last_or None entries)) (start : ℕ) (told : start_in item ≡ Some start) where
    -- an item that can't come next
    pub wrong_start : (fault : TablesFault) → IsStartFault at last start fault → IsItemsFault items fault
    wrong_start fault wrong = inr (start_fault IsTableItem start_in HasItemFault items at entries item start last fault few here are times end told wrong)

    follows_end : Follows last start → Follows (option_map start_of (last_or None entries)) start
    follows_end follows = subst (λ last. Follows last start) end follows

    -- an item whose rows have a fault
    pub wrong_rows : (rows : List Data) (fault : TablesFault) → Follows last start → entries_in item ≡ Some rows → IsTableFault (Some at) rows fault → IsItemsFault items fault
    wrong_rows rows fault follows is wrong = ⊎_elim
        (λ memory. inl memory)
        (λ said. inr (subst (HasItemsFault items) (sym said.1) (
          few,
          entries,
          are,
          times,
          some_and (λ item. IsSomeAnd (start_in item) (Follows (option_map start_of (last_or None entries))) × HasItemFault item said.0) (slice_get items at) item here (
            some_and (Follows (option_map start_of (last_or None entries))) (start_in item) start told (follows_end follows),
            some_and (λ rows. HasRowsFault rows said.0) (entries_in item) rows is said.2,
          ),
        )))
        wrong

    -- one more item and its table
    pub next_times : (table : List Row) → Follows last start → AreInTime (entries ++ (start, table) ∷ [])
    next_times table follows = in_time_push entries (start, table) times (follows_end follows) (start_early item start told)

    pub next_items : (rows : List Data) (table : List Row) → entries_in item ≡ Some rows → AreTableOf rows table → take (at + 1) items ≡ take at items ++ item ∷ []
        → AllZip IsTableItem (take (at + 1) items) (entries ++ (start, table) ∷ [])
    next_items rows table is read more =
        subst (λ front. AllZip IsTableItem front (entries ++ (start, table) ∷ [])) (sym more)
        (entries_push IsTableItem (take at items) entries item (start, table) are (record { start = told; rows = some_and (λ rows. AreTableOf rows table) (entries_in item) rows is read }))

-- the last start after one more
pub next_end : (entries : List Entry) (entry : Entry) → Some (start_of entry) ≡ option_map start_of (last_or None (entries ++ entry ∷ []))
next_end entries entry = sym (ap (option_map start_of) (last_push None entries entry))
