-- The table in force at a time.
use Rattle.std.proofs.Common.{◌≡◌, ℕ, zero, suc, ◌+◌, ◌-◌, ◌<◌, ◌≤◌, List, [], ◌∷◌, length, map, get_or, Bool, true, false, Option, Some, None, option_map, unwrap_or, filter, refl, sym, ◌∙◌, ap, ⊎_elim, arith}
use Rattle.std.specs.List.{Contains, last_or, AllWithin}
use Rattle.std.specs.List.Sorted.{IsNonDecreasingBy, IsPartitionedBy, IsPartitionPoint}
use Rattle.std.specs.Ordering.{nat_cmp}
use Rattle.std.specs.declared.cmp.Ordering.TheVariants.{Less}
use Rattle.std.proofs.lemmas.Bool.{cases_lt}
use Rattle.std.proofs.lemmas.Cmp.{nat_cmp_total, ranked}
use Rattle.std.proofs.lemmas.List.{get_or-map, length-map}
use Rattle.std.proofs.lemmas.List.Elements.{Contains-get_or}
use Rattle.std.proofs.lemmas.List.Sorted.{IsPartitionedBy-leb}
use Rattle.mds_table.specs.Row.{ascends}
use Rattle.mds_table.specs.Tables.{Entry, start_of, rows_of, has_started, rows_at}
use Rattle.mds_table.specs.Timed.{AreTimed, IsLatest}
use Rattle.mds_table.proofs.Ascending.{Contains-tail, head_or_tail}
use Rattle.mds_table.proofs.OneTable.{before_all, rest_ascends}
use Rattle.mds_table.proofs.InTime.{le_true, le_false}

-- none has started: the last of those that have is the one before
none_started : {A : Type 0} (p : A → Bool) (o : Option A) (xs : List A) → ((k : ℕ) (d : A) → k < length xs → p (get_or xs k d) ≡ false) → last_or o (filter p xs) ≡ o
none_started p o [] none = refl
none_started p o (x ∷ xs) none =
    let here : p x ≡ false = none 0 x (omega arith) in
    rw here (none_started p o xs (λ k d within. none (suc k) d (omega arith)))

-- those up to a place have started, and none behind it
last_started : {A : Type 0} (p : A → Bool) (o : Option A) (xs : List A) (n : ℕ) (e : A) → n < length xs → ((k : ℕ) (d : A) → k ≤ n → p (get_or xs k d) ≡ true)
    → ((k : ℕ) (d : A) → n < k → k < length xs → p (get_or xs k d) ≡ false) → last_or o (filter p xs) ≡ Some (get_or xs n e)
last_started p o [] n e within below above = absurd (omega arith)
last_started p o (x ∷ xs) zero e within below above =
    let here : p x ≡ true = below 0 x (omega arith) in
    rw here (none_started p (Some x) xs (λ k d inside. above (suc k) d (omega arith) (omega arith)))
last_started p o (x ∷ xs) (suc n) e within below above =
    let here : p x ≡ true = below 0 x (omega arith) in
    rw here (last_started p (Some x) xs n e (omega arith) (λ k d low. below (suc k) d (omega arith)) (λ k d low high. above (suc k) d (omega arith) (omega arith)))

-- the rows in force are those of the entry before the first that hasn't started
pub rows_at_place : (entries : List Entry) (time n : ℕ) (e : Entry) → n < length entries → AllWithin (λ entry. has_started time entry ≡ true) entries 0 (n + 1)
    → AllWithin (λ entry. has_started time entry ≡ false) entries (n + 1) (length entries) → rows_at entries time ≡ rows_of (get_or entries n e)
rows_at_place entries time n e within below above =
    rw (last_started (has_started time) None entries n e within (λ k d low. below k d (omega arith) (omega arith)) (λ k d low high. above k d (omega arith) high)) refl

pub below_of_less : (x y : ℕ) → nat_cmp x y ≡ Less → x < y
below_of_less x y is = ranked x y Less (sym is)

-- a table that starts first starts before every other
first_start : (entry : Entry) (rest : List Entry) → ascends nat_cmp (map start_of (entry ∷ rest)) ≡ true → (other : Entry) → Contains rest other → start_of entry < start_of other
first_start entry rest up other there =
    below_of_less (start_of entry) (start_of other) (before_all nat_cmp_total (start_of entry) (map start_of rest) up (start_of other) (start_there rest other there))
  where
    start_there : (rest : List Entry) (other : Entry) → Contains rest other → Contains (map start_of rest) (start_of other)
    start_there rest other there = (there.0, omega (arith, there.1, length-map rest start_of), get_or-map start_of rest there.0 other (start_of other) there.1 ∙ ap start_of there.2)

starts_from : (y : Entry) (ys : List Entry) → ascends nat_cmp (map start_of (y ∷ ys)) ≡ true → (other : Entry) → Contains (y ∷ ys) other → start_of y ≤ start_of other
starts_from y ys up other there = ⊎_elim
    (λ later. let less : start_of y < start_of other = first_start y ys up other later in omega (arith, less))
    (λ is. let same : start_of other ≡ start_of y = ap start_of is in omega (arith, same))
    (head_or_tail other y ys there)

-- one table starts at a time
same_start : (entries : List Entry) (a b : Entry) → ascends nat_cmp (map start_of entries) ≡ true → Contains entries a → Contains entries b → start_of a ≡ start_of b → a ≡ b
same_start [] a b up a_there b_there same = absurd (omega (arith, a_there.1))
same_start (x ∷ xs) a b up a_there b_there same = ⊎_elim
    (λ a_later. ⊎_elim
    (λ b_later. same_start xs a b (rest_ascends nat_cmp (start_of x) (map start_of xs) up) a_later b_later same)
    (λ b_is.
    let less : start_of x < start_of a = first_start x xs up a a_later in
    let is : start_of b ≡ start_of x = ap start_of b_is in absurd (omega (arith, less, is, same)))
    (head_or_tail b x xs b_there))
    (λ a_is. ⊎_elim
    (λ b_later.
    let less : start_of x < start_of b = first_start x xs up b b_later in
    let is : start_of a ≡ start_of x = ap start_of a_is in absurd (omega (arith, less, is, same)))
    (λ b_is. a_is ∙ sym b_is)
    (head_or_tail b x xs b_there))
    (head_or_tail a x xs a_there)

-- the last table that has started is the latest
latest : (e : Entry) (xs : List Entry) (time : ℕ) → ascends nat_cmp (map start_of (e ∷ xs)) ≡ true → start_of e ≤ time
    → (x : Entry) × IsLatest (e ∷ xs) time x × (last_or (Some e) (filter (has_started time) xs) ≡ Some x)
latest e [] time up started = (
  e,
  record {
    there = (0, omega arith, refl);
    started = started;
    greatest = λ other there early. ⊎_elim
        (λ later. absurd (omega (arith, later.1)))
        (λ is. let same : start_of other ≡ start_of e = ap start_of is in omega (arith, same))
        (head_or_tail other e [] there);
  },
  refl,
)
latest e (y ∷ ys) time up started = ⊎_elim not_yet (λ early. yes early (latest y ys time rising early)) (cases_lt time (start_of y)) where
  rising : ascends nat_cmp (map start_of (y ∷ ys)) ≡ true
  rising = rest_ascends nat_cmp (start_of e) (map start_of (y ∷ ys)) up

  later_false : time < start_of y → (k : ℕ) (d : Entry) → k < length (y ∷ ys) → has_started time (get_or (y ∷ ys) k d) ≡ false
  later_false late k d within =
      let from : start_of y ≤ start_of (get_or (y ∷ ys) k d) = starts_from y ys rising (get_or (y ∷ ys) k d) (Contains-get_or (y ∷ ys) k d within) in
      le_false (start_of (get_or (y ∷ ys) k d)) time (omega (arith, from, late))

  not_yet : time < start_of y → (x : Entry) × IsLatest (e ∷ y ∷ ys) time x × (last_or (Some e) (filter (has_started time) (y ∷ ys)) ≡ Some x)
  not_yet late = (
    e,
    record {
      there = (0, omega arith, refl);
      started = started;
      greatest = λ other there early. ⊎_elim
          (λ later. let from : start_of y ≤ start_of other = starts_from y ys rising other later in absurd (omega (arith, from, late, early)))
          (λ is. let same : start_of other ≡ start_of e = ap start_of is in omega (arith, same))
          (head_or_tail other e (y ∷ ys) there);
    },
    none_started (has_started time) (Some e) (y ∷ ys) (later_false late),
  )

  yes : start_of y ≤ time → (x : Entry) × IsLatest (y ∷ ys) time x × (last_or (Some y) (filter (has_started time) ys) ≡ Some x)
      → (x : Entry) × IsLatest (e ∷ y ∷ ys) time x × (last_or (Some e) (filter (has_started time) (y ∷ ys)) ≡ Some x)
  yes early found =
      let first : start_of e < start_of y = first_start e (y ∷ ys) up y (0, omega arith, refl) in
      let is = found.1 in
      let after : start_of y ≤ start_of found.0 = is.greatest y (0, omega arith, refl) early in (
        found.0,
        record {
          there = Contains-tail found.0 e (y ∷ ys) is.there;
          started = is.started;
          greatest = λ other there soon. ⊎_elim
              (λ later. is.greatest other later soon)
              (λ same. let start : start_of other ≡ start_of e = ap start_of same in omega (arith, start, first, after))
              (head_or_tail other e (y ∷ ys) there);
        },
        rw (le_true (start_of y) time early) found.2,
      )

-- at each time there is a latest table, whose rows are in force
pub latest_in_force : (entries : List Entry) (time : ℕ) → AreTimed entries
    → ((entry : Entry) × IsLatest entries time entry) × ((entry : Entry) → IsLatest entries time entry → rows_at entries time ≡ rows_of entry)
latest_in_force [] time timed = absurd (omega (arith, timed.some))
latest_in_force (e ∷ xs) time timed =
    let first : start_of e ≡ 0 = timed.times.first in
    let started : start_of e ≤ time = omega (arith, first) in
    let found = latest e xs time timed.times.rising started in
    let rows : rows_at (e ∷ xs) time ≡ rows_of found.0 = rw (le_true (start_of e) time started) (ap (λ o. unwrap_or (option_map rows_of o) []) found.2) in (
      (found.0, found.1),
      λ entry is.
          let low : start_of entry ≤ start_of found.0 = found.1.greatest entry is.there is.started in
          let high : start_of found.0 ≤ start_of entry = is.greatest found.0 found.1.there found.1.started in
          rows ∙ ap rows_of (sym (same_start (e ∷ xs) entry found.0 timed.times.rising is.there found.1.there (omega (arith, low, high)))),
    )

non_decreasing : (entries : List Entry) → ascends nat_cmp (map start_of entries) ≡ true → IsNonDecreasingBy start_of entries
non_decreasing [] up i j d low within = absurd (omega (arith, within))
non_decreasing (x ∷ xs) up zero j d low within = starts_from x xs up (get_or (x ∷ xs) j d) (Contains-get_or (x ∷ xs) j d within)
non_decreasing (x ∷ xs) up (suc i) zero d low within = absurd (omega (arith, low))
non_decreasing (x ∷ xs) up (suc i) (suc j) d low within = non_decreasing xs (rest_ascends nat_cmp (start_of x) (map start_of xs) up) i j d (omega (arith, low)) (omega (arith, within))

-- those that have started stand in front
pub started_in_front : (entries : List Entry) (time : ℕ) → AreTimed entries → IsPartitionedBy (has_started time) entries
started_in_front entries time timed = IsPartitionedBy-leb start_of entries time (non_decreasing entries timed.times.rising)

-- up to this place tables have started, and none from it on
abbrev pub IsSplit : List Entry → ℕ → ℕ → Type 0
IsSplit entries time n = IsPartitionPoint (λ entry. has_started time entry ≡ true) (λ entry. has_started time entry ≡ false) entries n

-- the first table has always started
pub one_started : (entries : List Entry) (time n : ℕ) → AreTimed entries → IsSplit entries time n → 1 ≤ n
one_started [] time n timed split = absurd (omega (arith, timed.some))
one_started (e ∷ xs) time zero timed split =
    let none : has_started time e ≡ false = split.1 0 e (omega arith) (omega arith) in
    let first : start_of e ≡ 0 = timed.times.first in
    let some : has_started time e ≡ true = le_true (start_of e) time (omega (arith, first)) in cc
one_started (e ∷ xs) time (suc n) timed split = omega arith

-- the table before that place is in force
pub split_in_force : (entries : List Entry) (time n : ℕ) (entry : Entry) → AreTimed entries → n ≤ length entries → IsSplit entries time n → entry ≡ get_or entries (n - 1) entry
    → rows_of entry ≡ rows_at entries time
split_in_force entries time n entry timed within split is =
    let some : 1 ≤ n = one_started entries time n timed split in
    let back : (n - 1) + 1 ≡ n = omega (arith, some) in
    ap rows_of is ∙ sym (rows_at_place entries time (n - 1) entry (omega (arith, some, within)) (rw back split.0) (rw back split.1))
