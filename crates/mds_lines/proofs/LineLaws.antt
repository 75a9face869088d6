-- One answer for the lines of a stream.
use Rattle.std.proofs.Common.{◌≡◌, ◌⊎◌, inl, inr, ℕ, ◌+◌, ◌-◌, ◌<◌, ◌≤◌, true, false, not, cond, eqb, List, [], ◌∷◌, ◌++◌, length, take, All, Some, refl, sym, ap, subst, ◌∙◌, append_assoc, length-append, arith}
use Rattle.std.specs.List.{AllZip}
use Rattle.std.proofs.lemmas.Bool.{cases_lt, ne_eqb}
use Rattle.std.proofs.lemmas.List.Elements.{All-head, All-tail, All-push, filter-append}
use Rattle.std.proofs.Math.Seq.{take-append-add}
use Rattle.mds_table.specs.declared.json.TextFault.TheVariants as text
use Rattle.mds_table.specs.Json.{max_bytes, HasTextFault}
use Rattle.mds_batch.specs.declared.item.EventItem.{EventItem}
use Rattle.mds_batch.specs.Items.{IsEventItem}
use Rattle.mds_batch.specs.Batch.{max_items}
use Rattle.mds_batch.proofs.ItemLaws.{one_event_item}
use Rattle.mds_lines.specs.declared.line_fault.LineFault.TheVariants.{Memory, TooLong, NotJson, TooMany}
use Rattle.mds_lines.specs.Stream.{with_feeds, HasNoFeed, is_blank, item_lines, IsItemLine, HoldItems, BeginsWith, HasEndedItems, HasLineItems, IsFirstLine, HasLineAt, HasLineFault}
use Rattle.mds_lines.proofs.LineLemmas.{feeds_with}
use Rattle.mds_lines.specs.LineLaws.{StreamsHaveOneListOfItems, StreamsWithItemsHaveNoFault, StreamsHaveOneFault}

-- ---- the lines of a stream, as one list

-- a byte more in the first of some lines
abbrev longer_first : ℕ → List (List ℕ) → List (List ℕ)
longer_first byte [] = (byte ∷ []) ∷ []
longer_first byte (line ∷ lines) = (byte ∷ line) ∷ lines

-- the lines of a stream, with the last one, which may be empty
abbrev all_lines : List ℕ → List (List ℕ)
all_lines [] = [] ∷ []
all_lines (byte ∷ bytes) = cond (eqb byte 10) ([] ∷ all_lines bytes) (longer_first byte (all_lines bytes))

-- there is one at least
some_line : (stream : List ℕ) → 0 < length (all_lines stream)
some_line [] = omega arith
some_line (byte ∷ bytes) =
    elim (eqb byte 10) as (λ b. 0 < length (cond b ([] ∷ all_lines bytes) (longer_first byte (all_lines bytes)))) [
      | true ↦ omega arith
      | false ↦ longer (all_lines bytes)
    ] where
      longer : (lines : List (List ℕ)) → 0 < length (longer_first byte lines)
      longer [] = omega arith
      longer (line ∷ lines) = omega arith

-- a byte that is no line feed belongs to the first line
other_byte : (byte : ℕ) (bytes line : List ℕ) (lines : List (List ℕ)) → (byte ≡ 10 → ⊥) → all_lines bytes ≡ line ∷ lines → all_lines (byte ∷ bytes) ≡ (byte ∷ line) ∷ lines
other_byte byte bytes line lines other is =
    ap (λ b. cond b ([] ∷ all_lines bytes) (longer_first byte (all_lines bytes))) (ne_eqb byte 10 other) ∙ ap (longer_first byte) is

-- a line that ends with a line feed
ended_first : (line next : List ℕ) → HasNoFeed line → all_lines (line ++ 10 ∷ next) ≡ line ∷ all_lines next
ended_first [] next none = refl
ended_first (byte ∷ line) next none =
    other_byte byte (line ++ 10 ∷ next) line (all_lines next) (All-head (λ b. b ≡ 10 → ⊥) byte line none) (ended_first line next (All-tail (λ b. b ≡ 10 → ⊥) byte line none))

-- the last line
last_first : (line : List ℕ) → HasNoFeed line → all_lines line ≡ line ∷ []
last_first [] none = refl
last_first (byte ∷ line) none = other_byte byte line line [] (All-head (λ b. b ≡ 10 → ⊥) byte line none) (last_first line (All-tail (λ b. b ≡ 10 → ⊥) byte line none))

-- lines that a stream begins with
begins_with : (before : List (List ℕ)) (rest : List ℕ) → All HasNoFeed before → all_lines (with_feeds before ++ rest) ≡ before ++ all_lines rest
begins_with [] rest whole = refl
begins_with (line ∷ before) rest whole =
    ap all_lines (append_assoc (line ++ 10 ∷ []) (with_feeds before) rest ∙ append_assoc line (10 ∷ []) (with_feeds before ++ rest))
    ∙ ended_first line (with_feeds before ++ rest) (All-head HasNoFeed line before whole)
    ∙ ap (λ lines. line ∷ lines) (begins_with before rest (All-tail HasNoFeed line before whole))

-- and so the whole stream, where nothing ends behind them
whole_stream : (stream : List ℕ) (lines : List (List ℕ)) (last : List ℕ) → BeginsWith stream lines last → HasNoFeed last → all_lines stream ≡ lines ++ last ∷ []
whole_stream stream lines last begins unended =
    ap all_lines begins.joined ∙ begins_with lines last begins.whole ∙ ap (λ rest. lines ++ rest) (last_first last unended)

-- the first line of what is left
first_of : (rest line next : List ℕ) → IsFirstLine rest line next → (after : List (List ℕ)) × (all_lines rest ≡ line ∷ after)
first_of rest line next first =
    elim first.1 [
      | inl is ↦ (all_lines next, ap all_lines is ∙ ended_first line next first.0)
      | inr is ↦ ([], ap all_lines is.0 ∙ last_first line first.0)
    ]

-- ---- the items of lines

-- a line is one item
one_item : (line : List ℕ) (a b : EventItem) → IsItemLine line a → IsItemLine line b → a ≡ b
one_item line a b is are =
    let texts : Some are.0 ≡ Some is.0 = sym are.1.1.1 ∙ is.1.1.1 in
    let same : are.0 ≡ is.0 = cc in
    one_event_item is.0 a b is.2 (subst (λ value. IsEventItem value b) same are.2)

-- and lines are one list of items
one_list : (lines : List (List ℕ)) (items others : List EventItem) → AllZip IsItemLine lines items → AllZip IsItemLine lines others → items ≡ others
one_list [] [] [] is are = refl
one_list [] [] (b ∷ others) is are = absurd are
one_list [] (a ∷ items) others is are = absurd is
one_list (line ∷ lines) [] others is are = absurd is
one_list (line ∷ lines) (a ∷ items) [] is are = absurd are
one_list (line ∷ lines) (a ∷ items) (b ∷ others) is are =
    let same = one_item line a b is.0 are.0 in
    let rest = one_list lines items others is.1 are.1 in cc

-- a line that isn't blank has an item, behind those of the lines before it
record HasItemOf (before : List (List ℕ)) (line : List ℕ) (items : List EventItem) : Type 0 where
  front : List EventItem
  own : EventItem
  back : List EventItem
  are : items ≡ front ++ own ∷ back
  fronts : AllZip IsItemLine (item_lines before) front
  is : IsItemLine line own

item_after : (lines : List (List ℕ)) (line : List ℕ) (after : List (List ℕ)) (items : List EventItem) → AllZip IsItemLine (lines ++ line ∷ after) items
    → (front : List EventItem) × (own : EventItem) × (back : List EventItem) × (items ≡ front ++ own ∷ back) × AllZip IsItemLine lines front × IsItemLine line own
item_after [] line after [] are = absurd are
item_after [] line after (item ∷ items) are = ([], item, items, refl, tt, are.0)
item_after (first ∷ lines) line after [] are = absurd are
item_after (first ∷ lines) line after (item ∷ items) are =
    let rest = item_after lines line after items are.1 in
    (item ∷ rest.0, rest.1, rest.2, ap (λ all. item ∷ all) rest.3, (are.0, rest.4), rest.5)

item_of : (before : List (List ℕ)) (line : List ℕ) (after : List (List ℕ)) (items : List EventItem) → is_blank line ≡ false → HoldItems (before ++ line ∷ after) items → HasItemOf before line items
item_of before line after items filled held =
    let lines : item_lines (before ++ line ∷ after) ≡ item_lines before ++ line ∷ item_lines after =
    filter-append (λ l. not (is_blank l)) before (line ∷ after) ∙ ap (λ b. item_lines before ++ cond (not b) (line ∷ item_lines after) (item_lines after)) filled in
    let found = item_after (item_lines before) line (item_lines after) items (subst (λ all. AllZip IsItemLine all items) lines held.each) in
    record { front = found.0; own = found.1; back = found.2; are = found.3; fronts = found.4; is = found.5 }

-- ---- lines at which a stream stops

-- behind lines that hold items stands one that isn't blank, and is no JSON or one item too many
record Stops (before : List (List ℕ)) (line : List ℕ) : Type 0 where
  items : List EventItem
  held : HoldItems before items
  filled : is_blank line ≡ false
  wrong : HasTextFault line text.NotJson ⊎ (length items ≡ max_items)

-- no lines hold items in which it stands
stopped : (before : List (List ℕ)) (line : List ℕ) (after : List (List ℕ)) (items : List EventItem) → Stops before line → HoldItems (before ++ line ∷ after) items → ⊥
stopped before line after items stops held =
    let found = item_of before line after items stops.filled held in
    elim stops.wrong [
      | inl no_json ↦ no_json.1 found.is.0 found.is.1.1
      | inr full ↦
          let same : stops.items ≡ found.front = one_list (item_lines before) stops.items found.front stops.held.each found.fronts in
          absurd (omega (arith, full, ap length same, ap length found.are, length-append found.front (found.own ∷ found.back), held.few))
    ]

-- of two places in a list the one that comes first is in front of the other
front_of : {A : Type 0} (xs ys : List A) (x y : A) (xs' ys' : List A) → xs ++ x ∷ xs' ≡ ys ++ y ∷ ys' → length xs < length ys → (middle : List A) × (ys ≡ xs ++ x ∷ middle)
front_of [] [] x y xs' ys' is less = absurd (omega (arith, less))
front_of [] (b ∷ ys) x y xs' ys' is less = (ys, cc)
front_of (a ∷ xs) [] x y xs' ys' is less = absurd (omega (arith, less))
front_of (a ∷ xs) (b ∷ ys) x y xs' ys' is less =
    let rest : xs ++ x ∷ xs' ≡ ys ++ y ∷ ys' = cc in
    let found = front_of xs ys x y xs' ys' rest (omega (arith, less)) in
    let same : ys ≡ xs ++ x ∷ found.0 = found.1 in (found.0, cc)

-- and one place has one element
same_place : {A : Type 0} (xs ys : List A) (x y : A) (xs' ys' : List A) → xs ++ x ∷ xs' ≡ ys ++ y ∷ ys' → length xs ≡ length ys → x ≡ y
same_place [] [] x y xs' ys' is long = cc
same_place [] (b ∷ ys) x y xs' ys' is long = absurd (omega (arith, long))
same_place (a ∷ xs) [] x y xs' ys' is long = absurd (omega (arith, long))
same_place (a ∷ xs) (b ∷ ys) x y xs' ys' is long =
    let rest : xs ++ x ∷ xs' ≡ ys ++ y ∷ ys' = cc in
    same_place xs ys x y xs' ys' rest (omega (arith, long))

-- of two lines at which a stream stops, neither comes first
same_stop : (xs ys : List (List ℕ)) (x y : List ℕ) (xs' ys' : List (List ℕ)) → xs ++ x ∷ xs' ≡ ys ++ y ∷ ys' → Stops xs x → Stops ys y → length xs ≡ length ys
same_stop xs ys x y xs' ys' is a b =
    elim (cases_lt (length xs) (length ys)) [
      | inl less ↦
          let found = front_of xs ys x y xs' ys' is less in
          absurd (stopped xs x found.0 b.items a (subst (λ lines. HoldItems lines b.items) found.1 b.held))
      | inr most ↦
          elim (cases_lt (length ys) (length xs)) [
            | inl less ↦
                let found = front_of ys xs y x ys' xs' (sym is) less in
                absurd (stopped ys y found.0 a.items b (subst (λ lines. HoldItems lines a.items) found.1 a.held))
            | inr least ↦ omega (arith, most, least)
          ]
    ]

-- ---- where a stream has a faulty line

-- the line of this number is one at which the stream stops
record StopsAt (stream : List ℕ) (at : ℕ) (line : List ℕ) : Type 0 where
  before : List (List ℕ)
  after : List (List ℕ)
  are : all_lines stream ≡ before ++ line ∷ after
  number : length before ≡ at
  stops : Stops before line

module _ (stream : List ℕ) (at : ℕ) (items : List EventItem) (line : List ℕ) (has : HasLineAt stream at items line) where
  -- what is wrong with a line of a stream stops it there
  stops_with : HasTextFault line text.NotJson ⊎ (length items ≡ max_items) → Stops has.before line
  stops_with wrong = record { items = items; held = has.held; filled = has.filled; wrong = wrong }

  -- behind the lines before it, of all of the stream
  stops_at : HasTextFault line text.NotJson ⊎ (length items ≡ max_items) → StopsAt stream at line
  stops_at wrong =
      let first = first_of has.rest line has.next has.first in record {
        before = has.before;
        after = first.0;
        are = ap all_lines has.begins.joined ∙ begins_with has.before has.rest has.begins.whole ∙ ap (λ rest. has.before ++ rest) first.1;
        number = has.number;
        stops = stops_with wrong;
      }

  -- in a stream that is too long it ends within the limit
  ends_within : max_bytes < length stream → (after : List ℕ) × (all_lines (take max_bytes stream) ≡ has.before ++ line ∷ all_lines after)
  ends_within long =
      elim has.first.1 [
        | inl is ↦
            let front : List ℕ = with_feeds (has.before ++ line ∷ []) in
            let joined : stream ≡ front ++ has.next =
            has.begins.joined ∙ ap (λ rest. with_feeds has.before ++ rest) (is ∙ sym (append_assoc line (10 ∷ []) has.next)) ∙ sym (append_assoc (with_feeds has.before) (line ++ 10 ∷ []) has.next)
            ∙ ap (λ all. all ++ has.next) (sym (feeds_with has.before line)) in
            let fits : length front ≤ max_bytes = omega (arith, ap length joined, length-append front has.next, has.within) in
            let left : ℕ = max_bytes - length front in
            let sum : max_bytes ≡ length front + left = omega (arith, fits) in
            let taken : take max_bytes stream ≡ front ++ take left has.next =
            ap (take max_bytes) joined ∙ ap (λ n. take n (front ++ has.next)) sum ∙ take-append-add front has.next left in
            let fed : All HasNoFeed (has.before ++ line ∷ []) = All-push HasNoFeed has.before line has.begins.whole has.first.0 in
            (take left has.next, ap all_lines taken ∙ begins_with (has.before ++ line ∷ []) (take left has.next) fed ∙ append_assoc has.before (line ∷ []) (all_lines (take left has.next)))
        | inr is ↦ absurd (omega (arith, long, has.within, ap length is.1))
      ]

  -- so the fault of a stream that is too long isn't told first
  not_too_long : HasTextFault line text.NotJson ⊎ (length items ≡ max_items) → HasLineFault stream TooLong → ⊥
  not_too_long wrong long =
      let inner = ends_within long.0 in
      let lines : List (List ℕ) = long.1.1.0 in
      let rest : List ℕ = long.1.1.1 in
      let is : has.before ++ line ∷ all_lines inner.0 ≡ lines ++ rest ∷ [] = sym inner.1 ∙ whole_stream (take max_bytes stream) lines rest long.1.1.2 long.1.1.3 in
      let less : length has.before < length lines =
      omega (arith, some_line inner.0, ap length is, length-append has.before (line ∷ all_lines inner.0), length-append lines (rest ∷ [])) in
      let found = front_of has.before lines line rest (all_lines inner.0) [] is less in
      stopped has.before line found.0 long.1.0 (stops_with wrong) (subst (λ all. HoldItems all long.1.0) found.1 long.1.1.5)

-- ---- laws

-- the items of a stream are those of all its lines
items_of_stream : (stream : List ℕ) (items : List EventItem) → HasLineItems stream items → HoldItems (all_lines stream) items
items_of_stream stream items has = subst (λ lines. HoldItems lines items) (sym (whole_stream stream has.0 has.1 has.2 has.3)) has.5

-- lines and one more have one front
one_front : (lines others : List (List ℕ)) (rest other : List ℕ) → lines ++ rest ∷ [] ≡ others ++ other ∷ [] → lines ≡ others
one_front [] [] rest other is = refl
one_front [] (b ∷ others) rest other is = absurd (omega (arith, ap length is, length-append others (other ∷ [])))
one_front (a ∷ lines) [] rest other is = absurd (omega (arith, ap length is, length-append lines (rest ∷ [])))
one_front (a ∷ lines) (b ∷ others) rest other is =
    let behind : lines ++ rest ∷ [] ≡ others ++ other ∷ [] = cc in
    let same = one_front lines others rest other behind in cc

-- the lines that have ended have one list of items
pub one_ended_list : (bytes : List ℕ) (items others : List EventItem) → HasEndedItems bytes items → HasEndedItems bytes others → items ≡ others
one_ended_list bytes items others is are =
    let fronts = one_front is.0 are.0 is.1 are.1 (sym (whole_stream bytes is.0 is.1 is.2 is.3) ∙ whole_stream bytes are.0 are.1 are.2 are.3) in
    one_list (item_lines are.0) items others (subst (λ lines. AllZip IsItemLine (item_lines lines) items) fronts is.5.each) are.5.each

-- a stream with items stops nowhere
never_stops : (stream : List ℕ) (items : List EventItem) (at : ℕ) (line : List ℕ) → HasLineItems stream items → StopsAt stream at line → ⊥
never_stops stream items at line has stop =
    stopped stop.before line stop.after items stop.stops (subst (λ lines. HoldItems lines items) stop.are (items_of_stream stream items has))

-- a stream stops at one line
one_stop : (stream : List ℕ) (at to : ℕ) (line other : List ℕ) → StopsAt stream at line → StopsAt stream to other → (at ≡ to) × (line ≡ other)
one_stop stream at to line other a b =
    let is : a.before ++ line ∷ a.after ≡ b.before ++ other ∷ b.after = sym a.are ∙ b.are in
    let long = same_stop a.before b.before line other a.after b.after is a.stops b.stops in
    (sym a.number ∙ long ∙ b.number, same_place a.before b.before line other a.after b.after is long)

-- the line of a stream at which it stops for this fault
stop_of_no_json : (stream : List ℕ) (at : ℕ) (has : HasLineFault stream (NotJson at)) → StopsAt stream at has.1
stop_of_no_json stream at has = stops_at stream at has.0 has.1 has.2 (inl has.3)

stop_of_too_many : (stream : List ℕ) (has : HasLineFault stream TooMany) → StopsAt stream has.0 has.2
stop_of_too_many stream has = stops_at stream has.0 has.1 has.2 has.3 (inr has.5)

-- a line at which a stream stops isn't both an item too many and no JSON
not_both : (stream : List ℕ) (at : ℕ) → HasLineFault stream (NotJson at) → HasLineFault stream TooMany → ⊥
not_both stream at no_json many =
    let same = (one_stop stream at many.0 no_json.1 many.2 (stop_of_no_json stream at no_json) (stop_of_too_many stream many)).1 in
    let is : IsItemLine no_json.1 many.4.0 = subst (λ line. IsItemLine line many.4.0) (sym same) many.4.1 in
    no_json.3.1 is.0 is.1.1

pub streams_have_one_list_of_items : StreamsHaveOneListOfItems
streams_have_one_list_of_items stream items others is are =
    one_list (item_lines (all_lines stream)) items others (items_of_stream stream items is).each (items_of_stream stream others are).each

pub streams_with_items_have_no_fault : StreamsWithItemsHaveNoFault
streams_with_items_have_no_fault stream items Memory is has = refl
streams_with_items_have_no_fault stream items TooLong is has = absurd (omega (arith, is.4, has.0))
streams_with_items_have_no_fault stream items (NotJson at) is has = absurd (never_stops stream items at has.1 is (stop_of_no_json stream at has))
streams_with_items_have_no_fault stream items TooMany is has = absurd (never_stops stream items has.0 has.2 is (stop_of_too_many stream has))

pub streams_have_one_fault : StreamsHaveOneFault
streams_have_one_fault stream Memory other is are = inl refl
streams_have_one_fault stream TooLong Memory is are = inr (inl refl)
streams_have_one_fault stream TooLong TooLong is are = inr (inr refl)
streams_have_one_fault stream TooLong (NotJson at) is are = absurd (not_too_long stream at are.0 are.1 are.2 (inl are.3) is)
streams_have_one_fault stream TooLong TooMany is are = absurd (not_too_long stream are.0 are.1 are.2 are.3 (inr are.5) is)
streams_have_one_fault stream (NotJson at) Memory is are = inr (inl refl)
streams_have_one_fault stream (NotJson at) TooLong is are = absurd (not_too_long stream at is.0 is.1 is.2 (inl is.3) are)
streams_have_one_fault stream (NotJson at) (NotJson to) is are =
    inr (inr (ap NotJson (one_stop stream at to is.1 are.1 (stop_of_no_json stream at is) (stop_of_no_json stream to are)).0))
streams_have_one_fault stream (NotJson at) TooMany is are = absurd (not_both stream at is are)
streams_have_one_fault stream TooMany Memory is are = inr (inl refl)
streams_have_one_fault stream TooMany TooLong is are = absurd (not_too_long stream is.0 is.1 is.2 is.3 (inr is.5) are)
streams_have_one_fault stream TooMany (NotJson at) is are = absurd (not_both stream at are is)
streams_have_one_fault stream TooMany TooMany is are = inr (inr refl)
