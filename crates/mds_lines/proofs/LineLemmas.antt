-- The lines of bytes, as they come.
use Rattle.std.proofs.Common.{◌≡◌, ◌≢◌, ◌⊎◌, inl, inr, ℕ, ◌+◌, ◌-◌, ◌<◌, ◌≤◌, Bool, true, false, not, cond, List, [], ◌∷◌, ◌++◌, length, take, drop, refl, sym, ap, subst, ◌∙◌, append_assoc, append-nil, length-append, arith}
use Rattle.std.specs.List.{AllZip}
use Rattle.std.proofs.lemmas.List.{take_rest}
use Rattle.std.proofs.lemmas.List.Elements.{filter-append, All-append, All-push, All-nil}
use Rattle.std.proofs.lemmas.Grind.{flat_map-append}
use Rattle.std.proofs.Math.Seq.{drop-append_seam}
use Rattle.mds_table.specs.Json.{max_bytes}
use Rattle.mds_batch.specs.declared.item.EventItem.{EventItem}
use Rattle.mds_batch.specs.Batch.{max_items}
use Rattle.mds_lines.specs.declared.line_fault.LineFault.{LineFault}
use Rattle.mds_lines.specs.declared.line_fault.LineFault.TheVariants.{Memory, TooLong, NotJson, TooMany}
use Rattle.mds_lines.specs.Stream.{with_feeds, HasNoFeed, is_blank, item_lines, IsItemLine, HoldItems, HasLineAt}
use Rattle.mds_lines.specs.LineReading.{IsSplit, AreRead, AreTaken, IsFaultOfLine, IsFaultyAtEnd}

-- ---- items of lines

-- one more of each of two lists
zip_push : {A B : Type 0} (R : A → B → Type 0) (xs : List A) (ys : List B) (x : A) (y : B) → AllZip R xs ys → R x y → AllZip R (xs ++ x ∷ []) (ys ++ y ∷ [])
zip_push R [] [] x y all is = (is, tt)
zip_push R [] (b ∷ ys) x y all is = absurd all
zip_push R (a ∷ xs) [] x y all is = absurd all
zip_push R (a ∷ xs) (b ∷ ys) x y all is = (all.0, zip_push R xs ys x y all.1 is)

-- one more line, by whether it is blank
item_lines-push : (lines : List (List ℕ)) (line : List ℕ) (blank : Bool) → is_blank line ≡ blank → item_lines (lines ++ line ∷ []) ≡ item_lines lines ++ cond (not blank) (line ∷ []) []
item_lines-push lines line blank is = filter-append (λ l. not (is_blank l)) lines (line ∷ []) ∙ ap (λ b. item_lines lines ++ cond (not b) (line ∷ []) []) is

-- a blank line adds no item
pub hold_blank : (lines : List (List ℕ)) (line : List ℕ) (items : List EventItem) → is_blank line ≡ true → HoldItems lines items → HoldItems (lines ++ line ∷ []) items
hold_blank lines line items blank held = record {
  each = subst (λ all. AllZip IsItemLine all items) (sym (item_lines-push lines line true blank ∙ append-nil (item_lines lines))) held.each;
  few = held.few;
}

-- any other line adds the item that it is
pub hold_item : (lines : List (List ℕ)) (line : List ℕ) (items : List EventItem) (item : EventItem) → is_blank line ≡ false → IsItemLine line item → length items < max_items → HoldItems lines items → HoldItems (lines ++ line ∷ []) (items ++ item ∷ [])
hold_item lines line items item filled is few held = record {
  each = subst (λ all. AllZip IsItemLine all (items ++ item ∷ [])) (sym (item_lines-push lines line false filled)) (zip_push IsItemLine (item_lines lines) items line item held.each is);
  few = omega (arith, few, length-append items (item ∷ []));
}

-- lines and one more, joined
pub feeds_with : (lines : List (List ℕ)) (line : List ℕ) → with_feeds (lines ++ line ∷ []) ≡ with_feeds lines ++ (line ++ 10 ∷ [])
feeds_with lines line = flat_map-append (λ l. l ++ 10 ∷ []) lines (line ∷ []) ∙ ap (λ last. with_feeds lines ++ last) (append-nil (line ++ 10 ∷ []))

-- ---- bytes that are split into lines

module _ (bytes : List ℕ) (ended count : ℕ) where
  -- the line that the bytes end with is behind the place where the last one ended
  pub last_line : (lines : List (List ℕ)) (rest : List ℕ) → IsSplit bytes ended count lines rest → take (length bytes - ended) (drop ended bytes) ≡ rest
  last_line lines rest split =
      take_rest bytes ended ∙ ap (λ at. drop at bytes) split.ended_at ∙ ap (drop (length (with_feeds lines))) split.begins.joined ∙ drop-append_seam (with_feeds lines) rest

  -- and that place is within the bytes
  pub ended_within : (lines : List (List ℕ)) (rest : List ℕ) → IsSplit bytes ended count lines rest → ended ≤ length bytes
  ended_within lines rest split = omega (arith, split.ended_at, ap length split.begins.joined, length-append (with_feeds lines) rest)

  -- bytes without a line feed belong to the last line
  pub read_others : (taken : ℕ) (items : List EventItem) (more : List ℕ) → HasNoFeed more → AreRead bytes ended count taken items → AreRead (bytes ++ more) ended count taken items
  read_others taken items more none read =
      let split = read.2 in (
        read.0,
        read.1 ++ more,
        record {
          begins = record { joined = ap (λ all. all ++ more) split.begins.joined ∙ append_assoc (with_feeds read.0) read.1 more; whole = split.begins.whole };
          unended = All-append (λ b. b ≢ 10) read.1 more split.unended none;
          ended_at = split.ended_at;
          counted = split.counted;
        },
        read.3,
        read.4,
      )

  -- the lines with one more, joined
  feeds_push : (lines : List (List ℕ)) (rest : List ℕ) → IsSplit bytes ended count lines rest → with_feeds (lines ++ rest ∷ []) ≡ bytes ++ 10 ∷ []
  feeds_push lines rest split =
      feeds_with lines rest ∙ sym (append_assoc (with_feeds lines) rest (10 ∷ [])) ∙ ap (λ all. all ++ 10 ∷ []) (sym split.begins.joined)

  -- a line feed ends the last line
  pub read_feed : (taken : ℕ) (items : List EventItem) (place number : ℕ) → place ≡ length bytes + 1 → number ≡ count + 1 → AreTaken bytes ended count taken items → AreRead (bytes ++ 10 ∷ []) place number taken items
  read_feed taken items place number at is are =
      let split = are.2 in
      let feeds = feeds_push are.0 are.1 split in (
        are.0 ++ are.1 ∷ [],
        [],
        record {
          begins = record { joined = sym feeds ∙ sym (append-nil (with_feeds (are.0 ++ are.1 ∷ []))); whole = All-push HasNoFeed are.0 are.1 split.begins.whole split.unended };
          unended = All-nil (λ b. b ≢ 10);
          ended_at = omega (arith, at, ap length feeds, length-append bytes (10 ∷ []));
          counted = omega (arith, is, split.counted, length-append are.0 (are.1 ∷ []));
        },
        are.3,
        are.4,
      )

  -- the number of lines is no greater than that of bytes
  pub count_within : (lines : List (List ℕ)) (rest : List ℕ) → IsSplit bytes ended count lines rest → count ≤ length bytes
  count_within lines rest split = omega (arith, split.counted, ap length split.begins.joined, length-append (with_feeds lines) rest, few lines) where
    few : (all : List (List ℕ)) → length all ≤ length (with_feeds all)
    few [] = omega arith
    few (line ∷ all) = omega (arith, few all, length-append (line ++ 10 ∷ []) (with_feeds all), length-append line (10 ∷ []))

  -- the last line, where it is whole in a stream
  line_at : (lines : List (List ℕ)) (rest : List ℕ) (items : List EventItem) (stream next : List ℕ) → IsSplit bytes ended count lines rest → HoldItems lines items → is_blank rest ≡ false
      → length stream ≤ max_bytes + length next → (stream ≡ bytes ++ 10 ∷ next) ⊎ ((stream ≡ bytes) × (next ≡ [])) → HasLineAt stream count items rest
  line_at lines rest items stream next split held filled within (inl is) = record {
    before = lines;
    rest = rest ++ 10 ∷ next;
    next = next;
    begins = record { joined = is ∙ ap (λ all. all ++ 10 ∷ next) split.begins.joined ∙ append_assoc (with_feeds lines) rest (10 ∷ next); whole = split.begins.whole };
    number = sym split.counted;
    held = held;
    first = (split.unended, inl refl);
    within = within;
    filled = filled;
  }
  line_at lines rest items stream next split held filled within (inr is) = record {
    before = lines;
    rest = rest;
    next = next;
    begins = record { joined = is.0 ∙ split.begins.joined; whole = split.begins.whole };
    number = sym split.counted;
    held = held;
    first = (split.unended, inr (refl, is.1));
    within = within;
    filled = filled;
  }

  -- what is wrong with the last line is the first fault of each stream in which it is whole
  pub faulty_at_end : (lines : List (List ℕ)) (rest : List ℕ) (taken : ℕ) (items : List EventItem) (fault : LineFault) → IsSplit bytes ended count lines rest → HoldItems lines items → taken ≡ length items
      → IsFaultOfLine count rest taken fault → IsFaultyAtEnd bytes fault
  faulty_at_end lines rest taken items Memory split held many wrong = λ stream next whole. tt
  faulty_at_end lines rest taken items TooLong split held many wrong = absurd wrong
  faulty_at_end lines rest taken items (NotJson at) split held many wrong = λ stream next whole.
      (items, rest, subst (λ number. HasLineAt stream number items rest) (sym wrong.0) (line_at lines rest items stream next split held wrong.1 whole.within whole.ends), wrong.2)
  faulty_at_end lines rest taken items TooMany split held many wrong = λ stream next whole.
      (count, items, rest, line_at lines rest items stream next split held wrong.0 whole.within whole.ends, wrong.1, sym many ∙ wrong.2)
