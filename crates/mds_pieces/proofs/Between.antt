-- The items between places of a batch, put together.
use Rattle.std.proofs.Common.{◌≡◌, ℕ, zero, suc, ◌+◌, ◌-◌, ◌<◌, ◌≤◌, ◌==◌, Bool, true, false, if◌then◌else◌, List, [], ◌∷◌, ◌++◌, length, take, drop, get_or, slice_get, Some, IsUtf8, inl, inr, ◌⊎◌, refl, sym, ap, ◌∙◌, subst, arith, append_assoc, append-nil, length-append}
use Rattle.std.proofs.lemmas.Bool.{cases_lt, ne_eqb, eq-eqb}
use Rattle.std.proofs.lemmas.List.{drop-drop, drop_more, get_or-drop, length-drop, nil_from_length, take-append-drop, take_all, take_more}
use Rattle.json.proofs.Found.{Some_inj}
use Rattle.serde_json.specs.Data.{Data, array, Items, no_items, item}
use Rattle.serde_json.specs.Read.{read}
use Rattle.mds_table.specs.Json.{max_bytes, items_in}
use Rattle.mds_batch.specs.declared.item.EventItem.{EventItem}
use Rattle.mds_batch.specs.Items.{IsEventItem}
use Rattle.mds_batch.specs.Batch.{max_items, listed_values, AreItemsOf, HasItems}
use Rattle.mds_pieces.specs.Pieces.{ListsBehind, LeadsTo, IsCut, AreBetween}
use Rattle.mds_pieces.proofs.Joins.{bracket_lists, pieces_join}

-- items of values, behind others
each_of_both : {A : Type 0} (P : Data → A → Type 0) (vs ws : List Data) (xs ys : List A) → AreItemsOf P vs xs → AreItemsOf P ws ys
    → (place : ℕ) (value : Data) (one : A) → slice_get (vs ++ ws) place ≡ Some value → slice_get (xs ++ ys) place ≡ Some one → P value one
each_of_both P [] ws [] ys h k place value one e f = k.each place value one e f
each_of_both P [] ws (x ∷ xs) ys h k place value one e f = absurd (omega (arith, h.count))
each_of_both P (v ∷ vs) ws [] ys h k place value one e f = absurd (omega (arith, h.count))
each_of_both P (v ∷ vs) ws (x ∷ xs) ys h k zero value one e f = h.each zero value one e f
each_of_both P (v ∷ vs) ws (x ∷ xs) ys h k (suc place) value one e f =
    each_of_both P vs ws xs ys (record { count = omega (arith, h.count); each = λ p. h.each (suc p) }) k place value one e f

items_of_both : {A : Type 0} (P : Data → A → Type 0) (vs ws : List Data) (xs ys : List A) → AreItemsOf P vs xs → AreItemsOf P ws ys → AreItemsOf P (vs ++ ws) (xs ++ ys)
items_of_both P vs ws xs ys h k = record {
  count = omega (arith, length-append xs ys, length-append vs ws, h.count, k.count);
  each = each_of_both P vs ws xs ys h k;
}

-- no items stand between a place and itself
pub none_between : (bytes : List ℕ) (at : ℕ) → AreBetween bytes at at []
none_between bytes at = record {
  leads = λ within others some lists. lists;
  ends = λ less. absurd (omega (arith, less));
  some = λ less. absurd (omega (arith, less));
  none = λ same. refl;
}

module _ (bytes : List ℕ) (from middle to : ℕ) (xs ys : List EventItem) (order : from ≤ middle) (further : middle ≤ to) (within : to ≤ length bytes)
    (front : AreBetween bytes from middle xs) (back : AreBetween bytes middle to ys) where
  leads_both : to < length bytes → LeadsTo bytes from to (xs ++ ys)
  leads_both less others some lists =
      subst (ListsBehind bytes from) (sym (append_assoc xs ys others))
      (front.leads (omega arith) (ys ++ others) (omega (arith, length-append ys others)) (back.leads less others some lists))

  ends_both : from < to → to ≡ length bytes → (middle < to) ⊎ (to ≤ middle) → ListsBehind bytes from (xs ++ ys)
  ends_both some end (inl less) = front.leads (omega arith) ys (back.some less) (back.ends less end)
  ends_both some end (inr past) =
      let same : middle ≡ to = omega arith in
      subst (λ zs. ListsBehind bytes from (xs ++ zs)) (sym (back.none same)) (subst (ListsBehind bytes from) (sym (append-nil xs)) (front.ends (omega arith) (omega arith)))

  some_both : from < to → (from < middle) ⊎ (middle ≤ from) → 0 < length (xs ++ ys)
  some_both less (inl first) = omega (arith, length-append xs ys, front.some first)
  some_both less (inr past) = omega (arith, length-append xs ys, back.some (omega arith))

  none_both : from ≡ to → xs ++ ys ≡ []
  none_both same =
      nil_from_length (xs ++ ys) (omega (arith, length-append xs ys, ap length (front.none (omega arith)), ap length (back.none (omega arith))))

  -- the items of two parts that follow on one another
  pub both_between : AreBetween bytes from to (xs ++ ys)
  both_between = record {
    leads = leads_both;
    ends = λ some end. ends_both some end (cases_lt middle to);
    some = λ less. some_both less (cases_lt from middle);
    none = none_both;
  }

-- a batch whose text begins with a bracket lists values
text_lists : (rest : List ℕ) (items : List EventItem) → HasItems IsEventItem (91 ∷ rest) items
    → (values : Items) × (read (91 ∷ rest) ≡ Some (array values)) × AreItemsOf IsEventItem (items_in values) items
text_lists rest items h =
    let list = bracket_lists rest h.0 h.2.1.1 in
    let reads : read (91 ∷ rest) ≡ Some (array list.0) = h.2.1.1 ∙ ap Some list.1 in
    (list.0, reads, subst (λ all. AreItemsOf IsEventItem all items) (sym (same h.0 list.0 h.1 list.1 h.3)) h.5)
  where
    open_list : Data → List Data → Type 0
    open_list value all = listed_values value ≡ Some all

    same : (value : Data) (values : Items) (all : List Data) → value ≡ array values → open_list value all → items_in values ≡ all
    same value values all e k = Some_inj (items_in values) all (subst (λ v. open_list v all) e k)

module _ (bytes : List ℕ) (from to : ℕ) (items : List EventItem) (cut : IsCut bytes to) (apart : from + 1 < to) (some : 0 < length items) where
  abbrev behind : List ℕ
  behind = drop (from + 1) bytes

  abbrev piece : List ℕ
  piece = take (to - (from + 1)) behind

  abbrev front : List ℕ
  front = take (to - (from + 2)) behind

  -- it ends with a brace, where the bytes go on
  braced : to < length bytes → piece ≡ front ++ 125 ∷ []
  braced less =
      let n : to - (from + 1) ≡ (to - (from + 2)) + 1 = omega arith in
      let last : from + 1 + (to - (from + 2)) ≡ to - 1 = omega arith in
      ap (λ k. take k behind) n ∙ take_more behind (to - (from + 2)) 0 (omega (arith, length-drop (from + 1) bytes))
      ∙ ap (λ x. front ++ x ∷ []) (get_or-drop (from + 1) bytes (to - (from + 2)) 0 ∙ ap (λ k. get_or bytes k 0) last ∙ cut.brace less)

  goes_on : to < length bytes → behind ≡ front ++ 125 ∷ 44 ∷ drop (to + 1) bytes
  goes_on less =
      let n : from + 1 + (to - (from + 1)) ≡ to = omega arith in
      sym (take-append-drop (to - (from + 1)) behind) ∙ ap (λ l. l ++ drop (to - (from + 1)) behind) (braced less)
      ∙ append_assoc front (125 ∷ []) (drop (to - (from + 1)) behind)
      ∙ ap (λ l. front ++ 125 ∷ l) (drop-drop (to - (from + 1)) (from + 1) bytes ∙ ap (λ k. drop k bytes) n ∙ drop_more bytes to 0 less ∙ ap (λ x. x ∷ drop (to + 1) bytes) (cut.comma less))

  -- behind a piece between brackets more may be listed
  joins : to < length bytes → HasItems IsEventItem (91 ∷ (piece ++ 93 ∷ [])) items → LeadsTo bytes from to items
  joins less h others more lists = go lists.0 lists.1 lists.2
    where
      own : (values : Items) × (read (91 ∷ (piece ++ 93 ∷ [])) ≡ Some (array values)) × AreItemsOf IsEventItem (items_in values) items
      own = text_lists (piece ++ 93 ∷ []) items h

      closed : piece ++ 93 ∷ [] ≡ front ++ 125 ∷ 93 ∷ []
      closed = ap (λ l. l ++ 93 ∷ []) (braced less) ∙ append_assoc front (125 ∷ []) (93 ∷ [])

      go : (values : Items) → read (91 ∷ drop (to + 1) bytes) ≡ Some (array values) → AreItemsOf IsEventItem (items_in values) others → ListsBehind bytes from (items ++ others)
      go no_items e k = absurd (omega (arith, k.count, more))
      go (item value rest) e k =
          let all = pieces_join front (drop (to + 1) bytes) own.0 value rest (ap (λ l. read (91 ∷ l)) (sym closed) ∙ own.1) e in (
            all.0,
            ap (λ l. read (91 ∷ l)) (goes_on less) ∙ all.1,
            subst (λ vs. AreItemsOf IsEventItem vs (items ++ others)) (sym all.2) (items_of_both IsEventItem (items_in own.0) (items_in (item value rest)) items others own.2 k),
          )

  lists_last : to ≡ length bytes → HasItems IsEventItem (91 ∷ (piece ++ [])) items → ListsBehind bytes from items
  lists_last end h =
      let own = text_lists (piece ++ []) items h in
      (own.0, ap (λ l. read (91 ∷ l)) (sym (append-nil piece ∙ take_all (to - (from + 1)) behind (omega (arith, length-drop (from + 1) bytes)))) ∙ own.1, own.2)

  -- a piece that was read as a batch of its own
  pub piece_between : (text : List ℕ) (is_last : Bool) → is_last ≡ (to == length bytes) → text ≡ 91 ∷ (piece ++ (if is_last then [] else 93 ∷ [])) → HasItems IsEventItem text items
      → AreBetween bytes from to items
  piece_between text is_last last e h = record {
    leads = λ less.
        let open_end : is_last ≡ false = last ∙ ne_eqb to (length bytes) (λ same. omega arith) in
        joins less (subst (λ b. HasItems IsEventItem (91 ∷ (piece ++ (if b then [] else 93 ∷ []))) items) open_end (subst (λ t. HasItems IsEventItem t items) e h));
    ends = λ less end.
        let closed_end : is_last ≡ true = last ∙ eq-eqb to (length bytes) end in
        lists_last end (subst (λ b. HasItems IsEventItem (91 ∷ (piece ++ (if b then [] else 93 ∷ []))) items) closed_end (subst (λ t. HasItems IsEventItem t items) e h));
    some = λ less. some;
    none = λ same. absurd (omega (arith, same));
  }

-- the items of all bytes are those of the batch that the bytes are
pub whole_batch : (bytes : List ℕ) (items : List EventItem) → 0 < length bytes → get_or bytes 0 0 ≡ 91 → IsUtf8 bytes → length bytes ≤ max_bytes → length items ≤ max_items
    → AreBetween bytes 0 (length bytes) items → HasItems IsEventItem bytes items
whole_batch bytes items some first utf8 short few between =
    let lists = between.ends some refl in
    let bracket : 91 ∷ drop (0 + 1) bytes ≡ bytes = sym (drop_more bytes 0 0 some ∙ ap (λ x. x ∷ drop (0 + 1) bytes) first) in
    (array lists.0, items_in lists.0, (short, (utf8, ap read (sym bracket) ∙ lists.1)), refl, omega (arith, lists.2.count), lists.2)
