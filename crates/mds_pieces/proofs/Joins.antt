-- A list up to a comma behind a brace, and the list behind that comma, are one list.
use Rattle.std.proofs.Common.{◌≡◌, ℕ, ◌-◌, ◌≤◌, List, [], ◌∷◌, ◌++◌, length, Option, Some, None, option_map, option_and_then, refl, sym, ap, ◌∙◌, arith, subst, append_assoc, append-nil}
use Rattle.std.proofs.lemmas.List.{append_cancel_right}
use Rattle.std.specs.Prelude.{⊤}
use Rattle.json.specs.Token.{Token, begin_array, end_array, end_object}
use Rattle.json.specs.Lex.{between, lex, fresh, after_comma, punctuate, tokens}
use Rattle.json.specs.Json as json
use Rattle.json.specs.Tree.{json_tokens, items_tokens, members_tokens, items_depth}
use Rattle.json.proofs.Found.{Some_inj}
use Rattle.json.proofs.Grammar.{value-begin_array}
use Rattle.json.proofs.Nesting.{value-depth}
use Rattle.json.proofs.Printed.Trees.{value-json_tokens}
use Rattle.json.proofs.Unique.Spelling.{value-json_tokens_back}
use Rattle.serde_json.specs.Data.{Data, Num, Members, null, boolean, string, number, array, object, Items, no_items, item, no_members}
use Rattle.serde_json.specs.Read.{number_of, of_json, of_items, of_members, max_depth, read}
use Rattle.mds_table.specs.Json.{items_in}
use Rattle.mds_pieces.proofs.Words.{end, more}
use Rattle.mds_pieces.proofs.Strings.{never}
use Rattle.mds_pieces.proofs.Splits.{AreGood, NoClose, joined, behind_comma}

-- ---- what a text of a list says of its tokens

record Listed (rest : List ℕ) (all : Items) : Type 0 where
  found : json.Items
  spelled : punctuate fresh (lex between rest) ≡ items_tokens found
  stands_for : of_items found ≡ Some all
  shallow : items_depth found ≤ 126

abbrev list_in : Option Data → Option Items
list_in None = None
list_in (Some null) = None
list_in (Some (boolean b)) = None
list_in (Some (number n)) = None
list_in (Some (string s)) = None
list_in (Some (array items)) = Some items
list_in (Some (object ms)) = None

no_number : (o : Option Num) (all : Items) → list_in (option_map number o) ≡ Some all → ⊥
no_number None all e = never e
no_number (Some n) all e = never e

no_object : (o : Option Members) (all : Items) → list_in (option_map object o) ≡ Some all → ⊥
no_object None all e = never e
no_object (Some n) all e = never e

is_list : (o : Option Items) (all : Items) → list_in (option_map array o) ≡ Some all → o ≡ Some all
is_list None all e = absurd (never e)
is_list (Some items) all e = e

abbrev behind_first : List Token → List Token
behind_first [] = []
behind_first (t ∷ ts) = ts

listed : (rest : List ℕ) (all : Items) → read (91 ∷ rest) ≡ Some (array all) → Listed rest all
unfolding lex punctuate
listed rest all e = go (json.value max_depth (tokens (91 ∷ rest))) refl (ap list_in e)
  where
    of_value : (j : json.Json) → json.value max_depth (tokens (91 ∷ rest)) ≡ Some (j, []) → list_in (of_json j) ≡ Some all → Listed rest all
    of_value json.null k h = absurd (never h)
    of_value (json.boolean b) k h = absurd (never h)
    of_value (json.number s) k h = absurd (no_number (number_of s) all h)
    of_value (json.string s) k h = absurd (never h)
    of_value (json.array js) k h =
        let back = value-json_tokens_back max_depth (tokens (91 ∷ rest)) [] (json.array js) k in
        let deep = value-depth max_depth (tokens (91 ∷ rest)) [] (json.array js) k in
        record {
          found = js;
          spelled = ap behind_first back ∙ append-nil (items_tokens js);
          stands_for = is_list (of_items js) all h;
          shallow = omega (arith, deep);
        }
    of_value (json.object ms) k h = absurd (no_object (of_members ms no_members) all h)

    go : (o : Option (json.Json × List Token)) → json.value max_depth (tokens (91 ∷ rest)) ≡ o
        → list_in (option_and_then of_json (option_and_then (λ p. json.if_last p.0 p.1) o)) ≡ Some all → Listed rest all
    go None k h = absurd (never h)
    go (Some (j, [])) k h = of_value j k h
    go (Some (j, t ∷ ts)) k h = absurd (never h)

-- a text that begins with a bracket lists values
pub bracket_lists : (rest : List ℕ) (value : Data) → read (91 ∷ rest) ≡ Some value → (all : Items) × (value ≡ array all)
unfolding lex punctuate
bracket_lists rest value e =
    let ts = punctuate fresh (lex between rest) in
    let opened = value-begin_array max_depth ts (omega arith) in
    go (json.items (json.value (max_depth - 1)) (length ts) ts) (ap of_read (sym opened) ∙ e)
  where
    of_read : Option (json.Json × List Token) → Option Data
    of_read o = option_and_then of_json (option_and_then (λ p. json.if_last p.0 p.1) o)

    of_data : (o : Option Items) → option_map array o ≡ Some value → (all : Items) × (value ≡ array all)
    of_data None k = absurd (never k)
    of_data (Some all) k = (all, Some_inj value (array all) (sym k))

    go : (o : Option (json.Items × List Token)) → option_and_then of_json (option_and_then (λ p. json.if_last p.0 p.1) (json.parse_map json.array o)) ≡ Some value → (all : Items) × (value ≡ array all)
    go None k = absurd (never k)
    go (Some (js, [])) k = of_data (of_items js) k
    go (Some (js, t ∷ ts)) k = absurd (never k)

-- ---- the tokens of a value are good

mutual
  good_value : (j : json.Json) (rest : List Token) → AreGood rest → AreGood (json_tokens j ++ rest)
  good_value json.null rest h = (tt, h)
  good_value (json.boolean b) rest h = (tt, h)
  good_value (json.number s) rest h = (tt, h)
  good_value (json.string s) rest h = (tt, h)
  good_value (json.array js) rest h = (tt, good_items js rest h)
  good_value (json.object ms) rest h = (tt, good_members ms rest h)

  good_items : (js : json.Items) (rest : List Token) → AreGood rest → AreGood (items_tokens js ++ rest)
  good_items json.no_items rest h = (tt, h)
  good_items (json.item j js) rest h =
      subst AreGood (sym (append_assoc (json_tokens j) (items_tokens js) rest)) (good_value j (items_tokens js ++ rest) (good_items js rest h))

  good_members : (ms : json.Members) (rest : List Token) → AreGood rest → AreGood (members_tokens ms ++ rest)
  good_members json.no_members rest h = (tt, h)
  good_members (json.member k j ms) rest h =
      (tt, subst AreGood (sym (append_assoc (json_tokens j) (members_tokens ms) rest)) (good_value j (members_tokens ms ++ rest) (good_members ms rest h)))

-- ---- one list behind another

abbrev both : json.Items → json.Items → json.Items
both json.no_items ks = ks
both (json.item j js) ks = json.item j (both js ks)

abbrev after : Items → Items → Items
after no_items es = es
after (item d ds) es = item d (after ds es)

-- the tokens of the items, with no bracket
abbrev bare : json.Items → List Token
bare json.no_items = []
bare (json.item j js) = json_tokens j ++ bare js

bare_closed : (js : json.Items) → items_tokens js ≡ bare js ++ end_array ∷ []
bare_closed json.no_items = refl
bare_closed (json.item j js) = ap (λ l. json_tokens j ++ l) (bare_closed js) ∙ sym (append_assoc (json_tokens j) (bare js) (end_array ∷ []))

both_spelled : (js ks : json.Items) → bare js ++ items_tokens ks ≡ items_tokens (both js ks)
both_spelled json.no_items ks = refl
both_spelled (json.item j js) ks = append_assoc (json_tokens j) (bare js) (items_tokens ks) ∙ ap (λ l. json_tokens j ++ l) (both_spelled js ks)

both_shallow : (d : ℕ) (js ks : json.Items) → items_depth js ≤ d → items_depth ks ≤ d → items_depth (both js ks) ≤ d
both_shallow d json.no_items ks h k = k
both_shallow d (json.item j js) ks h k = let rest = both_shallow d js ks (omega arith) k in omega arith

item_after : (d : Data) (es : Items) (o : Option Items) → option_map (item d) (option_map (λ ds. after ds es) o) ≡ option_map (λ ds. after ds es) (option_map (item d) o)
item_after d es None = refl
item_after d es (Some ds) = refl

first_stands_for : (o : Option Data) (p q : Option Items) (es : Items) → q ≡ option_map (λ ds. after ds es) p
    → option_and_then (λ d. option_map (item d) q) o ≡ option_map (λ ds. after ds es) (option_and_then (λ d. option_map (item d) p) o)
first_stands_for None p q es h = refl
first_stands_for (Some d) p q es h = ap (option_map (item d)) h ∙ item_after d es p

both_stand_for : (js ks : json.Items) (es : Items) → of_items ks ≡ Some es → of_items (both js ks) ≡ option_map (λ ds. after ds es) (of_items js)
both_stand_for json.no_items ks es h = h
both_stand_for (json.item j js) ks es h = first_stands_for (of_json j) (of_items js) (of_items (both js ks)) es (both_stand_for js ks es h)

items_after : (ds es : Items) → items_in (after ds es) ≡ items_in ds ++ items_in es
items_after no_items es = refl
items_after (item d ds) es = ap (λ l. d ∷ l) (items_after ds es)

-- ---- items begin with no closing bracket

abbrev HasItem : Option Items → Type 0
HasItem None = ⊥
HasItem (Some no_items) = ⊥
HasItem (Some (item d ds)) = ⊤

opens : (j : json.Json) (rest : List Token) → NoClose (json_tokens j ++ rest)
opens json.null rest = tt
opens (json.boolean b) rest = tt
opens (json.number s) rest = tt
opens (json.string s) rest = tt
opens (json.array js) rest = tt
opens (json.object ms) rest = tt

begins_item : (ks : json.Items) (value : Data) (others : Items) → of_items ks ≡ Some (item value others) → NoClose (items_tokens ks)
begins_item json.no_items value others h = absurd (subst HasItem (sym h) tt)
begins_item (json.item j ks) value others h = opens j (items_tokens ks)

pub pieces_join : (front post : List ℕ) (first : Items) (value : Data) (others : Items) → read (91 ∷ (front ++ 125 ∷ 93 ∷ [])) ≡ Some (array first)
    → read (91 ∷ post) ≡ Some (array (item value others))
    → (all : Items) × (read (91 ∷ (front ++ 125 ∷ 44 ∷ post)) ≡ Some (array all)) × (items_in all ≡ items_in first ++ items_in (item value others))
unfolding lex punctuate
pieces_join front post first value others ha hb = (after first (item value others), whole, items_after first (item value others))
  where
    one : Listed (front ++ end) first
    one = listed (front ++ end) first ha

    two : Listed post (item value others)
    two = listed post (item value others) hb

    all : json.Items
    all = both one.found two.found

    good : AreGood (punctuate fresh (lex between (front ++ end)))
    good = subst AreGood (append-nil (items_tokens one.found) ∙ sym one.spelled) (good_items one.found [] tt)

    parts : (us : List Token) × (punctuate fresh (lex between (front ++ end)) ≡ us ++ end_object ∷ end_array ∷ [])
        × (punctuate fresh (lex between (front ++ more post)) ≡ us ++ end_object ∷ punctuate after_comma (lex between post))
    parts = joined post front good

    items_are : parts.0 ++ end_object ∷ [] ≡ bare one.found
    items_are =
        append_cancel_right (parts.0 ++ end_object ∷ []) (bare one.found) (end_array ∷ [])
        (append_assoc parts.0 (end_object ∷ []) (end_array ∷ []) ∙ sym parts.1 ∙ one.spelled ∙ bare_closed one.found)

    next : punctuate after_comma (lex between post) ≡ items_tokens two.found
    next = behind_comma (lex between post) (subst NoClose (sym two.spelled) (begins_item two.found value others two.stands_for)) ∙ two.spelled

    spelled : punctuate fresh (lex between (front ++ more post)) ≡ items_tokens all
    spelled =
        parts.2 ∙ ap (λ l. parts.0 ++ end_object ∷ l) next ∙ sym (append_assoc parts.0 (end_object ∷ []) (items_tokens two.found))
        ∙ ap (λ l. l ++ items_tokens two.found) items_are ∙ both_spelled one.found two.found

    shallow : items_depth all ≤ 126
    shallow = both_shallow 126 one.found two.found one.shallow two.shallow

    value_is : json.value max_depth (tokens (91 ∷ (front ++ more post))) ≡ Some (json.array all, [])
    value_is =
        ap (λ l. json.value max_depth (begin_array ∷ l)) (spelled ∙ sym (append-nil (items_tokens all))) ∙ value-json_tokens (json.array all) max_depth [] (omega (arith, shallow))

    stands_for : of_items all ≡ Some (after first (item value others))
    stands_for = both_stand_for one.found two.found (item value others) two.stands_for ∙ ap (option_map (λ ds. after ds (item value others))) one.stands_for

    whole : read (91 ∷ (front ++ more post)) ≡ Some (array (after first (item value others)))
    whole = ap (λ o. option_and_then of_json (option_and_then (λ p. json.if_last p.0 p.1) o)) value_is ∙ ap (option_map array) stands_for
