-- Lists and objects, read from their tokens a turn at a time.
use Rattle.std.proofs.Common.{◌≡◌, ℕ, zero, suc, ◌-◌, ◌<◌, ◌≤◌, List, [], ◌∷◌, ◌++◌, length, Option, Some, None, option_map, option_and_then, refl, ap, ◌∙◌, arith}
use Rattle.json.specs.Token.{Token}
use Rattle.json.specs.Json as json
use Rattle.json.specs.Json.{Parse, parse_map, after_end_array, read_key, items_step, items, members, value}
use Rattle.json.proofs.Grammar.{left, items_end, items_more, members_end, members_no_key, members_more, read_key-shorter, skip_value-shorter}
use Rattle.serde_json.specs.Data.{Data, Items, no_items, item, Members, no_members, put}
use Rattle.serde_json.specs.Read.{of_json, of_items, of_members, converted}
use Rattle.mds_table.specs.Json.{items_in}
use Rattle.mds_batch.specs.Reading.{value_at, items_at, members_at}
use Rattle.mds_batch.proofs.Starts.{twice}

-- ---- what conversion does to a read

-- what an option holds, or something else
abbrev pick : {A : Type 0} → A → Option A → A
pick d None = d
pick d (Some a) = a

-- a pair that was made has the parts that it was made of
made : {A B : Type 0} (a : A) (r s : List Token) (x : Option B) (b : B) → option_map {U = B × List Token} (λ y. (y, r)) x ≡ Some (b, s) → (r ≡ s) × (x ≡ Some b)
made a r s None b e = absurd (cc)
made a r s (Some y) b e = let same = ap (pick (y, r)) e in (ap (λ p. p.1) same, ap (λ p. Some p.0) same)

-- what was converted was read
pub converted_some : {A B : Type 0} (f : A → Option B) (o : Option (A × List Token)) (b : B) (r : List Token) → converted f o ≡ Some (b, r) → (a : A) × (o ≡ Some (a, r)) × (f a ≡ Some b)
converted_some f None b r e = absurd (cc)
converted_some f (Some p) b r e = let both = made p.0 p.1 r (f p.0) b e in (p.0, ap (λ s. Some (p.0, s)) both.0, both.1)

-- what makes no pair is nothing
unmade : {B : Type 0} (r : List Token) (x : Option B) → option_map {U = B × List Token} (λ y. (y, r)) x ≡ None → x ≡ None
unmade r None e = refl
unmade r (Some y) e = absurd (cc)

-- an item that is converted stays before the others
with_item : (j : json.Json) (d : Data) → of_json j ≡ Some d → (o : Option (json.Items × List Token)) → converted of_items (parse_map (json.item j) o) ≡ parse_map (item d) (converted of_items o)
with_item j d e None = refl
with_item j d e (Some p) = rw e (twice (item d) p.1 (of_items p.0))

-- an item that is not converted leaves no list
without_item : (j : json.Json) → of_json j ≡ None → (o : Option (json.Items × List Token)) → converted of_items (parse_map (json.item j) o) ≡ None
without_item j e None = refl
without_item j e (Some p) = rw e

-- an item that can't be read leaves no list
no_item : (more : Parse json.Items) (o : Option (json.Json × List Token)) → converted of_json o ≡ None → converted of_items (option_and_then (λ q. parse_map (json.item q.0) (more q.1)) o) ≡ None
no_item more None e = refl
no_item more (Some q) e = without_item q.0 (unmade q.1 (of_json q.0) e) (more q.1)

-- a member that is converted goes in among those before it
with_member : (k : List ℕ) (j : json.Json) (d : Data) (old : Members) → of_json j ≡ Some d → (o : Option (json.Members × List Token))
    → converted (λ ms. of_members ms old) (parse_map (json.member k j) o) ≡ converted (λ ms. of_members ms (put k d old)) o
with_member k j d old e None = refl
with_member k j d old e (Some p) = rw e

-- a member that is not converted leaves no object
without_member : (k : List ℕ) (j : json.Json) (old : Members) → of_json j ≡ None → (o : Option (json.Members × List Token)) → converted (λ ms. of_members ms old) (parse_map (json.member k j) o) ≡ None
without_member k j old e None = refl
without_member k j old e (Some p) = rw e

-- a member whose value can't be read leaves no object
no_member : (k : List ℕ) (old : Members) (more : Parse json.Members) (o : Option (json.Json × List Token)) → converted of_json o ≡ None
    → converted (λ ms. of_members ms old) (option_and_then (λ q. parse_map (json.member k q.0) (more q.1)) o) ≡ None
no_member k old more None e = refl
no_member k old more (Some q) e = without_member k q.0 old (unmade q.1 (of_json q.0) e) (more q.1)

-- ---- a value takes at least one token

-- behind a value there are fewer tokens
pub value_at-shorter : (depth : ℕ) (ts r : List Token) (d : Data) → value_at depth ts ≡ Some (d, r) → length r < length ts
value_at-shorter depth ts r d e = skip_value-shorter depth ts r (ap left (converted_some of_json (value depth ts) d r e).1)

-- ---- a list

-- these values, and the rest behind them
abbrev items_before : List Data → Items → Items
items_before [] rest = rest
items_before (d ∷ ds) rest = item d (items_before ds rest)

-- the values that are all of a list are its items
items_in-before : (ds : List Data) → items_in (items_before ds no_items) ≡ ds
items_in-before [] = refl
items_in-before (d ∷ ds) = ap (λ all. d ∷ all) (items_in-before ds)

-- the first of the rest goes to the end of those before it
before_push : (ds : List Data) (d : Data) (rest : Items) → items_before ds (item d rest) ≡ items_before (ds ++ d ∷ []) rest
before_push [] d rest = refl
before_push (c ∷ ds) d rest = ap (item c) (before_push ds d rest)

-- the same of items that were read
read_push : (ds : List Data) (d : Data) (o : Option (Items × List Token)) → parse_map (items_before ds) (parse_map (item d) o) ≡ parse_map (items_before (ds ++ d ∷ [])) o
read_push ds d None = refl
read_push ds d (Some p) = ap (λ all. Some (all, p.1)) (before_push ds d p.0)

-- nothing stands before items that were read
none_before : (o : Option (Items × List Token)) → o ≡ parse_map (items_before []) o
none_before None = refl
none_before (Some p) = refl

-- of the items that some tokens begin with, these values have been read, and the other tokens come next
pub record ItemsSoFar (depth : ℕ) (old now : List Token) (values : List Data) : Type 0 where
  pub turns : ℕ
  pub enough : length now ≤ turns
  pub same : items_at depth old ≡ parse_map (items_before values) (converted of_items (items (value depth) turns now))

-- a list that can't go on is none
stuck : (p : Parse json.Json) (turns : ℕ) (ts : List Token) → after_end_array ts ≡ None → converted of_json (p ts) ≡ None → converted of_items (items p turns ts) ≡ None
unfolding items
stuck p zero ts going e = refl
stuck p (suc n) ts going e = ap (λ o. converted of_items (items_step p (items p n) ts o)) going ∙ no_item (items p n) (p ts) e

-- at first no value has been read
pub items_begun : (depth : ℕ) (old : List Token) → ItemsSoFar depth old old []
items_begun depth old = record { turns = length old; enough = omega arith; same = none_before (items_at depth old) }

-- the list goes on: no bracket was taken
abbrev pub GoesOn : List Token → List Token → Type 0
GoesOn old new = (after_end_array old ≡ None) × (new ≡ old)

module _ {depth : ℕ} {old now : List Token} {values : List Data} (so : ItemsSoFar depth old now values) where
  -- a turn reads one value more
  pub items_turn : (s r : List Token) (d : Data) → value_at depth s ≡ Some (d, r) → GoesOn now s → ItemsSoFar depth old r (values ++ d ∷ [])
  items_turn s r d read going =
      let e : value_at depth now ≡ Some (d, r) = rw (← going.1) read in
      let less = value_at-shorter depth now r d e in
      let some : 0 < so.turns = omega (arith, less, so.enough) in
      let j = converted_some of_json (value depth now) d r e in
      let more = ap (converted of_items) (items_more (value depth) so.turns now r j.0 some going.0 j.1) ∙ with_item j.0 d j.2 (items (value depth) (so.turns - 1) r) in
      record {
        turns = so.turns - 1;
        enough = omega (arith, less, so.enough);
        same = so.same ∙ ap (parse_map (items_before values)) more ∙ read_push values d (converted of_items (items (value depth) (so.turns - 1) r));
      }

  -- a value that can't be read leaves no list
  pub items_refused : (s : List Token) → value_at depth s ≡ None → GoesOn now s → items_at depth old ≡ None
  items_refused s none going = so.same ∙ ap (parse_map (items_before values)) (stuck (value depth) so.turns now going.0 (rw (← going.1) none))

  -- at the bracket the values are the items
  pub items_over : (s : List Token) → after_end_array now ≡ Some s → (all : Items) × (items_at depth old ≡ Some (all, s)) × (items_in all ≡ values)
  items_over s e =
      let last = ap (converted of_items) (items_end (value depth) so.turns now s so.enough e) in
      (items_before values no_items, so.same ∙ ap (parse_map (items_before values)) last, items_in-before values)

-- ---- an object

-- of the members that some tokens begin with, these have been found, and the other tokens come next
pub record MembersSoFar (depth : ℕ) (old now : List Token) (found : Members) : Type 0 where
  pub turns : ℕ
  pub enough : length now ≤ turns
  pub same : members_at depth old ≡ converted (λ ms. of_members ms found) (members (value depth) turns now)

-- an object whose member has no value is none
valueless : (p : Parse json.Json) (found : Members) (turns : ℕ) (k : List ℕ) (ts s : List Token) → read_key ts ≡ Some (Some k, s) → converted of_json (p s) ≡ None
    → converted (λ ms. of_members ms found) (members p turns ts) ≡ None
unfolding members
valueless p found zero k ts s key e = refl
valueless p found (suc n) k ts s key e = rw key (no_member k found (members p n) (p s) e)

-- at first no member has been found
pub members_begun : (depth : ℕ) (old : List Token) → MembersSoFar depth old old no_members
members_begun depth old = record { turns = length old; enough = omega arith; same = refl }

module _ {depth : ℕ} {old now : List Token} {found : Members} (so : MembersSoFar depth old now found) where
  -- a turn finds one member more
  pub members_turn : (k : List ℕ) (s r : List Token) (d : Data) → value_at depth s ≡ Some (d, r) → read_key now ≡ Some (Some k, s) → MembersSoFar depth old r (put k d found)
  members_turn k s r d e key =
      let less = value_at-shorter depth s r d e in
      let lesser = read_key-shorter now (Some k) s key in
      let some : 0 < so.turns = omega (arith, lesser, so.enough) in
      let j = converted_some of_json (value depth s) d r e in
      let more = ap (converted (λ ms. of_members ms found)) (members_more (value depth) so.turns k now s r j.0 some key j.1) ∙ with_member k j.0 d found j.2 (members (value depth) (so.turns - 1) r) in
      record { turns = so.turns - 1; enough = omega (arith, less, lesser, so.enough); same = so.same ∙ more }

  -- a value that can't be read leaves no object
  pub members_refused : (k : List ℕ) (s : List Token) → value_at depth s ≡ None → read_key now ≡ Some (Some k, s) → members_at depth old ≡ None
  members_refused k s none key = so.same ∙ valueless (value depth) found so.turns k now s key none

  -- at the brace the members are all
  pub members_over : (s : List Token) → read_key now ≡ Some (None, s) → members_at depth old ≡ Some (found, s)
  members_over s e = so.same ∙ ap (converted (λ ms. of_members ms found)) (members_end (value depth) so.turns now s so.enough e)

  -- where no key comes there is no object
  pub key_refused : read_key now ≡ None → members_at depth old ≡ None
  key_refused e = so.same ∙ ap (converted (λ ms. of_members ms found)) (members_no_key (value depth) so.turns now e)
