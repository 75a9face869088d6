-- Lists that grow by the rows of a table file.
use Rattle.std.proofs.Common.{◌≡◌, List, [], ◌∷◌, ◌++◌, Option, Some, None, IsSome, option_and_then, get_or, true, false, codes, refl, sym, ◌∙◌, ap, subst, inl, inr, ⊎_elim, ◌⊎◌, arith}
use Rattle.std.specs.List.{Contains}
use Rattle.std.specs.Option.{IsSomeAnd}
use Rattle.std.proofs.lemmas.List.Elements.{Contains-append_left, Contains-push, Contains-push_cases}
use Rattle.std.proofs.lemmas.List.{get_or-map, length-map}
use Rattle.serde_json.specs.Data.{Data, null}
use Rattle.serde_json.specs.Find.{get}
use Rattle.mds_table.specs.declared.state.State.{State}
use Rattle.mds_table.specs.declared.state.State.TheVariants.{Removed, Available, NonOperational, Reserved, OnTrip, Elsewhere, NonContactable, Missing, InDepot}
use Rattle.mds_table.specs.declared.row.Row.{Row}
use Rattle.mds_table.specs.declared.entry.Entry.{Entry}
use Rattle.mds_table.specs.Row.{row_of, in_order}
use Rattle.mds_table.specs.Json.{state_in, type_name_in}
use Rattle.mds_table.specs.TableFile.{listed_values, Lists, ListsStates, IsType, IsRowEntry, StandsFor, AreRowsOf}
use Rattle.mds_table.specs.Entry.{is_marked, HasRow, IsEntryOf, IsRowTo, Adds}

-- what is added in two steps
pub added_both : {X : Type 0} {old mid new : List X} {P Q R : X → Type 0} → Adds old mid P → Adds mid new Q
    → ((x : X) → P x → R x) → ((x : X) → Q x → R x) → ((x : X) → R x → P x ⊎ Q x) → Adds old new R
added_both one two first second split = record {
  keeps = λ x there. two.keeps x (one.keeps x there);
  adds = λ x is. ⊎_elim (λ p. two.keeps x (one.adds x p)) (λ q. two.adds x q) (split x is);
  none_else = λ x there. ⊎_elim (λ mid. ⊎_elim (λ old. inl old) (λ p. inr (first x p)) (one.none_else x mid)) (λ q. inr (second x q)) (two.none_else x there);
}

-- the same in other words
pub added_as : {X : Type 0} {old new : List X} {P R : X → Type 0} → Adds old new P → ((x : X) → P x → R x) → ((x : X) → R x → P x) → Adds old new R
added_as added to from = record {
  keeps = added.keeps;
  adds = λ x is. added.adds x (from x is);
  none_else = λ x there. ⊎_elim (λ old. inl old) (λ p. inr (to x p)) (added.none_else x there);
}

-- a row to one more state
pub row_to_added : {old mid new : List Row} (from : State) (entry : Entry) (states : List State) (to : State) (row : Row) → row ≡ row_of from entry.kind to
    → is_marked entry.to to ≡ true → Adds old mid (IsRowTo from entry states) → Adds mid new (λ other. other ≡ row)
    → Adds old new (IsRowTo from entry (states ++ to ∷ []))
row_to_added from entry states to row is marked one two = added_both one two
    (λ x p. record { leaves = p.leaves; kind = p.kind; named = Contains-append_left states (to ∷ []) x.to p.named; to = p.to })
    (λ x q.
    let here : x ≡ row_of from entry.kind to = q ∙ is in
    rw here (record { leaves = refl; kind = refl; named = Contains-push states to; to = marked }))
    (λ x r. ⊎_elim
    (λ earlier. inl (record { leaves = r.leaves; kind = r.kind; named = earlier; to = r.to }))
    (λ here. let whole : x ≡ row_of from entry.kind to = λ i. row_of (r.leaves i) (r.kind i) (sym here i) in inr (whole ∙ sym is))
    (Contains-push_cases states to x.to r.named))

-- a state that the entry doesn't name has no row
pub row_to_passed : {old new : List Row} (from : State) (entry : Entry) (states : List State) (to : State) → is_marked entry.to to ≡ false
    → Adds old new (IsRowTo from entry states) → Adds old new (IsRowTo from entry (states ++ to ∷ []))
row_to_passed from entry states to unmarked one = added_as one
    (λ x p. record { leaves = p.leaves; kind = p.kind; named = Contains-append_left states (to ∷ []) x.to p.named; to = p.to })
    (λ x r. ⊎_elim
    (λ earlier. record { leaves = r.leaves; kind = r.kind; named = earlier; to = r.to })
    (λ here. let marked : is_marked entry.to to ≡ true = ap (is_marked entry.to) here ∙ r.to in cc)
    (Contains-push_cases states to x.to r.named))

-- the entry's rows from some states
abbrev pub IsRowFrom : Entry → List State → Row → Type 0
IsRowFrom entry states row = Contains states row.from × HasRow entry row

-- every state, in the order of codes
abbrev pub every_state : List State
every_state = Removed ∷ Available ∷ NonOperational ∷ Reserved ∷ OnTrip ∷ Elsewhere ∷ NonContactable ∷ Missing ∷ InDepot ∷ []

pub among_all : (state : State) → Contains every_state state
among_all Removed = (0, omega arith, refl)
among_all Available = (1, omega arith, refl)
among_all NonOperational = (2, omega arith, refl)
among_all Reserved = (3, omega arith, refl)
among_all OnTrip = (4, omega arith, refl)
among_all Elsewhere = (5, omega arith, refl)
among_all NonContactable = (6, omega arith, refl)
among_all Missing = (7, omega arith, refl)
among_all InDepot = (8, omega arith, refl)

-- the rows from one more state
pub rows_from_added : {old mid new : List Row} (from : State) (entry : Entry) (states : List State) → is_marked entry.from from ≡ true
    → Adds old mid (IsRowFrom entry states) → Adds mid new (IsRowTo from entry every_state) → Adds old new (IsRowFrom entry (states ++ from ∷ []))
rows_from_added from entry states marked one two = added_both one two
    (λ x p. (Contains-append_left states (from ∷ []) x.from p.0, p.1))
    (λ x q. (
      subst (Contains (states ++ from ∷ [])) (sym q.leaves) (Contains-push states from),
      record { from = ap (is_marked entry.from) q.leaves ∙ marked; kind = q.kind; to = q.to },
    ))
    (λ x r. ⊎_elim
    (λ earlier. inl (earlier, r.1))
    (λ here. inr (record { leaves = sym here; kind = r.1.kind; named = among_all x.to; to = r.1.to }))
    (Contains-push_cases states from x.from r.0))

-- a state that the entry doesn't name has no rows
pub rows_from_passed : {old new : List Row} (from : State) (entry : Entry) (states : List State) → is_marked entry.from from ≡ false
    → Adds old new (IsRowFrom entry states) → Adds old new (IsRowFrom entry (states ++ from ∷ []))
rows_from_passed from entry states unmarked one = added_as one
    (λ x p. (Contains-append_left states (from ∷ []) x.from p.0, p.1))
    (λ x r. ⊎_elim
    (λ earlier. (earlier, r.1))
    (λ here. let marked : is_marked entry.from from ≡ true = ap (is_marked entry.from) here ∙ r.1.from in cc)
    (Contains-push_cases states from x.from r.0))

-- the rows of one more entry
pub rows_more : {old new : List Row} (values : List Data) (value : Data) (entry : Entry) → IsEntryOf value entry
    → AreRowsOf values old → in_order new ≡ true → Adds old new (HasRow entry) → AreRowsOf (values ++ value ∷ []) new
rows_more values value entry is rows order added = record {
  order = order;
  none_else = λ row there. ⊎_elim
      (λ old. let any = rows.none_else row old in (any.0, Contains-append_left values (value ∷ []) any.0 any.1, any.2))
      (λ has. (value, Contains-push values value, is.stands row has))
      (added.none_else row there);
  all = λ row any. ⊎_elim
      (λ earlier. added.keeps row (rows.all row (any.0, earlier, any.2)))
      (λ here. added.adds row (is.has row (subst (λ d. StandsFor d row) (sym here) any.2)))
      (Contains-push_cases values value any.0 any.1);
}

-- what is named
named : {X : Type 0} (o : Option X) → IsSome o → (x : X) × (o ≡ Some x)
named (Some x) some = (x, refl)
named None some = cc

-- a list of states has one
some_state : (d : Data) → ListsStates d → (state : State) × Lists state d
some_state d lists =
    let first = named (state_in (get_or (listed_values d) 0 null)) (lists.names 0 null lists.some) in
    (first.0, (0, rw length-map lists.some, get_or-map state_in (listed_values d) 0 null (Some first.0) lists.some ∙ first.1))

some_row_of : (from kind to : Option Data) → IsSomeAnd from ListsStates → IsSomeAnd kind IsType → IsSomeAnd to ListsStates
    → (row : Row) × IsSomeAnd from (Lists row.from) × (option_and_then type_name_in kind ≡ Some row.kind) × IsSomeAnd to (Lists row.to)
some_row_of (Some from) (Some kind) (Some to) leaves types arrives =
    let first = some_state from leaves in
    let name = named (type_name_in kind) types in
    let last = some_state to arrives in
    (row_of first.0 name.0 last.0, first.1, name.1, last.1)
some_row_of None kind to leaves types arrives = absurd leaves
some_row_of (Some from) None to leaves types arrives = absurd types
some_row_of (Some from) (Some kind) None leaves types arrives = absurd arrives

-- an entry of the right form has a row
pub some_row : (value : Data) (entry : Entry) → IsRowEntry value → IsEntryOf value entry → (row : Row) × HasRow entry row
some_row value entry form is =
    let row = some_row_of (get (codes "from") value) (get (codes "type") value) (get (codes "to") value) form.from form.kind form.to in
    (row.0, is.has row.0 (record { from = row.1; kind = row.2; to = row.3 }))
