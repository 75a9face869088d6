-- Rows of moves, which are laid out, and those of a set.
use Rattle.std.proofs.Common.{◌≡◌, ◌⊎◌, ℕ, ◌<◌, ◌≤◌, List, [], ◌∷◌, ◌++◌, length, map, true, false, get_or, Contains, refl, sym, ◌∙◌, ap, subst, inl, inr, ⊎_elim, arith}
use Rattle.std.proofs.lemmas.List.{get_or-map, length-map, get_or_default}
use Rattle.std.proofs.lemmas.List.Elements.{Contains-append_left, Contains-push, Contains-push_cases}
use Rattle.mds_table.specs.declared.state.State.{State}
use Rattle.mds_table.specs.declared.row.Row.{Row}
use Rattle.mds_table.specs.declared.moves.Moves.{Moves}
use Rattle.mds_table.specs.declared.row_set.RowSet.{RowSet}
use Rattle.mds_table.specs.Row.{row_of, in_order}
use Rattle.mds_table.specs.RowLaws.{row_cmp_total}
use Rattle.mds_table.specs.Mask.{has_bit, mask_from}
use Rattle.mds_table.specs.Moves.{AreMoves, GrowsBy, IsRowOf, IsRowOfAny, IsRowOfMask, HasKind}
use Rattle.mds_table.specs.TableFile.{AreTypesOf, max_rows}
use Rattle.mds_table.specs.Entry.{Adds}
use Rattle.mds_table.specs.RowSet.{IsCountOf, AreSet}
use Rattle.mds_table.proofs.Adding.{added_both, added_as, among_all, every_state}
use Rattle.mds_table.proofs.OneTable.{same_members}
use Rattle.mds_table.proofs.Put.{ascends_kinds}

-- rows of a type, from a state, to some states
abbrev pub IsRowOfMaskTo : State → List ℕ → ℕ → List State → Row → Type 0
IsRowOfMaskTo from kind mask states row = Contains states row.to × IsRowOfMask from kind mask row

-- a row to one more state
pub to_more : {old mid new : List Row} (from : State) (kind : List ℕ) (mask : ℕ) (front : List State) (to : State) (row : Row) → row ≡ row_of from kind to
    → has_bit mask to ≡ true → Adds old mid (IsRowOfMaskTo from kind mask front) → Adds mid new (λ other. other ≡ row)
    → Adds old new (IsRowOfMaskTo from kind mask (front ++ to ∷ []))
to_more from kind mask front to row is has one two = added_both one two
    (λ x p. (Contains-append_left front (to ∷ []) x.to p.0, p.1))
    (λ x q.
    let here : x ≡ row_of from kind to = q ∙ is in
    rw here (Contains-push front to, record { leaves = refl; kind = refl; to = has }))
    (λ x r. ⊎_elim
    (λ earlier. inl (earlier, r.1))
    (λ here. let whole : x ≡ row_of from kind to = λ i. row_of (r.1.leaves i) (r.1.kind i) (sym here i) in inr (whole ∙ sym is))
    (Contains-push_cases front to x.to r.0))

-- no row to a state that the mask lacks
pub to_passed : {old new : List Row} (from : State) (kind : List ℕ) (mask : ℕ) (front : List State) (to : State) → has_bit mask to ≡ false
    → Adds old new (IsRowOfMaskTo from kind mask front) → Adds old new (IsRowOfMaskTo from kind mask (front ++ to ∷ []))
to_passed from kind mask front to lacks one = added_as one
    (λ x p. (Contains-append_left front (to ∷ []) x.to p.0, p.1))
    (λ x r. ⊎_elim
    (λ earlier. (earlier, r.1))
    (λ here. let has : has_bit mask to ≡ true = ap (has_bit mask) here ∙ r.1.to in cc)
    (Contains-push_cases front to x.to r.0))

-- rows of moves, from some states
abbrev pub IsRowOfFrom : Moves → List State → Row → Type 0
IsRowOfFrom m states row = Contains states row.from × IsRowOf m row

-- the rows from one more state
pub from_more : {old mid new : List Row} (m : Moves) (front : List State) (from : State) (mask : ℕ) → mask ≡ mask_from m.masks from
    → Adds old mid (IsRowOfFrom m front) → Adds mid new (IsRowOfMaskTo from m.kind mask every_state) → Adds old new (IsRowOfFrom m (front ++ from ∷ []))
from_more m front from mask is one two = added_both one two
    (λ x p. (Contains-append_left front (from ∷ []) x.from p.0, p.1))
    (λ x q. (
      subst (Contains (front ++ from ∷ [])) (sym q.1.leaves) (Contains-push front from),
      record {
        kind = q.1.kind;
        to = subst (λ s. has_bit (mask_from m.masks s) x.to ≡ true) (sym q.1.leaves) (ap (λ bits. has_bit bits x.to) (sym is) ∙ q.1.to);
      },
    ))
    (λ x r. ⊎_elim
    (λ earlier. inl (earlier, r.1))
    (λ here. inr (
      among_all x.to,
      record {
        leaves = sym here;
        kind = r.1.kind;
        to = ap (λ bits. has_bit bits x.to) is ∙ subst (λ s. has_bit (mask_from m.masks s) x.to ≡ true) (sym here) r.1.to;
      },
    ))
    (Contains-push_cases front from x.from r.0))

-- the rows of one type more
pub any_more : {old mid new : List Row} (front : List Moves) (m : Moves) → Adds old mid (IsRowOfAny front)
    → Adds mid new (IsRowOfFrom m every_state) → Adds old new (IsRowOfAny (front ++ m ∷ []))
any_more front m one two = added_both one two
    (λ x p. (p.0, Contains-append_left front (m ∷ []) p.0 p.1, p.2))
    (λ x q. (m, Contains-push front m, q.1))
    (λ x r. ⊎_elim
    (λ earlier. inl (r.0, earlier, r.2))
    (λ here. inr (among_all x.from, subst (λ other. IsRowOf other x) (sym here) r.2))
    (Contains-push_cases front m r.0 r.1))

-- the rows of moves are those that the moves are of
pub laid : (rows all : List Row) (moves : List Moves) → in_order rows ≡ true → Adds [] rows (IsRowOfAny moves) → in_order all ≡ true
    → AreMoves all all moves → rows ≡ all
laid rows all moves up added order are = same_members row_cmp_total rows all up order there back where
  there : (row : Row) → Contains rows row → Contains all row
  there row is = ⊎_elim
      (λ none. absurd (omega (arith, none.1)))
      (λ of. subst (λ name. Contains all (row_of row.from name row.to)) (sym of.2.kind) ((are.masks of.0 of.1 row.from row.to).0 of.2.to))
      (added.none_else row is)

  back : (row : Row) → Contains all row → Contains rows row
  back row is =
      let m = are.kinds row is in
      added.adds row (
        m.0,
        m.1,
        record {
          kind = sym m.2;
          to = (are.masks m.0 m.1 row.from row.to).1 (subst (λ name. Contains all (row_of row.from name row.to)) (sym m.2) is);
        },
      )

-- what a list has, and what is mapped of it
map_there : (moves : List Moves) (m : Moves) → Contains moves m → Contains (map (λ x. x.kind) moves) m.kind
map_there moves m (k, within, is) = (
  k,
  omega (arith, within, length-map moves (λ x. x.kind)),
  get_or-map (λ x. x.kind) moves k m m.kind within ∙ ap (λ x. x.kind) is,
)

map_back : (moves : List Moves) (kind : List ℕ) → Contains (map (λ x. x.kind) moves) kind → HasKind moves kind
map_back moves kind (k, within, is) =
    let d : Moves = record { kind = kind; masks = [] } in
    let inside : k < length moves = omega (arith, within, length-map moves (λ x. x.kind)) in
    let m = get_or moves k d in
    (m, (k, inside, get_or_default moves k m d inside), sym (get_or-map (λ x. x.kind) moves k d kind inside) ∙ is)

-- the types of a set are those of its moves
pub types_of : (rows : List Row) (set : RowSet) → AreSet rows set → AreTypesOf rows (map (λ m. m.kind) set.moves.items)
types_of rows set are = record {
  order = sym (ascends_kinds set.moves.items) ∙ are.moves.order;
  none_else = λ kind there.
      let m = map_back set.moves.items kind there in
      let row = are.used m.0 m.1 in
      (row.0, row.1, row.2 ∙ m.2);
  all = λ row there.
      let m = are.moves.kinds row there in
      subst (Contains (map (λ x. x.kind) set.moves.items)) m.2 (map_there set.moves.items m.0 m.1);
}

-- the count tells whether there are too many
pub counts_few : (rows : List Row) (count : ℕ) → IsCountOf rows count → count ≤ max_rows → length rows ≤ max_rows
counts_few rows count is few = ⊎_elim (λ same. omega (arith, same)) (λ past. absurd (omega (arith, past.0))) is

pub counts_many : (rows : List Row) (count : ℕ) → IsCountOf rows count → max_rows < count → max_rows < length rows
counts_many rows count is many = ⊎_elim (λ same. omega (arith, same)) (λ past. past.1) is

-- a set that an entry's rows are added to
pub set_more : (rows more : List Row) (old new : RowSet) (kind : List ℕ) (P : Row → Type 0) (some : (row : Row) × P row) → ((row : Row) → P row → row.kind ≡ kind)
    → AreSet rows old → in_order more ≡ true → Adds rows more P → IsCountOf more new.count → AreMoves more more new.moves.items
    → ((m : Moves) → Contains new.moves.items m → HasKind old.moves.items m.kind ⊎ (m.kind ≡ kind)) → AreSet more new
set_more rows more old new kind P some of_kind are order added count moves kinds = record {
  order = order;
  moves = moves;
  used = λ m there. ⊎_elim
      (λ has.
      let row = are.used has.0 has.1 in
      (row.0, added.keeps row.0 row.1, row.2 ∙ has.2))
      (λ is. (some.0, added.adds some.0 some.1, of_kind some.0 some.1 ∙ sym is))
      (kinds m there);
  count = count;
}

pub grows_by : (rows more : List Row) (kind : List ℕ) (P : Row → Type 0) → ((row : Row) → P row → row.kind ≡ kind) → Adds rows more P → GrowsBy rows more kind
grows_by rows more kind P of_kind added = record {
  keeps = added.keeps;
  none_else = λ row there. ⊎_elim (λ old. inl old) (λ is. inr (of_kind row is)) (added.none_else row there);
}
