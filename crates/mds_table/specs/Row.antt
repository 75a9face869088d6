-- Rows of a table, and their order.
use Rattle.std.specs.Prelude.{ℕ, List, [], ◌∷◌, ◌&&◌, ◌==◌, Bool, true, nat_eq}
use Rattle.std.specs.declared.cmp.Ordering.{Ordering}
use Rattle.std.specs.Ordering.{nat_cmp, is_lt, ordering_then}
use Rattle.std.specs.Cmp.Lexicographic.{pointwise, slice_cmp}
use Rattle.mds_table.specs.declared.state.State.{State}
use Rattle.mds_table.specs.declared.row.Row.{Row}
use Rattle.mds_table.specs.State.{code_of}

-- the row by which an event type leads from one state to another
abbrev pub row_of : State → List ℕ → State → Row
row_of from kind to = record { from = from; kind = kind; to = to }

-- the same row: the type's bytes and the two states are the same
abbrev pub same_row : Row → Row → Bool
same_row a b =
    pointwise nat_eq a.kind b.kind
    && ((code_of a.from == code_of b.from) && (code_of a.to == code_of b.to))

-- rows stand by type, byte by byte, then by the state they lead from, then by the state they lead
-- to
abbrev pub row_cmp : Row → Row → Ordering
row_cmp a b =
    ordering_then (slice_cmp nat_cmp a.kind b.kind) (ordering_then
    (nat_cmp (code_of a.from) (code_of b.from)) (nat_cmp (code_of a.to) (code_of b.to)))

-- each stands before the next one, so each stands once
abbrev pub ascends : {X : Type 0} → (X → X → Ordering) → List X → Bool
ascends cmp [] = true
ascends cmp (x ∷ []) = true
ascends cmp (x ∷ next ∷ rest) = is_lt (cmp x next) && ascends cmp (next ∷ rest)

-- the rows of a table: in row order, each once
abbrev pub in_order : List Row → Bool
in_order rows = ascends row_cmp rows
