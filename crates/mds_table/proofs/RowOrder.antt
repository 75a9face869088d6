-- Rows that are no different are one row.
use Rattle.std.proofs.Common.{◌≡◌, ℕ, List, ap, refl, ◌∙◌, sym}
use Rattle.std.specs.declared.cmp.Ordering.{Ordering}
use Rattle.std.specs.declared.cmp.Ordering.TheVariants.{Less, Equal, Greater}
use Rattle.std.specs.Ordering.{nat_cmp, is_eq, ordering_then}
use Rattle.std.specs.Cmp.Lexicographic.{slice_cmp}
use Rattle.std.proofs.lemmas.Cmp.{ranked}
use Rattle.std.proofs.lemmas.Map.Text.{is_eq-slice_cmp}
use Rattle.std.proofs.lemmas.Slice.Eq.{bytes_eq-Decides}
use Rattle.mds_table.specs.declared.row.Row.{Row}
use Rattle.mds_table.specs.State.{code_of}
use Rattle.mds_table.specs.Row.{row_of, row_cmp}
use Rattle.mds_table.proofs.Rows.{code_of_injective}

-- names that are no different are one name
pub same_name : (a b : List ℕ) → slice_cmp nat_cmp a b ≡ Equal → a ≡ b
same_name a b tied = (bytes_eq-Decides a b).0 (sym (is_eq-slice_cmp a b) ∙ ap is_eq tied)

tied_both : (a b : Ordering) → ordering_then a b ≡ Equal → (a ≡ Equal) × (b ≡ Equal)
tied_both Less b is = cc
tied_both Equal b is = (refl, is)
tied_both Greater b is = cc

same_code : (a b : ℕ) (o : Ordering) → o ≡ nat_cmp a b → o ≡ Equal → a ≡ b
same_code a b o is tied = elim o as (λ o. o ≡ nat_cmp a b → o ≡ Equal → a ≡ b) [
  | Less ↦ λ is tied. cc
  | Equal ↦ λ is tied. ranked a b Equal is
  | Greater ↦ λ is tied. cc
] is tied

-- rows that are no different are one row
pub same_row_by_cmp : (a b : Row) → row_cmp a b ≡ Equal → a ≡ b
same_row_by_cmp a b tied =
    let parts = tied_both (slice_cmp nat_cmp a.kind b.kind) (ordering_then (nat_cmp (code_of a.from) (code_of b.from)) (nat_cmp (code_of a.to) (code_of b.to))) tied in
    let states = tied_both (nat_cmp (code_of a.from) (code_of b.from)) (nat_cmp (code_of a.to) (code_of b.to)) parts.1 in
    let kind : a.kind ≡ b.kind = same_name a.kind b.kind parts.0 in
    let from : a.from ≡ b.from = code_of_injective a.from b.from (same_code (code_of a.from) (code_of b.from) (nat_cmp (code_of a.from) (code_of b.from)) refl states.0) in
    let to : a.to ≡ b.to = code_of_injective a.to b.to (same_code (code_of a.to) (code_of b.to) (nat_cmp (code_of a.to) (code_of b.to)) refl states.1) in
    λ i. row_of (from i) (kind i) (to i)
