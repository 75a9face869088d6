-- The sets of an event, before its first type, and one type back or further.
use Rattle.std.proofs.Common.{◌≡◌, ◌<◌, ◌≤◌, ◌+◌, ◌-◌, ℕ, zero, suc, List, [], ◌∷◌, ◌++◌, length, get_or, take, inl, inr, refl, sym, subst, arith, length-append, length-take}
use Rattle.std.specs.Prelude.{slice_range}
use Rattle.std.proofs.lemmas.Bool.{cases_lt}
use Rattle.std.proofs.lemmas.List.{get_or_append_left, get_or_push, get_or-take}
use Rattle.std.proofs.Math.Seq.{take-add}
use Rattle.mds_table.specs.declared.state.State.{State}
use Rattle.mds_table.specs.declared.row.Row.{Row}
use Rattle.mds_steps.specs.Reached.{AreReached}
use Rattle.mds_steps.proofs.Chains.{leads_nowhere, join, split}
use Rattle.mds_trace.specs.Session.{AreSets}

-- what is reached from what was reached
reached_on : (rows : List Row) (set mid last : List State) (first second : List (List ℕ)) → AreReached rows set first mid → AreReached rows mid second last
    → AreReached rows set (first ++ second) last
reached_on rows set mid last first second before after to = (
  λ found. let at = (after to).0 found in let from = (before at.0).0 at.1 in (from.0, from.1, join rows first second from.0 at.0 to from.2 at.2),
  λ from. let parts = split rows first second from.0 to from.2 in (after to).1 (parts.0, (before parts.0).1 (from.0, from.1, parts.1), parts.2),
)

module _ (rows : List Row) (held : State) (kinds : List (List ℕ)) where
  -- before the first type
  pub none_passed : AreSets rows held kinds 0 ((held ∷ []) ∷ [])
  none_passed = record {
    count = refl;
    each = first;
  } where
    first : (i : ℕ) (d : List State) → i ≤ 0 → AreReached rows (held ∷ []) (take i kinds) (get_or ((held ∷ []) ∷ []) i d)
    first zero d within = λ to. (λ found. (to, found, leads_nowhere rows to), λ from. rw from.2.1.1 at from.1)
    first (suc i) d within = absurd (omega (arith, within))

  -- one type back
  pub one_back : (passed : ℕ) (sets : List (List State)) → 0 < passed → AreSets rows held kinds passed sets
      → AreSets rows held kinds (passed - 1) (take (length sets - 1) sets)
  one_back passed sets some are = record {
    count = omega (arith, length-take (length sets - 1) sets, are.count, some);
    each = λ i d within.
        let less : i < length sets - 1 = omega (arith, within, some, are.count) in
        rw (get_or-take (length sets - 1) sets i d less) (are.each i d (omega (arith, within)));
  }

  -- the last set
  pub reached_here : (passed : ℕ) (sets : List (List State)) (now : List State) → AreSets rows held kinds passed sets → now ≡ get_or sets passed now
      → AreReached rows (held ∷ []) (take passed kinds) now
  reached_here passed sets now are here = subst (AreReached rows (held ∷ []) (take passed kinds)) (sym here) (are.each passed now (omega arith))

  -- one type further
  pub one_further : (passed : ℕ) (sets : List (List State)) (now next : List State) → AreSets rows held kinds passed sets → now ≡ get_or sets passed now
      → AreReached rows now (slice_range kinds passed (passed + 1)) next → AreSets rows held kinds (passed + 1) (sets ++ next ∷ [])
  one_further passed sets now next are here after = record {
    count = omega (arith, length-append sets (next ∷ []), are.count);
    each = λ i d within. elim (cases_lt i (length sets)) [
      | inl earlier ↦ rw (get_or_append_left sets (next ∷ []) d i earlier) (are.each i d (omega (arith, earlier, are.count)))
      | inr rest ↦
          let last : length sets ≡ i = omega (arith, rest, within, are.count) in
          let place : i ≡ passed + 1 = omega (arith, last, are.count) in
          rw (get_or_push sets next d i last, place, take-add passed 1 kinds) (reached_on rows (held ∷ []) now next (take passed kinds) _ (reached_here passed sets now are here) (rw one at after))
    ];
  } where
    one : passed + 1 - passed ≡ 1
    one = omega arith
