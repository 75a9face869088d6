use Rattle.std.proofs.Common.{◌∙◌, ℕ, List, Some, refl, sym, subst}
use Rattle.mds_follow.specs.End.{IsFoundIn}
use Rattle.mds_follow.proofs.EndLemmas.{found_end}
use Rattle.mds_follow.proofs.end.JournalEnd.of.Goals as goal
use Rattle.mds_follow.proofs.end.JournalEnd.of.Goals.{in-Plain, in-Checked+in_ok-found-in-Checked}

-- a group was found
pub returns-in-Some-clause-end : goal.returns-in-Some-clause-end
returns-in-Some-clause-end c =
    elim c.match-form.branch [
      | in-Plain w ↦ let none = w.found-is in let some = c.in-Some.is in absurd cc
      | in-Checked+in_ok-found-in-Checked w ↦
          let found = w.in_ok-found-in-Checked.ensures.found in
          let these = rw (sym w.found-is ∙ c.in-Some.is) at found in
          found_end c.args.form c.args.bytes.items _ w.in-Checked.is refl
          (subst (λ (l : List ℕ). IsFoundIn l (Some (c.in-Some.requests, c.in-Some.place))) w.deref.ensures.value these)
    ]
