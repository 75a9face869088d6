use Rattle.std.proofs.Common.{◌≡◌, ◌++◌, codes, inl, inr, refl, subst, rules}
use Rattle.mds_io.specs.Page.{AppendsUpTo, with_newline}
use Rattle.mds_io.proofs.WriteLemmas.{front_either}
use Rattle.mds_city.proofs.compact.tell_cannot_write.Goals as goal

pub returns-in-Ok : goal.returns-in-Ok
returns-in-Ok g c =
    let old = g.E.Write.contents c.args.faults.now in
    let new = g.E.Write.contents c.write_all_of.new.writer in
    let text = c.as_bytes.result.now in
    let line = with_newline (codes "mds_city: cannot write " ++ c.args.path.now) in
    let is : text ≡ line = search rules in
    let told : AppendsUpTo old new text = front_either c.write_all_of.result old new text c.write_all_of.ensures.ok c.write_all_of.ensures.err in
    inl (refl, subst (AppendsUpTo old new) is told)

pub returns : goal.returns
returns g c =
    elim c.tell_journal_problem.ensures [
      | inl told ↦ inr told
      | inr told ↦ inr told
    ]
