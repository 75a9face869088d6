use Rattle.std.proofs.Common.{◌≡◌, ◌++◌, codes, inl, inr, refl, subst, rules}
use Rattle.mds_io.specs.Page.{AppendsUpTo, with_newline}
use Rattle.mds_io.proofs.WriteLemmas.{front_either}
use Rattle.mds_groups.specs.Fault.{group_fault_text}
use Rattle.mds_commands.proofs.vehicles.problem.tell_fault.Goals as goal

pub returns-in-Ok : goal.returns-in-Ok
returns-in-Ok g c =
    let old = g.E.Write.contents c.args.faults.now in
    let new = g.E.Write.contents c.write_all_of.new.writer in
    let text = c.as_bytes.result.now in
    let line = with_newline (codes "mds_city: not a journal: " ++ group_fault_text c.args.fault) in
    let is : text ≡ line = search rules in
    let told : AppendsUpTo old new text = front_either c.write_all_of.result old new text c.write_all_of.ensures.ok c.write_all_of.ensures.err in
    inl (refl, subst (AppendsUpTo old new) is told)

pub returns : goal.returns
returns g c =
    let old = g.E.Write.contents c.args.faults.now in
    let new = g.E.Write.contents c.write_all_of-in-Err.new.writer in
    let line = with_newline (codes "mds_city: out of memory") in
    let told : AppendsUpTo old new line = front_either c.write_all_of-in-Err.result old new line c.write_all_of-in-Err.ensures.ok c.write_all_of-in-Err.ensures.err in
    inr (refl, told)
