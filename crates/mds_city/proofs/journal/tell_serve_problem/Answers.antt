use Rattle.std.proofs.Common.{codes, inl, refl}
use Rattle.mds_io.specs.Page.{AppendsUpTo, with_newline}
use Rattle.mds_io.proofs.WriteLemmas.{front_either}
use Rattle.mds_city.proofs.journal.tell_serve_problem.Goals as goal

pub returns-in-InUse : goal.returns-in-InUse
returns-in-InUse g c =
    let old = g.E.Write.contents c.args.faults.now in
    let new = g.E.Write.contents c.write_all_of.new.writer in
    let line = with_newline (codes "mds_city: journal in use") in
    let told : AppendsUpTo old new line = front_either c.write_all_of.result old new line c.write_all_of.ensures.ok c.write_all_of.ensures.err in
    rw c.in-InUse.is (inl (refl, told))

pub returns-in-NotRecorded : goal.returns-in-NotRecorded
returns-in-NotRecorded g c =
    let old = g.E.Write.contents c.args.faults.now in
    let new = g.E.Write.contents c.write_all_of-in-NotRecorded.new.writer in
    let line = with_newline (codes "mds_city: journal") in
    let told : AppendsUpTo old new line =
    front_either c.write_all_of-in-NotRecorded.result old new line c.write_all_of-in-NotRecorded.ensures.ok c.write_all_of-in-NotRecorded.ensures.err in
    rw c.in-NotRecorded.is (inl (refl, told))
