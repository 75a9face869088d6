use Rattle.std.proofs.Common.{codes, rules}
use Rattle.mds_io.specs.Page.{AppendsUpTo, with_newline}
use Rattle.mds_io.proofs.WriteLemmas.{front_either}
use Rattle.mds_commands.proofs.debug.tell_debug.Goals as goal

pub returns-in-BadIdentifier : goal.returns-in-BadIdentifier
returns-in-BadIdentifier g c =
    let old = g.E.Write.contents c.args.faults.now in
    let new = g.E.Write.contents c.write_all_of.new.writer in
    let line = with_newline (codes "mds_city: bad identifier") in
    let told : AppendsUpTo old new line = front_either c.write_all_of.result old new line c.write_all_of.ensures.ok c.write_all_of.ensures.err in
    search rules

pub returns-in-NotInFile : goal.returns-in-NotInFile
returns-in-NotInFile g c =
    let old = g.E.Write.contents c.args.faults.now in
    let new = g.E.Write.contents c.write_all_of-in-NotInFile.new.writer in
    let line = with_newline (codes "mds_city: vehicle not in file") in
    let told : AppendsUpTo old new line =
    front_either c.write_all_of-in-NotInFile.result old new line c.write_all_of-in-NotInFile.ensures.ok c.write_all_of-in-NotInFile.ensures.err in
    search rules
