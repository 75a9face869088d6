use Rattle.std.proofs.Common.{codes, refl}
use Rattle.mds_io.specs.Page.{AppendsUpTo, with_newline}
use Rattle.mds_io.proofs.WriteLemmas.{front_either}
use Rattle.mds_city.proofs.program.tell_words.Goals as goal

pub returns-in-NotText-clause-not_text : goal.returns-in-NotText-clause-not_text
returns-in-NotText-clause-not_text g c = λ is.
    let old = g.E.Write.contents c.args.faults.now in
    let new = g.E.Write.contents c.write_all_of.new.writer in
    let line = with_newline (codes "error: the words of the command line aren't text") in
    let told : AppendsUpTo old new line = front_either c.write_all_of.result old new line c.write_all_of.ensures.ok c.write_all_of.ensures.err in
    (refl, told)
