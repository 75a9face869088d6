use Rattle.std.proofs.Common.{rules}
use Rattle.mds_io.proofs.ReadLemmas.{gains_nothing, loses_given}
use Rattle.mds_io.proofs.read.read_more.Goals as goal

pub returns-then-is_err-clause-err : goal.returns-then-is_err-clause-err
returns-then-is_err-clause-err g c = loses_given _ _ _ _ _ _ _ (search rules) (search rules) (search rules) (search rules) c.in-Moved.ensures.read.2

pub returns-in-Nothing-clause-ok : goal.returns-in-Nothing-clause-ok
returns-in-Nothing-clause-ok g c = gains_nothing _ _ _ _ (search rules)

pub returns-in-Nothing-clause-end : goal.returns-in-Nothing-clause-end
returns-in-Nothing-clause-end g c = search rules

pub returns-in-Again-clause-err : goal.returns-in-Again-clause-err
returns-in-Again-clause-err g c = gains_nothing _ _ _ _ (search rules)

pub returns-in-Again-clause-made : goal.returns-in-Again-clause-made
returns-in-Again-clause-made g c = search rules

pub returns-in-Failed-clause-err : goal.returns-in-Failed-clause-err
returns-in-Failed-clause-err g c = gains_nothing _ _ _ _ (search rules)

pub returns-in-Failed-clause-kept : goal.returns-in-Failed-clause-kept
returns-in-Failed-clause-kept g c = search rules
