use Rattle.std.proofs.Common.{arith}
use Rattle.mds_check.proofs.TableLemmas.{table_word}
use Rattle.mds_check.proofs.table.word.Goals as goal

pub returns : goal.returns
returns c = table_word c.args.row c.args.byte c.requires (omega arith)
