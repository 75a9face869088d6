use Rattle.std.proofs.Common.{arith}
use Rattle.mds_check.proofs.TableLemmas.{eight_words}
use Rattle.mds_check.proofs.crc.behind_eight.Goals as goal

pub returns : goal.returns
returns c = let whole = eight_words c.args.state c.args.bytes.now (omega arith) (omega arith) in cc
