-- What is wrong with the bytes of a batch explains the problem of its file.
use Rattle.std.proofs.Common.{ℕ, List, Option, refl, subst, sym}
use Rattle.mds_batch.specs.Batch.{HasFault}
use Rattle.mds_batch.specs.declared.batch.BatchFault.{BatchFault}
use Rattle.mds_batch.specs.declared.batch.BatchFault.TheVariants.{Memory}
use Rattle.mds_commands.specs.declared.source.Form.TheVariants.{Batch}
use Rattle.mds_commands.specs.declared.source.Source.{Source}
use Rattle.mds_commands.specs.declared.problem.Problem.{Problem}
use Rattle.mds_commands.specs.Problem.{batch_problem}
use Rattle.mds_commands.specs.Source.{ExplainsFile, IsBatchProblem, HasBytes}

-- a fault of the file's bytes explains the problem that is made of it
explained : {R : Type 0} (remaining : R → Option (List ℕ)) (source : Source R) (bytes : List ℕ) (fault : BatchFault) → HasBytes remaining source bytes
    → HasFault bytes fault → ExplainsFile Batch remaining source (batch_problem fault)
explained remaining source bytes Memory has wrong = (has.0, has.1)
explained remaining source bytes fault has wrong = (refl, (λ same. cc), bytes, has, wrong)

-- and so does the problem that its bytes are
pub of_bytes : {R : Type 0} (remaining : R → Option (List ℕ)) (source : Source R) (bytes : List ℕ) (problem : Problem) → HasBytes remaining source bytes
    → IsBatchProblem bytes problem → ExplainsFile Batch remaining source problem
of_bytes remaining source bytes problem has is =
    subst (ExplainsFile Batch remaining source) (sym is.2) (explained remaining source bytes is.0 has is.1)
