-- Whole runs of the machine.
use Rattle.std.specs.Prelude.{◌≡◌, List, [], ◌∷◌}
use Rattle.mds_table.specs.Tables.{Tables}
use Rattle.mds_core.specs.declared.request.Request.{Request}
use Rattle.mds_core.specs.declared.reply.Reply.{Reply}
use Rattle.mds_core.specs.Answer.{Answers, next}

-- each reply is the answer after the history so far, which goes on by it
abbrev pub IsRun : Tables → List Request → List Request → List Reply → List Request → Type 0
IsRun tables old [] [] new = new ≡ old
IsRun tables old (request ∷ requests) (reply ∷ replies) new =
    Answers tables old request reply
    × IsRun tables (next old request reply.outcome) requests replies new
IsRun tables old [] (reply ∷ replies) new = ⊥
IsRun tables old (request ∷ requests) [] new = ⊥
