use Rattle.mds_table.proofs.Named.{state_of_name-is}
use Rattle.mds_batch.proofs.form.read_state.Goals as goal

pub returns-in-Text-clause-read : goal.returns-in-Text-clause-read
returns-in-Text-clause-read c =
    let head = rw c.in-Text.is at c.in_ok-text.ensures.head in
    (head.0, head.1, rw head.2 (state_of_name-is c.of_name.result _ c.of_name.ensures.found c.of_name.ensures.none))
