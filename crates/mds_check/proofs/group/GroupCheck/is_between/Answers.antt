use Rattle.mds_check.proofs.GroupLemmas.{taken_whole}
use Rattle.mds_check.proofs.group.GroupCheck.is_between.Goals as goal

pub returns : goal.returns
returns c = λ lines taken.
    let given = rw (← c.self.view_is) at taken in
    taken_whole (record { state = c.self.inside.state; begun = c.self.inside.begun }) lines given
