use Rattle.mds_trace.proofs.InputLemmas.{whole_end, whole_script}
use Rattle.mds_trace.proofs.input.read_script.Goals as goal

pub returns-clause-whole : goal.returns-clause-whole
returns-clause-whole g c = λ whole.
    let read = c.read_up_to-read in
    let end = c.in_ok-end.end in
    let is = c.in_ok-end.ensures in
    whole_script _ _ _ _ c.new-bytes.ensures.items (whole_end end read.result is read.ensures.ok whole) (whole_end end read.result is read.ensures.whole whole)
