use Rattle.std.proofs.Common.{◌-◌, length, rules}
use Rattle.mds_io.specs.Read.{StopsAt}
use Rattle.mds_io.proofs.ReadLemmas.{gains_then, stops_then}
use Rattle.mds_io.proofs.read.read_up_to.Goals as goal

pub returns-in_err-read_more-clause-err : goal.returns-in_err-read_more-clause-err
returns-in_err-read_more-clause-err g c =
    let stop : StopsAt c.in_err-read_more.field-0.0 (length c.args.room.now) (c.args.limit - length c.args.bytes.now.items) (g.R.Read.remaining c.args.reader.now)
    (g.R.Read.remaining c.read_more.new.reader) c.args.bytes.now.items c.read_more.new.bytes.items =
    stops_then _ _ _ _ _ _ _ _ _ c.loop-reader.invariant.gained (rw c.loop-reader.invariant.same_room at c.in_err-read_more.ensures.err) in
    search rules

pub returns-then-branch-clause-ok : goal.returns-then-branch-clause-ok
returns-then-branch-clause-ok g c = gains_then _ _ _ _ _ _ _ c.loop-reader.invariant.gained c.in_ok-read_more.ensures.ok
