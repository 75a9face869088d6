use Rattle.std.proofs.Common.{◌≢◌, ◌∙◌, arith}
use Rattle.mds_trace.specs.Vehicle.{told_of}
use Rattle.mds_commands.proofs.OpenedLemmas.{all_counted, is_opened}
use Rattle.mds_commands.proofs.debug.open_on.Goals as goal
use Rattle.mds_commands.proofs.debug.open_on.Goals.{else-opened-eq0-via-then-opened-eq0+else-opened-eq0-2, else-opened-eq0-via-else-opened-eq0}

pub returns-then-opened-eq0-2-clause-ok : goal.returns-then-opened-eq0-2-clause-ok
returns-then-opened-eq0-2-clause-ok g c =
    let read = c.in_ok-each_item_in.ensures.ok in
    let took = read.2 in
    let all = all_counted c.args.tables c.args.key read.0 c.each_item_in.new.taker c.finish-opened.result.counts
    (took.0 ∙ c.open-replay.ensures.tables) (took.1 ∙ c.open-replay.ensures.key) took.2 c.finish-opened.ensures.accepted c.finish-opened.ensures.refused in
    (read.0, read.1, omega (arith, all, c.if-opened-eq0.true, c.if-opened-eq0-2.true))

pub returns-clause-ok : goal.returns-clause-ok
returns-clause-ok g c =
    let read = c.in_ok-each_item_in.ensures.ok in
    let took = read.2 in
    let tables = took.0 ∙ c.open-replay.ensures.tables in
    let key = took.1 ∙ c.open-replay.ensures.key in
    let ends = c.finish-opened in
    let all = all_counted c.args.tables c.args.key read.0 c.each_item_in.new.taker ends.result.counts tables key took.2 ends.ensures.accepted ends.ensures.refused in
    let some : told_of c.args.key read.0 ≢ 0 = elim c.else-opened-eq0.branch [
      | else-opened-eq0-via-then-opened-eq0+else-opened-eq0-2 w ↦ λ none. omega (arith, all, none, w.if-opened-eq0-2.false)
      | else-opened-eq0-via-else-opened-eq0 w ↦ λ none. omega (arith, all, none, w.if-opened-eq0.false)
    ] in (
      read.0,
      read.1,
      is_opened c.args.tables c.args.key read.0 c.each_item_in.new.taker ends.result.counts tables key took.2 ends.ensures.accepted ends.ensures.refused
          ends.result.session ends.ensures.session some,
    )
