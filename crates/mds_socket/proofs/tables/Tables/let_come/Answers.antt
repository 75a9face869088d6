use Rattle.std.proofs.Common.{inr}
use Rattle.mds_socket.proofs.TableLemmas.{waits-or_gone}
use Rattle.mds_socket.proofs.tables.Tables.let_come.Goals as goal

pub returns-clause-joins : goal.returns-clause-joins
returns-clause-joins g c =
    let found = c.in-Some.ensures in
    let put = c.put_if.ensures in
    rw (← c.len.ensures) (
      c.key_for-key.new.self,
      found.left,
      found.room,
      inr (c.in-Some.key, found.vacant, waits-or_gone _ _ _ _ _ put.waits put.gone),
    )
