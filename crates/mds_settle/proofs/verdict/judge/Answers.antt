use Rattle.mds_settle.proofs.Judged.{exactly}
use Rattle.mds_settle.proofs.verdict.judge.Goals as goal

pub returns-clause-exact : goal.returns-clause-exact
returns-clause-exact g c = exactly c.args.tables.now c.args.shard c.args.history.now g.S.NoteList.seen c.args.notes.now c.judge_with.result c.judge_with.ensures
