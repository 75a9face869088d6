use Rattle.mds_book.proofs.NotesTold.{place_told, place_within}
use Rattle.mds_book.proofs.notes.NotePlaceNoteForm.put.Goals as goal

-- its place is seen
pub returns-clause-within : goal.returns-clause-within
returns-clause-within c history stored =
    place_within c.args.shard history c.args._request.now c.args.reply.now c.requires.shard (stored c.requires.may)

-- and the request that stands there
pub returns-clause-told : goal.returns-clause-told
returns-clause-told c history stored =
    place_told c.args.shard history c.args._request.now c.args.reply.now c.requires.shard c.requires.may (stored c.requires.may)
