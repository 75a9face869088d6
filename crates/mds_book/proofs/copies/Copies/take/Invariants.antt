use Rattle.std.proofs.Common.{◌≡◌, ◌++◌, take, drop}
use Rattle.mds_book.proofs.copies.Copies.take.Given as goal

-- the requests so far stand behind the others
abbrev pub invariant-loop-done : goal.invariant-loop-done
invariant-loop-done g l = l.self ≡ l.fn.self ++ take l.done (drop l.from l.past.requests)
