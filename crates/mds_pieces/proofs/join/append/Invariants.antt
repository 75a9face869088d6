use Rattle.std.proofs.Common.{◌≡◌, ◌++◌, take}
use Rattle.mds_pieces.proofs.join.append.Given as goal

-- the first of the items stand behind the others
abbrev pub invariant-loop-at : goal.invariant-loop-at
invariant-loop-at l = l.items ≡ l.initial.items ++ take l.at l.more
