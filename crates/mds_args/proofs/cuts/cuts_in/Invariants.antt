use Rattle.std.proofs.Common.{length}
use Rattle.mds_args.proofs.CutLemmas.{texts, Gives, LeavesCuts}
use Rattle.mds_args.proofs.cuts.cuts_in.Given as goal

-- the words so far are those of the cuts, and what is left may be those of others
abbrev pub invariant-cuts : goal.invariant-cuts
invariant-cuts l = Gives (texts l.words) (texts l.left) l.cuts.items × LeavesCuts (texts l.words) (texts l.left)

abbrev pub decreases-cuts : goal.decreases-cuts
decreases-cuts l = length l.left
