use Rattle.std.proofs.Common.{◌≤◌, ap, subst, arith, length, List}
use mathlib.Core.List.{IsPrefix}
use Rattle.mds_log.specs.declared.entry.Entry.{Entry}
use Rattle.mds_log.specs.Log.{acceptances}
use Rattle.mds_log.proofs.Lists.{prefix_shorter, acceptances_prefix, acceptances_length}
use Rattle.mds_log.proofs.history.Keeper.tell_prefix.Goals as goal

-- both are beginnings of what both have seen, and the shorter begins the longer
pub returns : goal.returns
returns g c =
    let log = c.self.inside.seen.log in
    let seen = c.front.inside.seen.log in
    let both = c.learn.new.self.log in
    let this : IsPrefix log both = subst (λ (l : List Entry). IsPrefix l both) (ap (λ s. s.log) c.again-both.ensures) c.learn.ensures.2 in
    let less : length (acceptances seen) ≤ length (acceptances log) = rw (c.front.view_is, c.self.view_is) c.requires in
    let shorter : length seen ≤ length log =
    omega (arith, less, acceptances_length seen (omega (arith, c.front.invariant.0)), acceptances_length log (omega (arith, c.self.invariant.5))) in
    rw (← c.front.view_is, ← c.self.view_is) (acceptances_prefix seen log (prefix_shorter seen log both c.learn.ensures.3 this shorter))
