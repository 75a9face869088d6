use Rattle.std.proofs.Common.{◌++◌, None, sym, subst}
use Rattle.mds_lines.specs.Stream.{IsFaultyWith}
use Rattle.mds_lines.specs.LineReading.{IsKept}
use Rattle.mds_lines.proofs.FeedLemmas.{faulty_with_more, same_bytes, kept_fault, kept_items, ended_items}
use Rattle.mds_lines.proofs.line_reader.LineReader.feed.Goals as goal

pub returns-in-Some-clause-fault : goal.returns-in-Some-clause-fault
returns-in-Some-clause-fault g c =
    faulty_with_more c.args.self.now.bytes c.args.piece.now c.in-Some.fault (kept_fault _ c.args.self.now _ c.in-Some.fault _ _ _ c.self.view_is c.in-Some.is c.self.invariant)

pub returns-in-Err-clause-taken : goal.returns-in-Err-clause-taken
returns-in-Err-clause-taken g c = λ before items has took.
    let read = kept_items _ c.args.self.now _ _ _ _ items c.self.view_is c.in_default.is c.self.invariant has in
    let next = c.in-Err.ensures.taken items read in
    (next.0, next.1 before took, tt)

pub returns-in-Err-clause-fault : goal.returns-in-Err-clause-fault
returns-in-Err-clause-fault g c =
    subst (λ bytes. IsFaultyWith (bytes ++ c.args.piece.now) c.in-Err.fault) (same_bytes _ c.args.self.now c.self.view_is) c.in-Err.ensures.fault

pub invariant_of-self-in_default-feed : goal.invariant_of-self-in_default-feed
invariant_of-self-in_default-feed g c =
    let old = c.self.inside in
    let new = c.feed.new.lines in
    let held : IsKept None old.bytes.items old.lines.ended old.lines.count old.lines.taken =
    subst (λ fault. IsKept fault old.bytes.items old.lines.ended old.lines.count old.lines.taken) c.in_default.is c.self.invariant in
    let next = c.in_default-feed.ensures.taken held.0.0 held.0.1 in
    subst (λ fault. IsKept fault c.feed.new.bytes.items new.ended new.count new.taken) (sym c.in_default.is) ((next.0, next.2), c.in_default-feed.ensures.short)

pub returns-clause-taken : goal.returns-clause-taken
returns-clause-taken g c = λ before items has took.
    let read = kept_items _ c.args.self.now _ _ _ _ items c.self.view_is c.in_default.is c.self.invariant has in
    let next = c.in_default-feed.ensures.taken items read in
    (next.0, next.1 before took, ended_items _ _ _ _ next.0 c.in_default-feed.ensures.short next.2)

pub returns-clause-ended : goal.returns-clause-ended
returns-clause-ended g c =
    let old = c.self.inside in
    let held : IsKept None old.bytes.items old.lines.ended old.lines.count old.lines.taken =
    subst (λ fault. IsKept fault old.bytes.items old.lines.ended old.lines.count old.lines.taken) c.in_default.is c.self.invariant in
    let next = c.in_default-feed.ensures.taken held.0.0 held.0.1 in
    (next.0, ended_items _ _ _ _ next.0 c.in_default-feed.ensures.short next.2)
