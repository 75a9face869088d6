use Rattle.std.proofs.Common.{◌≡◌, ◌<◌, ◌++◌, ℕ, List, length, map, sym, ◌∙◌, ap, subst, arith}
use Rattle.std.below.core.specs.declared.int.usize.TheConstants.{MAX}
use Rattle.indexmap.specs.IndexMap.{insert_entry}
use Rattle.indexmap.specs.IndexSet.{insert_key}
use Rattle.mds_core.specs.declared.event_name.EventName.{EventName}
use Rattle.mds_core.specs.declared.key.Key.{Key as Vehicle}
use Rattle.mds_core.specs.Reported.{Reported}
use Rattle.mds_core.specs.History.{same_key, same_event}
use Rattle.mds_batch.specs.declared.item.EventItem.TheVariants.{Event}
use Rattle.mds_known.proofs.Names.{is_inserted}
use Rattle.mds_trace.specs.Replay.{accepted_by, prior_of, IsVerdictOn}
use Rattle.mds_trace.specs.Followed.{name_of, AreFollowed}
use Rattle.mds_trace.proofs.Verdicts.{prior_few}
use Rattle.mds_trace.proofs.Keeping.{names_more, names_stay, next_followed}
use Rattle.mds_trace.proofs.judge.judge_event.Goals as goal
use Rattle.mds_trace.proofs.judge.judge_event.Goals.{In_ok-place}

-- the verdict, and what is kept with these names of accepted events
judged : (c : In_ok-place) (mentioned : List Vehicle) (accepted : List Reported) (now : List EventName)
    → AreFollowed c.args.opening c.args.tables.now mentioned accepted c.args.vehicles.now.entries c.args.vehicles.now.names → length accepted < MAX
    → (IsVerdictOn c.args.opening c.args.tables.now (prior_of c.args.event.now.key accepted) c.args.event.now c.judge-line.result.0
    → now ≡ map name_of (accepted ++ accepted_by (Event c.args.event.now) c.judge-line.result.0))
    → IsVerdictOn c.args.opening c.args.tables.now (prior_of c.args.event.now.key accepted) c.args.event.now c.judge-line.result.0
    × AreFollowed c.args.opening c.args.tables.now (insert_key same_key mentioned c.args.event.now.key) (accepted ++ accepted_by (Event c.args.event.now) c.judge-line.result.0) c.put.new.self.entries now
judged c mentioned accepted now are few named =
    let opening = c.args.opening in
    let tables = c.args.tables.now in
    let event = c.args.event.now in
    let names = c.args.vehicles.now.names in
    let prior = prior_of event.key accepted in
    let line = c.judge-line.result.0 in
    let found = c.find_vehicle-place.ensures in
    let vehicle = found.followed tables mentioned accepted are in
    let verdict = c.judge-line.ensures.verdict opening prior vehicle (found.repeated tables mentioned accepted are) in
    let fewer : length prior < MAX = omega (arith, prior_few event.key accepted, few) in
    let followed = c.judge-line.ensures.followed opening prior vehicle fewer in
    let entries : c.put.new.self.entries ≡ insert_entry same_key c.args.vehicles.now.entries event.key c.judge-line.result.1 =
    c.in_ok-place.ensures.entries ∙ ap (λ all. insert_entry same_key all c.key.result.now c.judge-line.result.1) c.in_ok-reserve_event.ensures.same.entries
    ∙ ap (λ key. insert_entry same_key c.args.vehicles.now.entries key c.judge-line.result.1) c.key.ensures in (
      verdict,
      subst (λ all. AreFollowed opening tables (insert_key same_key mentioned event.key) (accepted ++ accepted_by (Event event) line) all now) (sym entries)
          (next_followed opening tables mentioned accepted c.args.vehicles.now.entries names now event line c.judge-line.result.1 are followed (named verdict)),
    )

pub returns-in_ok-add_event-clause-judged : goal.returns-in_ok-add_event-clause-judged
returns-in_ok-add_event-clause-judged c = λ mentioned accepted are few.
    let event = c.args.event.now in
    let names = c.args.vehicles.now.names in
    let kept = c.put.new.self.names in
    let key = c.key.result.now in
    let id = c.id.result in
    let at = c.in_ok-place.ensures.place in
    let done =
    judged (goal.at.returns-in_ok-add_event-clause-judged c).In_ok-place mentioned accepted _ are few
    (λ verdict.
    is_inserted kept c.add_event.new.self.names (record { key = key; id = id }) c.in_ok-add_event.field-0
    (c.in_ok-add_event.ensures.new key c.judge-line.result.1 at) (c.in_ok-add_event.ensures.names key c.judge-line.result.1 at)
    ∙ ap (λ all. insert_key same_event all (record { key = key; id = id })) (c.in_ok-place.ensures.names ∙ c.in_ok-reserve_event.ensures.same.names)
    ∙ ap (λ k. insert_key same_event names (record { key = k; id = id })) c.key.ensures
    ∙ ap (λ i. insert_key same_event names (record { key = event.key; id = i })) c.id.ensures
    ∙ names_more c.args.opening c.args.tables.now accepted event c.judge-line.result.0 names are.named verdict (sym c.if-accepts.ensures)) in (
      done.0,
      subst (λ all. AreFollowed c.args.opening c.args.tables.now (insert_key same_key mentioned event.key) (accepted ++ accepted_by (Event event) c.judge-line.result.0) all c.add_event.new.self.names)
          (sym c.in_ok-add_event.ensures.entries) done.1,
    )

pub returns-else-accepts-clause-judged : goal.returns-else-accepts-clause-judged
returns-else-accepts-clause-judged c = λ mentioned accepted are few.
    judged (goal.at.returns-else-accepts-clause-judged c).In_ok-place mentioned accepted _ are few
    (λ verdict.
    (c.in_ok-place.ensures.names ∙ c.in_ok-reserve_event.ensures.same.names) ∙ names_stay accepted c.args.event.now c.judge-line.result.0 c.args.vehicles.now.names are.named (sym c.if-accepts.ensures))
