use Rattle.std.proofs.Common.{◌≡◌, ◌<◌, ◌+◌, ◌∙◌, ◌++◌, [], ◌∷◌, Option, Some, ℕ, List, length, sym, ap, subst, arith}
use Rattle.std.specs.Prelude.{slice_get}
use Rattle.std.specs.Option.{option_to_list}
use Rattle.std.proofs.lemmas.List.{append-nil}
use Rattle.mds_core.specs.declared.request.Request.{Request}
use Rattle.mds_core.specs.Reported.{Reported}
use Rattle.mds_shard.specs.Walk.{IsWalk, steps_left}
use Rattle.mds_shard.proofs.Walks.{told_at, walk_begins, walk_goes_on, walk_nears}
use Rattle.mds_shard.proofs.vehicle.events_to.Goals as goal
use Rattle.mds_shard.proofs.vehicle.events_to.Goals.{in-Some-event+in_ok-push, in_default-event}

pub loop-at-init : goal.loop-at-init
loop-at-init g c = walk_begins c.args.past.now.requests c.args.last c.in_ok-events.events.items c.requires.last c.in_ok-events.ensures.items

-- the walk stands at a place of the history
stands : (history : List Request) (last place : ℕ) (at : Option ℕ) (found : List Reported) → at ≡ Some place → IsWalk history last at found
    → IsWalk history last (Some place) found × (place < length history)
stands history last place at found is walk =
    let W : Option ℕ → Type 0 = λ o. IsWalk history last o found in
    let here = subst W is walk in (here, omega (arith, here.within, here.before_end))

pub loop-at-preserved : goal.loop-at-preserved
loop-at-preserved g c =
    let history = c.args.past.now.requests in
    let place = c.in-Some.place in
    let found = c.loop-at.events.items in
    let here = stands history c.args.last place c.loop-at.at found c.in-Some.is c.loop-at.invariant in
    let request = told_at (slice_get history place) c.event.result c.event.ensures in
    let more : c.match-event.events.items ≡ found ++ option_to_list c.event.result =
    elim c.match-event.branch [
      | in-Some-event+in_ok-push w ↦ rw w.events-is (w.in_ok-push.ensures.items ∙ ap (λ e. found ++ e ∷ []) w.copy.ensures ∙ ap (λ r. found ++ option_to_list r) (sym w.in-Some-event.is))
      | in_default-event w ↦ rw w.events-is (sym (append-nil found) ∙ ap (λ r. found ++ option_to_list r) (sym w.in_default-event.is))
    ] in
    walk_goes_on history c.args.past.now.before c.args.last place found c.match-event.events.items request.0 c.earlier-at.result c.requires.before request.1 c.earlier-at.ensures here.0
    (more ∙ ap (λ r. found ++ option_to_list r) (sym request.2))

pub loop-at-smaller : goal.loop-at-smaller
loop-at-smaller g c =
    let history = c.args.past.now.requests in
    let place = c.in-Some.place in
    let request = told_at (slice_get history place) c.event.result c.event.ensures in
    let nears = walk_nears history c.args.past.now.before place request.0 c.earlier-at.result c.requires.before request.1 c.earlier-at.ensures in
    let measure : steps_left c.loop-at.at ≡ place + 1 = ap steps_left c.in-Some.is in
    omega (arith, nears, measure)
