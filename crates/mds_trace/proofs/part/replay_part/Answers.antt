use Rattle.std.proofs.Common.{◌≡◌, ◌<◌, ◌+◌, ◌++◌, ◌∷◌, [], ℕ, List, length, take, map, slice_get, Some, sym, subst, arith}
use Rattle.std.below.core.specs.declared.int.usize.TheConstants.{MAX}
use Rattle.std.proofs.lemmas.List.{length-map, length-take-le, take_all}
use Rattle.std.proofs.lemmas.Option.{get_or_from_slice_get}
use Rattle.mds_batch.specs.declared.item.EventItem.{EventItem}
use Rattle.mds_trace.specs.Items.{events_of, vehicles_of}
use Rattle.mds_trace.specs.Replay.{accepted_of}
use Rattle.mds_trace.specs.Parts.{as_seen, IsShare}
use Rattle.mds_trace.proofs.Places.{take_push}
use Rattle.mds_trace.proofs.Verdicts.{accepted_few}
use Rattle.mds_trace.proofs.Shares.{no_share, share_event, share_other}
use Rattle.mds_trace.proofs.part.replay_part.Goals as goal
use Rattle.mds_trace.proofs.part.replay_part.Goals.{in-Some+in_ok-verdict+in_ok-push, in_default}

pub loop-index-init : goal.loop-index-init
loop-index-init c = rw (c.new-told.ensures.items, c.new-vehicles.ensures.vehicles, c.new-vehicles.ensures.names) (no_share c.args.opening c.args.tables.now c.args.workers c.args.worker)

pub loop-index-preserved : goal.loop-index-preserved
loop-index-preserved c =
    let opening = c.args.opening in
    let tables = c.args.tables.now in
    let items = c.args.items.now in
    let workers = c.args.workers in
    let worker = c.args.worker in
    let at = c.loop-index.index in
    let before = take at items in
    let told = c.loop-index.told.items in
    let share = c.loop-index.invariant in
    let seen = map (as_seen workers worker) before in
    let within : at < length items = omega (arith, c.loop-index-test.true, c.count-index-end.ensures) in
    let so_far : length before ≡ at = length-take-le at items (omega (arith, within)) in
    let few : length (accepted_of seen share.lines) < MAX =
    omega (arith, so_far, length-map before (as_seen workers worker), accepted_few seen share.lines, within, c.count-index-end.ensures, c.count-index-end.type_inv) in
    let Is : List EventItem → Type 0 = λ items. IsShare opening tables items workers worker c.match-own_event.told.items c.match-own_event.vehicles.entries c.match-own_event.vehicles.names in
    let next : (item : EventItem) → slice_get items at ≡ Some item → Is (before ++ item ∷ []) → Is (take (at + 1) items) =
    λ item there. subst Is (take_push items at item within (sym (get_or_from_slice_get items at item item there))) in
    elim c.match-own_event.branch [
      | in-Some+in_ok-verdict+in_ok-push w ↦
          let own = w.in-Some.ensures in
          let line = w.in_ok-verdict.verdict in
          let entries = w.judge_event.new.vehicles.entries in
          let names = w.judge_event.new.vehicles.names in
          let judged = w.in_ok-verdict.ensures.judged (vehicles_of (events_of seen)) (accepted_of seen share.lines) share.replayed.vehicles few in
          let Told : ℕ → Type 0 = λ place. IsShare opening tables (before ++ own.0 ∷ []) workers worker (told ++ record { index = place; verdict = line } ∷ []) entries names in
          next own.0 own.1
          (rw (w.told-is, w.in_ok-push.ensures.items, w.vehicles-is)
          (subst Told so_far
          (share_event opening tables workers worker before told c.loop-index.vehicles.entries c.loop-index.vehicles.names share own.0 w.in-Some.event.now line entries names
          own.2 judged.0 judged.1)))
      | in_default w ↦
          let other = w.in_default.ensures in
          next other.0 other.1
          (rw (w.told-is, w.vehicles-is)
          (share_other opening tables workers worker before told c.loop-index.vehicles.entries c.loop-index.vehicles.names share other.0 other.2))
    ]

pub returns : goal.returns
returns c =
    let items = c.args.items.now in
    let Is : List EventItem → Type 0 = λ items.
    IsShare c.args.opening c.args.tables.now items c.args.workers c.args.worker c.loop-index.told.items c.loop-index.vehicles.entries c.loop-index.vehicles.names in (
      c.loop-index.vehicles.names,
      subst Is (take_all c.loop-index.index items (omega (arith, c.loop-index-test.false, c.count-index-end.ensures))) c.loop-index.invariant,
    )
