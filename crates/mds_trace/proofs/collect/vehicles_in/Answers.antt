use Rattle.std.proofs.Common.{◌≡◌, ◌<◌, length, take, Some, None, option_map, sym, ◌∙◌, ap, subst, arith}
use Rattle.std.proofs.lemmas.Option.{get_or_from_slice_get}
use Rattle.indexmap.specs.IndexSet.{insert_key}
use Rattle.mds_core.specs.History.{same_key}
use Rattle.mds_batch.specs.Asking.{vehicle_in}
use Rattle.mds_trace.specs.Items.{events_of, vehicles_of}
use Rattle.mds_trace.proofs.Asks.{vehicle_more, none_more}
use Rattle.mds_trace.proofs.Places.{take_push}
use Rattle.mds_trace.proofs.collect.vehicles_in.Goals as goal
use Rattle.mds_trace.proofs.collect.vehicles_in.Goals.{in-Some+in_ok-insert, in_default}

pub loop-at-preserved : goal.loop-at-preserved
loop-at-preserved c =
    let items = c.args.items.now in
    let at = c.loop-at.at in
    let before = take at items in
    let found = c.key_at.ensures in
    let item = found.0 in
    let within : at < length items = omega (arith, c.loop-at-test.true, c.count-at-end.ensures) in
    let now = take_push items at item within (sym (get_or_from_slice_get items at item item found.1)) in
    elim c.match-key_at.branch [
      | in-Some+in_ok-insert w ↦
          let key = w.in-Some.key.now in
          let is : Some key ≡ vehicle_in item = ap (option_map (λ key. key.now)) (sym w.in-Some.is) ∙ found.2 in
          ap (λ set. set.keys) w.keys-is ∙ w.in_ok-insert.ensures.keys
          ∙ ap (λ keys. insert_key same_key keys key) c.loop-at.invariant
          ∙ sym (vehicle_more before item key is)
          ∙ ap (λ all. vehicles_of (events_of all)) now
      | in_default w ↦
          let is : None ≡ vehicle_in item = ap (option_map (λ key. key.now)) (sym w.in_default.is) ∙ found.2 in
          ap (λ set. set.keys) w.keys-is ∙ c.loop-at.invariant
          ∙ sym (none_more before item is)
          ∙ ap (λ all. vehicles_of (events_of all)) now
    ]
