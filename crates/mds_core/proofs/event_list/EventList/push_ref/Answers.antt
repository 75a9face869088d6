use Rattle.std.proofs.Common.{length, refl, sym, ap, ◌∙◌, arith}
use Rattle.mds_core.specs.EventList.{event_of}
use Rattle.mds_core.proofs.ListedEvents.{each_kept, events_pushed}
use Rattle.mds_core.proofs.event_list.EventList.push_ref.Goals as goal

pub invariant_of-self-2 : goal.invariant_of-self-2
invariant_of-self-2 c = record {
  each = rw (c.in-Ok.ensures.items, c.in_ok-extend_from_slice.ensures.items, c.reserve.ensures.items)
      (each_kept c.self.inside.names.items c.types.result.now c.of-kept.result
      (c.of-kept.ensures.first ∙ c.len.ensures ∙ c.self.inside.names.ok.0) (c.of-kept.ensures.count ∙ ap length (sym c.types.ensures.types))
      c.self.inside.kept.items (record { some = c.types.ensures.some; few = c.types.ensures.few; in_range = c.of-kept.ensures.in_range })
      c.self.invariant.each);
  has_places = omega (arith, c.in-Ok.ensures.len, c.in_ok-reserve.ensures.ok);
  has_names = omega (arith, c.in_ok-extend_from_slice.ensures.len, c.extend_from_slice.new.self.ok.1);
}

pub returns-clause-pushed : goal.returns-clause-pushed
returns-clause-pushed c =
    rw (
      c.in-Ok.ensures.items,
      c.in_ok-extend_from_slice.ensures.items,
      c.reserve.ensures.items,
      ← c.self.view_is,
      c.saturating_sub-self-inside.ensures,
      events_pushed c.self.inside.names.items c.types.result.now c.of-kept.result
          (c.of-kept.ensures.first ∙ c.len.ensures ∙ c.self.inside.names.ok.0) (c.of-kept.ensures.count ∙ ap length (sym c.types.ensures.types))
          c.self.inside.kept.items c.args.event.now (ap (event_of c.of-kept.result) c.types.ensures.types ∙ c.of-kept.ensures.event) c.self.invariant.each,
    )
    refl
