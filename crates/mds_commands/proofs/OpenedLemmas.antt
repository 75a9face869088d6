-- The session over what a replay kept of a vehicle's events.
use Rattle.std.proofs.Common.{◌≡◌, ◌≢◌, ◌+◌, List, length, ap, subst, ◌∙◌, arith}
use Rattle.mds_table.specs.declared.state.State.TheVariants as state
use Rattle.mds_table.specs.Tables.{Tables}
use Rattle.mds_core.specs.declared.key.Key.{Key}
use Rattle.mds_core.specs.Reported.{Reported}
use Rattle.mds_batch.specs.declared.item.EventItem.{EventItem}
use Rattle.mds_trace.specs.Replay.{AreVerdicts}
use Rattle.mds_trace.specs.Walk.{Walk}
use Rattle.mds_trace.specs.declared.line.CountsLine.{CountsLine}
use Rattle.mds_trace.specs.Vehicle.{told_of, VehicleReplaying, TookOf}
use Rattle.mds_commands.specs.Debug.{IsOpened}

-- before the first of these events
abbrev pub start_over : Tables → List Reported → Walk
start_over tables events = record { tables = tables; opening = state.Removed; events = events; place = record { event = 0; passed = 0 } }

module _ (tables : Tables) (key : Key) (items : List EventItem) (seen : VehicleReplaying) (counts : CountsLine)
    (of_tables : seen.replay.tables ≡ tables) (of_key : seen.key ≡ key) (took : TookOf items seen)
    (accepted : counts.events ≡ length seen.accepted) (refused : counts.refused ≡ seen.refused) where
  -- each event of the vehicle is counted
  pub all_counted : counts.events + counts.refused ≡ told_of key items
  all_counted = subst (λ (one : Key). counts.events + counts.refused ≡ told_of one items) of_key (omega (arith, accepted, refused, took.counted))

  own_opened : (walk : Walk) → walk ≡ start_over seen.replay.tables seen.accepted → told_of seen.key items ≢ 0 → IsOpened seen.replay.tables items seen.key walk counts
  own_opened walk is some = record {
    lines = seen.replay.lines;
    verdicts = subst (λ opening. AreVerdicts opening seen.replay.tables items seen.replay.lines) took.opening took.replayed.verdicts;
    walk_is = is ∙ ap (start_over seen.replay.tables) took.accepted;
    events = accepted ∙ ap length took.accepted;
    all = omega (arith, accepted, refused, took.counted);
    some_told = some;
  }

  -- and the session is the one over the vehicle's accepted events
  pub is_opened : (walk : Walk) → walk ≡ start_over seen.replay.tables seen.accepted → told_of key items ≢ 0 → IsOpened tables items key walk counts
  is_opened walk is some =
      subst (λ (of_file : Tables). IsOpened of_file items key walk counts) of_tables
      (subst (λ (one : Key). (told_of one items ≢ 0) → IsOpened seen.replay.tables items one walk counts) of_key (own_opened walk is) some)
