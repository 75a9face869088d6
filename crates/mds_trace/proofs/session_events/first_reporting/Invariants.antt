use Rattle.std.proofs.Common.{◌≡◌, ◌<◌, ◌≤◌, ℕ, Some, slice_get}
use Rattle.mds_core.specs.Reported.{Reported}
use Rattle.mds_trace.proofs.session_events.first_reporting.Given as goal

-- none of the events so far reports the state
abbrev pub invariant-loop-at : goal.invariant-loop-at
invariant-loop-at l = (i : ℕ) (event : Reported) → l.from ≤ i → i < l.at → slice_get l.events.events i ≡ Some event → event.state ≡ l.state → ⊥
