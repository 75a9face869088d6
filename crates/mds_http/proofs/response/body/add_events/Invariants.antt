use Rattle.std.proofs.Common.{◌≡◌, ◌++◌, take, string_bytes}
use Rattle.mds_batch.specs.Texts.{with_commas, event_text}
use Rattle.mds_http.proofs.response.body.add_events.Given as goal

-- the texts of the events so far stand behind what was there
abbrev pub invariant-loop-at : goal.invariant-loop-at
invariant-loop-at l =
    string_bytes l.text ≡ string_bytes l.fn.text ++ with_commas event_text (take l.at l.list.events)
