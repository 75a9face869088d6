use Rattle.std.proofs.Common.{inl, inr}
use Rattle.mds_retention.specs.NewJournal.{IsFollowedTo}
use Rattle.mds_retention.proofs.NewNames.{named_whole}
use Rattle.mds_retention.proofs.new_journal.end_journal.Goals as goal

pub returns-in_ok-link-in-Ok-clause-made : goal.returns-in_ok-link-in-Ok-clause-made
returns-in_ok-link-in-Ok-clause-made g c = λ from first journal is found stands.
    let written = c.in-Ok.ensures.written from first journal in (
      written.0,
      written.1,
      named_whole g.N.File.Device.may_leave g.N.File.Device.is_true c.read_to_end.new.draft c.into_file.result (IsFollowedTo from first written.0 c.in-Ok.totals) written.2 found c.into_file.ensures
          (c.in_ok-link-in-Ok.ensures.was_true is) written.4 written.3 (c.in_ok-link-in-Ok.ensures.done is found stands),
    )

pub returns-in_ok-link-in-Ok-clause-crash : goal.returns-in_ok-link-in-Ok-clause-crash
returns-in_ok-link-in-Ok-clause-crash g c = λ from first journal is found stands.
    let written = c.in-Ok.ensures.written from first journal in
    let whole = named_whole g.N.File.Device.may_leave g.N.File.Device.is_true c.read_to_end.new.draft c.into_file.result (IsFollowedTo from first written.0 c.in-Ok.totals) written.2 found c.into_file.ensures
    (c.in_ok-link-in-Ok.ensures.was_true is) written.4 written.3 (c.in_ok-link-in-Ok.ensures.done is found stands) in
    inr (written.0, written.1, (whole.0, whole.1, whole.2.0))

pub returns-in_err-link-in-Ok-clause-crash : goal.returns-in_err-link-in-Ok-clause-crash
returns-in_err-link-in-Ok-clause-crash g c = λ from first journal is found stands.
    elim (c.in_err-link-in-Ok.ensures.stands is found stands) [
      | inl was ↦ inl was
      | inr named ↦
          let written = c.in-Ok.ensures.written from first journal in
          let whole = named_whole g.N.File.Device.may_leave g.N.File.Device.is_true c.read_to_end.new.draft c.into_file.result (IsFollowedTo from first written.0 c.in-Ok.totals) written.2 found c.into_file.ensures
          (c.in_err-link-in-Ok.ensures.was_true is) written.4 written.3 named in
          inr (written.0, written.1, (whole.0, whole.1, whole.2.0))
    ]

pub returns-in-Err-clause-crash : goal.returns-in-Err-clause-crash
returns-in-Err-clause-crash g c = λ from first journal is found stands. inl (c.discard.ensures.stands found stands)
