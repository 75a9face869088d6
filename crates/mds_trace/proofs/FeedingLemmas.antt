-- A replay, while its lines are fed.
use Rattle.std.proofs.Common.{◌≡◌, ◌++◌, ℕ, List, Option, Some, None, Result, Ok, Err, IfErr, refl, sym, ap, subst, ◌∙◌}
use Rattle.std.specs.Prelude.{OnOk}
use Rattle.mds_table.specs.Tables.{Tables}
use Rattle.mds_batch.specs.declared.item.EventItem.{EventItem}
use Rattle.mds_lines.specs.declared.line_fault.LineFault.{LineFault}
use Rattle.mds_lines.specs.Fed.{Fed}
use Rattle.mds_lines.specs.Stream.{HasEndedItems, HasLineItems}
use Rattle.mds_trace.specs.declared.report.Opening.{Opening}
use Rattle.mds_trace.specs.declared.report.Opening.TheVariants.{Removed}
use Rattle.mds_trace.specs.declared.report.Report.{Report}
use Rattle.mds_trace.specs.Replay.{IsReport}
use Rattle.mds_trace.specs.ReplayLaws.{AreOutcomes}
use Rattle.mds_trace.specs.Replayer.{Replaying, Took, TookSince}
use Rattle.mds_trace.specs.Feeding.{Feeding}
use Rattle.mds_trace.specs.LinesTaken.{AreReplayed}
use Rattle.mds_trace.specs.LineReport.{IsLineReport}

-- what the lines have come to keeps what was taken
keeps : {T : Type 0} (r : Result T LineFault) (fed : Fed) (bytes : List ℕ) (replayer : Replaying) (all : List EventItem)
    → OnOk r (fed ≡ record { bytes = bytes; fault = None }) → IfErr r (λ fault. fed.fault ≡ Some fault) → OnOk r (HasEndedItems fed.bytes all) → Took all replayer
    → AreReplayed fed.fault fed.bytes replayer
keeps (Ok x) fed bytes replayer all is kept has took =
    let none : fed.fault ≡ None = ap (λ (one : Fed). one.fault) is in
    subst (λ fault. AreReplayed fault fed.bytes replayer) (sym none) (all, has, took)
keeps (Err y) fed bytes replayer all is kept has took = subst (λ fault. AreReplayed fault fed.bytes replayer) (sym kept) tt

-- a replayer after a piece: over the same tables, with the same opening, and without a fault it took the items of the lines
pub record HasFed (fed : Fed) (before after : Replaying) : Type 0 where
  pub tables : after.tables ≡ before.tables
  pub opening : after.opening ≡ before.opening
  pub replayed : AreReplayed fed.fault fed.bytes after

-- so it is after each piece
module _ {T : Type 0} (r : Result T LineFault) (old new : Fed) (bytes : List ℕ) (before after : Replaying) where
  fed_at : (kept : Option LineFault) → old.fault ≡ kept → AreReplayed kept old.bytes before
      → OnOk r (new ≡ record { bytes = bytes; fault = None })
      → ((start : Replaying) (items : List EventItem) → HasEndedItems old.bytes items → TookSince start items before → (all : List EventItem) × TookSince start all after × OnOk r (HasEndedItems new.bytes all))
      → IfErr r (λ fault. new.fault ≡ Some fault)
      → ((fault : LineFault) → old.fault ≡ Some fault → (r ≡ Err fault) × (new ≡ old) × (after ≡ before))
      → HasFed new before after
  fed_at None is held fed taken kept again =
      let next = taken before held.0 held.1 (refl, refl, held.2) in
      record { tables = next.1.0; opening = next.1.1; replayed = keeps r new bytes after next.0 fed kept next.2 next.1.2 }
  fed_at (Some fault) is held fed taken kept again =
      let same = again fault is in
      let told : new.fault ≡ Some fault = ap (λ (one : Fed). one.fault) same.1 ∙ is in
      record {
        tables = ap (λ (one : Replaying). one.tables) same.2;
        opening = ap (λ (one : Replaying). one.opening) same.2;
        replayed = subst (λ kept. AreReplayed kept new.bytes after) (sym told) tt;
      }

  pub after_piece : AreReplayed old.fault old.bytes before
      → OnOk r (new ≡ record { bytes = bytes; fault = None })
      → ((start : Replaying) (items : List EventItem) → HasEndedItems old.bytes items → TookSince start items before → (all : List EventItem) × TookSince start all after × OnOk r (HasEndedItems new.bytes all))
      → IfErr r (λ fault. new.fault ≡ Some fault)
      → ((fault : LineFault) → old.fault ≡ Some fault → (r ≡ Err fault) × (new ≡ old) × (after ≡ before))
      → HasFed new before after
  after_piece held fed taken kept again = fed_at old.fault refl held fed taken kept again

-- what is seen of a replay
abbrev pub feeding : Tables → Opening → Fed → Feeding
feeding tables opening stream = record { tables = tables; opening = opening; stream = stream }

-- some bytes and a piece, without a fault
abbrev pub with_piece : List ℕ → List ℕ → Fed
with_piece bytes piece = record { bytes = bytes ++ piece; fault = None }

-- a piece is put behind what was fed, and nothing else is changed
pub feeding_after : {T : Type 0} (r : Result T LineFault) (seen : Feeding) (tables : Tables) (opening : Opening) (stream : Fed) (bytes piece : List ℕ) → tables ≡ seen.tables → opening ≡ seen.opening → bytes ≡ seen.stream.bytes
    → OnOk r (stream ≡ with_piece bytes piece) → OnOk r (feeding tables opening stream ≡ feeding seen.tables seen.opening (with_piece seen.stream.bytes piece))
feeding_after (Ok x) seen tables opening stream bytes piece one two three is =
    ap (λ all. feeding all opening stream) one ∙ ap (λ all. feeding seen.tables all stream) two
    ∙ ap (feeding seen.tables seen.opening) (is ∙ ap (λ all. with_piece all piece) three)
feeding_after (Err y) seen tables opening stream bytes piece one two three is = tt

-- the report of the items that a replayer took is that of the lines
pub line_report_of : (seen : Feeding) (replayer : Replaying) (bytes : List ℕ) (items : List EventItem) (report : Report) → replayer.tables ≡ seen.tables → replayer.opening ≡ seen.opening → bytes ≡ seen.stream.bytes
    → HasLineItems bytes items → IsReport replayer.opening replayer.tables items report → (replayer.opening ≡ Removed → AreOutcomes replayer.tables items report.lines.items)
    → IsLineReport seen.opening seen.tables seen.stream.bytes report
line_report_of seen replayer bytes items report one two three has is runs = record {
  items = items;
  lines = subst (λ all. HasLineItems all items) three has;
  report_is = subst (λ opening. IsReport opening seen.tables items report) two (subst (λ tables. IsReport replayer.opening tables items report) one is);
  runs = λ removed. subst (λ tables. AreOutcomes tables items report.lines.items) one (runs (two ∙ removed));
}
