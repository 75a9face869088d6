use Rattle.std.proofs.Common.{◌≡◌, ◌∙◌, ◌++◌, ℕ, List, [], length, refl, sym, ap, subst, arith}
use Rattle.std.specs.List.{AllZip}
use Rattle.mds_core.specs.declared.request.Request.{Request}
use Rattle.mds_entries.specs.Entry.{Tells}
use Rattle.mds_journal.proofs.MomentLemmas.{still_untouched}
use Rattle.mds_log.specs.Log.{Acceptance, requests}
use Rattle.mds_follow.specs.Record.{recorded_at}
use Rattle.mds_follow.specs.Pieces.{requests_in}
use Rattle.mds_follow.specs.Restart.{IsRefilled}
use Rattle.mds_follow.proofs.ReadBack.{at_one_moment, on_ok, read_none}
use Rattle.mds_follow.proofs.Readings.{first_texts}
use Rattle.mds_follow.proofs.restart.read_back.Goals as goal

-- nothing is read yet but the form
pub pieces-init : goal.pieces-init
pieces-init g c =
    let none = c.requires.none.0 in
    let empty = c.requires.none.2 in
    let first = c.requires.at_first in
    let piece = c.args.piece in
    let reader = c.args.ahead.now.reader in
    let seen = g.D.Device.seen in
    let is_true = g.D.Device.is_true in
    let Refilled : List Acceptance → Type 0 = λ w. IsRefilled c.args.seat.now w in
    let At : List Acceptance → Type 0 = λ w. w ≡ recorded_at (g.D.Device.moment reader.opening.device) (requests w) in
    let Told : List Acceptance → Type 0 = λ w. AllZip Tells [] (requests w) in
    record {
      reading = record { reading = first.reading; limit = first.limit };
      read_on = record {
        untouched = λ truth. record { file = refl; outcomes = λ outcome may. may; time = refl; past = λ t outcome was. was };
        was_true = λ truth. truth;
      };
      halfway = record {
        refilled = subst Refilled (sym none) c.requires.none.1;
        numbered = omega (arith, ap (λ (w : List Request). length w) empty.empty);
        before = [];
        told = subst Told (sym none) tt;
        ahead = read_none seen is_true reader [] piece refl empty.empty empty.more (first_texts seen is_true reader first.form);
      };
      keep = refl;
      at_start = λ truth. subst At (sym none) refl;
    }

-- a piece more is asked and noted
pub pieces-preserved : goal.pieces-preserved
pieces-preserved g c =
    let was = c.pieces.invariant in
    let old = c.pieces.keeper in
    let new = c.take_piece.new.keeper in
    let first = c.args.ahead.now.reader.opening.device in
    let then = c.take_piece.new.ahead.reader.opening.device in
    let read_on = c.take_piece.ensures.read_on in
    let asked = requests_in c.pieces.piece in
    let taken = c.in-Ok.ensures.taken in
    let Noted : ℕ → Type 0 = λ t. new ≡ old ++ recorded_at t asked in
    record {
      reading = c.take_piece.ensures.reading;
      read_on = record {
        untouched = λ truth.
            still_untouched g.D.Device.seen g.D.Device.may_leave g.D.Device.moment g.D.Device.left_since first c.pieces.ahead.reader.opening.device then
            (was.read_on.untouched (read_on.was_true truth)) (read_on.untouched truth);
        was_true = λ truth. was.read_on.was_true (read_on.was_true truth);
      };
      halfway = taken.halfway;
      keep = c.take_piece.ensures.keep ∙ was.keep;
      at_start = λ truth.
          let before = read_on.was_true truth in
          let same = (read_on.untouched truth).time ∙ (was.read_on.untouched before).time in
          at_one_moment (g.D.Device.moment first) old new asked (subst Noted same taken.noted) (was.at_start before);
    }

-- the last piece is noted like those before it
pub returns-clause-at_start : goal.returns-clause-at_start
returns-clause-at_start g c =
    let was = c.pieces.invariant in
    let old = c.pieces.keeper in
    let new = c.take_last.new.keeper in
    let asked = requests_in c.pieces.piece in
    let start = g.D.Device.moment c.args.ahead.now.reader.opening.device in
    let Noted : ℕ → Type 0 = λ t. new ≡ old ++ recorded_at t asked in
    on_ok c.take_last.result (Noted (g.D.Device.moment c.pieces.ahead.reader.opening.device))
    (g.D.Device.is_true c.pieces.ahead.reader.opening.device → new ≡ recorded_at start (requests new))
    (λ noted truth. at_one_moment start old new asked (subst Noted (was.read_on.untouched truth).time noted) (was.at_start truth)) c.take_last.ensures.noted
