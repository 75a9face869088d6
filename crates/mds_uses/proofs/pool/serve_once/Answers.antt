use Rattle.std.proofs.Common.{◌≡◌, ◌∙◌, List, Option, Some, sym, subst}
use Rattle.std.specs.Prelude.{Result, Ok, Err, IfSome}
use Rattle.std.specs.List.{AllZip}
use Rattle.std.specs.Result.{result_ok}
use Rattle.mds_book.specs.Books.{Opened}
use Rattle.mds_book.specs.Gathering.{Collected}
use Rattle.mds_book.specs.Reconciled.{IsReconciled}
use Rattle.mds_book.specs.Seats.{Seated}
use Rattle.mds_book.specs.Settling.{IsSettledBook}
use Rattle.mds_book.specs.declared.settling.SettleFault.{SettleFault}
use Rattle.mds_face.specs.Seats.{HasGrown}
use Rattle.mds_uses.proofs.Oks.{of_value}
use Rattle.mds_uses.proofs.pool.serve_once.Goals as goal

-- the book that was settled, if it was, has the seats that were handed in
settled_if : {X Y V W P Q : Type 0} (book : Opened) (old seats : List Seated) (result : Result Collected (SettleFault X Y V W P Q)) → AllZip HasGrown old seats
    → IsReconciled book seats result → IfSome (result_ok result) (λ all. IsSettledBook all × AllZip HasGrown old all.seats)
settled_if book old seats (Ok all) grown is = (is.2, subst (λ (now : List Seated). AllZip HasGrown old now) (sym is.1.seats) grown)
settled_if book old seats (Err fault) grown is = tt

pub returns : goal.returns
returns g c =
    let back = c.in_ok-back.back in
    let gave : result_ok c.serve.result ≡ Some back = sym c.ok.ensures.value ∙ c.in_ok-back.was in
    let grown : AllZip HasGrown c.args.seats.items back.items = of_value _ c.serve.result back gave c.serve.ensures.ok in
    subst (λ (found : Option Collected). IfSome found (λ all. IsSettledBook all × AllZip HasGrown c.args.seats.items all.seats)) (sym c.ok-2.ensures.value)
    (settled_if c.args.book c.args.seats.items back.items c.reconcile.result grown c.reconcile.ensures)
