use Rattle.std.proofs.Common.{◌≡◌, ◌∙◌, Some, sym}
use Rattle.std.specs.Result.{result_ok}
use Rattle.mds_uses.proofs.Oks.{of_value}
use Rattle.mds_uses.proofs.socket.answer_next.Goals as goal

pub returns : goal.returns
returns g c =
    let gave : result_ok c.serve_one.result ≡ Some c.in_ok-served.served = sym c.ok-2.ensures.value ∙ c.in_ok-served.was in
    (c.in_ok-input.input, of_value _ c.serve_one.result c.in_ok-served.served gave c.serve_one.ensures.served)
