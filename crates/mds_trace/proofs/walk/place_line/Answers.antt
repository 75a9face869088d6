use Rattle.std.proofs.Common.{◌≡◌, ap, ◌∙◌}
use Rattle.mds_trace.specs.Session.{state_at}
use Rattle.mds_trace.specs.Printed.{place_line}
use Rattle.mds_trace.proofs.walk.place_line.Goals as goal

pub returns : goal.returns
returns c =
    let set = c.possible_of.result in
    let text : place_line c.place.result c.state.result set ≡ place_line c.args.session.now.place (state_at c.args.session.now) set =
    ap (λ place. place_line place c.state.result set) c.place.ensures.place ∙ ap (λ state. place_line c.args.session.now.place state set) c.state.ensures in
    (set, c.possible_of.ensures.order, c.possible_of.ensures.possible, text)
