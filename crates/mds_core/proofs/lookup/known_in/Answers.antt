use Rattle.std.proofs.Common.{◌≡◌, ◌<◌, ◌∙◌, length, take, true, false, sym, ap, arith}
use Rattle.std.below.core.specs.declared.int.usize.TheConstants.{MAX}
use Rattle.std.proofs.lemmas.List.{append-nil}
use Rattle.mds_core.specs.History.{key_of, requests_of, reports, same_key}
use Rattle.mds_core.proofs.Standings.{own_more, own_few}
use Rattle.mds_core.proofs.lookup.known_in.Goals as goal
use Rattle.mds_core.proofs.lookup.known_in.Goals.{then-is_about, else-is_about}

pub loop-request-preserved : goal.loop-request-preserved
loop-request-preserved c =
    let history = c.args.history.now in
    let key = key_of c.args.asked.now in
    let i = c.loop-request.request-index in
    let request = c.request-item.result in
    let more = own_more history i request key c.loop-request-test.true c.request-item.is in
    let about : c.is_about.result ≡ same_key (key_of request) key = c.is_about.ensures ∙ ap (same_key (key_of request)) c.key.ensures in
    elim c.if-is_about.branch [
      | then-is_about w ↦
          let same : same_key (key_of request) key ≡ true = sym about ∙ w.if-is_about.true in
          let few : length (reports (requests_of (take i history) key)) < MAX = omega (arith, own_few history i key (omega arith)) in
          rw (more, same, w.known-is) (w.known_after-known.ensures (requests_of (take i history) key) c.loop-request.invariant few)
      | else-is_about w ↦
          let other : same_key (key_of request) key ≡ false = sym about ∙ w.if-is_about.false in
          rw (more, other, append-nil, w.known-is) c.loop-request.invariant
    ]
