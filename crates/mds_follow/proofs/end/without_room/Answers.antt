use Rattle.std.proofs.Common.{◌≡◌, ◌<◌, [], inl, inr, ℕ, length, drop, refl, sym, ap, arith, append-nil}
use Rattle.std.proofs.lemmas.List.{take-append-drop, length-take-le}
use Rattle.std.proofs.lemmas.List.Elements.{All-nil}
use Rattle.mds_follow.proofs.EndLemmas.{feeds_of, not_room}
use Rattle.mds_follow.proofs.end.without_room.Goals as goal
use Rattle.mds_follow.proofs.end.without_room.Goals.{then-room-test+else-bytes-end-eq-LINE_FEED, else-room-test}
use Rattle.mds_follow.proofs.end.without_room.Goals.{then-bytes-le1-via-then-bytes-le1, then-bytes-le1-via-else-bytes-le1+then-bytes-eq-CLOSED_GATE}

-- a byte that is no line feed stands behind the gate
pub returns-then-end-gt1 : goal.returns-then-end-gt1
returns-then-end-gt1 c =
    let bytes = c.args.bytes.now in
    let end = c.room.end in
    let long = length-take-le end bytes c.room.invariant.within in
    elim c.room-test.branch [
      | then-room-test+else-bytes-end-eq-LINE_FEED w ↦ inr (
        not_room end bytes c.if-end-gt1.true c.room.invariant.within w.if-bytes-end-eq-LINE_FEED.false,
        (drop end bytes, sym (take-append-drop end bytes), c.room.invariant.feeds, λ none. absurd (omega (arith, c.if-end-gt1.true, long, ap length none))),
      )
      | else-room-test w ↦ absurd (omega (arith, c.if-end-gt1.true, w.room-test.false))
    ]

-- none does
pub returns-then-bytes-le1 : goal.returns-then-bytes-le1
returns-then-bytes-le1 c =
    let bytes = c.args.bytes.now in
    let feeds = feeds_of c.room.end bytes (omega (arith, c.if-end-gt1.false)) c.room.invariant.feeds in
    elim c.then-bytes-le1.branch [
      | then-bytes-le1-via-then-bytes-le1 w ↦ inl ((feeds, λ many. absurd (omega (arith, many, w.if-bytes-le1.true))), refl)
      | then-bytes-le1-via-else-bytes-le1+then-bytes-eq-CLOSED_GATE w ↦ inl ((feeds, λ many. w.if-bytes-eq-CLOSED_GATE.true), refl)
    ]

-- nor is the gate closed
pub returns : goal.returns
returns c =
    let bytes = c.args.bytes.now in
    let many : 1 < length bytes = omega (arith, c.if-bytes-le1.false) in
    inr (
      λ room. c.if-bytes-eq-CLOSED_GATE.false (room.1 many),
      ([], sym (append-nil bytes), All-nil (λ (byte : ℕ). byte ≡ 10), λ none. absurd (omega (arith, many, ap length none))),
    )
