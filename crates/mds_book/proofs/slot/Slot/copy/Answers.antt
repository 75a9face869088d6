use Rattle.std.proofs.Common.{◌≡◌, ◌+◌, ◌++◌, List, length, take, drop, ap, ◌∙◌, arith}
use Rattle.mds_core.specs.declared.request.Request.{Request}
use Rattle.mds_log.specs.Log.{Acceptance, requests}
use Rattle.mds_book.proofs.Copying.{is_copied, piece_of}
use Rattle.mds_book.proofs.slot.Slot.copy.Goals as goal

-- the whole history is shown, and the piece is of it
pub returns-clause-copied : goal.returns-clause-copied
returns-clause-copied g c =
    let is = c.self.invariant in
    let from = c.count-from.ensures in
    let size = c.piece_size-size in
    let history = c.self.inside.shard.history in
    let items : List Request = take size.result (drop c.args.progress.now.count history) in
    let seen_is : requests c.show.new.front ≡ history = ap (λ (w : List Acceptance). requests w) c.show.ensures.front ∙ is.3 in
    let piece = piece_of c.args.progress.now.count size.result history (omega (arith, size.ensures.within, c.len.ensures.len, from.count)) size.ensures.short
    (λ none. omega (arith, size.ensures.none none, c.len.ensures.len, from.count)) in
    let count_is : c.count-from.result + size.result ≡ c.args.progress.now.count + length items = omega (arith, from.count, piece.1) in
    let behind : c.take.new.self ≡ c.args.copies.now ++ items =
    c.in_ok-take.ensures ∙ (ap (λ w. c.args.copies.now ++ take size.result (drop c.count-from.result w)) c.past.ensures.requests
    ∙ ap (λ n. c.args.copies.now ++ take size.result (drop n history)) from.count) in
    record {
      piece = items;
      behind = behind;
      is_copied =
          is_copied _ _ c.args.progress.now items _ c.again-seen.result c.self.inside.keeper history
          (ap (λ (w : List Acceptance). requests w) c.again-seen.ensures ∙ c.front.ensures) c.show.ensures.begins is.3 from.within (rw (← is.0) is.4) is.1 piece.0
          (c.of.ensures ∙ (λ i. record { seen = seen_is i; count = count_is i }));
    }
