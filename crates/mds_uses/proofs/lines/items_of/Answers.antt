use Rattle.std.proofs.Common.{rules, List, ℕ, [], ◌++◌, ◌≡◌, ◌∙◌, ap, sym, subst}
use Rattle.std.proofs.lemmas.List.{append-nil}
use Rattle.mds_batch.specs.declared.item.EventItem.{EventItem}
use Rattle.mds_lines.proofs.FeedLemmas.{none_ended}
use Rattle.mds_lines.specs.Stream.{HasEndedItems, HasLineFault, HasLineItems}
use Rattle.mds_uses.proofs.lines.items_of.Goals as goal

-- what was taken behind nothing, of the bytes of a stream, are the stream's items
all_taken : (before all taken : List EventItem) (bytes stream : List ℕ) → before ≡ [] → bytes ≡ stream → taken ≡ before ++ all → HasLineItems bytes all → HasLineItems stream taken
all_taken before all taken bytes stream none same is has =
    let only : taken ≡ all = subst (λ front. taken ≡ front ++ all) none is in
    subst (λ text. HasLineItems text taken) same (subst (λ items. HasLineItems bytes items) (sym only) has)

pub returns-in_err-feed-clause-fault : goal.returns-in_err-feed-clause-fault
returns-in_err-feed-clause-fault c =
    let start : c.open-reader.result.bytes ≡ [] = search rules in
    let P : List ℕ → Type 0 = λ bytes. HasLineFault ((bytes ++ c.args.front.now) ++ c.args.rest.now) c.in_err-feed.field-0.0 in
    let has = subst P start (c.in_err-feed.ensures.fault c.args.rest.now) in
    search (rules, has)

pub returns-in_err-feed-2-clause-fault : goal.returns-in_err-feed-2-clause-fault
returns-in_err-feed-2-clause-fault c =
    let fed : c.feed.new.self.bytes ≡ c.args.front.now = search rules in
    let all = c.args.front.now ++ c.args.rest.now in
    let same : (c.feed.new.self.bytes ++ c.args.rest.now) ++ [] ≡ all = append-nil (c.feed.new.self.bytes ++ c.args.rest.now) ∙ ap (λ bytes. bytes ++ c.args.rest.now) fed in
    let has = subst (λ bytes. HasLineFault bytes c.in_err-feed-2.field-0.0) same (c.in_err-feed-2.ensures.fault []) in
    search (rules, has)

pub returns-in_err-finish-clause-fault : goal.returns-in_err-finish-clause-fault
returns-in_err-finish-clause-fault c =
    let same : c.feed-2.new.self.bytes ≡ c.args.front.now ++ c.args.rest.now = search rules in
    let has = subst (λ bytes. HasLineFault bytes c.in_err-finish.field-0.0) same c.in_err-finish.ensures.fault in
    search (rules, has)

pub returns-clause-items : goal.returns-clause-items
returns-clause-items c =
    let none : c.new-items.result.items ≡ [] = search rules in
    let start : c.open-reader.result.bytes ≡ [] = search rules in
    let same : c.feed-2.new.self.bytes ≡ c.args.front.now ++ c.args.rest.now = search rules in
    let ended = subst (λ bytes. HasEndedItems bytes []) (sym start) none_ended in
    let front = c.in_ok-feed.ensures.taken c.new-items.result [] ended (sym (append-nil c.new-items.result.items)) in
    let both = c.in_ok-feed-2.ensures.taken c.new-items.result front.0 front.2 front.1 in
    let whole = c.in_ok-finish.ensures.taken c.new-items.result both.0 both.2 both.1 in
    all_taken c.new-items.result.items whole.0 c.finish.new.taker.items c.feed-2.new.self.bytes (c.args.front.now ++ c.args.rest.now) none same whole.1 whole.2
