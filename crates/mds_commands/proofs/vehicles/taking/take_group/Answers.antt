use Rattle.std.proofs.Common.{◌≡◌, ℕ, suc, ◌+◌, ◌<◌, get_or, List, length, take, drop, sym, subst}
use Rattle.mds_groups.specs.Stream.{texts_held, texts_of}
use Rattle.mds_commands.specs.Taking.{IsEntryFault, StopsAmong, TakesTexts}
use Rattle.mds_commands.proofs.ErrorLemmas.{passed_on}
use Rattle.mds_commands.proofs.TakingLemmas.{held_all, held_around, held_front, held_more, takes_more}
use Rattle.mds_commands.proofs.vehicles.taking.take_group.Goals as goal

pub returns-in_err-take_entry-clause-fault : goal.returns-in_err-take_entry-clause-fault
returns-in_err-take_entry-clause-fault c =
    let items = c.args.group.now.texts.items in
    let at = c.loop-at.at in
    let within : at < length items = rw c.deref-text-items.ensures.value at c.loop-at-test.true in
    let is : c.text-item.result ≡ get_or items at c.text-item.result = rw c.deref-text-items.ensures.value at c.text-item.is in
    let text = c.text-item.result in
    let why = rw c.deref.ensures.value at c.in_err-take_entry.ensures.fault in
    let stops : StopsAmong c.args.group.now.first (texts_of c.args.group.now) c.args.roster.now c.in_err-take_entry.field-0.0 = record {
      front = texts_held (take at items);
      text = text.items;
      back = texts_held (drop (suc at) items);
      middle = c.loop-at.roster;
      split = held_around items at text within is;
      taken = c.loop-at.invariant;
      fault = subst (λ n. IsEntryFault (c.args.group.now.first + n) text.items c.loop-at.roster c.in_err-take_entry.field-0.0) (sym (held_front items at within)) why;
    } in
    passed_on _ _ _ c.from_residual.ensures.1 stops

pub loop-at-preserved : goal.loop-at-preserved
loop-at-preserved c =
    let items = c.args.group.now.texts.items in
    let at = c.loop-at.at in
    let within : at < length items = rw c.deref-text-items.ensures.value at c.loop-at-test.true in
    let is : c.text-item.result ≡ get_or items at c.text-item.result = rw c.deref-text-items.ensures.value at c.text-item.is in
    let text = c.text-item.result in
    let told = rw c.deref.ensures.value at c.in_ok-take_entry.ensures.taken in
    subst (λ (w : List (List ℕ)). TakesTexts w c.args.roster.now c.take_entry.new.roster) (sym (held_more items at text within is))
    (takes_more (texts_held (take at items)) c.args.roster.now c.loop-at.roster c.take_entry.new.roster text.items told.0 c.loop-at.invariant told.1 told.2)

pub returns-clause-taken : goal.returns-clause-taken
returns-clause-taken c =
    let items = c.args.group.now.texts.items in
    subst (λ (w : List (List ℕ)). TakesTexts w c.args.roster.now c.loop-at.roster) (held_all items c.loop-at.at (rw c.deref-text-items.ensures.value at c.loop-at-test.false)) c.loop-at.invariant
