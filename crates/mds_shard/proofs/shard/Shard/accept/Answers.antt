use Rattle.std.proofs.Common.{◌≡◌, ◌<◌, ◌∙◌, ◌++◌, ◌∷◌, [], ℕ, None, false, length, sym, ap, subst, arith}
use Rattle.std.specs.Prelude.{option_map, is_some}
use Rattle.std.below.core.specs.declared.int.usize.TheConstants.{MAX}
use Rattle.mds_core.specs.History.{key_of, requests_of, reports}
use Rattle.mds_core.specs.Known.{is_repeated}
use Rattle.mds_core.specs.declared.reply.Outcome.TheVariants.{Done}
use Rattle.mds_core.proofs.Histories.{lawful_next}
use Rattle.mds_known.specs.Kept.{PutsValue}
use Rattle.mds_shard.specs.Replay.{has_name}
use Rattle.mds_shard.proofs.Names.{has_name_is, not_true}
use Rattle.mds_shard.proofs.Replays.{replay_push, standing_kept, few_reports}
use Rattle.mds_shard.proofs.shard.Shard.accept.Goals as goal

pub invariant_of-self-2 : goal.invariant_of-self-2
invariant_of-self-2 g c =
    let inside = c.self.inside in
    let history = inside.past.requests in
    let before = inside.past.before in
    let request = c.args.request.now in
    let key = key_of request in
    let standing = c.standing_after-standing.result in
    let few : length (reports (requests_of history key)) < MAX = omega (arith, few_reports history key, c.len-last.ensures.small, c.len-last.ensures.len) in
    let vehicle = rw (← c.self.view_is) at c.requires.vehicle in
    let placed : (c.in_ok-number.field-0 ≡ None → ⊥) = λ none. absurd cc in
    let lacked = not_true (has_name inside.known.names request) (ap is_some (sym c.in-Some.is) ∙ c.in_ok-number.ensures.new) in
    let new : is_repeated (requests_of history key) request ≡ false = sym (has_name_is history inside.known.names request c.self.invariant.held) ∙ lacked in
    let may = (rw (← c.self.view_is) at c.requires.accepted) new in
    let stands = c.standing_after-standing.ensures (requests_of history key) (c.standing_in.ensures ∙ standing_kept history key c.args.vehicle vehicle) few in
    let Puts : ℕ → Type 0 = λ last. PutsValue key (record { standing = standing; last = last }) inside.known.entries c.keep.new.known.entries in
    let pushed = replay_push inside.tables history before inside.known.entries c.keep.new.known.entries inside.known.names c.keep.new.known.names request c.args.vehicle
    standing c.self.invariant may vehicle stands (subst Puts c.len-last.ensures.len (c.in_ok-number.ensures.vehicles placed)) (c.in_ok-number.ensures.names placed) in
    let history_is : c.push.new.self.requests ≡ history ++ request ∷ [] = c.push.ensures.requests ∙ ap (λ h. h ++ request ∷ []) c.reserve.ensures.requests in
    let before_is : c.push.new.self.before ≡ before ++ option_map (λ v. v.last) c.args.vehicle ∷ [] =
    c.push.ensures.before ∙ ap (λ b. b ++ c.last_in-before.result ∷ []) c.reserve.ensures.before ∙ ap (λ e. before ++ e ∷ []) c.last_in-before.ensures in
    rw (history_is, before_is) pushed

-- a lawful history stays lawful with a request that may be accepted behind it
pub returns-clause-lawful : goal.returns-clause-lawful
returns-clause-lawful g c =
    let inside = c.self.inside in
    let history = inside.past.requests in
    let request = c.args.request.now in
    let lacked = not_true (has_name inside.known.names request) (ap is_some (sym c.in-Some.is) ∙ c.in_ok-number.ensures.new) in
    let new : is_repeated (requests_of history (key_of request)) request ≡ false = sym (has_name_is history inside.known.names request c.self.invariant.held) ∙ lacked in
    let may = (rw (← c.self.view_is) at c.requires.accepted) new in
    let history_is : c.push.new.self.requests ≡ history ++ request ∷ [] = c.push.ensures.requests ∙ ap (λ h. h ++ request ∷ []) c.reserve.ensures.requests in
    rw history_is (lawful_next inside.tables history request Done c.self.invariant.lawful may)
