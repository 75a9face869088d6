use Rattle.std.proofs.Common.{◌∙◌, ◌++◌, ◌∷◌, [], nat_le, true, length, Option, Some, option_map, sym, ap, rules, arith}
use Rattle.indexmap.specs.IndexMap.{get}
use Rattle.mds_core.specs.declared.key.Key.{Key}
use Rattle.mds_core.specs.History.{same_key, key_of, requests_of}
use Rattle.mds_compact.specs.Cutting.{front_at, most_events}
use Rattle.mds_compact.specs.declared.cutting.Front.{Front}
use Rattle.mds_compact.proofs.Marks.{cut_more, front_is, fronts_more, fronts_stay, stays_at, uncut}
use Rattle.mds_compact.proofs.Passes.{longer, own_few, written_for}
use Rattle.mds_compact.proofs.cutting.Cutting.next_mark.Goals as goal

pub returns-in-Some : goal.returns-in-Some
returns-in-Some c = λ cuts old marks few is.
    let request = c.args.request.now in
    let key = key_of request in
    let own = requests_of old key in
    let most = most_events cuts key in
    let front = c.in-Some.front.now in
    let now = c.next_mark.new.self in
    let before : Key → Option Front = get same_key c.args.self.now.fronts in
    let after : Key → Option Front = get same_key (c.get_mut.follows.lender now) in
    let same = front_is own most front (c.in-Some.ensures.value ∙ ap before c.key.ensures ∙ is.fronts key) in
    let next = c.next_mark.ensures.front own (omega (arith, own_few old key, few)) same.0 in
    let updates = written_for before after c.key.result.now key now c.key.ensures (λ other. ((c.get_mut.follows.holds now).3 (search rules)).0 other) in
    let stays = c.next_mark.ensures.mark ∙ ap (λ (one : Front). nat_le one.requests front.most) same.0 ∙ sym (ap (λ one. stays_at one (length own)) same.1) in
    record {
      count = longer marks old c.next_mark.result request is.count;
      fronts = fronts_more cuts old request before after now is.fronts updates (ap Some next ∙ sym (ap (option_map (front_at (own ++ request ∷ []))) same.1));
      left = cut_more cuts old marks request c.next_mark.result is.count is.left stays;
    }

pub returns-in-None : goal.returns-in-None
returns-in-None c = λ cuts old marks few is.
    let request = c.args.request.now in
    let key = key_of request in
    let before : Key → Option Front = get same_key c.args.self.now.fronts in
    let none = uncut cuts old key (c.in-None.ensures.value ∙ ap before c.key.ensures ∙ is.fronts key) in
    record {
      count = longer marks old true request is.count;
      fronts = λ one. ap (λ map. get same_key map one) c.get_mut.follows.holds-at-none ∙ fronts_stay cuts old request before is.fronts none one;
      left = cut_more cuts old marks request true is.count is.left (sym (ap (λ most. stays_at most (length (requests_of old key))) none));
    }
