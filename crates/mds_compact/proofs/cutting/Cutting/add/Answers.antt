use Rattle.std.proofs.Common.{◌≡◌, ◌∙◌, [], ◌∷◌, ◌++◌, cond, min, Option, Some, refl, sym, ap, rules}
use Rattle.indexmap.specs.IndexMap.{get}
use Rattle.mds_core.specs.declared.key.Key.{Key}
use Rattle.mds_core.specs.History.{same_key}
use Rattle.mds_compact.specs.Cutting.{front_at, least_of, most_events}
use Rattle.mds_compact.specs.declared.cutting.Front.{Front}
use Rattle.mds_compact.proofs.Marks.{cut_nil, front_is, fronts_cut, least_front, uncut}
use Rattle.mds_compact.proofs.cutting.Cutting.add.Goals as goal

pub returns-in-Some : goal.returns-in-Some
returns-in-Some c = λ cuts is.
    let cut = c.args.cut.now in
    let front = c.in-Some.front.now in
    let now : Front = record front { most = c.min-front.result } in
    let before : Key → Option Front = get same_key c.args.self.now.fronts in
    let after : Key → Option Front = get same_key (c.get_mut.follows.lender now) in
    let same = front_is [] (most_events cuts cut.key) front (c.in-Some.ensures.value ∙ is.fronts cut.key) in
    let lesser : c.min-front.result ≡ min front.most cut.events = search rules in
    record {
      count = refl;
      fronts = fronts_cut cuts cut before after now is.fronts (λ other. ((c.get_mut.follows.holds now).3 (search rules)).0 other)
          (least_front front (most_events cuts cut.key) cut.events c.min-front.result same.0 same.1 lesser);
      left = cut_nil (cuts ++ cut ∷ []);
    }

pub returns : goal.returns
returns c = λ cuts is.
    let cut = c.args.cut.now in
    let front = front_at [] cut.events in
    let before : Key → Option Front = get same_key c.args.self.now.fronts in
    let after : Key → Option Front = get same_key c.insert.new.self in
    let none = uncut cuts [] cut.key (c.in_default.ensures.value ∙ is.fronts cut.key) in
    record {
      count = refl;
      fronts = fronts_cut cuts cut before after front is.fronts
          (λ other. c.in-Ok.ensures.updates.0 other ∙ ap (λ map. cond (same_key cut.key other) (Some front) (get same_key map other)) c.get_mut.follows.holds-at-none)
          (sym (ap (λ most. front_at [] (least_of most cut.events)) none));
      left = cut_nil (cuts ++ cut ∷ []);
    }
