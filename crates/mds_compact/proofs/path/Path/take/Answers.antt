use Rattle.std.proofs.Common.{◌≡◌, ◌⊎◌, ◌∙◌, ap, sym, subst, inl, inr, length, position, true, ◌∷◌, [], ◌++◌}
use Rattle.std.proofs.lemmas.Result.{on_ok_weaker}
use Rattle.mds_core.specs.declared.request.Request.TheVariants.{Report}
use Rattle.mds_compact.specs.Compaction.{has_to_stay}
use Rattle.mds_table.specs.declared.state.State.{State}
use Rattle.mds_compact.specs.Path.{Way, IsPath, way_at}
use Rattle.mds_compact.proofs.Visits.{is_at}
use Rattle.mds_compact.proofs.Taken.{none_taken, is_last, event_kept, event_new, event_old}
use Rattle.mds_compact.proofs.path.Path.take.Goals as goal
use Rattle.mds_compact.proofs.path.Path.take.Goals.{then-is_last_position-via-then-is_last_position, then-is_last_position-via-else-is_last_position+then-has_to_stay}

pub returns-in_default : goal.returns-in_default
returns-in_default c = on_ok_weaker c.keep.result (λ stands old rest is.
    let way = c.args.self.now in
    let P : Way → Type 0 = λ one. IsPath c.args.from (old ++ c.args.request.now ∷ []) rest one in
    let Q : State → Type 0 = λ state. IsPath c.args.from (old ++ c.args.request.now ∷ []) rest (way_at 0 state (way.marks ++ true ∷ []) way) in
    let held = ap (λ (one : Way). one.held) c.self.view_is in
    subst P (sym stands) (subst Q (sym held) (none_taken c.args.from old rest c.args.request.now way c.in_default.ensures is))) c.keep.ensures

pub returns-then-is_last_position : goal.returns-then-is_last_position
returns-then-is_last_position c = on_ok_weaker c.keep-then-is_last_position.result (λ stands old rest is.
    let event = c.in-Some.event.now in
    let now = c.count_down-is_last_position.new.self in
    let last_same : c.self-2.inside.last ≡ now.last = ap (λ (one : Way). one.last) c.self-2.view_is in
    let good : (is_last event now ≡ true) ⊎ (has_to_stay c.args.from now.last (Report event) ≡ true) = elim c.then-is_last_position.branch [
      | then-is_last_position-via-then-is_last_position w ↦ inl (sym c.count_down-is_last_position.ensures.last ∙ w.if-is_last_position.true)
      | then-is_last_position-via-else-is_last_position+then-has_to_stay w ↦ inr (ap (λ last. has_to_stay c.args.from last (Report event)) (sym last_same) ∙ sym w.has_to_stay.ensures ∙ w.if-has_to_stay.true)
    ] in
    event_kept c.args.from old rest c.args.request.now event c.in-Some.ensures c.args.self.now now is c.count_down-is_last_position.ensures.counted c.state.result c.keep-then-is_last_position.new.self
    c.state.ensures good stands) c.keep-then-is_last_position.ensures

pub returns-in-Some-visit_of : goal.returns-in-Some-visit_of
returns-in-Some-visit_of c = on_ok_weaker c.cut.result (λ stands old rest is.
    let now = c.count_down-is_last_position.new.self in
    event_old c.args.from old rest c.args.request.now c.in-Some.event.now c.in-Some.ensures c.args.self.now now is c.count_down-is_last_position.ensures.counted c.in-Some-visit_of.place c.cut.new.self
    (sym c.count_down-is_last_position.ensures.last ∙ c.if-is_last_position.false)
    (ap (λ last. has_to_stay c.args.from last (Report c.in-Some.event.now)) (sym (ap (λ (one : Way). one.last) c.self-2.view_is)) ∙ sym c.has_to_stay.ensures ∙ c.if-has_to_stay.false)
    (sym (c.in-Some-visit_of.ensures ∙ ap (λ state. position (is_at state) now.visits) c.state-2.ensures)) stands) c.cut.ensures

pub returns-in-None : goal.returns-in-None
returns-in-None c = on_ok_weaker c.keep-in-None.result (λ stands old rest is.
    let now = c.count_down-is_last_position.new.self in
    event_new c.args.from old rest c.args.request.now c.in-Some.event.now c.in-Some.ensures c.args.self.now now is c.count_down-is_last_position.ensures.counted c.state-in-None.result c.keep-in-None.new.self
    c.state-in-None.ensures (sym c.count_down-is_last_position.ensures.last ∙ c.if-is_last_position.false)
    (ap (λ last. has_to_stay c.args.from last (Report c.in-Some.event.now)) (sym (ap (λ (one : Way). one.last) c.self-2.view_is)) ∙ sym c.has_to_stay.ensures ∙ c.if-has_to_stay.false)
    (sym (c.in-None.ensures ∙ ap (λ state. position (is_at state) now.visits) c.state-2.ensures))
    (stands ∙ ap (λ place. way_at place c.state-in-None.result (now.marks ++ true ∷ []) now) (c.len-place.ensures ∙ c.self-in-None.inside.visits.ok.0 ∙ ap (λ (one : Way). length one.visits) c.self-in-None.view_is))) c.keep-in-None.ensures
