use Rattle.std.proofs.Common.{◌∷◌, ◌++◌, [], ℕ, Bool, List, cond, sym, subst}
use Rattle.std.specs.Prelude.{OnOk}
use Rattle.mds_retention.specs.Draft.{IsDraftOf}
use Rattle.mds_retention.proofs.draft.Draft.add_text_if.Goals as goal

pub returns-then-stays-clause-draft : goal.returns-then-stays-clause-draft
returns-then-stays-clause-draft g c =
    let Drafted = λ (all : List (List ℕ)). IsDraftOf g.D.Device.seen g.D.Device.may_leave g.D.Device.is_true all c.add_text.new.self in
    let Was = λ (all : List (List ℕ)). IsDraftOf g.D.Device.seen g.D.Device.may_leave g.D.Device.is_true all c.args.self.now in
    let Added : Bool → Type 0 = λ stays. OnOk c.add_text.result ((texts : List (List ℕ)) → Was texts → Drafted (texts ++ cond stays (c.args.text.now ∷ []) [])) in
    subst Added (sym c.if-stays.true) c.add_text.ensures.draft
