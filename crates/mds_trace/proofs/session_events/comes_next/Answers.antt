use Rattle.std.proofs.Common.{◌≡◌, true, sym, subst, ◌∙◌, arith}
use Rattle.std.proofs.lemmas.Bool.{true≢false, leb-true, le-leb}
use Rattle.mds_core.specs.declared.key.Key.{Key}
use Rattle.mds_core.specs.History.{same_key}
use Rattle.mds_core.proofs.Histories.{same_key_is, same_key_refl}
use Rattle.mds_trace.proofs.session_events.comes_next.Goals as goal

pub returns-then-eq : goal.returns-then-eq
returns-then-eq c =
    let key : c.args.last.now.key ≡ c.args.event.now.key =
    sym c.key.ensures ∙ same_key_is _ _ (sym c.eq.ensures ∙ c.if-eq.true) ∙ c.key-2.ensures in (
      λ not_after. record { key = key; time = omega (arith, leb-true c.time.result c.time-then-eq.result not_after) },
      λ next. le-leb c.time.result c.time-then-eq.result (omega (arith, next.time)),
    )

pub returns-else-eq : goal.returns-else-eq
returns-else-eq c = (
  λ same. absurd (true≢false (sym same ∙ c.if-eq.false)),
  λ next. let one : c.key.result.now ≡ c.key-2.result.now = c.key.ensures ∙ next.key ∙ sym c.key-2.ensures in
      c.eq.ensures ∙ subst (λ (other : Key). same_key c.key.result.now other ≡ true) one (same_key_refl c.key.result.now),
)
