-- Lists in which what is told was put at its places.
use Rattle.std.proofs.Common.{◌≡◌, ◌≢◌, ◌⊎◌, inl, inr, ℕ, zero, suc, List, [], ◌∷◌, ◌++◌, length, set, slice_get, Contains, Some, refl, sym, ◌∙◌, ap, arith}
use Rattle.std.proofs.lemmas.List.Elements.{Contains-append_left, Contains-append_right, Contains-append_cases}
use Rattle.std.proofs.lemmas.List.{length-set}
use Rattle.mds_steps.proofs.Sets.{none_in_empty, only_one}
use Rattle.mds_trace.specs.declared.report.Verdict.{Verdict}
use Rattle.mds_trace.specs.declared.part.ToldVerdict.{ToldVerdict}
use Rattle.mds_trace.specs.Parts.{ArePut}

-- nothing was put yet
pub none_put : (lines : List Verdict) → ArePut [] lines lines
none_put lines = record {
  count = refl;
  each = λ i line at. inr (at, λ other told. none_in_empty _ told);
}

-- what stands at a place of a list in which one element was written: that one, or what stood there
written : {X : Type 0} (xs : List X) (at : ℕ) (new : X) (i : ℕ) (x : X) → slice_get (set xs at new) i ≡ Some x
    → ((at ≡ i) × (new ≡ x)) ⊎ ((at ≢ i) × (slice_get xs i ≡ Some x))
written [] at new i x is = absurd (cc)
written (first ∷ xs) zero new zero x is = inl (refl, (cc))
written (first ∷ xs) zero new (suc i) x is = inr (λ same. absurd (omega (arith, same)), is)
written (first ∷ xs) (suc at) new zero x is = inr (λ same. absurd (omega (arith, same)), is)
written (first ∷ xs) (suc at) new (suc i) x is = elim (written xs at new i x is) [
  | inl here ↦ inl (ap suc here.0, here.1)
  | inr there ↦ inr (λ same. there.0 (omega (arith, same)), there.1)
]

one_put : (one : ToldVerdict) (lines : List Verdict) → ArePut (one ∷ []) lines (set lines one.index one.verdict)
one_put one lines = record {
  count = length-set lines one.index one.verdict;
  each = λ i line at. elim (written lines one.index one.verdict i line at) [
    | inl here ↦ inl (zero, omega arith, λ j. record { index = here.0 j; verdict = here.1 j })
    | inr there ↦ inr (there.1, λ other told. there.0 (ap (λ (said : ToldVerdict). said.index) (only_one one _ told)))
  ];
}

-- what is put behind the rest
pub more_put : (told more : List ToldVerdict) (before between after : List Verdict) → ArePut told before between → ArePut more between after
    → ArePut (told ++ more) before after
more_put told more before between after put then = record {
  count = then.count ∙ put.count;
  each = λ i line at. elim (then.each i line at) [
    | inl now ↦ inl (Contains-append_right told more _ now)
    | inr kept ↦ elim (put.each i line kept.0) [
      | inl earlier ↦ inl (Contains-append_left told more _ earlier)
      | inr still ↦ inr (
        still.0,
        λ other said. elim (Contains-append_cases told more _ said) [
          | inl earlier ↦ still.1 other earlier
          | inr now ↦ kept.1 other now
        ],
      )
    ]
  ];
}

-- one verdict more
pub next_put : (told : List ToldVerdict) (one : ToldVerdict) (before lines : List Verdict) → ArePut told before lines
    → ArePut (told ++ one ∷ []) before (set lines one.index one.verdict)
next_put told one before lines put = more_put told (one ∷ []) before lines (set lines one.index one.verdict) put (one_put one lines)
