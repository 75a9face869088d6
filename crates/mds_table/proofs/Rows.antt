-- When two rows are the same.
use Rattle.std.proofs.Common.{◌≡◌, ℕ, ◌<◌, ◌==◌, cond, lit<, refl, sym, ◌∙◌, ap}
use Rattle.mds_table.specs.declared.state.State.{State}
use Rattle.mds_table.specs.declared.state.State.TheVariants.{Removed, Available, NonOperational, Reserved, OnTrip, Elsewhere, NonContactable, Missing, InDepot}
use Rattle.mds_table.specs.declared.state.TheConstants.State.{COUNT}
use Rattle.mds_table.specs.State.{code_of}

-- the state of a code
of_code : ℕ → State
of_code code = cond (code == 0) Removed (cond (code == 1) Available (cond (code == 2) NonOperational (cond (code == 3) Reserved
    (cond (code == 4) OnTrip (cond (code == 5) Elsewhere (cond (code == 6) NonContactable
    (cond (code == 7) Missing InDepot)))))))

of_code-code_of : (state : State) → of_code (code_of state) ≡ state
unfolding of_code
of_code-code_of Removed = refl
of_code-code_of Available = refl
of_code-code_of NonOperational = refl
of_code-code_of Reserved = refl
of_code-code_of OnTrip = refl
of_code-code_of Elsewhere = refl
of_code-code_of NonContactable = refl
of_code-code_of Missing = refl
of_code-code_of InDepot = refl

-- states with one code are one state
pub code_of_injective : (a b : State) → code_of a ≡ code_of b → a ≡ b
code_of_injective a b same = sym (of_code-code_of a) ∙ ap of_code same ∙ of_code-code_of b

-- there are as many codes as states
pub code_below : (state : State) → code_of state < COUNT
code_below Removed = lit< tt
code_below Available = lit< tt
code_below NonOperational = lit< tt
code_below Reserved = lit< tt
code_below OnTrip = lit< tt
code_below Elsewhere = lit< tt
code_below NonContactable = lit< tt
code_below Missing = lit< tt
code_below InDepot = lit< tt
