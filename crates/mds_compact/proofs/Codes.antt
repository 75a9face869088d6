-- A state goes by its code, and there are nine.
use Rattle.std.proofs.Common.{◌≡◌, ◌<◌, List, [], ◌∷◌, Some, refl, sym, ◌∙◌, ap, arith}
use Rattle.std.specs.Prelude.{slice_get}
use Rattle.mds_table.specs.declared.state.State.{State}
use Rattle.mds_table.specs.declared.state.State.TheVariants.{Removed, Available, NonOperational, Reserved, OnTrip, Elsewhere, NonContactable, Missing, InDepot}
use Rattle.mds_table.specs.State.{code_of}

-- each state, by its code
all : List State
all = Removed ∷ Available ∷ NonOperational ∷ Reserved ∷ OnTrip ∷ Elsewhere ∷ NonContactable ∷ Missing ∷ InDepot ∷ []

stands_at_code : (state : State) → slice_get all (code_of state) ≡ Some state
unfolding all
stands_at_code Removed = refl
stands_at_code Available = refl
stands_at_code NonOperational = refl
stands_at_code Reserved = refl
stands_at_code OnTrip = refl
stands_at_code Elsewhere = refl
stands_at_code NonContactable = refl
stands_at_code Missing = refl
stands_at_code InDepot = refl

-- states with one code are one
pub code_one : (a b : State) → code_of a ≡ code_of b → a ≡ b
code_one a b same = let both : Some a ≡ Some b = sym (stands_at_code a) ∙ ap (slice_get all) same ∙ stands_at_code b in cc

pub code_below : (state : State) → code_of state < 9
code_below Removed = omega arith
code_below Available = omega arith
code_below NonOperational = omega arith
code_below Reserved = omega arith
code_below OnTrip = omega arith
code_below Elsewhere = omega arith
code_below NonContactable = omega arith
code_below Missing = omega arith
code_below InDepot = omega arith
