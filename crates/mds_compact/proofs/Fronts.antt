-- Fronts of lawful lists of one vehicle, and what cuts leave.
use Rattle.std.proofs.Common.{◌≡◌, ℕ, zero, suc, ◌+◌, List, [], ◌∷◌, ◌++◌, take, Option, Some, None, refl, sym, ◌∙◌, ap, subst, append_assoc, arith}
use Rattle.std.proofs.lemmas.List.{append-nil}
use Rattle.mds_table.specs.Tables.{Tables}
use Rattle.mds_core.specs.declared.key.Key.{Key}
use Rattle.mds_core.specs.declared.request.Request.{Request}
use Rattle.mds_core.specs.declared.request.Request.TheVariants.{Register, Report, Look}
use Rattle.mds_core.specs.declared.reply.Outcome.TheVariants.{Done}
use Rattle.mds_core.specs.History.{requests_of, reports}
use Rattle.mds_core.specs.Known.{standing_if}
use Rattle.mds_core.specs.Answer.{Gives}
use Rattle.mds_core.specs.Machine.{standing_in}
use Rattle.mds_core.specs.Lawful.{IsCareer, IsLawfulOf, IsLawful}
use Rattle.mds_compact.specs.Cutting.{IsCutBy, front_of, most_events}
use Rattle.mds_compact.specs.declared.cutting.Cut.{Cut}

-- a front of a career is one
career_front : (tables : Tables) (before first second : List Request) → IsCareer tables before (first ++ second) → IsCareer tables before first
career_front tables before [] second career = tt
career_front tables before (Report event ∷ first) second career = (career.0, career_front tables (before ++ Report event ∷ []) first second career.1)
career_front tables before (Register key ∷ first) second career = absurd career
career_front tables before (Look key ∷ first) second career = absurd career

-- a front of a lawful list is lawful
pub lawful_front : (tables : Tables) (first second : List Request) → IsLawfulOf tables (first ++ second) → IsLawfulOf tables first
lawful_front tables [] second lawful = tt
lawful_front tables (Register key ∷ first) second lawful = career_front tables (Register key ∷ []) first second lawful
lawful_front tables (Report event ∷ first) second lawful = absurd lawful
lawful_front tables (Look key ∷ first) second lawful = absurd lawful

-- each entry of a career could be accepted after those before it
career_gives : (tables : Tables) (before first : List Request) (request : Request) → IsCareer tables before (first ++ request ∷ []) → Gives tables (before ++ first) request Done
career_gives tables before [] (Report event) career = let P : List Request → Type 0 = λ requests. Gives tables requests (Report event) Done in subst P (sym (append-nil before)) career.0
career_gives tables before [] (Register key) career = absurd career
career_gives tables before [] (Look key) career = absurd career
career_gives tables before (Report event ∷ first) request career =
    let P : List Request → Type 0 = λ requests. Gives tables requests request Done in
    subst P (append_assoc before (Report event ∷ []) first) (career_gives tables (before ++ Report event ∷ []) first request career.1)
career_gives tables before (Register key ∷ first) request career = absurd career
career_gives tables before (Look key ∷ first) request career = absurd career

-- the last entry of a lawful list could be accepted after those before it
pub lawful_gives : (tables : Tables) (first : List Request) (request : Request) → IsLawfulOf tables (first ++ request ∷ []) → Gives tables first request Done
lawful_gives tables [] (Register key) lawful = refl
lawful_gives tables [] (Report event) lawful = absurd lawful
lawful_gives tables [] (Look key) lawful = absurd lawful
lawful_gives tables (Register key ∷ first) request lawful = career_gives tables (Register key ∷ []) first request lawful
lawful_gives tables (Report event ∷ first) request lawful = absurd lawful
lawful_gives tables (Look key ∷ first) request lawful = absurd lawful

-- a list is a front of it and what is behind
taken : (count : ℕ) (all : List Request) → (rest : List Request) × (all ≡ take count all ++ rest)
taken zero all = (all, refl)
taken (suc count) [] = ([], refl)
taken (suc count) (request ∷ all) = let behind = taken count all in (behind.0, ap (λ tail. request ∷ tail) behind.1)

-- what is left of each vehicle is lawful
pub lawful_cut : (tables : Tables) (cuts : List Cut) (old new : List Request) → IsLawful tables old → IsCutBy cuts old new → IsLawful tables new
lawful_cut tables cuts old new lawful left key = let P : List Request → Type 0 = λ requests. IsLawfulOf tables requests in subst P (sym (left key)) (own (most_events cuts key)) where
  own : (most : Option ℕ) → IsLawfulOf tables (front_of most (requests_of old key))
  own None = lawful key
  own (Some count) =
      let behind = taken (1 + count) (requests_of old key) in
      let P : List Request → Type 0 = λ requests. IsLawfulOf tables requests in
      lawful_front tables (take (1 + count) (requests_of old key)) behind.0 (subst P behind.1 (lawful key))

-- the events of a front of a career are the first ones
career_reports : (tables : Tables) (before all : List Request) (count : ℕ) → IsCareer tables before all → reports (take count all) ≡ take count (reports all)
career_reports tables before [] zero career = refl
career_reports tables before [] (suc count) career = refl
career_reports tables before (request ∷ all) zero career = refl
career_reports tables before (Report event ∷ all) (suc count) career = ap (λ rest. event ∷ rest) (career_reports tables (before ++ Report event ∷ []) all count career.1)
career_reports tables before (Register key ∷ all) (suc count) career = absurd career
career_reports tables before (Look key ∷ all) (suc count) career = absurd career

reports_front : (tables : Tables) (all : List Request) (count : ℕ) → IsLawfulOf tables all → reports (take (suc count) all) ≡ take count (reports all)
reports_front tables [] zero lawful = refl
reports_front tables [] (suc count) lawful = refl
reports_front tables (Register key ∷ all) count lawful = career_reports tables (Register key ∷ []) all count lawful
reports_front tables (Report event ∷ all) count lawful = absurd lawful
reports_front tables (Look key ∷ all) count lawful = absurd lawful

-- the events that are left are the first ones, and a vehicle that no cut names stands as it stood
pub others_kept : (tables : Tables) (cuts : List Cut) (old new : List Request) (key : Key) → IsLawful tables old → IsCutBy cuts old new
    → ((count : ℕ) → most_events cuts key ≡ Some count → reports (requests_of new key) ≡ take count (reports (requests_of old key))) × (most_events cuts key ≡ None → standing_in new key ≡ standing_in old key)
others_kept tables cuts old new key lawful left = (
  λ count is.
      let own = requests_of old key in
      let next : 1 + count ≡ suc count = omega arith in
      ap reports (left key ∙ ap (λ most. front_of most own) is) ∙ ap (λ n. reports (take n own)) next ∙ reports_front tables own count (lawful key),
  λ none. ap standing_if (left key ∙ ap (λ most. front_of most (requests_of old key)) none),
)
