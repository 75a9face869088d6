-- Histories that could have been accepted.
use Rattle.std.specs.Prelude.{List, [], ◌∷◌, ◌++◌}
use Rattle.mds_table.specs.Tables.{Tables}
use Rattle.mds_core.specs.declared.key.Key.{Key}
use Rattle.mds_core.specs.declared.request.Request.{Request}
use Rattle.mds_core.specs.declared.request.Request.TheVariants.{Register, Report, Look}
use Rattle.mds_core.specs.History.{requests_of}
use Rattle.mds_core.specs.Answer.{IsAcceptable}

-- each entry of the list is a report that was acceptable after those before it
abbrev pub IsCareer : Tables → List Request → List Request → Type 0
IsCareer tables before [] = Unit {0}
IsCareer tables before (Report event ∷ rest) =
    IsAcceptable tables before event × IsCareer tables (before ++ Report event ∷ []) rest
IsCareer tables before (Register key ∷ rest) = ⊥
IsCareer tables before (Look key ∷ rest) = ⊥

-- nothing, or one registration and then reports that could each be accepted
abbrev pub IsLawfulOf : Tables → List Request → Type 0
IsLawfulOf tables [] = Unit {0}
IsLawfulOf tables (Register key ∷ rest) = IsCareer tables (Register key ∷ []) rest
IsLawfulOf tables (Report event ∷ rest) = ⊥
IsLawfulOf tables (Look key ∷ rest) = ⊥

-- lawful for each vehicle
abbrev pub IsLawful : Tables → List Request → Type 0
IsLawful tables history = (key : Key) → IsLawfulOf tables (requests_of history key)
