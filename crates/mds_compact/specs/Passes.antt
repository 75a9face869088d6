-- Of which history each pass tells.
use Rattle.std.specs.Prelude.{◌≡◌, ℕ, List, [], ◌++◌, length, map, Option, Some, None, Bool}
use Rattle.indexmap.specs.IndexMap.{get}
use Rattle.mds_core.specs.declared.key.Key.{Key}
use Rattle.mds_core.specs.declared.request.Request.{Request}
use Rattle.mds_core.specs.History.{key_of, same_key, requests_of}
use Rattle.mds_compact.specs.Compaction.{kept_of}
use Rattle.mds_compact.specs.Path.{Way, way_to, IsPath, IsMarked}
use Rattle.mds_compact.specs.declared.survey.Survey.{Survey}
use Rattle.mds_compact.specs.declared.thinning.Thinning.{Thinning}
use Rattle.mds_compact.specs.declared.marking.Marking.{Marking}

-- a vehicle's way is known where it has requests, and then so
abbrev pub IsKnownBy : (Way → Type 0) → List Request → Option Way → Type 0
IsKnownBy Is requests None = requests ≡ []
IsKnownBy Is requests (Some way) = Is way

-- the marks of the vehicle's requests, of those of a history
abbrev pub marks_of : List Bool → List Request → Key → List Bool
marks_of marks history key = kept_of (map (λ request. same_key (key_of request) key) history) marks

-- the survey is of this history
abbrev pub IsSurveyOf : List Request → Survey → Type 0
IsSurveyOf history survey =
    (key : Key)
    → IsKnownBy (λ way. way ≡ way_to (requests_of history key)) (requests_of history key)
    (get same_key survey.paths key)

-- the thinning has taken the requests `old`, and those of `rest` are still to come
pub record IsThinningOf (from : ℕ) (old rest : List Request) (thinning : Thinning) : Type 0 where
  pub since : thinning.from ≡ from
  pub paths : (key : Key)
      → IsKnownBy (IsPath from (requests_of old key) (requests_of rest key))
      (requests_of (old ++ rest) key) (get same_key thinning.paths key)

-- the marking has told these marks of the requests `old`, and those of `rest` are still to come
pub record IsMarkingOf (from : ℕ) (old rest : List Request) (marks : List Bool)
    (marking : Marking) : Type 0 where
  pub count : length marks ≡ length old
  pub paths : (key : Key)
      → IsKnownBy
      (IsMarked from (marks_of marks old key) (requests_of old key) (requests_of rest key))
      (requests_of (old ++ rest) key) (get same_key marking.paths key)
