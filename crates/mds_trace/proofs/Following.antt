-- What is kept of a vehicle goes on with each of its events.
use Rattle.std.proofs.Common.{◌≡◌, List, [], ◌∷◌, ◌++◌, Some, refl, sym, ◌∙◌, ap}
use Rattle.std.proofs.lemmas.List.{map-append}
use Rattle.mds_table.specs.Tables.{Tables}
use Rattle.mds_core.specs.declared.key.Key.{Key}
use Rattle.mds_core.specs.declared.request.Request.TheVariants.{Register, Report}
use Rattle.mds_core.specs.declared.reply.Standing.{Standing}
use Rattle.mds_core.specs.Reported.{Reported}
use Rattle.mds_core.specs.History.{reports, standing_of}
use Rattle.mds_trace.specs.declared.report.Opening.{Opening}
use Rattle.mds_trace.specs.declared.report.Opening.TheVariants.{Removed, Any}
use Rattle.mds_trace.specs.declared.report.Verdict.{Verdict}
use Rattle.mds_trace.specs.declared.followed.Followed.{Followed}
use Rattle.mds_trace.specs.Replay.{as_requests, IsOutcome, IsVerdictOn}
use Rattle.mds_trace.specs.Followed.{IsFollowed}

pub requests-push : (key : Key) (prior : List Reported) (event : Reported) → as_requests key (prior ++ event ∷ []) ≡ as_requests key prior ++ Report event ∷ []
requests-push key prior event = ap (λ reported. Register key ∷ reported) (map-append Report prior (event ∷ []))

-- the events reported are those accepted
pub reports-as_requests : (key : Key) (prior : List Reported) → reports (as_requests key prior) ≡ prior
reports-as_requests key [] = refl
reports-as_requests key (event ∷ prior) = ap (λ events. event ∷ events) (reports-as_requests key prior)

module _ (tables : Tables) (event : Reported) (vehicle : Followed) (standing : Standing) where
  -- a vehicle of which a state is known stands where its accepted events left it
  pub known_is : (opening : Opening) (prior : List Reported) → IsFollowed opening tables event.key prior vehicle → vehicle.standing ≡ Some standing
      → standing ≡ standing_of (as_requests event.key prior)
  known_is Removed prior is known = let left = is.standing in cc
  known_is Any [] is known = let nobody_knows = is.standing in cc
  known_is Any (first ∷ later) is known = let left = is.standing in cc

  -- and the verdict on its next event is the machine's outcome
  pub known_verdict : (opening : Opening) (prior : List Reported) (line : Verdict) → IsFollowed opening tables event.key prior vehicle → vehicle.standing ≡ Some standing
      → IsOutcome tables (as_requests event.key prior) event line → IsVerdictOn opening tables prior event line
  known_verdict Removed prior line is known outcome = outcome
  known_verdict Any [] line is known outcome = let nobody_knows = is.standing in cc
  known_verdict Any (first ∷ later) line is known outcome = outcome

  -- after it the vehicle opened where it did, and stands where the event leaves it
  pub known_after : (opening : Opening) (prior : List Reported) (after : Standing) → IsFollowed opening tables event.key prior vehicle → vehicle.standing ≡ Some standing
      → after ≡ standing_of (as_requests event.key prior ++ Report event ∷ [])
      → IsFollowed opening tables event.key (prior ++ event ∷ []) (record { openings = vehicle.openings; standing = Some after })
  known_after Removed prior after is known left =
      record { openings = is.openings; standing = ap Some (left ∙ ap standing_of (sym (requests-push event.key prior event))) }
  known_after Any [] after is known left = let nobody_knows = is.standing in absurd (cc)
  known_after Any (first ∷ later) after is known left =
      record { openings = is.openings; standing = ap Some (left ∙ ap standing_of (sym (requests-push event.key (first ∷ later) event))) }
