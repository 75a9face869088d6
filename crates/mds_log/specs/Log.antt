-- What was accepted, and under which tag.
use Rattle.std.specs.Prelude.{ℕ, List, [], ◌∷◌, map}
use Rattle.mds_core.specs.declared.request.Request.{Request}
use Rattle.mds_log.specs.declared.entry.Entry.{Entry}

-- a request that was accepted, and the tag of the value that it was added by
pub record Acceptance : Type 0 where
  pub tag : ℕ
  pub request : Request

abbrev pub acceptance_of : Entry → Acceptance
acceptance_of entry = record { tag = entry.tag; request = entry.request }

-- a log begins with an entry that only names the first pen
abbrev pub acceptances : List Entry → List Acceptance
acceptances [] = []
acceptances (first ∷ entries) = map acceptance_of entries

-- what was asked, in its order
abbrev pub requests : List Acceptance → List Request
requests accepted = map (λ one. one.request) accepted
