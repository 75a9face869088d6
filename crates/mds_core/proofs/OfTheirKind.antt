-- The outcomes of a request are those that there are for one of its kind.
use Rattle.std.proofs.Common.{List}
use Rattle.mds_table.specs.Tables.{Tables}
use Rattle.mds_core.specs.declared.request.Request.{Request}
use Rattle.mds_core.specs.declared.reply.Outcome.{Outcome}
use Rattle.mds_core.specs.Answer.{Gives, IsOutcomeFor}

pub given_is_for : (tables : Tables) (requests : List Request) (request : Request) (outcome : Outcome) → Gives tables requests request outcome → IsOutcomeFor request outcome
given_is_for tables requests request outcome given = (tables, requests, given)
