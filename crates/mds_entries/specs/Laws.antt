-- What holds of lines, whoever reads them.
use Rattle.std.specs.Prelude.{◌≡◌, ℕ, List}
use Rattle.mds_core.specs.declared.request.Request.{Request}
use Rattle.mds_entries.specs.Entry.{Tells}

-- a line tells one request
abbrev pub LinesTellOneRequest : Type 0
LinesTellOneRequest =
    (line : List ℕ) (request other : Request)
    → Tells line request → Tells line other → request ≡ other
