-- A group of requests that were copied to be recorded together.
use Rattle.std.specs.Prelude.{◌≡◌, ◌++◌, List}
use Rattle.mds_table.specs.Tables.{Tables}
use Rattle.mds_core.specs.declared.request.Request.{Request}
use Rattle.mds_book.specs.Copying.{Progressed, IsCopied}

-- a piece of the first shard's history, and behind it one of the second's
pub record IsGroup (tables : Tables) (old : Progressed × Progressed) (group : List Request)
    (new : Progressed × Progressed) : Type 0 where
  pub ones : List Request
  pub others : List Request
  pub both : group ≡ ones ++ others
  pub first_copied : IsCopied tables 0 old.0 ones new.0
  pub second_copied : IsCopied tables 1 old.1 others new.1
