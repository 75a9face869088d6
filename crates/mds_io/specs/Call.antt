-- What calls of `read` and `write` come to.
use Rattle.std.specs.Prelude.{ℕ, if◌then◌else◌, ◌==◌}
use Rattle.mds_io.specs.declared.call.Call.{Call}
use Rattle.mds_io.specs.declared.call.Call.TheVariants.{Moved, Nothing}

-- a call that answered a count came to this
abbrev pub call_that_moved : ℕ → Call
call_that_moved count = if count == 0 then Nothing else Moved count
