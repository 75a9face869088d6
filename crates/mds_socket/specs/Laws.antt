-- What holds of the definitions alone.
use Rattle.std.specs.Prelude.{◌≡◌, ℤ, pos, Option, Some}
use Rattle.std.specs.declared.io.ErrorKind.TheVariants.{OutOfMemory, Uncategorized}
use Rattle.mds_socket.specs.Retries.{retry_by_kind}
use Rattle.mds_socket.specs.declared.retry.Retry.TheVariants.{Later}

-- an error of want of memory, by its kind, or by the number of ENOBUFS where it has no kind, is
-- waited for however long
abbrev pub WantOfMemoryIsWaitedFor : Type 0
WantOfMemoryIsWaitedFor = ((code : Option ℤ) → retry_by_kind OutOfMemory code ≡ Later)
    × (retry_by_kind Uncategorized (Some (pos 105)) ≡ Later)
