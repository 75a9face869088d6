-- Which errors of taking a connection are tried again.
use Rattle.std.specs.Prelude.{ℕ, ◌==◌, ◌||◌, ℤ, pos, negsuc, Option, Some, None, if◌then◌else◌}
use Rattle.std.specs.declared.io.ErrorKind.{ErrorKind}
use Rattle.std.specs.declared.io.ErrorKind.TheVariants.{Interrupted, WouldBlock, ConnectionAborted}
use Rattle.std.specs.declared.io.ErrorKind.TheVariants.{ConnectionReset, TimedOut, NetworkDown}
use Rattle.std.specs.declared.io.ErrorKind.TheVariants.{NetworkUnreachable, HostUnreachable}
use Rattle.std.specs.declared.io.ErrorKind.TheVariants.{PermissionDenied, Unsupported, OutOfMemory}
use Rattle.mds_socket.specs.declared.retry.Retry.{Retry}
use Rattle.mds_socket.specs.declared.retry.Retry.TheVariants.{OnceReady, AtOnce}
use Rattle.mds_socket.specs.declared.retry.Retry.TheVariants.{Later, ForAWhile, Never}

-- at once after ENONET, EPROTO, ENOPROTOOPT and EHOSTDOWN, of the connection's own network; later,
-- however often, after ENOBUFS, of memory for sockets; for a while after ENFILE and EMFILE, of open
-- files; these numbers are Linux's
abbrev pub retry_by_number : ℕ → Retry
retry_by_number number =
    if (number == 64) || (number == 71) || (number == 92) || (number == 112) then AtOnce
    else (if number == 105 then Later
    else (if (number == 23) || (number == 24) then ForAWhile else Never))

-- by the number of the system's error, where there is one
abbrev pub retry_by_code : Option ℤ → Retry
retry_by_code None = Never
retry_by_code (Some (pos number)) = retry_by_number number
retry_by_code (Some (negsuc number)) = Never

-- where none is there, it is waited for; at once after an interruption, or where the one connection
-- was lost or its own network was at fault; later, however often, where there was no memory, or
-- where the system stood in the way of the one connection; and else by the number
abbrev pub retry_by_kind : ErrorKind → Option ℤ → Retry
retry_by_kind Interrupted code = AtOnce
retry_by_kind WouldBlock code = OnceReady
retry_by_kind ConnectionAborted code = AtOnce
retry_by_kind ConnectionReset code = AtOnce
retry_by_kind TimedOut code = AtOnce
retry_by_kind NetworkDown code = AtOnce
retry_by_kind NetworkUnreachable code = AtOnce
retry_by_kind HostUnreachable code = AtOnce
retry_by_kind PermissionDenied code = Later
retry_by_kind Unsupported code = Later
retry_by_kind OutOfMemory code = Later
retry_by_kind kind code = retry_by_code code
