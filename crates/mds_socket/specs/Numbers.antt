-- The numbers under which the system tells what is ready.
use Rattle.std.specs.Prelude.{◌<◌, ◌+◌, ℕ, ⊤}
use Rattle.mds_socket.specs.declared.system.Ready.{Ready}
use Rattle.mds_socket.specs.declared.system.Ready.TheVariants.{Listener, Coming, Leaving}

-- a connection has a key as those have that wait, of so many of a kind
abbrev pub HasKey : ℕ → Ready → Type 0
HasKey count (Coming key) = key < count
HasKey count (Leaving key) = key < count
HasKey count Listener = ⊤

-- first those that send requests, then those that take answers, and then what is new
abbrev pub number_of : ℕ → Ready → ℕ
number_of count (Coming key) = key
number_of count (Leaving key) = count + key
number_of count Listener = count + count
