-- What a file of the system shows.
use Rattle.std.specs.Prelude.{List}
use Rattle.mds_file.specs.Calls.{Call, calls_in}
use Rattle.mds_file.specs.declared.disk_file.DiskFile.{DiskFile}

-- the calls that were made of it
abbrev pub calls_of : {O : Type 0} → DiskFile O → List Call
calls_of file = calls_in file.calls.made
