-- What is said of a file that isn't opened.
use Rattle.std.specs.Prelude.{ℕ, List, codes}
use Rattle.mds_file.specs.declared.fault.FileFault.{FileFault}
use Rattle.mds_file.specs.declared.fault.FileFault.TheVariants.{CannotRead, InUse, Memory}

abbrev pub fault_text : FileFault → List ℕ
fault_text CannotRead = codes "cannot read"
fault_text InUse = codes "in use"
fault_text Memory = codes "out of memory"
