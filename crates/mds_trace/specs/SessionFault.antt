-- The texts of why no session is opened, and of why one doesn't move.
use Rattle.std.specs.Prelude.{ℕ, List, ◌++◌, codes}
use Rattle.std.specs.Fmt.{decimal}
use Rattle.mds_trace.specs.declared.session_fault.SessionFault.{SessionFault}
use Rattle.mds_trace.specs.declared.session_fault.SessionFault.TheVariants.{Memory, Unlawful}
use Rattle.mds_trace.specs.declared.session_fault.SessionFault.TheVariants.{BadOrder}
use Rattle.mds_trace.specs.declared.session.Halt.{Halt}
use Rattle.mds_trace.specs.declared.session.Halt.TheVariants.{AtEnd, AtStart}

-- the word of the fault, and the places that it tells, with a space between
abbrev pub session_fault_text : SessionFault → List ℕ
session_fault_text Memory = codes "out of memory"
session_fault_text (Unlawful event at) =
    codes "unlawful " ++ decimal event ++ codes " " ++ decimal at
session_fault_text (BadOrder event) = codes "bad_order " ++ decimal event

-- the words of a halt
abbrev pub halt_text : Halt → List ℕ
halt_text AtEnd = codes "at end"
halt_text AtStart = codes "at start"
