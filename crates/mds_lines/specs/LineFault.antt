-- The texts of why a stream's lines are no items.
use Rattle.std.specs.Prelude.{ℕ, List, ◌++◌, codes}
use Rattle.std.specs.Fmt.{decimal}
use Rattle.mds_lines.specs.declared.line_fault.LineFault.{LineFault}
use Rattle.mds_lines.specs.declared.line_fault.LineFault.TheVariants.{Memory, TooLong, NotJson, TooMany}

-- the word of the fault, and the number of the line that it tells, with a space between
abbrev pub line_fault_text : LineFault → List ℕ
line_fault_text Memory = codes "out of memory"
line_fault_text TooLong = codes "too_long"
line_fault_text (NotJson line) = codes "not_json " ++ decimal line
line_fault_text TooMany = codes "too_many"
