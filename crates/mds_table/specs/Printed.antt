-- The profile's lines as the code keeps them.
use Rattle.std.specs.Prelude.{List, Bool}
use Rattle.mds_table.specs.declared.profile.Line.{Line}
use Rattle.mds_table.specs.declared.row.Row.{Row}
use Rattle.mds_table.specs.TypeName.{is_type_name}
use Rattle.mds_table.specs.Profile.{line, rows_of_line}

-- the rows that the code's line stands for
abbrev pub rows_printed : Line → List Row
rows_printed printed = rows_of_line (line printed.kind.now printed.from.now printed.to.now)

-- its type is a type name
abbrev pub has_type_name : Line → Bool
has_type_name printed = is_type_name printed.kind.now
