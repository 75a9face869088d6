-- What is wrong with a text that is no type name.
use Rattle.std.specs.Prelude.{◌≡◌, ℕ, ◌<◌, ◌≤◌, List, [], ◌++◌, length, codes, not, Some, position}
use Rattle.std.specs.Fmt.{decimal}
use Rattle.mds_table.specs.declared.type_name.NameFault.{NameFault}
use Rattle.mds_table.specs.declared.type_name.NameFault.TheVariants.{Empty, TooLong, BadByte}
use Rattle.mds_table.specs.TypeName.{may_stand}

-- the first fault of a text: nothing in it, over 32 bytes, or its first byte that may not stand in
-- a name
abbrev pub FaultOf : List ℕ → NameFault → Type 0
FaultOf text Empty = text ≡ []
FaultOf text TooLong = 32 < length text
FaultOf text (BadByte at) =
    (1 ≤ length text) × (length text ≤ 32)
    × (position (λ byte. not (may_stand byte)) text ≡ Some at)

-- the words for a fault
abbrev pub name_fault_text : NameFault → List ℕ
name_fault_text Empty = codes "empty"
name_fault_text TooLong = codes "too_long"
name_fault_text (BadByte at) = codes "bad_byte " ++ decimal at
