use Rattle.std.proofs.Common.{◌≡◌, ◌<◌, ℕ, suc, zero, List, [], ◌∷◌, true, arith}
use Rattle.std.specs.List.{list_all}
use Rattle.std.specs.Str.{IsAscii}
use Rattle.std.proofs.lemmas.Bool.{and_parts}
use Rattle.std.proofs.lemmas.Bool.Decides.{nat_tests}
use Rattle.std.proofs.lemmas.Str.{IsUtf8-from_ascii}
use Rattle.mds_table.specs.TypeName.{may_stand}
use Rattle.mds_table.proofs.type_name.TypeName.as_str.Goals as goal

ascii : (byte : ℕ) → may_stand byte ≡ true → byte < 128
ascii byte may = grind (arith, nat_tests)

all_ascii : (bytes : List ℕ) → list_all may_stand bytes ≡ true → IsAscii bytes
all_ascii [] all i = omega arith
all_ascii (byte ∷ rest) all zero = ascii byte (and_parts (may_stand byte) (list_all may_stand rest) all).0
all_ascii (byte ∷ rest) all (suc i) = all_ascii rest (and_parts (may_stand byte) (list_all may_stand rest) all).1 i

pub from_utf8_unchecked-requires : goal.from_utf8_unchecked-requires
from_utf8_unchecked-requires c = IsUtf8-from_ascii c.as_bytes.result.now (all_ascii c.as_bytes.result.now c.as_bytes.ensures.name.bytes)
