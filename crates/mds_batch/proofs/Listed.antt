-- The items of a batch, as they are read.
use Rattle.std.proofs.Common.{[], List, false, refl, arith}
use Rattle.serde_json.specs.Data.{Data}
use Rattle.mds_batch.specs.Listed.{HoldsItems}

-- no items were taken of no values
pub no_items_yet : {A : Type 0} (IsItemOf : Data → A → Type 0) (Took : List A → Type 0) → Took [] → HoldsItems IsItemOf Took [] 0 false
no_items_yet IsItemOf Took took = ([], record { count = refl; each = λ place value item e. absurd (cc) }, took, refl, omega arith)
