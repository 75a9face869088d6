-- The items of a batch that is read a piece at a time.
use Rattle.std.specs.Prelude.{◌≡◌, ◌<◌, ◌≤◌, ◌+◌, ◌-◌, ◌++◌, ◌∷◌, [], ℕ, List, length, drop, get_or, Some}
use Rattle.serde_json.specs.Data.{Items, array}
use Rattle.serde_json.specs.Read.{read}
use Rattle.mds_table.specs.Json.{items_in}
use Rattle.mds_batch.specs.declared.item.EventItem.{EventItem}
use Rattle.mds_batch.specs.Items.{IsEventItem}
use Rattle.mds_batch.specs.Batch.{AreItemsOf}

-- a bracket and what stands behind this place are a text that lists values, and these are the items
abbrev pub ListsBehind : List ℕ → ℕ → List EventItem → Type 0
ListsBehind bytes at items =
    (values : Items) × (read (91 ∷ drop (at + 1) bytes) ≡ Some (array values))
    × AreItemsOf IsEventItem (items_in values) items

-- some items that are listed behind the second place are listed behind the first with these before
abbrev pub LeadsTo : List ℕ → ℕ → ℕ → List EventItem → Type 0
LeadsTo bytes from to items =
    (others : List EventItem) → 0 < length others
    → ListsBehind bytes to others → ListsBehind bytes from (items ++ others)

-- a batch may be cut here: at its end, or at a comma behind a closing brace
pub record IsCut (bytes : List ℕ) (at : ℕ) : Type 0 where
  pub within : at ≤ length bytes
  pub comma : at < length bytes → get_or bytes at 0 ≡ 44
  pub brace : at < length bytes → get_or bytes (at - 1) 0 ≡ 125

-- the items that the bytes list between two places, of which the second may be the end: some,
-- where the places are two
pub record AreBetween (bytes : List ℕ) (from to : ℕ) (items : List EventItem) : Type 0 where
  pub leads : to < length bytes → LeadsTo bytes from to items
  pub ends : from < to → to ≡ length bytes → ListsBehind bytes from items
  pub some : from < to → 0 < length items
  pub none : from ≡ to → items ≡ []
