-- What holds of items and batches, whoever reads them.
use Rattle.std.specs.Prelude.{◌≡◌, ◌⊎◌, ◌++◌, ℕ, List, ◌∷◌, true, false, Option}
use Rattle.std.specs.Prelude.{Some, None, is_some, IsSome, All, Contains}
use Rattle.serde_json.specs.Data.{Data}
use Rattle.serde_json.specs.Find.{get, as_object}
use Rattle.mds_batch.specs.declared.member.Member.{Member}
use Rattle.mds_batch.specs.declared.item.ItemFault.{ItemFault}
use Rattle.mds_batch.specs.declared.item.ItemFault.TheVariants.{NotObject, Missing, Bad}
use Rattle.mds_batch.specs.declared.item.VehicleItem.{VehicleItem}
use Rattle.mds_batch.specs.declared.item.EventItem.{EventItem}
use Rattle.mds_batch.specs.declared.batch.BatchFault.{BatchFault}
use Rattle.mds_batch.specs.declared.batch.BatchFault.TheVariants.{Memory}
use Rattle.mds_batch.specs.Member.{member_name}
use Rattle.mds_batch.specs.Items.{is_faulty, fault_of, vehicle_members}
use Rattle.mds_batch.specs.Items.{event_members, IsVehicleItem, IsEventItem}
use Rattle.mds_batch.specs.Batch.{HasItems, HasFault}

-- the member that a fault names
abbrev pub named_member : ItemFault → Option Member
named_member NotObject = None
named_member (Missing member) = Some member
named_member (Bad member) = Some member

-- of the members asked for this one isn't as it should be, and each one before it is
abbrev pub IsFirstFaulty : List Member → Data → Member → Type 0
IsFirstFaulty asked value member =
    (before : List Member) × (after : List Member) × (asked ≡ before ++ member ∷ after)
    × (is_faulty value member ≡ true) × All (λ earlier. is_faulty value earlier ≡ false) before

-- a fault that names a member names the first that isn't as it should be
abbrev pub FaultsNameTheFirst : Type 0
FaultsNameTheFirst =
    (asked : List Member) (value : Data) (fault : ItemFault) (member : Member)
    → fault_of asked value ≡ Some fault → named_member fault ≡ Some member
    → IsFirstFaulty asked value member

-- a value of which a member isn't as it should be has a fault
abbrev pub FaultyMembersAreTold : Type 0
FaultyMembersAreTold =
    (asked : List Member) (value : Data) (member : Member)
    → Contains asked member → is_faulty value member ≡ true → IsSome (fault_of asked value)

-- both values are objects or neither is, and each of these members is the same in both
pub record Agree (members : List Member) (value other : Data) : Type 0 where
  pub objects : is_some (as_object value) ≡ is_some (as_object other)
  pub same : All (λ member. get (member_name member) value ≡ get (member_name member) other) members

-- values that agree on the members of a registration are the same item
abbrev pub VehiclesGoByMembers : Type 0
VehiclesGoByMembers =
    (value other : Data) (item : VehicleItem)
    → Agree vehicle_members value other → IsVehicleItem value item → IsVehicleItem other item

-- values that agree on the members of an event are the same item
abbrev pub EventsGoByMembers : Type 0
EventsGoByMembers =
    (value other : Data) (item : EventItem)
    → Agree event_members value other → IsEventItem value item → IsEventItem other item

-- the registrations of a batch are determined by its bytes
abbrev pub BatchesHaveOneListOfVehicles : Type 0
BatchesHaveOneListOfVehicles =
    (bytes : List ℕ) (items others : List VehicleItem)
    → HasItems IsVehicleItem bytes items → HasItems IsVehicleItem bytes others → items ≡ others

-- the events of a batch are determined by its bytes
abbrev pub BatchesHaveOneListOfEvents : Type 0
BatchesHaveOneListOfEvents =
    (bytes : List ℕ) (items others : List EventItem)
    → HasItems IsEventItem bytes items → HasItems IsEventItem bytes others → items ≡ others

-- a batch with items, of registrations or of events, has no fault, want of memory aside
abbrev pub BatchesHaveNoFault : Type 0
BatchesHaveNoFault =
    (bytes : List ℕ) (fault : BatchFault)
    → ((items : List VehicleItem) × HasItems IsVehicleItem bytes items)
    ⊎ ((items : List EventItem) × HasItems IsEventItem bytes items)
    → HasFault bytes fault → fault ≡ Memory

-- bytes have one first fault, want of memory aside
abbrev pub BatchesHaveOneFault : Type 0
BatchesHaveOneFault =
    (bytes : List ℕ) (fault other : BatchFault)
    → HasFault bytes fault → HasFault bytes other
    → (fault ≡ Memory) ⊎ ((other ≡ Memory) ⊎ (fault ≡ other))
