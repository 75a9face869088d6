-- What the members of an object are, as their slots say it.
use Rattle.std.proofs.Common.{◌≡◌, ◌⊎◌, inl, inr, ℕ, ◌≤◌, nat_le, Bool, true, false, List, length, Option, Some, None, is_some, option_map, option_and_then, if◌then◌else◌, refl, sym, ap, ◌∙◌, arith}
use Rattle.std.proofs.lemmas.Bool.{leb-true}
use Rattle.std.proofs.lemmas.Option.{option_and_then_some}
use Rattle.serde_json.specs.Data.{Data, Members, object}
use Rattle.serde_json.specs.Find.{get, get_member, as_array, as_number, as_u64}
use Rattle.mds_core.specs.Reported.{max_event_types, MayBeReported}
use Rattle.mds_table.specs.Json.{items_in, max_time, time_in}
use Rattle.mds_batch.specs.declared.member.Member.{Member}
use Rattle.mds_batch.specs.declared.member.Member.TheVariants.{EventTypes, Timestamp}
use Rattle.mds_batch.specs.declared.item.ItemFault.{ItemFault}
use Rattle.mds_batch.specs.declared.item.ItemFault.TheVariants.{Missing, Bad}
use Rattle.mds_batch.specs.declared.slot.Slot.{Slot}
use Rattle.mds_batch.specs.declared.types.TypeList.{TypeList}
use Rattle.mds_batch.specs.Member.{member_name}
use Rattle.mds_batch.specs.Forms.{types_in}
use Rattle.mds_batch.specs.Items.{member_in, fault_at}
use Rattle.mds_batch.specs.Slot.{found_in}
use Rattle.mds_batch.specs.Filled.{types_found}
use Rattle.mds_batch.proofs.TypeLemmas.{few_types-length}

-- a member that was found in its form is there in it
pub good_member : {A : Type 0} (form : Data → Option A) (member : Member) (found : Members) (slot : Option (Option A)) (good : A)
    → slot ≡ Some (Some good) → slot ≡ option_map form (get_member (member_name member) found) → member_in member form (object found) ≡ Some good
good_member form member found slot good is holds = read (get_member (member_name member) found) (sym holds ∙ is) where
  read : (here : Option Data) → option_map form here ≡ Some (Some good) → option_and_then form here ≡ Some good
  read None at = cc
  read (Some value) at = cc

-- a member that wasn't isn't, and this is its fault
pub bad_member : {A : Type 0} (form : Data → Option A) (member : Member) (found : Members) (slot : Option (Option A)) (fault : ItemFault)
    → ((slot ≡ None) × (fault ≡ Missing member)) ⊎ ((slot ≡ Some None) × (fault ≡ Bad member))
    → slot ≡ option_map form (get_member (member_name member) found) → (member_in member form (object found) ≡ None) × (fault_at (object found) member ≡ fault)
bad_member form member found slot fault is holds = read (get_member (member_name member) found) is holds where
  read : (here : Option Data) → ((slot ≡ None) × (fault ≡ Missing member)) ⊎ ((slot ≡ Some None) × (fault ≡ Bad member))
      → slot ≡ option_map form here → (option_and_then form here ≡ None) × ((if is_some here then Bad member else Missing member) ≡ fault)
  read None (inl is) at = (refl, sym is.1)
  read None (inr is) at = let no = is.0 in cc
  read (Some value) (inl is) at = let no = is.0 in cc
  read (Some value) (inr is) at = let none : form value ≡ None = let no = is.0 in cc in (none, sym is.1)

-- the types that were found are those whose slot says that they are there
pub good_types : (there : Slot Unit) (list : TypeList) → found_in there ≡ Some (Some tt) → types_found there list ≡ Some (Some list.names.items)
good_types there list is = ap (option_map (option_map (λ at. list.names.items))) is

-- and where it doesn't, there are none
pub bad_types : (there : Slot Unit) (list : TypeList) (fault : ItemFault)
    → ((found_in there ≡ None) × (fault ≡ Missing EventTypes)) ⊎ ((found_in there ≡ Some None) × (fault ≡ Bad EventTypes))
    → ((types_found there list ≡ None) × (fault ≡ Missing EventTypes)) ⊎ ((types_found there list ≡ Some None) × (fault ≡ Bad EventTypes))
bad_types there list fault (inl is) = inl (ap (option_map (option_map (λ at. list.names.items))) is.0, is.1)
bad_types there list fault (inr is) = inr (ap (option_map (option_map (λ at. list.names.items))) is.0, is.1)

-- a list of types in its form is of few
types_in-few : (value : Data) (types : List (List ℕ)) → types_in value ≡ Some types → (1 ≤ length types) × (length types ≤ max_event_types)
types_in-few value types is = option_and_then_some _ (as_array value) types is (λ items at few. few_types-length (items_in items) types few)

-- a time in its form is in the range
time_in-range : (value : Data) (time : ℕ) → time_in value ≡ Some time → time ≤ max_time
time_in-range value time is = option_and_then_some _ (option_and_then as_u64 (as_number value)) time is (λ whole at within. read (nat_le whole max_time) whole refl within) where
  read : (b : Bool) (at : ℕ) → nat_le at max_time ≡ b → (if b then Some at else None) ≡ Some time → time ≤ max_time
  read true at within is = let same : at ≡ time = cc in omega (arith, leb-true at max_time within)
  read false at within is = cc

-- types and a time in their form may be reported
pub may_be_reported : (value : Data) (types : List (List ℕ)) (time : ℕ) → member_in EventTypes types_in value ≡ Some types → member_in Timestamp time_in value ≡ Some time
    → MayBeReported types time
may_be_reported value types time are is =
    let few = option_and_then_some types_in (get (member_name EventTypes) value) types are (λ list at of_few. types_in-few list types of_few) in
    let within = option_and_then_some time_in (get (member_name Timestamp) value) time is (λ whole at in_range. time_in-range whole time in_range) in
    record { some = few.0; few = few.1; in_range = within }
