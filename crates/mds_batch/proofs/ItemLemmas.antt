-- What is wrong with items.
use Rattle.std.proofs.Common.{◌≡◌, drop, Bool, true, false, Option, Some, None, is_some, option_map, find, if◌then◌else◌}
use Rattle.std.specs.Option.{option_or}
use Rattle.std.proofs.lemmas.List.Folds.{find-append}
use Rattle.serde_json.specs.Data.{Data}
use Rattle.serde_json.specs.Find.{as_object}
use Rattle.mds_batch.specs.declared.member.Member.{Member}
use Rattle.mds_batch.specs.declared.item.ItemFault.{ItemFault}
use Rattle.mds_batch.specs.declared.item.ItemFault.TheVariants.{NotObject}
use Rattle.mds_batch.specs.Items.{is_faulty, fault_at, fault_of, vehicle_members, event_members}

-- what is wrong with a registration is wrong with an event
pub fault_of-event : (value : Data) (fault : ItemFault) → fault_of vehicle_members value ≡ Some fault → fault_of event_members value ≡ Some fault
fault_of-event value fault is =
    rw (find-append (is_faulty value) vehicle_members (drop 2 event_members)) (more (is_some (as_object value)) (find (is_faulty value) vehicle_members) is) where
      more : (object : Bool) (found : Option Member) → (if object then option_map (fault_at value) found else Some NotObject) ≡ Some fault
          → (if object then option_map (fault_at value) (option_or found (find (is_faulty value) (drop 2 event_members))) else Some NotObject) ≡ Some fault
      more true None is = cc
      more true (Some member) is = is
      more false found is = is
