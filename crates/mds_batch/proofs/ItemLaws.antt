-- One item for each value, by its members alone, and the member that a fault names.
use Rattle.std.proofs.Common.{◌≡◌, ◌∙◌, lit<, Bool, List, [], ◌∷◌, true, false, Option, Some, None, is_some, is_none, option_map, option_and_then, cond, if◌then◌else◌, find, refl, ap, sym}
use Rattle.std.specs.List.{All}
use Rattle.std.proofs.lemmas.List.Elements.{All-nil, All-cons, All-head, All-tail, All-contains}
use Rattle.serde_json.specs.Data.{Data, null, boolean, number, string, array, object}
use Rattle.serde_json.specs.Find.{get, as_object}
use Rattle.mds_core.specs.declared.key.Key.{Key}
use Rattle.mds_core.specs.Reported.{Reported}
use Rattle.mds_batch.specs.declared.member.Member.{Member}
use Rattle.mds_batch.specs.declared.member.Member.TheVariants.{ProviderId, DeviceId, EventId, VehicleState, EventTypes, Timestamp, LocationE7}
use Rattle.mds_batch.specs.declared.item.ItemFault.TheVariants.{NotObject, Missing, Bad}
use Rattle.mds_batch.specs.declared.item.VehicleItem.{VehicleItem}
use Rattle.mds_batch.specs.declared.item.VehicleItem.TheVariants as vehicle
use Rattle.mds_batch.specs.declared.item.EventItem.{EventItem}
use Rattle.mds_batch.specs.declared.item.EventItem.TheVariants as event
use Rattle.mds_batch.specs.Member.{member_name}
use Rattle.mds_table.specs.Json.{state_in, time_in}
use Rattle.mds_batch.specs.Forms.{uuid_in, types_in}
use Rattle.mds_batch.specs.Items.{position_or_null, is_faulty, fault_at, fault_of, vehicle_members, event_members, IsKeyOf, IsEventOf, IsVehicleItem, IsEventItem}
use Rattle.mds_batch.specs.Laws.{named_member, IsFirstFaulty, FaultsNameTheFirst, FaultyMembersAreTold, Agree, VehiclesGoByMembers, EventsGoByMembers}

-- what was found first stands behind others that aren't it
found_first : (value : Data) (asked : List Member) (member : Member) → find (is_faulty value) asked ≡ Some member → IsFirstFaulty asked value member
found_first value [] member is = cc
found_first value (first ∷ rest) member is = step (is_faulty value first) refl (found_first value rest member) is where
  step : (b : Bool) → is_faulty value first ≡ b → (find (is_faulty value) rest ≡ Some member → IsFirstFaulty rest value member)
      → cond b (Some first) (find (is_faulty value) rest) ≡ Some member → IsFirstFaulty (first ∷ rest) value member
  step true at later is =
      let same : first ≡ member = cc in
      ([], rest, ap (λ m. m ∷ rest) same, ap (is_faulty value) (sym same) ∙ at, All-nil (λ earlier. is_faulty value earlier ≡ false))
  step false at later is =
      let found = later is in
      (first ∷ found.0, found.1, ap (λ members. first ∷ members) found.2, found.3, All-cons (λ earlier. is_faulty value earlier ≡ false) first found.0 at found.4)

-- the member that a fault names is the one that was found
pub faults_name_the_first : FaultsNameTheFirst
faults_name_the_first asked value fault member is names =
    found_first value asked member (search_of (is_some (as_object value)) (find (is_faulty value) asked) is) where
      named_at : (found : Member) → named_member (fault_at value found) ≡ Some found
      named_at found = by_presence (is_some (get (member_name found) value)) where
        by_presence : (b : Bool) → named_member (cond b (Bad found) (Missing found)) ≡ Some found
        by_presence true = refl
        by_presence false = refl

      search_of : (object : Bool) (found : Option Member) → cond object (option_map (fault_at value) found) (Some NotObject) ≡ Some fault → found ≡ Some member
      search_of true None is = cc
      search_of true (Some found) is =
          let same : fault_at value found ≡ fault = cc in
          sym (named_at found) ∙ ap named_member same ∙ names
      search_of false found is =
          let same : NotObject ≡ fault = cc in
          let none : None ≡ Some member = ap named_member same ∙ names in cc

-- where none was found, none is faulty
none_faulty : (value : Data) (asked : List Member) → find (is_faulty value) asked ≡ None → All (λ member. is_faulty value member ≡ false) asked
none_faulty value [] is = All-nil (λ member. is_faulty value member ≡ false)
none_faulty value (first ∷ rest) is = step (is_faulty value first) refl (none_faulty value rest) is where
  step : (b : Bool) → is_faulty value first ≡ b → (find (is_faulty value) rest ≡ None → All (λ member. is_faulty value member ≡ false) rest)
      → cond b (Some first) (find (is_faulty value) rest) ≡ None → All (λ member. is_faulty value member ≡ false) (first ∷ rest)
  step true at later is = cc
  step false at later is = All-cons (λ member. is_faulty value member ≡ false) first rest at (later is)

-- something faulty is found where it is asked for
pub faulty_members_are_told : FaultyMembersAreTold
faulty_members_are_told asked value member asks faulty = told (is_some (as_object value)) (find (is_faulty value) asked) refl where
  told : (object : Bool) (found : Option Member) → find (is_faulty value) asked ≡ found → is_some (cond object (option_map (fault_at value) found) (Some NotObject)) ≡ true
  told true (Some found) at = refl
  told true None at = let good : is_faulty value member ≡ false = All-contains (λ m. is_faulty value m ≡ false) asked member (none_faulty value asked at) asks in cc
  told false found at = refl

-- a member that is the same in both values is faulty in both or in neither
same_faulty : (value other : Data) (member : Member) → get (member_name member) value ≡ get (member_name member) other → is_faulty value member ≡ is_faulty other member
same_faulty value other ProviderId same = ap (λ found. is_none (option_and_then uuid_in found)) same
same_faulty value other DeviceId same = ap (λ found. is_none (option_and_then uuid_in found)) same
same_faulty value other EventId same = ap (λ found. is_none (option_and_then uuid_in found)) same
same_faulty value other VehicleState same = ap (λ found. is_none (option_and_then state_in found)) same
same_faulty value other EventTypes same = ap (λ found. is_none (option_and_then types_in found)) same
same_faulty value other Timestamp same = ap (λ found. is_none (option_and_then time_in found)) same
same_faulty value other LocationE7 same = ap (λ found. is_none (if is_some found then option_and_then position_or_null found else Some None)) same

-- the same is wrong with the first faulty one of members that are the same in both
same_found : (value other : Data) (asked : List Member) → All (λ member. get (member_name member) value ≡ get (member_name member) other) asked
    → option_map (fault_at value) (find (is_faulty value) asked) ≡ option_map (fault_at other) (find (is_faulty other) asked)
same_found value other [] all = refl
same_found value other (first ∷ rest) all =
    let here : get (member_name first) value ≡ get (member_name first) other = All-head (λ member. get (member_name member) value ≡ get (member_name member) other) first rest all in
    rw (same_faulty value other first here)
    (step (is_faulty other first) (ap (λ found. Some (if is_some found then Bad first else Missing first)) here)
    (same_found value other rest (All-tail (λ member. get (member_name member) value ≡ get (member_name member) other) first rest all))) where
      step : (b : Bool) → Some (fault_at value first) ≡ Some (fault_at other first)
          → option_map (fault_at value) (find (is_faulty value) rest) ≡ option_map (fault_at other) (find (is_faulty other) rest)
          → option_map (fault_at value) (cond b (Some first) (find (is_faulty value) rest)) ≡ option_map (fault_at other) (cond b (Some first) (find (is_faulty other) rest))
      step true at later = at
      step false at later = later

-- the same is wrong with values that agree on the members asked for
same_fault : (asked : List Member) (value other : Data) → Agree asked value other → fault_of asked value ≡ fault_of asked other
same_fault asked value other agree = rw agree.objects (ap (λ found. if is_some (as_object other) then found else Some NotObject) (same_found value other asked agree.same))

-- values that agree are the same vehicle, or have the same fault
pub vehicles_go_by_members : VehiclesGoByMembers
unfolding IsVehicleItem
vehicles_go_by_members value other (vehicle.Fault fault) agree is = sym (same_fault vehicle_members value other agree) ∙ is
vehicles_go_by_members value other (vehicle.Vehicle key) agree is = record {
  provider = ap (option_and_then uuid_in) (sym (agree.same 0 ProviderId (lit< tt))) ∙ is.provider;
  device = ap (option_and_then uuid_in) (sym (agree.same 1 DeviceId (lit< tt))) ∙ is.device;
}

-- values that agree are the same event, or have the same fault
pub events_go_by_members : EventsGoByMembers
unfolding IsEventItem
events_go_by_members value other (event.Fault fault) agree is = sym (same_fault event_members value other agree) ∙ is
events_go_by_members value other (event.Event reported) agree is = record {
  provider = ap (option_and_then uuid_in) (sym (agree.same 0 ProviderId (lit< tt))) ∙ is.provider;
  device = ap (option_and_then uuid_in) (sym (agree.same 1 DeviceId (lit< tt))) ∙ is.device;
  id = ap (option_and_then uuid_in) (sym (agree.same 2 EventId (lit< tt))) ∙ is.id;
  state = ap (option_and_then state_in) (sym (agree.same 3 VehicleState (lit< tt))) ∙ is.state;
  types = ap (option_and_then types_in) (sym (agree.same 4 EventTypes (lit< tt))) ∙ is.types;
  time = ap (option_and_then time_in) (sym (agree.same 5 Timestamp (lit< tt))) ∙ is.time;
  position = ap (λ found. if is_some found then option_and_then position_or_null found else Some None) (sym (agree.same 6 LocationE7 (lit< tt))) ∙ is.position;
}

-- a vehicle has no fault
no_vehicle_fault : (value : Data) (key : Key) → IsKeyOf value key → fault_of vehicle_members value ≡ None
no_vehicle_fault (object ms) key is = simp (is.provider, is.device)
no_vehicle_fault null key is = let no = is.provider in cc
no_vehicle_fault (boolean b) key is = let no = is.provider in cc
no_vehicle_fault (number n) key is = let no = is.provider in cc
no_vehicle_fault (string s) key is = let no = is.provider in cc
no_vehicle_fault (array ds) key is = let no = is.provider in cc

-- an event has no fault
no_event_fault : (value : Data) (reported : Reported) → IsEventOf value reported → fault_of event_members value ≡ None
no_event_fault (object ms) reported is = simp (is.provider, is.device, is.id, is.state, is.types, is.time, is.position)
no_event_fault null reported is = let no = is.provider in cc
no_event_fault (boolean b) reported is = let no = is.provider in cc
no_event_fault (number n) reported is = let no = is.provider in cc
no_event_fault (string s) reported is = let no = is.provider in cc
no_event_fault (array ds) reported is = let no = is.provider in cc

-- a value is one item of a batch of registrations
pub one_vehicle_item : (value : Data) (a b : VehicleItem) → IsVehicleItem value a → IsVehicleItem value b → a ≡ b
unfolding IsVehicleItem
one_vehicle_item value (vehicle.Vehicle a) (vehicle.Vehicle b) is are =
    let provider : a.provider ≡ b.provider = cc (is.provider, are.provider) in
    let device : a.device ≡ b.device = cc (is.device, are.device) in
    λ i. vehicle.Vehicle (record { provider = provider i; device = device i })
one_vehicle_item value (vehicle.Vehicle a) (vehicle.Fault b) is are = let none = no_vehicle_fault value a is in cc
one_vehicle_item value (vehicle.Fault a) (vehicle.Vehicle b) is are = let none = no_vehicle_fault value b are in cc
one_vehicle_item value (vehicle.Fault a) (vehicle.Fault b) is are = cc

-- a value is one item of a batch of events
pub one_event_item : (value : Data) (a b : EventItem) → IsEventItem value a → IsEventItem value b → a ≡ b
unfolding IsEventItem
one_event_item value (event.Event a) (event.Event b) is are =
    let provider : a.key.provider ≡ b.key.provider = cc (is.provider, are.provider) in
    let device : a.key.device ≡ b.key.device = cc (is.device, are.device) in
    let id : a.id ≡ b.id = cc (is.id, are.id) in
    let state : a.state ≡ b.state = cc (is.state, are.state) in
    let types : a.types ≡ b.types = cc (is.types, are.types) in
    let time : a.time ≡ b.time = cc (is.time, are.time) in
    let position : a.position ≡ b.position = cc (is.position, are.position) in
    λ i. event.Event (record { key = record { provider = provider i; device = device i }; id = id i; state = state i; types = types i; time = time i; position = position i })
one_event_item value (event.Event a) (event.Fault b) is are = let none = no_event_fault value a is in cc
one_event_item value (event.Fault a) (event.Event b) is are = let none = no_event_fault value b are in cc
one_event_item value (event.Fault a) (event.Fault b) is are = cc
