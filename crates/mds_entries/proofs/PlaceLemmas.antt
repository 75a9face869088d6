-- An event that a line tells has its position on the Earth.
use Rattle.std.proofs.Common.{◌≡◌, ℕ, ℤ, ◌≤ℤ◌, int_le, Bool, true, false, ◌&&◌, T, List, Option, Some, None, is_some, option_map, codes, if◌then◌else◌, refl, sym, subst}
use Rattle.std.proofs.lemmas.Bool.{and_parts}
use Rattle.std.proofs.lemmas.Option.{option_and_then_some}
use Rattle.serde_json.specs.Data.{Data}
use Rattle.serde_json.specs.Find.{get, as_null}
use Rattle.mds_core.specs.declared.position.Position.{Position}
use Rattle.mds_core.specs.declared.request.Request.TheVariants.{Report}
use Rattle.mds_core.specs.Position.{IsOnEarth, max_latitude, max_longitude}
use Rattle.mds_core.specs.Reported.{Reported}
use Rattle.mds_batch.specs.declared.member.Member.TheVariants.{LocationE7}
use Rattle.mds_batch.specs.Member.{member_name}
use Rattle.mds_batch.specs.Forms.{whole_in, is_within, position_at, position_of}
use Rattle.mds_batch.specs.Items.{member_in, position_or_null, position_in, IsEventOf, IsEventItem}
use Rattle.mds_entries.specs.Whole.{IsPlace}
use Rattle.mds_entries.specs.Entry.{Tells}

at_least : (least z : ℤ) → int_le least z ≡ true → least ≤ℤ z
at_least least z is = record { le = subst T (sym is) tt }

-- a position at a latitude and a longitude is on the Earth
placed_at : (lat lng : ℤ) (position : Position) → position_at lat lng ≡ Some position → IsOnEarth position.lat position.lng
placed_at lat lng position is = read (is_within max_latitude lat) (is_within max_longitude lng) refl refl is where
  read : (b c : Bool) → is_within max_latitude lat ≡ b → is_within max_longitude lng ≡ c
      → (if b && c then Some (record { lat = lat; lng = lng }) else None) ≡ Some position → IsOnEarth position.lat position.lng
  read true true within beyond at =
      let same : record { lat = lat; lng = lng } ≡ position = cc in
      let north = and_parts _ _ within in
      let east = and_parts _ _ beyond in
      subst (λ (place : Position). IsOnEarth place.lat place.lng) same
      (record { south = at_least _ _ north.0; north = at_least _ _ north.1; west = at_least _ _ east.0; east = at_least _ _ east.1 })
  read true false within beyond at = absurd cc
  read false c within beyond at = absurd cc

-- so is one that a value gives
placed_of : (value : Data) (position : Position) → position_of value ≡ Some position → IsOnEarth position.lat position.lng
placed_of value position is =
    option_and_then_some _ (whole_in (codes "lat") value) position is (λ lat at inner.
    option_and_then_some _ (whole_in (codes "lng") value) position inner (λ lng here there. placed_at lat lng position there))

placed_or_null : (value : Data) (position : Option Position) → position_or_null value ≡ Some position → IsPlace position
placed_or_null value position is = read (is_some (as_null value)) (position_of value) refl is where
  read : (b : Bool) (found : Option Position) → position_of value ≡ found → (if b then Some None else option_map Some found) ≡ Some position → IsPlace position
  read true found same at = let none : None ≡ position = cc in subst IsPlace none tt
  read false None same at = absurd cc
  read false (Some place) same at = let one : Some place ≡ position = cc in subst IsPlace one (placed_of value place same)

placed_in : (value : Data) (position : Option Position) → position_in value ≡ Some position → IsPlace position
placed_in value position is = read (is_some (get (member_name LocationE7) value)) is where
  read : (b : Bool) → (if b then member_in LocationE7 position_or_null value else Some None) ≡ Some position → IsPlace position
  read true at = option_and_then_some position_or_null (get (member_name LocationE7) value) position at (λ found here there. placed_or_null found position there)
  read false at = let none : None ≡ position = cc in subst IsPlace none tt

-- an event that a line tells
pub told_is_placed : (line : List ℕ) (reported : Reported) → Tells line (Report reported) → IsPlace reported.position
unfolding IsEventItem
told_is_placed line reported tells = let is : IsEventOf tells.0 reported = tells.2 in placed_in tells.0 reported.position is.position
