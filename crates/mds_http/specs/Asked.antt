-- What a request asks for, as plain data.
use Rattle.std.specs.Prelude.{ℕ, List, codes}
use Rattle.mds_core.specs.declared.key.Key.{Key}
use Rattle.mds_batch.specs.declared.item.VehicleItem.{VehicleItem}
use Rattle.mds_batch.specs.declared.item.EventItem.{EventItem}
use Rattle.mds_http.specs.declared.request.fault.HttpFault.{HttpFault}
use Rattle.mds_http.specs.declared.request.fault.HttpFault.TheVariants.{BadHead, TransferEncoding}
use Rattle.mds_http.specs.declared.request.fault.HttpFault.TheVariants.{NotFound, MethodNotAllowed}
use Rattle.mds_http.specs.declared.request.fault.HttpFault.TheVariants.{LengthRequired, BadLength}
use Rattle.mds_http.specs.declared.request.fault.HttpFault.TheVariants.{TooLong, CutShort}
use Rattle.mds_http.specs.declared.request.fault.HttpFault.TheVariants.{NotJson, NotList, TooMany}
use Rattle.mds_http.specs.declared.request.plan.Plan.{Plan}
use Rattle.mds_http.specs.declared.request.plan.Plan.TheVariants as plan

-- the word for a fault
abbrev pub fault_word : HttpFault → List ℕ
fault_word BadHead = codes "bad_head"
fault_word TransferEncoding = codes "transfer_encoding"
fault_word NotFound = codes "not_found"
fault_word (MethodNotAllowed allow) = codes "method_not_allowed"
fault_word LengthRequired = codes "length_required"
fault_word BadLength = codes "bad_length"
fault_word TooLong = codes "too_long"
fault_word CutShort = codes "cut_short"
fault_word NotJson = codes "not_json"
fault_word NotList = codes "not_list"
fault_word TooMany = codes "too_many"

-- what a request asks for: nothing but the answer to its fault, the items of a POST, or what a GET
-- looks at
pub data Asked : Type 0 where
  Fixed : HttpFault → Asked
  Vehicles : List VehicleItem → Asked
  Events : List EventItem → Asked
  One History : Key → Asked
  Rows : Asked

-- a plan as plain data
abbrev pub asked_in : Plan → Asked
asked_in (plan.Fixed fault) = Fixed fault
asked_in (plan.Vehicles items) = Vehicles items.items
asked_in (plan.Events items) = Events items
asked_in (plan.One key) = One key
asked_in (plan.History key) = History key
asked_in plan.Rows = Rows
