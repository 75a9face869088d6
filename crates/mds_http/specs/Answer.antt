-- The answer to what a request asks for, by what was found.
use Rattle.std.specs.Prelude.{ℕ, List, length, map, nat_lt, if◌then◌else◌, Option, Some, None}
use Rattle.mds_core.specs.declared.key.Key.{Key}
use Rattle.mds_core.specs.declared.reply.Standing.{Standing}
use Rattle.mds_core.specs.declared.reply.Refusal.TheVariants.{Unregistered}
use Rattle.mds_core.specs.declared.reply.Reply.{Reply}
use Rattle.mds_core.specs.Reported.{Reported}
use Rattle.mds_core.specs.Refusal.{refusal_word}
use Rattle.mds_batch.specs.declared.item.ItemFault.{ItemFault}
use Rattle.mds_batch.specs.Asking.{vehicle_fault, event_fault}
use Rattle.mds_http.specs.declared.request.fault.HttpFault.{HttpFault}
use Rattle.mds_http.specs.declared.request.fault.HttpFault.TheVariants.{BadHead, TransferEncoding}
use Rattle.mds_http.specs.declared.request.fault.HttpFault.TheVariants.{NotFound, MethodNotAllowed}
use Rattle.mds_http.specs.declared.request.fault.HttpFault.TheVariants.{LengthRequired, BadLength}
use Rattle.mds_http.specs.declared.request.fault.HttpFault.TheVariants.{TooLong, CutShort}
use Rattle.mds_http.specs.declared.request.fault.HttpFault.TheVariants.{NotJson, NotList, TooMany}
use Rattle.mds_http.specs.declared.request.method.Method.{Method}
use Rattle.mds_http.specs.Asked.{Asked, Fixed, Vehicles, Events, One, History, Rows, fault_word}
use Rattle.mds_http.specs.Found.{Finding, replies_in, standing_in}
use Rattle.mds_http.specs.Found.{events_in, tables_in, accepted_in}
use Rattle.mds_http.specs.Verdicts.{verdicts, failures_from}
use Rattle.mds_http.specs.Json.{standing_text}
use Rattle.mds_http.specs.Bodies.{fault_body, memory_body, batch_body, events_body, tables_body}
use Rattle.mds_http.specs.AnswerHead.{Answer}
use Rattle.mds_http.specs.declared.response.failure.Cause.{Cause}

-- the status of a fault (RFC 9110, section 15)
abbrev pub fault_status : HttpFault → ℕ
fault_status BadHead = 400
fault_status TransferEncoding = 501
fault_status NotFound = 404
fault_status (MethodNotAllowed allow) = 405
fault_status LengthRequired = 411
fault_status BadLength = 400
fault_status TooLong = 413
fault_status CutShort = 400
fault_status NotJson = 400
fault_status NotList = 400
fault_status TooMany = 400

-- the route's method, where another one was asked for
abbrev pub allow_in : HttpFault → Option Method
allow_in (MethodNotAllowed allow) = Some allow
allow_in fault = None

-- the route's method, where what was asked for is a fault that tells it
abbrev pub allow_for : Asked → Option Method
allow_for (Fixed fault) = allow_in fault
allow_for asked = None

-- a status and a body
pub record Content : Type 0 where
  pub status : ℕ
  pub body : List ℕ

-- what was asked for is there
abbrev pub is_there : List ℕ → Content
is_there body = record { status = 200; body = body }

-- a vehicle isn't registered
abbrev pub is_unregistered : Content
is_unregistered = record { status = 404; body = fault_body (refusal_word Unregistered) }

-- a fault
abbrev pub fault_content : HttpFault → Content
fault_content fault = record { status = fault_status fault; body = fault_body (fault_word fault) }

-- a POST of so many items, of which this is said in turn, and so many are accepted: something is
-- said of each, or the next one found no memory
abbrev pub said_content : List (Option Cause) → ℕ → ℕ → Content
said_content said success total =
    if nat_lt (length said) total then record { status = 503; body = memory_body (length said) }
    else is_there (batch_body (failures_from 0 said) success total)

-- a POST of items with these faults, if any, and these replies
abbrev pub batch_content : List (Option ItemFault) → List Reply → Content
batch_content items replies =
    said_content (verdicts items replies) (accepted_in replies) (length items)

-- a look at a vehicle
abbrev pub look_content : Key → Option Standing → Content
look_content key None = is_unregistered
look_content key (Some standing) = is_there (standing_text key standing)

-- the events of a vehicle
abbrev pub events_content : Option (List Reported) → Content
events_content None = is_unregistered
events_content (Some events) = is_there (events_body events)

-- the status and the body of the answer to what was asked for, by what was found
abbrev pub content_of : Asked → Finding → Content
content_of (Fixed fault) found = fault_content fault
content_of (Vehicles items) found = batch_content (map vehicle_fault items) (replies_in found)
content_of (Events items) found = batch_content (map event_fault items) (replies_in found)
content_of (One key) found = look_content key (standing_in found)
content_of (History key) found = events_content (events_in found)
content_of Rows found = is_there (tables_body (tables_in found))

-- the answer to what was asked for, by what was found
abbrev pub answer_to : Asked → Finding → Answer
answer_to asked found =
    record {
      status = (content_of asked found).status;
      allow = allow_for asked;
      body = (content_of asked found).body;
    }
