-- What one connection does to a desk, where each of its calls lets something grow.
use Rattle.std.proofs.Common.{◌≡◌, ℕ, List, [], ◌∷◌, inl, inr, subst, sym}
use Rattle.std.specs.Prelude.{Option, Some, None, Result, Ok, Err, IfOk, IfErr}
use Rattle.std.specs.List.{filter_map}
use Rattle.mds_core.specs.declared.key.Key.{Key}
use Rattle.mds_core.specs.declared.request.Request.{Request}
use Rattle.mds_core.specs.declared.request.Request.TheVariants.{Look}
use Rattle.mds_core.specs.declared.reply.Reply.{Reply}
use Rattle.mds_core.specs.Reported.{Reported}
use Rattle.mds_http.specs.Asked.{Asked}
use Rattle.mds_http.specs.Asked as asked
use Rattle.mds_http.specs.Found.{Finding}
use Rattle.mds_http.specs.Found as finding
use Rattle.mds_face.specs.declared.connection.Served.{Served}
use Rattle.mds_face.specs.declared.connection.ServeFault.{ServeFault}
use Rattle.mds_face.specs.declared.connection.ServeFault.TheVariants.{Read, Write, Memory, TooManyTurns}
use Rattle.mds_face.specs.Asking.{registration_of, report_in}
use Rattle.mds_face.specs.Desk.{AreCalls}
use Rattle.mds_face.specs.Exchange.{DeskRules, Exchange, RecordRules}
use Rattle.mds_face.specs.Serving.{Finds, FindsNoMemory, StopsAsked, StopsUnread}
use Rattle.mds_book.specs.declared.record_fault.RecordFault.{RecordFault}
use Rattle.mds_face.specs.declared.kept_desk.KeptFault.{KeptFault}
use Rattle.mds_face.specs.declared.kept_desk.KeptFault.TheVariants.{Serve, NotKept, Lost}
use Rattle.mds_face.specs.Kept.{IsKeptStop, IsServedKept, Leaves, StopsKept}

-- of a desk as in the contract of one connection, and of what grows by each call and in two steps where it does in each
module _ {S : Type 0} (rules : DeskRules S) (Grows : S → S → Type 0) (stays : (s : S) → Grows s s) (twice : (a b c : S) → Grows a b → Grows b c → Grows a c)
    (called : (old : S) (request : Request) (reply : Option Reply) (new : S) → rules.calls old request reply new → Grows old new)
    (listed : (old : S) (key : Key) (events : Option (List Reported)) (new : S) → rules.gives_events old key events new → Grows old new) where
  pub same_grows : (old new : S) → new ≡ old → Grows old new
  same_grows old new same = subst (λ s. Grows old s) (sym same) (stays old)

  pub calls_grow : (requests : List Request) (replies : List Reply) (old new : S) → AreCalls rules.calls old requests replies new → Grows old new
  calls_grow [] [] old new calls = same_grows old new calls
  calls_grow [] (reply ∷ replies) old new calls = absurd calls
  calls_grow (request ∷ requests) [] old new calls = called old request None new calls
  calls_grow (request ∷ requests) (reply ∷ replies) old new calls =
      twice old calls.0 new (called old request (Some reply) calls.0 calls.1) (calls_grow requests replies calls.0 new calls.2)

  pub finds_grow : (what : Asked) (found : Finding) (old new : S) → Finds rules old what found new → Grows old new
  finds_grow (asked.Fixed fault) finding.Nothing old new finds = same_grows old new finds
  finds_grow (asked.Vehicles items) (finding.Replies replies) old new finds = calls_grow (filter_map registration_of items) replies old new finds
  finds_grow (asked.Events items) (finding.Replies replies) old new finds = calls_grow (filter_map report_in items) replies old new finds
  finds_grow (asked.One key) (finding.One reply) old new finds = called old (Look key) (Some reply) new finds
  finds_grow (asked.History key) (finding.History events) old new finds = listed old key events new finds
  finds_grow asked.Rows (finding.Rows tables) old new finds = same_grows old new finds.1
  finds_grow what found old new finds = absurd (assumption finds)

  pub no_memory_grows : (what : Asked) (old new : S) → FindsNoMemory rules old what new → Grows old new
  no_memory_grows (asked.One key) old new finds = called old (Look key) None new finds
  no_memory_grows what old new finds = same_grows old new finds

  pub stops_asked_grow : (what : Asked) (fault : ServeFault) (exchange : Exchange S) → StopsAsked rules what exchange fault → Grows exchange.old exchange.new
  stops_asked_grow what Read exchange stops = absurd stops
  stops_asked_grow what (Write sent) exchange stops = finds_grow what stops.found exchange.old exchange.new stops.finds
  stops_asked_grow what (Memory sent) exchange stops =
      elim stops.0 [
        | inl none ↦ no_memory_grows what exchange.old exchange.new none
        | inr found ↦ finds_grow what found.0 exchange.old exchange.new found.1
      ]
  stops_asked_grow what (TooManyTurns sent) exchange stops = finds_grow what stops.found exchange.old exchange.new stops.finds

  pub stops_unread_grow : (fault : ServeFault) (exchange : Exchange S) → StopsUnread rules exchange fault → Grows exchange.old exchange.new
  stops_unread_grow Read exchange stops = same_grows exchange.old exchange.new stops.0
  stops_unread_grow (Write sent) exchange stops = absurd stops
  stops_unread_grow (Memory sent) exchange stops = same_grows exchange.old exchange.new stops.0
  stops_unread_grow (TooManyTurns sent) exchange stops = same_grows exchange.old exchange.new stops.0

  -- besides, of a desk that sees to it that what its answers rest on is recorded
  module _ (recording : RecordRules S) (kept : (old new : S) (answer : Result (Unit {0}) RecordFault) → recording.keeps old answer new → Grows old new) where
    pub leaves_grow : (what : Asked) (old new : S) → Leaves rules recording what old new → Grows old new
    leaves_grow (asked.Fixed fault) old new leaves = same_grows old new leaves
    leaves_grow (asked.Vehicles items) old new leaves = kept old new _ leaves.0
    leaves_grow (asked.Events items) old new leaves = kept old new _ leaves.0
    leaves_grow (asked.One key) old new leaves = kept old new _ leaves.0
    leaves_grow (asked.History key) old new leaves = kept old new _ leaves.0
    leaves_grow asked.Rows old new leaves = same_grows old new leaves

    pub served_kept_grows : (input : Option (List ℕ)) (exchange : Exchange S) (served : Served) → IsServedKept rules recording input exchange served
        → Grows exchange.old exchange.new
    served_kept_grows input exchange served is =
        let answer = is.2 in
        twice exchange.old answer.middle exchange.new (finds_grow is.0 answer.answered.found exchange.old answer.middle answer.answered.finds)
        (leaves_grow is.0 answer.middle exchange.new answer.leaves)

    pub kept_stop_grows : (what : Asked) (fault : KeptFault) (exchange : Exchange S) → IsKeptStop rules recording what exchange fault → Grows exchange.old exchange.new
    kept_stop_grows what (Serve Read) exchange stops = absurd stops
    kept_stop_grows what (Serve (Write sent)) exchange stops =
        twice exchange.old stops.0 exchange.new (stops_asked_grow what (Write sent) (record exchange { new = stops.0 }) stops.1) (leaves_grow what stops.0 exchange.new stops.2)
    kept_stop_grows what (Serve (Memory sent)) exchange stops =
        twice exchange.old stops.0 exchange.new (stops_asked_grow what (Memory sent) (record exchange { new = stops.0 }) stops.1)
        (elim stops.2 [ inl same ↦ same_grows stops.0 exchange.new same | inr held ↦ kept stops.0 exchange.new _ held.1 ])
    kept_stop_grows what (Serve (TooManyTurns sent)) exchange stops =
        twice exchange.old stops.0 exchange.new (stops_asked_grow what (TooManyTurns sent) (record exchange { new = stops.0 }) stops.1)
        (leaves_grow what stops.0 exchange.new stops.2)
    kept_stop_grows what (NotKept sent) exchange stops =
        let put = stops.1 in twice exchange.old put.1 exchange.new (finds_grow what put.0 exchange.old put.1 put.2) (kept put.1 exchange.new _ put.3)
    kept_stop_grows what Lost exchange stops =
        let put = stops.1 in twice exchange.old put.1 exchange.new (finds_grow what put.0 exchange.old put.1 put.2) (kept put.1 exchange.new _ put.3)

    pub stops_kept_grow : (input : Option (List ℕ)) (fault : KeptFault) (exchange : Exchange S) → StopsKept rules recording input exchange fault
        → Grows exchange.old exchange.new
    stops_kept_grow input (Serve fault) exchange (inl unread) = stops_unread_grow fault exchange unread
    stops_kept_grow input (NotKept sent) exchange (inl unread) = absurd unread
    stops_kept_grow input Lost exchange (inl unread) = absurd unread
    stops_kept_grow input fault exchange (inr read) = kept_stop_grows read.0 fault exchange read.2

    pub connection_grows : (input : Option (List ℕ)) (exchange : Exchange S) (came : Result Served KeptFault) → IfOk came (IsServedKept rules recording input exchange)
        → IfErr came (StopsKept rules recording input exchange) → Grows exchange.old exchange.new
    connection_grows input exchange (Ok served) ok err = served_kept_grows input exchange served ok
    connection_grows input exchange (Err fault) ok err = stops_kept_grow input fault exchange err
