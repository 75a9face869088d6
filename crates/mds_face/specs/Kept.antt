-- What one connection does at a desk whose answers go out once what they rest on is recorded.
use Rattle.std.specs.Prelude.{◌≡◌, ◌⊎◌, ℕ, ◌≤◌, List, length, take, Option, Some}
use Rattle.std.specs.Prelude.{None, Ok, Err, Bool, true, false, MatchBool}
use Rattle.std.specs.Io.KnownBytes.{Appends, Keeps}
use Rattle.mds_core.specs.declared.key.Key.{Key}
use Rattle.mds_http.specs.Asked.{Asked}
use Rattle.mds_http.specs.Asked as asked
use Rattle.mds_http.specs.Plan.{IsPlan}
use Rattle.mds_http.specs.Found.{Finding}
use Rattle.mds_http.specs.AnswerHead.{not_kept_text}
use Rattle.mds_face.specs.declared.connection.Served.{Served}
use Rattle.mds_face.specs.declared.connection.ServeFault.TheVariants as serve
use Rattle.mds_book.specs.declared.record_fault.RecordFault.{RecordFault}
use Rattle.mds_book.specs.declared.record_fault.RecordFault.TheVariants as keep
use Rattle.mds_face.specs.declared.kept_desk.KeptFault.{KeptFault}
use Rattle.mds_face.specs.declared.kept_desk.KeptFault.TheVariants.{Serve, NotKept, Lost}
use Rattle.mds_face.specs.Exchange.{DeskRules, Exchange, RecordRules}
use Rattle.mds_face.specs.Serving.{Finds, IsAnsweredWhole, IsAsked}
use Rattle.mds_face.specs.Serving.{IsFixedAnswer, StopsAsked, StopsUnread}

-- the answer rests on what was accepted: a fault of the request doesn't, and the tables don't
abbrev pub is_of_history : Asked → Bool
is_of_history (asked.Fixed fault) = false
is_of_history (asked.Vehicles items) = true
is_of_history (asked.Events items) = true
is_of_history (asked.One key) = true
is_of_history (asked.History key) = true
is_of_history asked.Rows = false

-- the one vehicle of which alone an answer tells, if there is one
abbrev pub vehicle_of : Asked → Option Key
vehicle_of (asked.Fixed fault) = None
vehicle_of (asked.Vehicles items) = None
vehicle_of (asked.Events items) = None
vehicle_of (asked.One key) = Some key
vehicle_of (asked.History key) = Some key
vehicle_of asked.Rows = None

-- so many bytes of the answer that says that something isn't recorded were written, all of them or
-- fewer
abbrev pub IsNotKeptAnswer : Option (List ℕ) → Option (List ℕ) → ℕ → Type 0
IsNotKeptAnswer old new sent =
    (sent ≤ length not_kept_text) × Appends old new (take sent not_kept_text)

-- what goes out in place of an answer, by why what it rests on isn't recorded
abbrev pub IsInstead : RecordFault → Option (List ℕ) → Option (List ℕ) → KeptFault → Type 0
IsInstead keep.Memory old new fault =
    (sent : ℕ) × (fault ≡ Serve (serve.Memory sent)) × IsFixedAnswer old new sent
IsInstead keep.NotKept old new fault =
    (sent : ℕ) × (fault ≡ NotKept sent) × IsNotKeptAnswer old new sent
IsInstead keep.Lost old new fault = (fault ≡ Lost) × Keeps old new

-- of a desk: how it answers, and how it sees to it that what its answers rest on is recorded
module _ {S : Type 0} (rules : DeskRules S) (recording : RecordRules S) where
  -- what the answer rests on is recorded, if it rests on anything
  abbrev pub Leaves : Asked → S → S → Type 0
  Leaves what middle new =
      MatchBool (is_of_history what)
      (recording.keeps middle (Ok tt) new × recording.is_kept new (vehicle_of what))
      (new ≡ middle)

  -- what is asked for was answered whole, once what the answer rests on was recorded
  pub record IsKeptAnswer (what : Asked) (exchange : Exchange S) (served : Served) : Type 0 where
    pub middle : S
    pub answered : IsAnsweredWhole rules what (record exchange { new = middle }) served
    pub leaves : Leaves what middle exchange.new

  -- why it wasn't, and what was done: nothing of the answer goes out before that
  abbrev pub IsKeptStop : Asked → Exchange S → KeptFault → Type 0
  IsKeptStop what exchange (Serve serve.Read) = ⊥
  IsKeptStop what exchange (Serve (serve.Memory sent)) =
      (middle : S)
      × StopsAsked rules what (record exchange { new = middle }) (serve.Memory sent)
      × ((exchange.new ≡ middle)
      ⊎ ((is_of_history what ≡ true) × recording.keeps middle (Err keep.Memory) exchange.new))
  IsKeptStop what exchange (Serve fault) =
      (middle : S) × StopsAsked rules what (record exchange { new = middle }) fault
      × Leaves what middle exchange.new
  IsKeptStop what exchange (NotKept sent) =
      (is_of_history what ≡ true)
      × ((found : Finding) × (middle : S) × Finds rules exchange.old what found middle
      × recording.keeps middle (Err keep.NotKept) exchange.new)
      × IsNotKeptAnswer exchange.written_old exchange.written_new sent
  IsKeptStop what exchange Lost =
      (is_of_history what ≡ true)
      × ((found : Finding) × (middle : S) × Finds rules exchange.old what found middle
      × recording.keeps middle (Err keep.Lost) exchange.new)
      × Keeps exchange.written_old exchange.written_new

  -- the request of a stream was answered whole
  abbrev pub IsServedKept : Option (List ℕ) → Exchange S → Served → Type 0
  IsServedKept input exchange served =
      (what : Asked) × IsAsked input what × IsKeptAnswer what exchange served

  -- the connection stopped before it was known what its stream asks for
  abbrev pub StopsUnreadKept : Exchange S → KeptFault → Type 0
  StopsUnreadKept exchange (Serve fault) = StopsUnread rules exchange fault
  StopsUnreadKept exchange (NotKept sent) = ⊥
  StopsUnreadKept exchange Lost = ⊥

  -- or later
  abbrev pub StopsKept : Option (List ℕ) → Exchange S → KeptFault → Type 0
  StopsKept input exchange fault =
      StopsUnreadKept exchange fault
      ⊎ ((what : Asked) × IsAsked input what × IsKeptStop what exchange fault)

  -- a request that is all there wasn't answered whole: there was no memory for its items, or it
  -- stopped later
  abbrev pub StopsWhole : List ℕ → Exchange S → KeptFault → Type 0
  StopsWhole request exchange fault =
      ((sent : ℕ) × (fault ≡ Serve (serve.Memory sent)) × (exchange.new ≡ exchange.old)
      × IsFixedAnswer exchange.written_old exchange.written_new sent)
      ⊎ ((what : Asked) × IsPlan request what × IsKeptStop what exchange fault)
