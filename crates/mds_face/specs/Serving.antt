-- What one connection does to a desk, and what it writes.
use Rattle.std.specs.Prelude.{◌≡◌, ◌⊎◌, ℕ, ◌<◌, ◌≤◌, List, length, take, Option, Some, None, IfSome}
use Rattle.std.specs.List.{filter_map}
use Rattle.std.specs.Io.KnownBytes.{Appends, Keeps}
use Rattle.mds_core.specs.declared.request.Request.TheVariants.{Look}
use Rattle.mds_http.specs.Asked.{Asked}
use Rattle.mds_http.specs.Asked as asked
use Rattle.mds_http.specs.Plan.{IsPlan}
use Rattle.mds_http.specs.Found.{Finding, replies_in, accepted_in}
use Rattle.mds_http.specs.Found as finding
use Rattle.mds_http.specs.AnswerHead.{answer_text, memory_text}
use Rattle.mds_http.specs.Answer.{answer_to}
use Rattle.mds_face.specs.declared.connection.Served.{Served}
use Rattle.mds_face.specs.declared.connection.ServeFault.{ServeFault}
use Rattle.mds_face.specs.declared.connection.ServeFault.TheVariants.{Read, Write, Memory}
use Rattle.mds_face.specs.declared.connection.ServeFault.TheVariants.{TooManyTurns}
use Rattle.mds_face.specs.Asking.{registration_of, report_in}
use Rattle.mds_face.specs.Desk.{AreCalls}
use Rattle.mds_face.specs.Exchange.{DeskRules, Exchange}

-- the request of a stream whose bytes are known asks for this
abbrev pub IsAsked : Option (List ℕ) → Asked → Type 0
IsAsked known what = IfSome known (λ stream. IsPlan stream what)

-- so many bytes of a text were written, fewer than all
abbrev pub IsUnfinished : List ℕ → Option (List ℕ) → Option (List ℕ) → ℕ → Type 0
IsUnfinished text old new sent = (sent < length text) × Appends old new (take sent text)

-- so many bytes of the answer that takes no memory were written, all of them or fewer
abbrev pub IsFixedAnswer : Option (List ℕ) → Option (List ℕ) → ℕ → Type 0
IsFixedAnswer old new sent = (sent ≤ length memory_text) × Appends old new (take sent memory_text)

-- an answer wasn't written whole: a write failed, or the calls ran out
abbrev pub IsUnwritten : List ℕ → Option (List ℕ) → Option (List ℕ) → ServeFault → Type 0
IsUnwritten text old new Read = ⊥
IsUnwritten text old new (Write sent) = IsUnfinished text old new sent
IsUnwritten text old new (Memory sent) = ⊥
IsUnwritten text old new (TooManyTurns sent) = IsUnfinished text old new sent

-- of a desk: how it answers
module _ {S : Type 0} (rules : DeskRules S) where
  -- what is asked for is put to the desk, and this is found: a POST's items that aren't faults, one
  -- by one and in order, up to the first that finds no memory; or what a GET looks at
  abbrev pub Finds : S → Asked → Finding → S → Type 0
  Finds old (asked.Fixed fault) finding.Nothing new = new ≡ old
  Finds old (asked.Vehicles items) (finding.Replies replies) new =
      AreCalls rules.calls old (filter_map registration_of items) replies new
  Finds old (asked.Events items) (finding.Replies replies) new =
      AreCalls rules.calls old (filter_map report_in items) replies new
  Finds old (asked.One key) (finding.One reply) new = rules.calls old (Look key) (Some reply) new
  Finds old (asked.History key) (finding.History events) new = rules.gives_events old key events new
  Finds old asked.Rows (finding.Rows tables) new = rules.gives_rows old tables × (new ≡ old)
  -- nothing of another kind is found
  Finds old what found new = ⊥

  -- what is asked for finds no memory: a look is put to the desk then, and nothing else is
  abbrev pub FindsNoMemory : S → Asked → S → Type 0
  FindsNoMemory old (asked.One key) new = rules.calls old (Look key) None new
  FindsNoMemory old what new = new ≡ old

  -- what is asked for was answered whole
  pub record IsAnsweredWhole (what : Asked) (exchange : Exchange S) (served : Served) : Type 0 where
    pub found : Finding
    pub finds : Finds exchange.old what found exchange.new
    pub written : Appends exchange.written_old exchange.written_new
        (answer_text (answer_to what found))
    pub status : served.status ≡ (answer_to what found).status
    pub accepted : served.accepted ≡ accepted_in (replies_in found)

  -- what is asked for was put to the desk, and of the answer only so many bytes were written
  pub record IsCutOff (what : Asked) (exchange : Exchange S) (sent : ℕ) : Type 0 where
    pub found : Finding
    pub finds : Finds exchange.old what found exchange.new
    pub written : IsUnfinished (answer_text (answer_to what found))
        exchange.written_old exchange.written_new sent

  -- what was done, and what was written, where a connection stops before it is known what is asked
  -- for
  abbrev pub StopsUnread : Exchange S → ServeFault → Type 0
  StopsUnread exchange Read =
      (exchange.new ≡ exchange.old) × Keeps exchange.written_old exchange.written_new
  StopsUnread exchange (Write sent) = ⊥
  StopsUnread exchange (Memory sent) =
      (exchange.new ≡ exchange.old)
      × IsFixedAnswer exchange.written_old exchange.written_new sent
  StopsUnread exchange (TooManyTurns sent) =
      (exchange.new ≡ exchange.old)
      × (sent ≡ 0) × Keeps exchange.written_old exchange.written_new

  -- the same where it stops later: what is asked for was put to the desk, or finds no memory
  abbrev pub StopsAsked : Asked → Exchange S → ServeFault → Type 0
  StopsAsked what exchange Read = ⊥
  StopsAsked what exchange (Write sent) = IsCutOff what exchange sent
  StopsAsked what exchange (Memory sent) =
      (FindsNoMemory exchange.old what exchange.new
      ⊎ ((found : Finding) × Finds exchange.old what found exchange.new))
      × IsFixedAnswer exchange.written_old exchange.written_new sent
  StopsAsked what exchange (TooManyTurns sent) = IsCutOff what exchange sent

  -- the request of a stream was answered whole
  abbrev pub IsServed : Option (List ℕ) → Exchange S → Served → Type 0
  IsServed input exchange served =
      (what : Asked) × IsAsked input what × IsAnsweredWhole what exchange served

  -- the connection stopped by a fault: before it was known what the request of its stream asks for,
  -- or later
  abbrev pub Stops : Option (List ℕ) → Exchange S → ServeFault → Type 0
  Stops input exchange fault =
      StopsUnread exchange fault
      ⊎ ((what : Asked) × IsAsked input what × StopsAsked what exchange fault)
