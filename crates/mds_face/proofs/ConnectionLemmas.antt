-- How a connection stops.
use Rattle.std.proofs.Common.{ℕ, List, Option, Result, Ok, Err, IfOk, IfErr, inr}
use Rattle.mds_http.specs.Asked.{Asked}
use Rattle.mds_http.specs.Found.{Finding}
use Rattle.mds_http.specs.AnswerHead.{answer_text}
use Rattle.mds_http.specs.Answer.{answer_to}
use Rattle.mds_face.specs.declared.connection.Served.{Served}
use Rattle.mds_face.specs.declared.connection.ServeFault.{ServeFault}
use Rattle.mds_face.specs.declared.connection.ServeFault.TheVariants.{Read, Write, Memory, TooManyTurns}
use Rattle.mds_face.specs.Exchange.{DeskRules, Exchange}
use Rattle.mds_face.specs.Serving.{Finds, IsAnsweredWhole, IsAsked, IsServed, IsUnwritten, Stops, StopsAsked}

module _ {S : Type 0} (rules : DeskRules S) where
  -- an answer that wasn't written whole stops the connection after what was found
  pub stops_unwritten : (what : Asked) (exchange : Exchange S) (found : Finding) (fault : ServeFault) → Finds rules exchange.old what found exchange.new
      → IsUnwritten (answer_text (answer_to what found)) exchange.written_old exchange.written_new fault → StopsAsked rules what exchange fault
  stops_unwritten what exchange found Read finds unwritten = unwritten
  stops_unwritten what exchange found (Write sent) finds unwritten = record { found = found; finds = finds; written = unwritten }
  stops_unwritten what exchange found (Memory sent) finds unwritten = absurd unwritten
  stops_unwritten what exchange found (TooManyTurns sent) finds unwritten = record { found = found; finds = finds; written = unwritten }

  -- what is known of the answer to what is asked for is known of the connection
  pub serves : (input : Option (List ℕ)) (what : Asked) (exchange : Exchange S) (result : Result Served ServeFault) → IsAsked input what
      → IfOk result (IsAnsweredWhole rules what exchange) → IfOk result (IsServed rules input exchange)
  serves input what exchange (Ok served) asked whole = (what, asked, whole)
  serves input what exchange (Err fault) asked whole = tt

  pub stops : (input : Option (List ℕ)) (what : Asked) (exchange : Exchange S) (result : Result Served ServeFault) → IsAsked input what
      → IfErr result (StopsAsked rules what exchange) → IfErr result (Stops rules input exchange)
  stops input what exchange (Ok served) asked stopped = tt
  stops input what exchange (Err fault) asked stopped = inr (what, asked, stopped)
