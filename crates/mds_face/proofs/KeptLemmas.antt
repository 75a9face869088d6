-- How a connection ends at a desk whose answers go out once what they rest on is recorded.
use Rattle.std.proofs.Common.{ℕ, List, Option, Some, Result, Ok, Err, IfOk, IfErr, inl, inr, subst, sym}
use Rattle.mds_http.specs.Asked.{Asked}
use Rattle.mds_http.specs.Plan.{IsPlan}
use Rattle.mds_http.specs.Found.{Finding}
use Rattle.mds_http.specs.AnswerHead.{answer_text}
use Rattle.mds_http.specs.Answer.{answer_to}
use Rattle.mds_face.specs.declared.connection.Served.{Served}
use Rattle.mds_face.specs.declared.kept_desk.KeptFault.{KeptFault}
use Rattle.mds_face.specs.declared.connection.ServeFault.{ServeFault}
use Rattle.mds_face.specs.declared.connection.ServeFault.TheVariants.{Read, Write, Memory, TooManyTurns}
use Rattle.mds_face.specs.declared.kept_desk.KeptFault.TheVariants.{Serve}
use Rattle.mds_face.specs.Exchange.{DeskRules, Exchange, RecordRules}
use Rattle.mds_face.specs.Serving.{Finds, IsAsked, IsUnwritten}
use Rattle.mds_face.proofs.ConnectionLemmas.{stops_unwritten}
use Rattle.mds_face.specs.Kept.{IsKeptAnswer, IsKeptStop, IsServedKept, Leaves, StopsKept, StopsUnreadKept, StopsWhole}

module _ {S : Type 0} (rules : DeskRules S) (recording : RecordRules S) where
  -- an answer that wasn't written whole, once what it rests on was recorded, stops the connection
  pub stops_unwritten_kept : (what : Asked) (exchange : Exchange S) (middle : S) (found : Finding) (fault : ServeFault) → Finds rules exchange.old what found middle
      → IsUnwritten (answer_text (answer_to what found)) exchange.written_old exchange.written_new fault → Leaves rules recording what middle exchange.new
      → IsKeptStop rules recording what exchange (Serve fault)
  stops_unwritten_kept what exchange middle found Read finds unwritten leaves = unwritten
  stops_unwritten_kept what exchange middle found (Write sent) finds unwritten leaves =
      (middle, stops_unwritten rules what (record exchange { new = middle }) found (Write sent) finds unwritten, leaves)
  stops_unwritten_kept what exchange middle found (Memory sent) finds unwritten leaves = absurd unwritten
  stops_unwritten_kept what exchange middle found (TooManyTurns sent) finds unwritten leaves =
      (middle, stops_unwritten rules what (record exchange { new = middle }) found (TooManyTurns sent) finds unwritten, leaves)

  -- what is known of the answer to what is asked for is known of the connection
  pub serves_kept : (input : Option (List ℕ)) (what : Asked) (exchange : Exchange S) (result : Result Served KeptFault) → IsAsked input what
      → IfOk result (IsKeptAnswer rules recording what exchange) → IfOk result (IsServedKept rules recording input exchange)
  serves_kept input what exchange (Ok served) asked whole = (what, asked, whole)
  serves_kept input what exchange (Err fault) asked whole = tt

  pub stops_kept : (input : Option (List ℕ)) (what : Asked) (exchange : Exchange S) (result : Result Served KeptFault) → IsAsked input what
      → IfErr result (IsKeptStop rules recording what exchange) → IfErr result (StopsKept rules recording input exchange)
  stops_kept input what exchange (Ok served) asked stopped = tt
  stops_kept input what exchange (Err fault) asked stopped = inr (what, asked, stopped)

  pub stops_whole : (request : List ℕ) (what : Asked) (exchange : Exchange S) (result : Result Served KeptFault) → IsPlan request what
      → IfErr result (IsKeptStop rules recording what exchange) → IfErr result (StopsWhole rules recording request exchange)
  stops_whole request what exchange (Ok served) asked stopped = tt
  stops_whole request what exchange (Err fault) asked stopped = inr (what, asked, stopped)

  -- what is known of a request that is all there is known of its connection
  pub stops_whole_kept : (request : List ℕ) (exchange : Exchange S) (result : Result Served KeptFault) → IfErr result (StopsWhole rules recording request exchange)
      → IfErr result (StopsKept rules recording (Some request) exchange)
  stops_whole_kept request exchange (Ok served) stopped = tt
  stops_whole_kept request exchange (Err fault) (inl (sent, is, same, fixed)) = inl (subst (StopsUnreadKept rules recording exchange) (sym is) (same, fixed))
  stops_whole_kept request exchange (Err fault) (inr later) = inr later
