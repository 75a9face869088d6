-- Streams that are fed piece by piece.
use Rattle.std.proofs.Common.{◌≡◌, ℕ, ◌+◌, ◌-◌, ◌<◌, ◌≤◌, List, [], ◌++◌, length, Option, Some, None, Result, Ok, Err, OnOk, IfErr, refl, sym, ap, subst, ◌∙◌, arith, append-nil, length-append}
use Rattle.std.specs.Io.KnownBytes.{Consumes, IsAtEnd}
use Rattle.std.proofs.KnownBytes.{Consumes-trans}
use Rattle.mds_lines.specs.declared.line_fault.LineFault.{LineFault}
use Rattle.mds_lines.specs.Fed.{Fed}
use Rattle.mds_lines.specs.Stream.{HasLineFault, IsFaultyWith}
use Rattle.mds_lines.proofs.FeedLemmas.{faulty_now, faulty_with_more}
use Rattle.mds_table.specs.Tables.{Tables}
use Rattle.mds_trace.specs.declared.report.Opening.{Opening}
use Rattle.mds_trace.specs.declared.report.Report.{Report}
use Rattle.mds_trace.specs.LineReport.{IsLineReport}
use Rattle.mds_io.specs.Read.{Gains}
use Rattle.mds_io.proofs.ReadLemmas.{read_from_none}
use Rattle.mds_commands.specs.Source.{max_read}
use Rattle.mds_commands.specs.Stream.{IsFed, IsFedAs, IsFedFile}

-- what is said of feeding a piece
pub record Feeds (old new : Fed) (piece : List ℕ) (result : Result (Unit {0}) LineFault) : Type 0 where
  pub fed : OnOk result (new ≡ record { bytes = old.bytes ++ piece; fault = None })
  pub whole : OnOk result (old.fault ≡ None)
  pub fault : IfErr result (IsFaultyWith (old.bytes ++ piece))
  pub kept : IfErr result (λ fault. new.fault ≡ Some fault)
  pub again : (fault : LineFault) → old.fault ≡ Some fault → (result ≡ Err fault) × (new ≡ old)

-- a fault that is kept is one of the bytes
kept_fault : (bytes kept : List ℕ) (found : Option LineFault) (fault : LineFault) → found ≡ Some fault → IsFaultyWith bytes fault → IsFedAs bytes kept found
kept_fault bytes kept found fault is faulty = subst (IsFedAs bytes kept) (sym is) faulty

-- a piece more, by what was kept before
module _ (bytes piece : List ℕ) (old new : Fed) where
  -- a piece that was taken in
  fed_ok : (done : Unit {0}) → Feeds old new piece (Ok done) → IsFed bytes old → IsFed (bytes ++ piece) new
  fed_ok done feeds was =
      let before : old.bytes ≡ bytes = subst (IsFedAs bytes old.bytes) feeds.whole was in
      subst (IsFed (bytes ++ piece)) (sym feeds.fed) (ap (λ b. b ++ piece) before)

  -- a fault, of this piece or of one before
  fed_err : (fault : LineFault) (found : Option LineFault) → old.fault ≡ found → Feeds old new piece (Err fault) → IsFed bytes old → IsFed (bytes ++ piece) new
  fed_err fault None is feeds was =
      let before : old.bytes ≡ bytes = subst (IsFedAs bytes old.bytes) is was in
      kept_fault (bytes ++ piece) new.bytes new.fault fault feeds.kept (subst (λ b. IsFaultyWith (b ++ piece) fault) before feeds.fault)
  fed_err fault (Some first) is feeds was =
      let faulty : IsFaultyWith bytes first = subst (IsFedAs bytes old.bytes) is was in
      let same : Err fault ≡ Err first = (feeds.again first is).0 in
      let one : first ≡ fault = cc in
      kept_fault (bytes ++ piece) new.bytes new.fault fault feeds.kept (subst (IsFaultyWith (bytes ++ piece)) one (faulty_with_more bytes piece first faulty))

  pub fed_more : (result : Result (Unit {0}) LineFault) → Feeds old new piece result → IsFed bytes old → IsFed (bytes ++ piece) new
  fed_more (Ok done) feeds was = fed_ok done feeds was
  fed_more (Err fault) feeds was = fed_err fault old.fault refl feeds was

-- a piece that was read behind what came before, where nothing else waited, and was fed
pub piece_fed : (known middle now : Option (List ℕ)) (bytes held piece : List ℕ) (left less : ℕ) (old new : Fed) (result : Result (Unit {0}) LineFault)
    → Consumes known middle bytes → left + length bytes ≡ max_read → held ≡ [] → Gains (left - length held) middle now held piece → less ≡ left - length piece
    → Feeds old new piece result → IsFed bytes old → (all : List ℕ) × Consumes known now all × (less + length all ≡ max_read) × IsFed all new
piece_fed known middle now bytes held piece left less old new result lost sum none gains fewer feeds was =
    let all : piece ≡ gains.0 = gains.2 ∙ ap (λ l. l ++ gains.0) none in
    let short : length gains.0 ≤ left = omega (arith, gains.1) in
    let counted : length (bytes ++ piece) ≡ length bytes + length piece = length-append bytes piece in
    let same : length piece ≡ length gains.0 = ap length all in
    let given : Consumes middle now piece = subst (Consumes middle now) (sym all) gains.3 in
    (bytes ++ piece, Consumes-trans known middle now bytes piece lost given, omega (arith, sum, short, counted, same, fewer), fed_more bytes piece old new result feeds was)

-- bytes that were read up to the limit, or to the reader's end, and fed
pub fed_file : (known now : Option (List ℕ)) (bytes : List ℕ) (left : ℕ) (stream : Fed) → Consumes known now bytes → left + length bytes ≡ max_read → (0 < left → IsAtEnd now)
    → IsFed bytes stream → IsFedFile known stream
fed_file known now bytes left stream lost sum end fed =
    (bytes, read_from_none max_read known now [] bytes refl (bytes, omega (arith, sum), refl, lost) (λ less. end (omega (arith, sum, less))), fed)

-- at the reader's end nothing more was read
pub end_fed : (known middle now : Option (List ℕ)) (bytes held piece : List ℕ) (left : ℕ) (stream : Fed)
    → Consumes known middle bytes → left + length bytes ≡ max_read → held ≡ [] → Gains (left - length held) middle now held piece → IsAtEnd now × (piece ≡ held)
    → IsFed bytes stream → IsFedFile known stream
end_fed known middle now bytes held piece left stream lost sum none gains end fed =
    let nothing : gains.0 ≡ [] = sym (gains.2 ∙ ap (λ l. l ++ gains.0) none) ∙ end.1 ∙ none in
    let given : Consumes middle now [] = subst (Consumes middle now) nothing gains.3 in
    let all : Consumes known now bytes = subst (Consumes known now) (append-nil bytes) (Consumes-trans known middle now bytes [] lost given) in
    fed_file known now bytes left stream all sum (λ _. end.0) fed

-- the report of what is kept is that of all the bytes
pub reported : (bytes : List ℕ) (stream : Fed) (opening : Opening) (tables : Tables) (report : Report) → IsFed bytes stream → stream.fault ≡ None → IsLineReport opening tables stream.bytes report
    → IsLineReport opening tables bytes report
reported bytes stream opening tables report fed whole is =
    let all : stream.bytes ≡ bytes = subst (IsFedAs bytes stream.bytes) whole fed in subst (λ b. IsLineReport opening tables b report) all is

-- the fault that ends a stream is one of all the bytes
pub faulty : (bytes : List ℕ) (stream : Fed) (fault : LineFault) → IsFed bytes stream → HasLineFault stream.bytes fault
    → ((kept : LineFault) → stream.fault ≡ Some kept → ◌≡◌ {A = Result Report LineFault} (Err fault) (Err kept)) → HasLineFault bytes fault
faulty bytes stream fault fed has again = by_kept stream.fault refl where
  by_kept : (found : Option LineFault) → stream.fault ≡ found → HasLineFault bytes fault
  by_kept None is = subst (λ b. HasLineFault b fault) (subst (IsFedAs bytes stream.bytes) is fed) has
  by_kept (Some kept) is =
      let first : IsFaultyWith bytes kept = subst (IsFedAs bytes stream.bytes) is fed in
      let told : ◌≡◌ {A = Result Report LineFault} (Err fault) (Err kept) = again kept is in
      let same : kept ≡ fault = cc in
      subst (HasLineFault bytes) same (faulty_now bytes kept first)
