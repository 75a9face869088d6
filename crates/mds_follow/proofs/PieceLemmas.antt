-- Pieces of a journal: their lines, and the requests that these tell.
use Rattle.std.proofs.Common.{◌≡◌, ◌≢◌, ◌⊎◌, inl, inr, ℕ, ◌+◌, ◌<◌, ◌≤◌, Vec, take, drop, get_or, List, [], ◌∷◌, ◌++◌, Bool, true, false, Result, Ok, Err, IfOk, IfErr, length, refl, sym, ap, ◌∙◌, subst, arith, append_assoc, append-nil, length-append, ◌-◌}
use Rattle.std.specs.List.{AllZip}
use Rattle.std.proofs.lemmas.List.{take_more, drop_more, take_all, take-append-drop, map-append, length-map, length-drop}
use Rattle.std.specs.Result.{is_err}
use Rattle.std.proofs.lemmas.Bool.{true≢false}
use Rattle.std.proofs.lemmas.Slice.Zip.{AllZip-long}
use Rattle.mds_core.specs.declared.request.Request.{Request}
use Rattle.mds_entries.specs.Entry.{Tells, IsFaultOfLine}
use Rattle.mds_entries.specs.declared.entry.EntryFault.{EntryFault}
use Rattle.mds_entries.specs.declared.entry.EntryFault.TheVariants.{Memory, BadLine, NoLine}
use Rattle.mds_journal.specs.Lines.{recovered_texts}
use Rattle.mds_journal.specs.declared.fault.JournalFault.TheVariants.{Form, BadLine as BadLineOf, TooLong, Refused, Damaged as Torn}
use Rattle.mds_groups.specs.Entries.{AreEntries, IsEntryAt}
use Rattle.mds_groups.specs.declared.fault.GroupFault.TheVariants.{Damaged as DamagedGroup, Journal as InJournal}
use Rattle.mds_groups.proofs.EntryLemmas.{entries_front, entry_of}
use Rattle.mds_follow.specs.Reading.{StopsBehind}
use Rattle.mds_follow.specs.Pieces.{AreRead, IsAhead, IsEndBehind, IsReadFrom, IsSaid, IsTextFault, IsTextStop, StandBehind, first_fault, requests_in, texts_in}
use Rattle.mds_follow.specs.declared.piece.Piece.{Piece}
use Rattle.mds_follow.specs.declared.reader.RequestReader.{RequestReader}
use Rattle.mds_follow.specs.declared.start_fault.StartFault.{StartFault}
use Rattle.mds_follow.specs.declared.start_fault.StartFault.TheVariants.{Memory as NoMemory, Device, Journal, Shared, CutOff}
use Rattle.mds_follow.proofs.Disks.{zip_append}

-- the texts of lines, split at one of them
module _ {A : Type 0} (lines : List (Vec ℕ A)) (at : ℕ) (line : Vec ℕ A) (within : at < length lines) (is : line ≡ get_or lines at line) where
  pub texts_more : texts_in (take (at + 1) lines) ≡ texts_in (take at lines) ++ line.items ∷ []
  texts_more =
      ap texts_in (take_more lines at line within ∙ ap (λ (w : Vec ℕ A). take at lines ++ w ∷ []) (sym is))
      ∙ map-append {B = List ℕ} (λ (line : Vec ℕ A). line.items) (take at lines) (line ∷ [])

  pub texts_split : texts_in lines ≡ texts_in (take at lines) ++ line.items ∷ texts_in (drop (at + 1) lines)
  texts_split =
      ap texts_in (sym (take-append-drop at lines) ∙ ap (λ (w : List (Vec ℕ A)). take at lines ++ w) (drop_more lines at line within ∙ ap (λ (w : Vec ℕ A). w ∷ drop (at + 1) lines) (sym is)))
      ∙ map-append {B = List ℕ} (λ (line : Vec ℕ A). line.items) (take at lines) (line ∷ drop (at + 1) lines)

-- those of two slices are all of them
pub texts_of_both : {A : Type 0} → (lines : List (Vec ℕ A)) (at : ℕ) → texts_in (take at lines) ++ texts_in (take (length lines - at) (drop at lines)) ≡ texts_in lines
texts_of_both {A} lines at =
    let behind : take (length lines - at) (drop at lines) ≡ drop at lines = take_all (length lines - at) (drop at lines) (omega (arith, length-drop at lines)) in
    ap (λ (w : List (Vec ℕ A)). texts_in (take at lines) ++ texts_in w) behind
    ∙ sym (map-append {B = List ℕ} (λ (line : Vec ℕ A). line.items) (take at lines) (drop at lines))
    ∙ ap texts_in (take-append-drop at lines)

-- why a line tells no request is why the first of some texts tells none
pub fault_of_line : (text : List ℕ) (texts : List (List ℕ)) (fault : EntryFault) → IsFaultOfLine text fault → IsTextFault (text ∷ texts) fault
fault_of_line text texts Memory why = tt
fault_of_line text texts BadLine why = why
fault_of_line text texts NoLine why = why

-- some texts tell requests, and what is said of the one behind them
pub text_stop : (rest : List (List ℕ)) (numbers : List ℕ) (place : ℕ) (fault : EntryFault) (said : StartFault) → IsTextFault rest fault → IsSaid numbers place fault said
    → IsTextStop rest numbers place said
text_stop rest numbers place Memory said why is = subst (λ (w : StartFault). IsTextStop rest numbers place w) (sym is) tt
text_stop [] numbers place BadLine said why is = absurd why
text_stop [] numbers place NoLine said why is = absurd why
text_stop (text ∷ rest) numbers place BadLine said why is = subst (λ (w : StartFault). IsTextStop (text ∷ rest) numbers place w) (sym is.2) (text, rest, refl, why, is.1)
text_stop (text ∷ rest) numbers place NoLine said why is = absurd why

-- where a text tells none there is one behind those that do
text_there : (rest : List (List ℕ)) (fault : EntryFault) → IsTextFault rest fault → fault ≢ Memory → 0 < length rest
text_there rest Memory why other = absurd (other refl)
text_there [] BadLine why other = absurd why
text_there [] NoLine why other = absurd why
text_there (text ∷ rest) BadLine why other = omega arith
text_there (text ∷ rest) NoLine why other = omega arith

pub text_behind : (texts : List (List ℕ)) (requests : List Request) (fault : EntryFault) → AreRead texts requests (Err fault) → fault ≢ Memory → length requests < length texts
text_behind texts requests fault read other =
    omega (arith, AllZip-long Tells read.0 requests read.3, ap (λ (w : List (List ℕ)). length w) read.2, length-append read.0 read.1, text_there read.1 fault read.4 other)

-- what a piece has of texts that were read
pub all_read_from : (texts : List (List ℕ)) (end : Result Bool StartFault) (piece : Piece) → AllZip Tells texts (requests_in piece) → piece.end ≡ end → IsReadFrom texts end piece
all_read_from texts end piece told same = record { front = texts; rest = []; split = sym (append-nil texts); told = told; stops = inl (refl, same) }

pub some_read_from : (texts : List (List ℕ)) (end : Result Bool StartFault) (piece : Piece) (fault : EntryFault) (said : StartFault) → AreRead texts (requests_in piece) (Err fault)
    → IsSaid piece.numbers.items (length (requests_in piece)) fault said → piece.end ≡ Err said → IsReadFrom texts end piece
some_read_from texts end piece fault said read is same =
    let size : length (requests_in piece) ≡ length read.0 = AllZip-long Tells read.0 (requests_in piece) read.3 in
    let at_front : IsSaid piece.numbers.items (length read.0) fault said = subst (λ (n : ℕ). IsSaid piece.numbers.items n fault said) size is in
    record {
      front = read.0;
      rest = read.1;
      split = read.2;
      told = read.3;
      stops = inr (said, same, text_stop read.1 piece.numbers.items (length read.0) fault said read.4 at_front);
    }

-- no more requests are read than there are texts
pub few_read : (texts : List (List ℕ)) (requests : List Request) (told : Result (Unit {0}) EntryFault) → AreRead texts requests told → length requests ≤ length texts
few_read texts requests (Ok done) read = omega (arith, AllZip-long Tells texts requests read)
few_read texts requests (Err fault) read =
    omega (arith, AllZip-long Tells read.0 requests read.3, ap (λ (w : List (List ℕ)). length w) read.2, length-append read.0 read.1)

-- nor lines
pub few_lines : {A : Type 0} → (lines : List (Vec ℕ A)) (requests : List Request) (told : Result (Unit {0}) EntryFault) → AreRead (texts_in lines) requests told → length requests ≤ length lines
few_lines {A} lines requests told read = omega (arith, few_read (texts_in lines) requests told read, length-map lines (λ (line : Vec ℕ A). line.items))

-- a fault of some texts is one of them with others behind
fault_stays : (texts more : List (List ℕ)) (fault : EntryFault) → IsTextFault texts fault → IsTextFault (texts ++ more) fault
fault_stays texts more Memory why = tt
fault_stays [] more BadLine why = absurd why
fault_stays [] more NoLine why = absurd why
fault_stays (text ∷ texts) more BadLine why = why
fault_stays (text ∷ texts) more NoLine why = why

-- what was read of two lists of texts was read of both, where nothing is kept that stands behind a fault
pub both_read : (front rest : List (List ℕ)) (ones others kept : List Request) (one other : Result (Unit {0}) EntryFault) → AreRead front ones one → AreRead rest others other
    → IfOk one (λ _. kept ≡ others) → IfErr one (λ _. kept ≡ []) → AreRead (front ++ rest) (ones ++ kept) (first_fault one other)
both_read front rest ones others kept (Ok done) other read also same none =
    let Kept : List Request → Type 0 = λ w. AreRead (front ++ rest) (ones ++ w) other in
    subst Kept (sym same) (by_other other also) where
      by_other : (other : Result (Unit {0}) EntryFault) → AreRead rest others other → AreRead (front ++ rest) (ones ++ others) other
      by_other (Ok done) also = zip_append Tells front rest ones others read also
      by_other (Err fault) also = (
        front ++ also.0,
        also.1,
        ap (λ (w : List (List ℕ)). front ++ w) also.2 ∙ sym (append_assoc front also.0 also.1),
        zip_append Tells front also.0 ones others read also.3,
        also.4,
      )
both_read front rest ones others kept (Err fault) other read also same none =
    let Kept : List Request → Type 0 = λ w. AreRead (front ++ rest) w (Err fault) in
    let all : ones ++ kept ≡ ones = ap (λ (w : List Request). ones ++ w) none ∙ append-nil ones in
    subst Kept (sym all) (
      read.0,
      read.1 ++ rest,
      ap (λ (w : List (List ℕ)). w ++ rest) read.2 ∙ append_assoc read.0 read.1 rest,
      read.3,
      fault_stays read.1 rest fault read.4,
    )

-- nothing is kept behind a fault, and all where there is none
module _ (kept others : List Request) where
  pub left_out : (one : Result (Unit {0}) EntryFault) → is_err one ≡ true → kept ≡ [] → IfOk one (λ _. kept ≡ others) × IfErr one (λ _. kept ≡ [])
  left_out (Ok done) is none = absurd (true≢false (sym is))
  left_out (Err fault) is none = (tt, none)

  pub left_in : (one : Result (Unit {0}) EntryFault) → is_err one ≡ false → kept ≡ others → IfOk one (λ _. kept ≡ others) × IfErr one (λ _. kept ≡ [])
  left_in (Ok done) isnt all = (all, tt)
  left_in (Err fault) isnt all = absurd (true≢false isnt)

-- the end of a piece says that more may come only where that of its lines does
pub goes_further : (texts : List (List ℕ)) (end : Result Bool StartFault) (piece : Piece) (P : Bool → Type 0) → IsReadFrom texts end piece → IfOk end P → IfOk piece.end P
goes_further texts end piece P read further = by_stops read.stops where
  Of : Result Bool StartFault → Type 0
  Of w = IfOk w P

  by_stops : ((read.rest ≡ []) × (piece.end ≡ end)) ⊎ ((fault : StartFault) × (piece.end ≡ Err fault) × IsTextStop read.rest piece.numbers.items (length read.front) fault) → Of piece.end
  by_stops (inl all) = subst Of (sym all.1) further
  by_stops (inr stop) = subst Of (sym stop.1) tt

-- ---- a piece behind what was read before

module _ {D : Type 0} (seen : D → List ℕ) (is_true : D → Type 0) (reader : RequestReader D) (before : List (List ℕ)) where
  abbrev file : List ℕ
  file = seen reader.opening.device

  -- a text that tells none is a stop behind those that do
  text_stops : (front rest : List (List ℕ)) (numbers : List ℕ) (fault : StartFault) → AreEntries (recovered_texts file) before (front ++ rest) numbers
      → IsTextStop rest numbers (length front) fault → StopsBehind file (before ++ front) fault
  text_stops front rest numbers NoMemory are why = tt
  text_stops front rest numbers Device are why = absurd why
  text_stops front rest numbers Shared are why = absurd why
  text_stops front rest numbers CutOff are why = absurd why
  text_stops front rest numbers (Journal (DamagedGroup line)) are why = absurd why
  text_stops front rest numbers (Journal (InJournal Form)) are why = absurd why
  text_stops front rest numbers (Journal (InJournal (TooLong line))) are why = absurd why
  text_stops front rest numbers (Journal (InJournal (Refused line))) are why = absurd why
  text_stops front rest numbers (Journal (InJournal Torn)) are why = absurd why
  text_stops front rest numbers (Journal (InJournal (BadLineOf line))) are why =
      let Are : List (List ℕ) → Type 0 = λ w. AreEntries (recovered_texts file) before (front ++ w) numbers in
      let at = entry_of (recovered_texts file) before front why.0 why.1 numbers (subst Are why.2 are) in
      let same : at.0 ≡ line = cc (at.1, why.4) in
      (why.0, subst (λ (w : ℕ). IsEntryAt (recovered_texts file) (before ++ front) w why.0) same at.2, why.3)

  -- what was read is a piece
  pub is_ahead : (texts : List (List ℕ)) (end : Result Bool StartFault) (piece : Piece) → StandBehind seen is_true reader before texts piece.numbers.items end → IsReadFrom texts end piece
      → IsAhead seen is_true reader before piece
  is_ahead texts end piece stand read = record {
    texts = read.front;
    told = read.told;
    stand = record {
      short = omega (arith, stand.short, ap (λ (w : List (List ℕ)). length w) read.split, length-append read.front read.rest);
      entries = λ truth. entries_front (recovered_texts file) before read.front read.rest piece.numbers.items (entries truth);
      end_is = by_stops read.stops;
    };
  } where
    entries : is_true reader.opening.device → AreEntries (recovered_texts file) before (read.front ++ read.rest) piece.numbers.items
    entries truth = subst (λ (w : List (List ℕ)). AreEntries (recovered_texts file) before w piece.numbers.items) read.split (stand.entries truth)

    by_stops : ((read.rest ≡ []) × (piece.end ≡ end)) ⊎ ((fault : StartFault) × (piece.end ≡ Err fault) × IsTextStop read.rest piece.numbers.items (length read.front) fault)
        → IsEndBehind seen is_true reader (before ++ read.front) piece.end
    by_stops (inl all) =
        let whole : texts ≡ read.front = read.split ∙ ap (λ (w : List (List ℕ)). read.front ++ w) all.0 ∙ append-nil read.front in
        subst (λ (w : Result Bool StartFault). IsEndBehind seen is_true reader (before ++ read.front) w) (sym all.1)
        (subst (λ (w : List (List ℕ)). IsEndBehind seen is_true reader (before ++ w) end) whole stand.end_is)
    by_stops (inr stop) =
        subst (λ (w : Result Bool StartFault). IsEndBehind seen is_true reader (before ++ read.front) w) (sym stop.1)
        (λ truth. text_stops read.front read.rest piece.numbers.items stop.0 (entries truth) stop.2)
