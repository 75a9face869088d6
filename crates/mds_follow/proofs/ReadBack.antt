-- A journal whose requests are asked again.
use Rattle.std.proofs.Common.{◌≡◌, inl, inr, ℕ, ◌+◌, ◌<◌, ◌==◌, List, [], ◌∷◌, ◌++◌, ◌-◌, ◌^◌, ◌≤◌, ◌≢◌, Bool, true, false, Result, Ok, Err, IfOk, OnOk, Some, slice_get, length, refl, sym, ap, ◌∙◌, subst, arith, length-append}
use Rattle.std.specs.List.{AllZip}
use Rattle.std.proofs.lemmas.Bool.Decides.{nat_tests}
use Rattle.std.proofs.lemmas.List.{length-map, map-append}
use Rattle.std.proofs.lemmas.List.Elements.{filter-append}
use Rattle.std.proofs.lemmas.Slice.Zip.{AllZip-long}
use Rattle.mds_table.specs.Tables.{Tables}
use Rattle.mds_core.specs.declared.key.Key.{Key}
use Rattle.mds_core.specs.declared.request.Request.{Request}
use Rattle.mds_core.specs.declared.reply.Outcome.TheVariants.{Done}
use Rattle.mds_core.specs.History.{requests_of, key_of, same_key}
use Rattle.mds_core.specs.Answer.{Gives, MayBeDone}
use Rattle.mds_core.proofs.Histories.{same_key_is}
use Rattle.mds_journal.specs.Lines.{recovered_texts}
use Rattle.mds_journal.specs.Opening.{KeepsLines, unread_bytes}
use Rattle.mds_journal.specs.Device.{LeavesOnly}
use Rattle.mds_journal.specs.declared.fault.JournalFault.TheVariants.{Form, BadLine, TooLong, Refused, Damaged}
use Rattle.mds_entries.specs.Entry.{Tells}
use Rattle.mds_groups.specs.Entries.{AreEntries, IsEntryAt}
use Rattle.mds_groups.specs.declared.fault.GroupFault.TheVariants.{Damaged as DamagedGroup, Journal as InJournal}
use Rattle.mds_groups.proofs.EntryLemmas.{entry_of}
use Rattle.mds_log.specs.Log.{Acceptance, requests}
use Rattle.mds_book.specs.Shards.{shard_of, part}
use Rattle.mds_book.specs.Seats.{Seated}
use Rattle.mds_follow.specs.Record.{recorded_at}
use Rattle.mds_follow.specs.Disk.{IsTold, MayRead}
use Rattle.mds_follow.specs.Reading.{HasNoMore, HasTexts, IsStartFault, StopsBehind}
use Rattle.mds_follow.specs.Pieces.{requests_in, IsAhead, IsEndBehind}
use Rattle.mds_book.specs.Refilling.{HasAll, IsFilled, IsRefusedAt, IsRefusedIn}
use Rattle.mds_follow.specs.Restart.{IsAskFault, IsRead, IsRefilled, IsRefused}
use Rattle.mds_follow.specs.declared.piece.Piece.{Piece}
use Rattle.mds_follow.specs.End.{HasRefused}
use Rattle.mds_follow.specs.declared.reader.RequestReader.{RequestReader}
use Rattle.mds_follow.specs.declared.start_fault.StartFault.{StartFault}
use Rattle.mds_follow.specs.declared.start_fault.StartFault.TheVariants.{Memory, Device, Journal, Shared, CutOff}
use Rattle.mds_follow.proofs.Disks.{zip_append}
use Rattle.mds_follow.proofs.Safety.{recorded_requests}

-- ---- texts that tell requests

-- the text of each of the requests that texts tell
tells_split : (texts : List (List ℕ)) (before : List Request) (request : Request) (rest : List Request) → AllZip Tells texts (before ++ request ∷ rest)
    → (front : List (List ℕ)) × (text : List ℕ) × (back : List (List ℕ)) × (texts ≡ front ++ text ∷ back) × AllZip Tells front before × Tells text request
tells_split [] [] request rest tells = absurd tells
tells_split [] (one ∷ before) request rest tells = absurd tells
tells_split (text ∷ texts) [] request rest tells = ([], text, texts, refl, tt, tells.0)
tells_split (text ∷ texts) (one ∷ before) request rest tells =
    let later = tells_split texts before request rest tells.1 in
    (text ∷ later.0, later.1, later.2, ap (λ (w : List (List ℕ)). text ∷ w) later.3, (tells.0, later.4), later.5)

-- ---- a piece that is read behind what is recorded

module _ {D : Type 0} (seen : D → List ℕ) (is_true : D → Type 0) (reader : RequestReader D) (before : List (List ℕ)) where
  -- nothing is read but the form
  pub read_none : (piece : Piece) → before ≡ [] → requests_in piece ≡ [] → piece.end ≡ Ok true → HasTexts seen is_true reader [] → IsAhead seen is_true reader before piece
  read_none piece none empty more has = record {
    texts = [];
    told = subst (λ (w : List Request). AllZip Tells [] w) (sym empty) tt;
    stand = record {
      short = omega (arith, ap (λ (w : List (List ℕ)). length w) none);
      entries = λ truth. tt;
      end_is = subst (λ (w : Result Bool StartFault). IsEndBehind seen is_true reader (before ++ []) w) (sym more)
          (subst (λ (w : List (List ℕ)). HasTexts seen is_true reader (w ++ [])) (sym none) has);
    };
  }

  -- where more may come behind a piece, its texts are read too
  pub read_piece : (piece : Piece) (ahead : IsAhead seen is_true reader before piece) → piece.end ≡ Ok true → HasTexts seen is_true reader (before ++ ahead.texts)
  read_piece piece ahead more = subst (λ (w : Result Bool StartFault). IsEndBehind seen is_true reader (before ++ ahead.texts) w) more ahead.stand.end_is

  -- behind the last one no more lines count, or its end says why
  pub read_last : (texts : List (List ℕ)) (end : Result Bool StartFault) → IsEndBehind seen is_true reader (before ++ texts) end → end ≢ Ok true
      → IfOk end (λ _. HasTexts seen is_true reader (before ++ texts) × (is_true reader.opening.device → HasNoMore (unread_bytes seen reader.opening)))
  read_last texts (Ok true) is last = absurd (last refl)
  read_last texts (Ok false) is last = is
  read_last texts (Err fault) is last = tt

  -- the requests of the piece come behind those that are recorded
  pub told_both : (piece : Piece) (recorded : List Request) (ahead : IsAhead seen is_true reader before piece) → AllZip Tells before recorded
      → AllZip Tells (before ++ ahead.texts) (recorded ++ requests_in piece)
  told_both piece recorded ahead told = zip_append Tells before ahead.texts recorded (requests_in piece) told ahead.told

  -- there are few of them
  pub few_told : (piece : Piece) (recorded : List Request) → IsAhead seen is_true reader before piece → AllZip Tells before recorded → length recorded + length (requests_in piece) ≤ 2 ^ 62
  few_told piece recorded ahead told =
      omega (arith, ahead.stand.short, AllZip-long Tells before recorded told, AllZip-long Tells ahead.texts (requests_in piece) ahead.told)

-- ---- why a start ends

-- no more is read behind texts that tell requests
pub stop_fault : (tables : Tables) (file : List ℕ) (texts : List (List ℕ)) (told : List Request) (fault : StartFault) → AllZip Tells texts told → StopsBehind file texts fault
    → IsStartFault tables file fault
stop_fault tables file texts told Memory tells why = tt
stop_fault tables file texts told Device tells why = tt
stop_fault tables file texts told Shared tells why = tt
stop_fault tables file texts told CutOff tells why = absurd why
stop_fault tables file texts told (Journal (DamagedGroup line)) tells why = (texts, told, tells, why)
stop_fault tables file texts told (Journal (InJournal Form)) tells why = (texts, told, tells, why)
stop_fault tables file texts told (Journal (InJournal (TooLong line))) tells why = (texts, told, tells, why)
stop_fault tables file texts told (Journal (InJournal (BadLine line))) tells why = (texts, told, tells, why)
stop_fault tables file texts told (Journal (InJournal (Refused line))) tells why = absurd why
stop_fault tables file texts told (Journal (InJournal Damaged)) tells why = (texts, told, tells, why)

-- the tables refuse one of the texts of a piece
pub ask_fault : {D : Type 0} (seen : D → List ℕ) (is_true : D → Type 0) (reader : RequestReader D) (before : List (List ℕ)) (tables : Tables) (recorded : List Request) (piece : Piece)
    (fault : StartFault) → is_true reader.opening.device → IsAhead seen is_true reader before piece → AllZip Tells before recorded
    → IsAskFault tables recorded piece.numbers.items (requests_in piece) fault → IsStartFault tables (seen reader.opening.device) fault
ask_fault seen is_true reader before tables recorded piece Memory truth ahead told why = tt
ask_fault seen is_true reader before tables recorded piece Device truth ahead told why = tt
ask_fault seen is_true reader before tables recorded piece Shared truth ahead told why = tt
ask_fault seen is_true reader before tables recorded piece CutOff truth ahead told why = absurd why
ask_fault seen is_true reader before tables recorded piece (Journal (DamagedGroup line)) truth ahead told why = absurd why
ask_fault seen is_true reader before tables recorded piece (Journal (InJournal Form)) truth ahead told why = absurd why
ask_fault seen is_true reader before tables recorded piece (Journal (InJournal (TooLong line))) truth ahead told why = absurd why
ask_fault seen is_true reader before tables recorded piece (Journal (InJournal (BadLine line))) truth ahead told why = absurd why
ask_fault seen is_true reader before tables recorded piece (Journal (InJournal Damaged)) truth ahead told why = absurd why
ask_fault seen is_true reader before tables recorded piece (Journal (InJournal (Refused line))) truth ahead told why =
    let lines = recovered_texts (seen reader.opening.device) in
    let numbers = piece.numbers.items in
    let at = tells_split ahead.texts why.before why.request why.rest (subst (λ (w : List Request). AllZip Tells ahead.texts w) why.split ahead.told) in
    let entry = entry_of lines before at.0 at.1 at.2 numbers (subst (λ (w : List (List ℕ)). AreEntries lines before w numbers) at.3 (ahead.stand.entries truth)) in
    let size : length why.before ≡ length at.0 = AllZip-long Tells at.0 why.before at.4 in
    let here = ap (λ (n : ℕ). slice_get numbers n) size ∙ entry.1 in
    let same : entry.0 ≡ line = cc (here, why.number) in (
      before ++ at.0,
      recorded ++ why.before,
      zip_append Tells before at.0 recorded why.before told at.4,
      (at.1, subst (λ (w : ℕ). IsEntryAt lines (before ++ at.0) w at.1) same entry.2, (why.request, at.5, why.refused)),
    )

-- what follows from a fact of a success
pub on_ok : {X Y : Type 0} (result : Result X Y) (P Q : Type 0) → (P → Q) → OnOk result P → OnOk result Q
on_ok (Ok x) P Q then holds = then holds
on_ok (Err y) P Q then holds = tt

-- more than how many pieces are to be read behind one, where its lines end at this place
abbrev pub rounds_left : ℕ → Result Bool StartFault → ℕ
rounds_left place (Ok true) = 2 ^ 62 + 1 - place
rounds_left place (Ok false) = 0
rounds_left place (Err fault) = 0

-- there is one less behind the next one
pub fewer_rounds : (old new : ℕ) (end : Result Bool StartFault) → old ≤ 2 ^ 62 → IfOk end (λ more. more ≡ true → old < new) → rounds_left new end < rounds_left old (Ok true)
fewer_rounds old new (Ok true) small further = omega (arith, small, further refl)
fewer_rounds old new (Ok false) small further = omega (arith, small)
fewer_rounds old new (Err fault) small further = omega (arith, small)

-- what more requests ask for
module _ (moment : ℕ) (old new : List Acceptance) (more : List Request) (is : new ≡ old ++ recorded_at moment more) where
  pub asked_more : requests new ≡ requests old ++ more
  asked_more = ap (λ (w : List Acceptance). requests w) is ∙ recorded_requests moment old more

  pub longer : length new ≡ length old + length more
  longer = ap (λ (w : List Acceptance). length w) is ∙ (length-append old (recorded_at moment more) ∙ ap (λ (n : ℕ). length old + n) (length-map more (λ (one : Request). record { tag = moment; request = one })))

  -- all were recorded at one moment
  pub at_one_moment : old ≡ recorded_at moment (requests old) → new ≡ recorded_at moment (requests new)
  at_one_moment was =
      let More : List Acceptance → Type 0 = λ w. new ≡ w ++ recorded_at moment more in
      let behind : new ≡ recorded_at moment (requests old) ++ recorded_at moment more = subst More was is in
      let both : recorded_at moment (requests old ++ more) ≡ recorded_at moment (requests old) ++ recorded_at moment more =
      map-append {B = Acceptance} (λ (one : Request). record { tag = moment; request = one }) (requests old) more in
      behind ∙ sym both ∙ ap (λ (w : List Request). recorded_at moment w) (sym asked_more)

  -- the seat has asked them
  pub refilled_more : (seat then : Seated) → IsRefilled seat old → IsFilled seat more then → HasAll then → IsRefilled then new
  refilled_more seat then refilled filled all = record {
    all = all;
    first = filled.first ∙ (ap (λ w. w ++ part 0 more) refilled.first ∙ (sym (filter-append _ (requests old) more) ∙ ap (λ w. part 0 w) (sym asked_more)));
    second = filled.second ∙ (ap (λ w. w ++ part 1 more) refilled.second ∙ (sym (filter-append _ (requests old) more) ∙ ap (λ w. part 1 w) (sym asked_more)));
  }

-- the requests of a vehicle are those of its shard's part
own_part : (number : ℕ) (key : Key) (history : List Request) → shard_of key ≡ number → requests_of (part number history) key ≡ requests_of history key
own_part number key [] here = refl
own_part number key (request ∷ rest) here =
    by_case (same_key (key_of request) key) (shard_of (key_of request) == number) refl refl (own_part number key rest here) where
      by_case : (same own : Bool) → same_key (key_of request) key ≡ same → (shard_of (key_of request) == number) ≡ own → requests_of (part number rest) key ≡ requests_of rest key
          → requests_of (part number (request ∷ rest)) key ≡ requests_of (request ∷ rest) key
      by_case true true is in_shard later = rw (in_shard, is) (ap (λ w. request ∷ w) later)
      by_case false true isnt in_shard later = rw (in_shard, isnt) later
      by_case false false isnt other later = rw (other, isnt) later
      by_case true false is other later =
          let there : shard_of (key_of request) ≡ number = ap shard_of (same_key_is (key_of request) key is) ∙ here in
          let not : (shard_of (key_of request) == number) ≡ true = grind (arith, nat_tests) in
          absurd (cc (not, other))

-- what may not be done behind what a seat has seen of its shard may not be behind all that is recorded
refused_in : (tables : Tables) (number : ℕ) (seen : List Request) (recorded before : List Request) (request : Request) → seen ≡ part number recorded
    → shard_of (key_of request) ≡ number → (MayBeDone tables (seen ++ part number before) request → ⊥) → MayBeDone tables (recorded ++ before) request → ⊥
refused_in tables number seen recorded before request is here refused may =
    let key = key_of request in
    let both : seen ++ part number before ≡ part number (recorded ++ before) = ap (λ (w : List Request). w ++ part number before) is ∙ sym (filter-append _ recorded before) in
    let same : requests_of (seen ++ part number before) key ≡ requests_of (recorded ++ before) key =
    ap (λ (w : List Request). requests_of w key) both ∙ own_part number key (recorded ++ before) here in
    let Given : List Request → Type 0 = λ w. Gives tables w request Done in
    refused (subst Given (sym same) may)

-- nor may its line
refused_line : (tables : Tables) (number : ℕ) (seen recorded told : List Request) (numbers : List ℕ) (line at : ℕ) → seen ≡ part number recorded → slice_get numbers at ≡ Some line
    → IsRefusedIn tables number seen told at → IsRefused tables recorded numbers told line
refused_line tables number seen recorded told numbers line at is place why = record {
  before = why.before;
  request = why.request;
  rest = why.rest;
  split = why.split;
  number = ap (λ (n : ℕ). slice_get numbers n) (sym why.count) ∙ place;
  refused = refused_in tables number seen recorded why.before why.request is why.here why.refused;
}

-- in whichever shard it is
pub refused_told : (tables : Tables) (seat : Seated) (recorded : List Acceptance) (told : List Request) (numbers : List ℕ) (line at : ℕ) → IsRefilled seat recorded
    → slice_get numbers at ≡ Some line → IsRefusedAt tables seat told at → IsRefused tables (requests recorded) numbers told line
refused_told tables seat recorded told numbers line at refilled place (inl why) =
    refused_line tables 0 seat.first_seen (requests recorded) told numbers line at refilled.first place why
refused_told tables seat recorded told numbers line at refilled place (inr why) =
    refused_line tables 1 seat.second_seen (requests recorded) told numbers line at refilled.second place why

-- so one of them is refused
refused_part : (tables : Tables) (number : ℕ) (seen recorded told : List Request) (at : ℕ) → seen ≡ part number recorded → IsRefusedIn tables number seen told at → HasRefused tables recorded told
refused_part tables number seen recorded told at is why = record {
  before = why.before;
  request = why.request;
  rest = why.rest;
  split = why.split;
  refused = refused_in tables number seen recorded why.before why.request is why.here why.refused;
}

pub refused_end : (tables : Tables) (seat : Seated) (recorded : List Acceptance) (told : List Request) (at : ℕ) → IsRefilled seat recorded → IsRefusedAt tables seat told at
    → HasRefused tables (requests recorded) told
refused_end tables seat recorded told at refilled (inl why) = refused_part tables 0 seat.first_seen (requests recorded) told at refilled.first why
refused_end tables seat recorded told at refilled (inr why) = refused_part tables 1 seat.second_seen (requests recorded) told at refilled.second why

-- it is one of the requests
refused_in_them : (tables : Tables) (number : ℕ) (seen told : List Request) (at : ℕ) → IsRefusedIn tables number seen told at → at < length told
refused_in_them tables number seen told at why = omega (arith, why.count, ap (λ (w : List Request). length w) why.split, length-append why.before (why.request ∷ why.rest))

pub refused_within : (tables : Tables) (seat : Seated) (told : List Request) (at : ℕ) → IsRefusedAt tables seat told at → at < length told
refused_within tables seat told at (inl why) = refused_in_them tables 0 seat.first_seen told at why
refused_within tables seat told at (inr why) = refused_in_them tables 1 seat.second_seen told at why

-- as many requests as were recorded
pub requests_length : (told : List Acceptance) → length (requests told) ≡ length told
requests_length told = length-map told (λ (one : Acceptance). one.request)

-- a restart after a crash since the journal was opened reads what was read
pub read_only : {D : Type 0} (seen : D → List ℕ) (moment : D → ℕ) (left_since : D → ℕ → List ℕ → Type 0) (opened device : D) (told : List Acceptance) (start : ℕ) → start ≡ moment opened
    → IsTold (recovered_texts (seen opened)) (requests told) → told ≡ recorded_at (moment opened) (requests told) → LeavesOnly moment left_since opened device (KeepsLines (seen opened))
    → IsRead (λ t c. MayRead (left_since device) t c) start told
read_only seen moment left_since opened device told start here is_told at leaves = record {
  at_start = at ∙ ap (λ (t : ℕ). recorded_at t (requests told)) (sym here);
  only = λ c read.
      let left = subst (λ (t : ℕ). left_since device t read.file) here read.left in
      let kept = leaves.each read.file left in
      let Told : List (List ℕ) → Type 0 = λ w. IsTold w (requests told) in
      sym (read.is_told (requests told) (subst Told (sym kept.lines) is_told));
}
