-- How the lines that were handed out add up, and what known bytes tell of them.
use Rattle.std.proofs.Common.{◌≡◌, ◌∙◌, ℕ, length, arith, List, [], ◌∷◌, ◌++◌, Option, Some, None, Result, Ok, Err, IfErr, refl, sym, ap, append_assoc, append-nil, subst}
use Rattle.std.specs.List.{AllZip}
use Rattle.std.specs.Prelude.{IsErrAnd}
use Rattle.std.specs.Io.KnownBytes.{Keeps}
use Rattle.mds_core.specs.declared.request.Request.{Request}
use Rattle.mds_entries.specs.Entry.{Tells}
use Rattle.mds_entries.proofs.EntryLemmas.{lines_tell_one_request}
use Rattle.mds_groups.specs.declared.fault.GroupFault.TheVariants.{Damaged, Journal}
use Rattle.mds_journal.specs.Lines.{recovered_texts}
use Rattle.mds_journal.specs.Stream.{CountsFirst, StandsForNothing}
use Rattle.mds_journal.specs.declared.fault.JournalFault.TheVariants as journal
use Rattle.mds_retention.specs.declared.error.LinesError.{LinesError}
use Rattle.mds_retention.specs.declared.error.LinesError.TheVariants.{Memory, Read, Fault, Changed}
use Rattle.mds_retention.specs.Copying.{IsCopyFault}
use Rattle.mds_retention.specs.Telling.{Gives, HasFront, BeginsWith, AreLines, IsTaken, IsJournalFault, StopsBehind}

-- one more line
pub gives_more : (known middle left : Option (List ℕ)) (lines : List (List ℕ)) (line : List ℕ) → Gives known lines middle → CountsFirst middle line left → Gives known (lines ++ line ∷ []) left
gives_more None middle left lines line given out = tt
gives_more (Some bytes) None left lines line given out = absurd given
gives_more (Some bytes) (Some some) None lines line given out = absurd out
gives_more (Some bytes) (Some some) (Some rest) lines line given out =
    given ∙ ap (λ more. lines ++ more) out ∙ sym (append_assoc lines (line ∷ []) (recovered_texts rest))

-- at the end they are all
pub gives_all : (known left : Option (List ℕ)) (lines : List (List ℕ)) → Gives known lines left → StandsForNothing left → AreLines known lines
gives_all None left lines given none = tt
gives_all (Some bytes) None lines given none = absurd given
gives_all (Some bytes) (Some rest) lines given none = given ∙ ap (λ more. lines ++ more) none ∙ append-nil lines

-- the same bytes are left
pub gives_kept : (known middle left : Option (List ℕ)) (lines : List (List ℕ)) → Gives known lines middle → Keeps middle left → Gives known lines left
gives_kept None middle left lines given keeps = tt
gives_kept (Some bytes) None left lines given keeps = absurd given
gives_kept (Some bytes) (Some some) None lines given keeps = absurd keeps
gives_kept (Some bytes) (Some some) (Some rest) lines given keeps = given ∙ ap (λ more. lines ++ recovered_texts more) (sym keeps)

-- no line was given yet
pub gives_none : (known : Option (List ℕ)) → Gives known [] known
gives_none None = tt
gives_none (Some bytes) = refl

-- the first line of all
pub gives_first : (known middle left : Option (List ℕ)) (lines : List (List ℕ)) (line : List ℕ) → lines ≡ [] → Gives known lines middle → CountsFirst middle line left → CountsFirst known line left
gives_first None middle left lines line none given out = tt
gives_first (Some bytes) None left lines line none given out = absurd given
gives_first (Some bytes) (Some some) None lines line none given out = absurd out
gives_first (Some bytes) (Some some) (Some rest) lines line none given out = given ∙ ap (λ all. all ++ recovered_texts some) none ∙ out

-- one text more tells one request more
pub told_zip : (entries : List (List ℕ)) (history : List Request) (text : List ℕ) (request : Request) → AllZip Tells entries history → Tells text request
    → AllZip Tells (entries ++ text ∷ []) (history ++ request ∷ [])
told_zip [] [] text request all tells = (tells, tt)
told_zip [] (first ∷ history) text request all tells = absurd all
told_zip (entry ∷ entries) [] text request all tells = absurd all
told_zip (entry ∷ entries) (first ∷ history) text request all tells = (all.0, told_zip entries history text request all.1 tells)

-- texts that tell requests, and others behind them
pub zip_append : (texts more : List (List ℕ)) (history tail : List Request) → AllZip Tells texts history → AllZip Tells more tail → AllZip Tells (texts ++ more) (history ++ tail)
zip_append [] more [] tail told rest = rest
zip_append [] more (request ∷ history) tail told rest = absurd told
zip_append (text ∷ texts) more [] tail told rest = absurd told
zip_append (text ∷ texts) more (request ∷ history) tail told rest = (told.0, zip_append texts more history tail told.1 rest)

-- texts tell a front of what longer ones tell
pub zip_front : (entries more : List (List ℕ)) (old all : List Request) → AllZip Tells entries old → AllZip Tells (entries ++ more) all
    → (rest : List Request) × (all ≡ old ++ rest) × AllZip Tells more rest
zip_front [] more [] all told every = (all, refl, every)
zip_front [] more (first ∷ old) all told every = absurd told
zip_front (entry ∷ entries) more [] all told every = absurd told
zip_front (entry ∷ entries) more (first ∷ old) [] told every = absurd every
zip_front (entry ∷ entries) more (first ∷ old) (other ∷ all) told every =
    let behind = zip_front entries more old all told.1 every.1 in
    let same : other ≡ first = lines_tell_one_request entry other first every.0 told.0 in
    (behind.0, (λ i. same i ∷ behind.1 i), behind.2)

-- there are as many requests as texts that tell them
pub told_count : (entries : List (List ℕ)) (history : List Request) → AllZip Tells entries history → length entries ≡ length history
told_count [] [] told = omega arith
told_count [] (request ∷ history) told = absurd told
told_count (entry ∷ entries) [] told = absurd told
told_count (entry ∷ entries) (request ∷ history) told = omega (arith, told_count entries history told.1)

-- what counts first in known bytes counts first in those to which lines were added
pub begins_again : (bytes again : List ℕ) (history : List Request) → IsTaken (Some bytes) history → HasFront (Some again) (recovered_texts bytes) → BeginsWith again history
begins_again bytes again history taken front = of_left front.0 front.1 where
  of_left : (left : Option (List ℕ)) → Gives (Some again) (recovered_texts bytes) left → BeginsWith again history
  of_left None given = absurd given
  of_left (Some rest) given = record {
    form = taken.form;
    lines = taken.lines;
    groups = taken.groups;
    more = recovered_texts rest;
    counted = given ∙ ap (λ lines. lines ++ recovered_texts rest) taken.counted;
    journal = taken.journal;
    told = taken.told;
  }

-- the error that was passed on is the one that came
pub passed_on : {T E : Type 0} (r : Result T E) (e : E) (P : E → Type 0) → IsErrAnd r (λ y. y ≡ e) → P e → IfErr r P
passed_on (Ok x) e P same p = tt
passed_on (Err y) e P same p = subst P (sym same) p

-- why no more is read behind texts that tell requests is why a journal isn't one
pub journal_fault : (known : Option (List ℕ)) (texts : List (List ℕ)) (history : List Request) (error : LinesError) → AllZip Tells texts history → StopsBehind known texts error
    → IsJournalFault known error
journal_fault known texts history Memory told why = tt
journal_fault known texts history Read told why = tt
journal_fault known texts history (Fault (Damaged line)) told why = (texts, history, told, why)
journal_fault known texts history (Fault (Journal journal.Form)) told why = why
journal_fault known texts history (Fault (Journal (journal.TooLong line))) told why = (texts, history, told, why)
journal_fault known texts history (Fault (Journal (journal.BadLine line))) told why = absurd why
journal_fault known texts history (Fault (Journal (journal.Refused line))) told why = absurd why
journal_fault known texts history (Fault (Journal journal.Damaged)) told why = absurd why
journal_fault known texts history Changed told why = absurd why

-- and why marked ones can't be copied
pub copy_fault : (count : ℕ) (known : Option (List ℕ)) (texts : List (List ℕ)) (error : LinesError) → StopsBehind known texts error → IsCopyFault count known error
copy_fault count known texts Memory why = tt
copy_fault count known texts Read why = tt
copy_fault count known texts (Fault (Damaged line)) why = (texts, why)
copy_fault count known texts (Fault (Journal journal.Form)) why = why
copy_fault count known texts (Fault (Journal (journal.TooLong line))) why = (texts, why)
copy_fault count known texts (Fault (Journal (journal.BadLine line))) why = absurd why
copy_fault count known texts (Fault (Journal (journal.Refused line))) why = absurd why
copy_fault count known texts (Fault (Journal journal.Damaged)) why = absurd why
copy_fault count known texts Changed why = absurd why
