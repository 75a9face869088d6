-- What is known of a book whose seats were handed back beside the whole logs of both shards.
use Rattle.std.proofs.Common.{◌≡◌, ℕ, List, length, sum_by, sym, ap, ◌∙◌}
use Rattle.mds_core.specs.declared.request.Request.{Request}
use Rattle.mds_table.specs.Tables.{Tables}
use Rattle.mds_log.specs.Log.{Acceptance, requests}
use Rattle.mds_book.specs.Seats.{Seated}
use Rattle.mds_book.specs.Gathering.{Collected, IsWhole}
use Rattle.mds_book.specs.Settling.{AreBeginnings, IsSettledBook}
use Rattle.mds_book.specs.Retired.{AreRetired}
use Rattle.mds_book.specs.Sights.{rules_in}
use Rattle.mds_book.proofs.Accounts.{fitting, beginnings}

-- their notes fit the histories
pub settled_book : (all : Collected) (first_tables second_tables : Tables) (first_log second_log : List Acceptance) (first_marks second_marks : List ℕ) → IsWhole all
    → first_tables ≡ all.tables → second_tables ≡ all.tables → requests first_log ≡ all.first → requests second_log ≡ all.second
    → AreRetired (rules_in first_tables 0) first_log first_marks all.seats → AreRetired (rules_in second_tables 1) second_log second_marks all.seats → IsSettledBook all
settled_book all first_tables second_tables first_log second_log first_marks second_marks whole first_same second_same first_whole second_whole first_retired second_retired = record {
  first = fitting first_tables all.tables 0 first_log all.first first_marks all.seats first_same first_whole first_retired whole.first_counted;
  second = fitting second_tables all.tables 1 second_log all.second second_marks all.seats second_same second_whole second_retired whole.second_counted;
}

-- what they saw is a beginning of the histories
pub begun_book : (all : Collected) (first_tables second_tables : Tables) (first_log second_log : List Acceptance) (first_marks second_marks : List ℕ)
    → requests first_log ≡ all.first → requests second_log ≡ all.second
    → AreRetired (rules_in first_tables 0) first_log first_marks all.seats → AreRetired (rules_in second_tables 1) second_log second_marks all.seats → AreBeginnings all
begun_book all first_tables second_tables first_log second_log first_marks second_marks first_whole second_whole first_retired second_retired = record {
  first = beginnings first_tables 0 first_log all.first first_marks all.seats first_whole first_retired;
  second = beginnings second_tables 1 second_log all.second second_marks all.seats second_whole second_retired;
}

-- what was counted stays so
pub counted_still : (old new : List Request) (seats back : List Seated) (count : Seated → ℕ) → new ≡ old → back ≡ seats → length old ≡ sum_by count seats → length new ≡ sum_by count back
counted_still old new seats back count same given counted = ap length same ∙ (counted ∙ ap (λ (s : List Seated). sum_by count s) (sym given))
