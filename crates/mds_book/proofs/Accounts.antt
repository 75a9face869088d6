-- Seats that are handed back beside the whole log of a shard.
use Rattle.std.proofs.Common.{◌≡◌, ℕ, ◌++◌, ◌∷◌, [], List, length, sum_by, refl, sym, ap, ◌∙◌, subst, append_assoc, append-nil, arith}
use Rattle.std.specs.List.{All}
use mathlib.Core.List.{IsPrefix}
use Rattle.mds_core.specs.declared.request.Request.{Request}
use Rattle.mds_table.specs.Tables.{Tables}
use Rattle.mds_settle.specs.declared.note.Note.{Note}
use Rattle.mds_log.specs.Log.{Acceptance, requests}
use Rattle.mds_log.specs.Marks.{Has, HasNot}
use Rattle.mds_book.specs.Seats.{Seated, accepted_in, seen_in}
use Rattle.mds_book.specs.Sights.{AreTrue, Sighted, rules_in}
use Rattle.mds_book.specs.Notes.{seen_by, told}
use Rattle.mds_book.specs.Retired.{IsRetired, AreRetired}
use Rattle.mds_settle.specs.Settled.{IsSettled}
use Rattle.mds_book.proofs.Trues.{true_longer, requests_prefix, requests_length}
use Rattle.mds_book.proofs.Retired.{retired_none, retired_more, settled}

-- its mark is handed back, and its notes, true to what it saw of the log, are true to all of it
pub retired_seat : (tables : Tables) (shard : ℕ) (log front : List Acceptance) (marks left : List ℕ) (mark count : ℕ) (seat : Seated) (notes : List Note) → HasNot marks mark
    → Has left mark → IsPrefix marks left → IsPrefix front log → AreTrue (rules_in tables shard) front mark notes count → accepted_in seat shard ≡ count
    → seen_in seat shard ≡ requests front → seat.notes ≡ notes → IsRetired (rules_in tables shard) log marks seat left
retired_seat tables shard log front marks left mark count seat notes fresh here begins seen known counted saw told =
    let Told : List Note → Type 0 = λ w. AreTrue (rules_in tables shard) front mark w count in
    let are : AreTrue (rules_in tables shard) front mark seat.notes count = subst Told (sym told) known in
    let TrueOf : ℕ → Type 0 = λ n. AreTrue (rules_in tables shard) log mark seat.notes n in
    let BeginsLog : List Request → Type 0 = λ w. IsPrefix w (requests log) in
    record {
      mark = mark;
      fresh = fresh;
      here = here;
      begins = begins;
      notes = subst TrueOf (sym counted) (true_longer tables shard front log mark seat.notes count seen are);
      seen = subst BeginsLog (sym saw) (requests_prefix front log seen);
    }

-- the notes of seats that were handed back beside a whole log fit the history that it asks, where they counted as much
pub fitting : (tables book : Tables) (shard : ℕ) (log : List Acceptance) (history : List Request) (marks : List ℕ) (seats : List Seated) → tables ≡ book → requests log ≡ history
    → AreRetired (rules_in tables shard) log marks seats → length history ≡ sum_by (λ seat. accepted_in seat shard) seats → IsSettled book shard history (λ (seat : Seated). seat.notes) seats
fitting tables book shard log history marks seats same whole retired counted =
    let many : length log ≡ sum_by (λ seat. accepted_in seat shard) seats = sym (requests_length log) ∙ (ap length whole ∙ counted) in
    let FitsBy : Tables → Type 0 = λ t. IsSettled t shard history (λ (seat : Seated). seat.notes) seats in
    let Fits : List Request → Type 0 = λ w. IsSettled tables shard w (λ (seat : Seated). seat.notes) seats in
    subst FitsBy same (subst Fits whole (settled tables shard log marks seats retired many))

-- what they saw is a beginning of it
pub beginnings : (tables : Tables) (shard : ℕ) (log : List Acceptance) (history : List Request) (marks : List ℕ) (seats : List Seated) → requests log ≡ history
    → AreRetired (rules_in tables shard) log marks seats → All (λ seat. IsPrefix (seen_in seat shard) history) seats
beginnings tables shard log history marks seats whole retired =
    let BeginsIt : List Request → Type 0 = λ w. All (λ (seat : Seated). IsPrefix (seen_in seat shard) w) seats in
    subst BeginsIt whole retired.seen

-- the seats so far with one more, which was put behind the others
pub retired_next : (tables : Tables) (shard : ℕ) (log new_log : List Acceptance) (marks left : List ℕ) (seats new : List Seated) (seat : Seated) → AreRetired (rules_in tables shard) log marks seats
    → IsRetired (rules_in tables shard) log marks seat left → new_log ≡ log → new ≡ seats ++ seat ∷ [] → AreRetired (rules_in tables shard) new_log left new
retired_next tables shard log new_log marks left seats new seat retired one same put =
    let RetiredIn : List Acceptance → Type 0 = λ l. AreRetired (rules_in tables shard) l left new in
    let Retired : List Seated → Type 0 = λ s. AreRetired (rules_in tables shard) log left s in
    subst RetiredIn (sym same) (subst Retired (sym put) (retired_more tables shard log marks seats seat left retired one))

-- no seat was handed back yet
pub retired_yet : (tables : Tables) (shard : ℕ) (log : List Acceptance) (marks : List ℕ) (seats : List Seated) → seats ≡ [] → AreRetired (rules_in tables shard) log marks seats
retired_yet tables shard log marks seats none =
    let Retired : List Seated → Type 0 = λ s. AreRetired (rules_in tables shard) log marks s in
    subst Retired (sym none) (retired_none tables shard log marks)

-- a list of no length
pub none_left : {X : Type 0} (xs : List X) → length xs ≡ 0 → xs ≡ []
none_left [] none = refl
none_left (x ∷ xs) none = absurd (omega arith)

-- one is moved from the head of the rest behind those that were moved
pub one_moved : {X : Type 0} (moved rest all new left : List X) (one head : X) → new ≡ moved ++ one ∷ [] → one ≡ head → rest ≡ head ∷ left → moved ++ rest ≡ all → new ++ left ≡ all
one_moved moved rest all new left one head put same taken before =
    ap (λ w. w ++ left) put ∙ (append_assoc moved (one ∷ []) left ∙ (ap (λ w. moved ++ w) (ap (λ x. x ∷ left) same ∙ sym taken) ∙ before))

-- all are moved where none is left
pub all_moved : {X : Type 0} (moved rest all : List X) → rest ≡ [] → moved ++ rest ≡ all → moved ≡ all
all_moved moved rest all none before = sym (append-nil moved) ∙ (ap (λ w. moved ++ w) (sym none) ∙ before)

-- what is told beside the same sights is the same
pub told_both : {N : Type 0} (number : N → ℕ) (tells : N → List Request → Note) (kept : List N) (one same other again : Sighted) → one ≡ same → other ≡ again
    → told number tells (seen_by (requests one.seen) (requests other.seen)) kept ≡ told number tells (seen_by (requests same.seen) (requests again.seen)) kept
told_both number tells kept one same other again is is_too = λ i. told number tells (seen_by (requests (is i).seen) (requests (is_too i).seen)) kept
