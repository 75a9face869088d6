-- What a list of a vehicle's events tells a seat of its shard, and how the seat stays true to it.
use Rattle.std.proofs.Common.{◌≡◌, ◌∙◌, ℕ, List, sym, ap, subst}
use Rattle.std.specs.Prelude.{Option}
use mathlib.Core.List.{IsPrefix}
use Rattle.mds_table.specs.Tables.{Tables}
use Rattle.mds_core.specs.declared.key.Key.{Key}
use Rattle.mds_core.specs.declared.request.Request.{Request}
use Rattle.mds_core.specs.Reported.{Reported}
use Rattle.mds_core.specs.Machine.{events_in}
use Rattle.mds_core.specs.Lawful.{IsLawful}
use Rattle.mds_settle.specs.declared.note.Note.{Note}
use Rattle.mds_log.specs.Log.{Acceptance, requests}
use Rattle.mds_book.specs.Shards.{shard_of, AreOfShard}
use Rattle.mds_book.specs.Seats.{Seated, seen_in, after_sight, IsListed}
use Rattle.mds_book.specs.Sights.{AreTrue, Parted, ShardRules, next_turn, rules_in}
use Rattle.mds_book.specs.Turns.{HasLooked}
use Rattle.mds_book.proofs.Trues.{requests_prefix, true_longer}

-- a list in the shard of this number
listed_in : {tables : Tables} {rules : ShardRules} {old new : Seated} {part after : Parted} {key : Key} {found : Option (List Reported)}
    → tables ≡ rules.tables → shard_of key ≡ rules.number → (looked : HasLooked rules part after) → found ≡ events_in (requests after.sight.seen) key
    → seen_in old rules.number ≡ requests part.sight.seen → new ≡ after_sight old rules.number (requests after.sight.seen) → IsListed tables old key found new
listed_in {tables} {rules} {old} {new} {part} {after} {key} {found} is here looked events saw seat =
    let before : List Request = requests after.sight.seen in
    let IsSeen : List Request → Type 0 = λ w. IsPrefix w before in
    let SeenIn : ℕ → Type 0 = λ n. IsPrefix (seen_in old n) before in
    let OfShard : ℕ → Type 0 = λ n. AreOfShard n before in
    let IsLawfulBy : Tables → Type 0 = λ t. IsLawful t before in
    let SeatIn : ℕ → Type 0 = λ n. new ≡ after_sight old n before in
    record {
      before = before;
      seen = subst SeenIn (sym here) (subst IsSeen (sym saw) (requests_prefix part.sight.seen after.sight.seen looked.seen));
      lawful = subst IsLawfulBy (sym is) looked.lawful;
      of_shard = subst OfShard (sym here) looked.of_shard;
      events = events;
      seat = subst SeatIn (sym here) seat;
    }

-- a list in the first shard, for a seat that has this part of it
pub listed_first : {tables same : Tables} {old new : Seated} {part after : Parted} {key : Key} {found : Option (List Reported)}
    → tables ≡ same → shard_of key ≡ 0 → (looked : HasLooked (rules_in same 0) part after) → found ≡ events_in (requests after.sight.seen) key
    → part.count ≡ old.first → part.sight.turns ≡ old.first_turns → requests part.sight.seen ≡ old.first_seen
    → new.first ≡ after.count → new.first_turns ≡ after.sight.turns → new.first_seen ≡ requests after.sight.seen
    → new.second ≡ old.second → new.notes ≡ old.notes → new.keeps_all ≡ old.keeps_all → new.second_seen ≡ old.second_seen → new.second_turns ≡ old.second_turns
    → IsListed tables old key found new
listed_first {tables} {same} {old} {new} {part} {after} {key} {found} is here looked events counted turned saw count turns sees second notes keeps other waits =
    let first_is : new.first ≡ old.first = count ∙ (looked.count ∙ counted) in
    let turns_is : new.first_turns ≡ next_turn old.first_turns = turns ∙ (looked.turn ∙ ap next_turn turned) in
    listed_in is here looked events (sym saw) (λ i. record {
      first = first_is i;
      second = second i;
      notes = notes i;
      keeps_all = keeps i;
      first_seen = sees i;
      second_seen = other i;
      first_turns = turns_is i;
      second_turns = waits i;
    })

-- a list in the second shard
pub listed_second : {tables same : Tables} {old new : Seated} {part after : Parted} {key : Key} {found : Option (List Reported)}
    → tables ≡ same → shard_of key ≡ 1 → (looked : HasLooked (rules_in same 1) part after) → found ≡ events_in (requests after.sight.seen) key
    → part.count ≡ old.second → part.sight.turns ≡ old.second_turns → requests part.sight.seen ≡ old.second_seen
    → new.second ≡ after.count → new.second_turns ≡ after.sight.turns → new.second_seen ≡ requests after.sight.seen
    → new.first ≡ old.first → new.notes ≡ old.notes → new.keeps_all ≡ old.keeps_all → new.first_seen ≡ old.first_seen → new.first_turns ≡ old.first_turns
    → IsListed tables old key found new
listed_second {tables} {same} {old} {new} {part} {after} {key} {found} is here looked events counted turned saw count turns sees first notes keeps other waits =
    let second_is : new.second ≡ old.second = count ∙ (looked.count ∙ counted) in
    let turns_is : new.second_turns ≡ next_turn old.second_turns = turns ∙ (looked.turn ∙ ap next_turn turned) in
    listed_in is here looked events (sym saw) (λ i. record {
      first = first i;
      second = second_is i;
      notes = notes i;
      keeps_all = keeps i;
      first_seen = other i;
      second_seen = sees i;
      first_turns = waits i;
      second_turns = turns_is i;
    })

-- notes that are told the same stay true
pub true_same : {rules : ShardRules} {log : List Acceptance} {mark count : ℕ} {notes more : List Note} → AreTrue rules log mark notes count → more ≡ notes
    → AreTrue rules log mark more count
true_same {rules} {log} {mark} {count} {notes} {more} are told =
    let Told : List Note → Type 0 = λ w. AreTrue rules log mark w count in
    subst Told (sym told) are

-- and where the seat has seen more
pub true_looked : {rules : ShardRules} {part after : Parted} {notes more : List Note} → AreTrue rules part.sight.seen part.mark notes part.count
    → HasLooked rules part after → more ≡ notes → AreTrue rules after.sight.seen after.mark more after.count
true_looked {rules} {part} {after} {notes} {more} are looked told =
    let still : AreTrue rules after.sight.seen part.mark notes part.count =
    true_longer rules.tables rules.number part.sight.seen after.sight.seen part.mark notes part.count looked.seen are in
    let Marked : ℕ → Type 0 = λ m. AreTrue rules after.sight.seen m notes part.count in
    let Counted : ℕ → Type 0 = λ n. AreTrue rules after.sight.seen after.mark notes n in
    true_same (subst Counted (sym looked.count) (subst Marked (sym looked.mark) still)) told
