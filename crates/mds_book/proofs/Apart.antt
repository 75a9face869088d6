-- The histories of two shards have no vehicle in common.
use Rattle.std.proofs.Common.{◌≡◌, ◌⊎◌, ℕ, suc, ◌==◌, inl, inr, List, [], ◌∷◌, Bool, true, false, refl, sym, ◌∙◌, ap, arith, length, sum_by}
use Rattle.std.proofs.lemmas.Bool.Decides.{nat_tests}
use Rattle.mds_core.specs.declared.key.Key.{Key}
use Rattle.mds_core.specs.declared.request.Request.{Request}
use Rattle.mds_core.specs.Machine.{Machine}
use Rattle.mds_core.specs.History.{requests_of, key_of, same_key}
use Rattle.mds_core.specs.Lawful.{IsLawful}
use Rattle.mds_core.proofs.Histories.{same_key_is, joined}
use Rattle.mds_book.specs.Shards.{shard_of, AreOfShard}
use Rattle.mds_book.specs.Gathering.{Collected, AreApart, IsWhole}

-- a vehicle of another number has no entry in a shard's history
none_of_another : (number : ℕ) (history : List Request) (key : Key) → AreOfShard number history → (shard_of key ≡ number → ⊥) → requests_of history key ≡ []
none_of_another number [] key all other = refl
none_of_another number (request ∷ rest) key all other =
    let first : shard_of (key_of request) ≡ number = all 0 request (omega arith) in
    let later : requests_of rest key ≡ [] = none_of_another number rest key (λ k d below. all (suc k) d (omega (arith, below))) other in
    by_key (same_key (key_of request) key) refl first later where
      by_key : (b : Bool) → same_key (key_of request) key ≡ b → shard_of (key_of request) ≡ number → requests_of rest key ≡ [] → requests_of (request ∷ rest) key ≡ []
      by_key true same first later = absurd (other (ap shard_of (sym (same_key_is (key_of request) key same)) ∙ first))
      by_key false different first later = rw different later

-- no vehicle stands in both, since each stands in the shard of its number
pub none_in_both : (first second : List Request) → AreOfShard 0 first → AreOfShard 1 second → (key : Key) → (requests_of first key ≡ []) ⊎ (requests_of second key ≡ [])
none_in_both first second zeros ones key = by_number (shard_of key == 0) refl where
  by_number : (b : Bool) → (shard_of key == 0) ≡ b → (requests_of first key ≡ []) ⊎ (requests_of second key ≡ [])
  by_number true is = inr (none_of_another 1 second key ones (λ one. grind (arith, nat_tests)))
  by_number false isnt = inl (none_of_another 0 first key zeros (λ zero. grind (arith, nat_tests)))

-- and so the histories are lawful one after the other
apart : (all : Collected) → IsLawful all.tables all.first → IsLawful all.tables all.second → AreOfShard 0 all.first → AreOfShard 1 all.second → AreApart all
apart all lawful_first lawful_second zeros ones =
    let none = none_in_both all.first all.second zeros ones in
    record { no_key_in_both = none; joined = joined all.tables all.first all.second lawful_first lawful_second none }

-- what two shards over the same tables and their seats hold together
pub whole : (all : Collected) (first second : Machine) → first.tables ≡ all.tables → second.tables ≡ all.tables → first.history ≡ all.first → second.history ≡ all.second
    → IsLawful first.tables first.history → IsLawful second.tables second.history → AreOfShard 0 first.history → AreOfShard 1 second.history
    → length first.history ≡ sum_by (λ seat. seat.first) all.seats → length second.history ≡ sum_by (λ seat. seat.second) all.seats → IsWhole all
whole all first second tables other_rows is other_is lawful other_lawful zeros ones counted other_counted =
    let lawful_first : IsLawful all.tables all.first = rw (← tables, ← is) lawful in
    let lawful_second : IsLawful all.tables all.second = rw (← other_rows, ← other_is) other_lawful in
    let zeros_first : AreOfShard 0 all.first = rw (← is) zeros in
    let ones_second : AreOfShard 1 all.second = rw (← other_is) ones in
    record {
      lawful = (lawful_first, lawful_second);
      of_shard = (zeros_first, ones_second);
      first_counted = rw (← is) counted;
      second_counted = rw (← other_is) other_counted;
      apart = apart all lawful_first lawful_second zeros_first ones_second;
    }
