-- A seat that alone asks a book again what was accepted before.
use Rattle.std.proofs.Common.{◌≡◌, ◌≢◌, ℕ, zero, suc, ◌+◌, ◌<◌, ◌≤◌, ◌==◌, List, [], ◌∷◌, ◌++◌, Bool, true, false, cond, Result, Ok, Err, OnOk, IfErr, ◌⊎◌, inl, inr, length, take, drop, get_or, refl, sym, ap, ◌∙◌, subst, arith, append_assoc, append-nil, length-append, take-append-drop}
use Rattle.std.proofs.lemmas.Bool.Decides.{nat_tests}
use Rattle.std.proofs.lemmas.List.{take_more}
use Rattle.std.proofs.lemmas.List.Elements.{All-push, filter-append}
use Rattle.mds_table.specs.Tables.{Tables}
use Rattle.mds_core.specs.declared.request.Request.{Request}
use Rattle.mds_core.specs.declared.reply.Reply.{Reply}
use Rattle.mds_core.specs.declared.reply.Outcome.{Outcome}
use Rattle.mds_core.specs.declared.reply.Outcome.TheVariants.{Done}
use Rattle.mds_core.specs.History.{key_of}
use Rattle.mds_core.specs.Answer.{MayBeDone, next}
use Rattle.mds_core.proofs.Outcomes.{outcome_one}
use Rattle.mds_settle.specs.declared.note.Note.{Note}
use Rattle.mds_log.specs.Log.{Acceptance, requests}
use mathlib.Core.List.{IsPrefix}
use Rattle.mds_log.proofs.Lists.{prefix_self, prefix_trans, prefix_whole}
use Rattle.mds_book.specs.Shards.{shard_of, count_of, part}
use Rattle.mds_book.specs.Seats.{notes_of_call}
use Rattle.mds_book.specs.Notes.{IsNoted}
use Rattle.mds_book.specs.Sights.{AreTrue, Parted, ShardRules, Sighted, rules_in}
use Rattle.mds_book.specs.Turns.{IsStepped}
use Rattle.mds_book.specs.Refilling.{AreAccepted, AreKeptOf, AreNotesOf, AreTrueBehind, Asks, IsAsked, IsRefusedIn, PartNotes, told_of}
use Rattle.mds_book.specs.declared.refilling.RefillStop.{RefillStop}
use Rattle.mds_book.proofs.Called.{seen_after_step}
use Rattle.mds_book.proofs.NotesTold.{kept_of_call, log_longer, told_length}
use Rattle.mds_book.proofs.Trues.{requests_length, true_call, true_past}

-- a request is all of its shard's part of it alone
pub part_own : (number : ℕ) (request : Request) → shard_of (key_of request) ≡ number → part number (request ∷ []) ≡ request ∷ []
part_own number request here =
    let own : (shard_of (key_of request) == number) ≡ true = grind (arith, nat_tests) in
    rw own refl

-- and nothing of another shard's
pub part_other : (number : ℕ) (request : Request) → shard_of (key_of request) ≢ number → part number (request ∷ []) ≡ []
part_other number request other =
    let not : (shard_of (key_of request) == number) ≡ false = grind (arith, nat_tests) in
    rw not refl

-- of the requests up to a place and the one there
pub part_more : (number index : ℕ) (all : List Request) (request : Request) → index < length all → request ≡ get_or all index request
    → part number (take (index + 1) all) ≡ part number (take index all) ++ part number (request ∷ [])
part_more number index all request within same =
    let longer : take (index + 1) all ≡ take index all ++ request ∷ [] = take_more all index request within ∙ ap (λ r. take index all ++ r ∷ []) (sym same) in
    ap (λ (w : List Request). part number w) longer ∙ filter-append _ (take index all) (request ∷ [])

-- a beginning has no more of a shard
pub part_take : (number count : ℕ) (told : List Request) → length (part number (take count told)) ≤ length (part number told)
part_take number count told =
    let both : part number told ≡ part number (take count told) ++ part number (drop count told) =
    ap (λ (w : List Request). part number w) (sym (take-append-drop count told)) ∙ filter-append _ (take count told) (drop count told) in
    omega (arith, ap (λ (w : List Request). length w) both, length-append (part number (take count told)) (part number (drop count told)))

-- no request is of both shards
pub part_lengths : (told : List Request) → length (part 0 told) + length (part 1 told) ≤ length told
part_lengths [] = omega arith
part_lengths (request ∷ rest) = by_case (shard_of (key_of request) == 0) (shard_of (key_of request) == 1) refl refl (part_lengths rest) where
  by_case : (first second : Bool) → (shard_of (key_of request) == 0) ≡ first → (shard_of (key_of request) == 1) ≡ second → length (part 0 rest) + length (part 1 rest) ≤ length rest
      → length (cond first (request ∷ part 0 rest) (part 0 rest)) + length (cond second (request ∷ part 1 rest) (part 1 rest)) ≤ suc (length rest)
  by_case true true one other few = absurd (grind (arith, nat_tests))
  by_case true false one other few = omega (arith, few)
  by_case false true one other few = omega (arith, few)
  by_case false false one other few = omega (arith, few)

-- one of this shard is asked
pub asks_one : {rules : ShardRules} {old new : PartNotes} {request : Request} {reply : Reply} (all : Bool) → shard_of (key_of request) ≡ rules.number
    → IsStepped rules old.part request reply new.part → new.notes ≡ old.notes ++ notes_of_call all request reply → length new.notes ≤ length old.notes + 1
    → Asks rules old (request ∷ []) new
asks_one {rules} {old} {new} {request} {reply} all here step written few = record {
  begins = log_longer step;
  stay = λ before are.
      true_call all are step here (ap (λ (w : List Note). before ++ w) written ∙ sym (append_assoc before old.notes (notes_of_call all request reply)));
  few = omega (arith, few, ap (λ (w : List Request). length w) (part_own rules.number request here));
}

-- and its note is kept with the others
pub asks_called : {N : Type 0} {number : N → ℕ} {tells : N → List Request → Note} {is_within : N → List Request → Type 0} {all : Bool} {rules : ShardRules} {old new : Parted}
    {request : Request} {reply : Reply} {kept more : List N} → shard_of (key_of request) ≡ rules.number → IsStepped rules old request reply new
    → IsNoted number tells is_within all request reply kept more → AreKeptOf number is_within rules.number old.sight.seen kept
    → AreKeptOf number is_within rules.number new.sight.seen more × Asks rules (told_of number tells old kept) (request ∷ []) (told_of number tells new more)
asks_called {N} {number} {tells} {is_within} {all} {rules} {old} {new} {request} {reply} {kept} {more} here step noted are =
    let both = kept_of_call step here noted are in
    (both.0, asks_one all here step both.1 (omega (arith, noted.few, told_length number tells old kept, told_length number tells new more)))

-- a further request was asked behind others
pub asks_more : {rules : ShardRules} {old mid new : PartNotes} {told longer : List Request} {request : Request}
    → part rules.number longer ≡ part rules.number told ++ part rules.number (request ∷ []) → Asks rules old told mid → Asks rules mid (request ∷ []) new → Asks rules old longer new
asks_more {rules} {old} {mid} {new} {told} {longer} {request} more first then = record {
  begins = prefix_trans old.part.sight.seen mid.part.sight.seen new.part.sight.seen first.begins then.begins;
  stay = λ before are. then.stay before (first.stay before are);
  few = omega (arith, first.few, then.few, ap (λ (w : List Request). length w) more, length-append (part rules.number told) (part rules.number (request ∷ [])));
}

-- and of all those that it is one of no more was asked
pub asks_all : {rules : ShardRules} {old new : PartNotes} {told : List Request} (count : ℕ) → Asks rules old (take count told) new → Asks rules old told new
asks_all {rules} {old} {new} {told} count asks = record {
  begins = asks.begins;
  stay = asks.stay;
  few = omega (arith, asks.few, part_take rules.number count told);
}

-- and it was accepted
pub accepted_more : {number : ℕ} {old mid new : Parted} {told longer : List Request} {request : Request}
    → part number longer ≡ part number told ++ part number (request ∷ []) → AreAccepted number old told mid → AreAccepted number mid (request ∷ []) new
    → AreAccepted number old longer new
accepted_more {number} {old} {mid} {new} {told} {longer} {request} more first then = record {
  all = then.all;
  seen = then.seen
      ∙ (ap (λ (w : List Request). w ++ part number (request ∷ [])) first.seen
      ∙ (append_assoc (requests old.sight.seen) (part number told) (part number (request ∷ [])) ∙ ap (λ (w : List Request). requests old.sight.seen ++ w) (sym more)));
}

-- notes of another shard don't matter
pub past_others : (tables : Tables) (shard other : ℕ) (log : List Acceptance) (mark : ℕ) (notes more : List Note) (count : ℕ) → other ≢ shard → AreNotesOf other more
    → AreTrue (rules_in tables shard) log mark notes count → AreTrue (rules_in tables shard) log mark (notes ++ more) count
past_others tables shard other log mark notes [] count different all are =
    let Noted : List Note → Type 0 = λ w. AreTrue (rules_in tables shard) log mark w count in
    subst Noted (sym (append-nil notes)) are
past_others tables shard other log mark notes (note ∷ more) count different all are =
    let there : note.shard ≢ shard = λ same. different (sym (all 0 note (omega arith)) ∙ same) in
    let rest : AreNotesOf other more = λ k d within. all (suc k) d (omega (arith, within)) in
    let Noted : List Note → Type 0 = λ w. AreTrue (rules_in tables shard) log mark w count in
    subst Noted (append_assoc notes (note ∷ []) more) (past_others tables shard other log mark (notes ++ note ∷ []) more count different rest (true_past tables shard log mark notes count note are there))

-- behind notes of the first shard and then of the second a seat's notes are true to the first
pub true_first : {tables : Tables} {old : Parted} {new : PartNotes} {told : List Request} {notes total : List Note} {asked : Result (Unit {0}) RefillStop} (others : List Note)
    → AreTrue (rules_in tables 0) old.sight.seen old.mark notes old.count → IsAsked (rules_in tables 0) old told new asked → AreNotesOf 1 others
    → total ≡ (notes ++ new.notes) ++ others → AreTrue (rules_in tables 0) new.part.sight.seen new.part.mark total new.part.count
true_first {tables} {old} {new} {told} {notes} {total} {asked} others are ask all written =
    let None : List Note → Type 0 = λ w. AreTrue (rules_in tables 0) old.sight.seen old.mark w old.count in
    let Total : List Note → Type 0 = λ w. AreTrue (rules_in tables 0) new.part.sight.seen new.part.mark w new.part.count in
    let own : AreTrueBehind (rules_in tables 0) notes new = ask.asks.stay notes (subst None (sym (append-nil notes)) are) in
    subst Total (sym written)
    (past_others tables 0 1 new.part.sight.seen new.part.mark (notes ++ new.notes) others new.part.count (λ same. absurd (omega (arith, same))) all own)

-- and to the second
pub true_second : {tables : Tables} {old : Parted} {new : PartNotes} {told : List Request} {notes total : List Note} {asked : Result (Unit {0}) RefillStop} (ones : List Note)
    → AreTrue (rules_in tables 1) old.sight.seen old.mark notes old.count → IsAsked (rules_in tables 1) old told new asked → AreNotesOf 0 ones
    → total ≡ (notes ++ ones) ++ new.notes → AreTrue (rules_in tables 1) new.part.sight.seen new.part.mark total new.part.count
true_second {tables} {old} {new} {told} {notes} {total} {asked} ones are ask all written =
    let None : List Note → Type 0 = λ w. AreTrue (rules_in tables 1) old.sight.seen old.mark w old.count in
    let Total : List Note → Type 0 = λ w. AreTrue (rules_in tables 1) new.part.sight.seen new.part.mark w new.part.count in
    let past : AreTrue (rules_in tables 1) old.sight.seen old.mark (notes ++ ones) old.count =
    past_others tables 1 0 old.sight.seen old.mark notes ones old.count (λ same. absurd (omega (arith, same))) all are in
    subst Total (sym written) (ask.asks.stay (notes ++ ones) (subst None (sym (append-nil (notes ++ ones))) past))

-- what follows from two facts of a success
pub on_both : (one other result : Result (Unit {0}) RefillStop) (P Q R : Type 0) → (P → Q → R) → OnOk result ((one ≡ result) × (other ≡ result)) → OnOk one P → OnOk other Q → OnOk result R
on_both one other (Ok x) P Q R then same p q =
    let First : Result (Unit {0}) RefillStop → Type 0 = λ w. OnOk w P in
    let Second : Result (Unit {0}) RefillStop → Type 0 = λ w. OnOk w Q in
    then (subst First same.0 p) (subst Second same.1 q)
on_both one other (Err stop) P Q R then same p q = tt

-- what follows of a stop that is one of two
pub of_either : (one other result : Result (Unit {0}) RefillStop) (P Q R : RefillStop → Type 0) → ((stop : RefillStop) → P stop → R stop) → ((stop : RefillStop) → Q stop → R stop)
    → IfErr result (λ _. (result ≡ one) ⊎ (result ≡ other)) → IfErr one P → IfErr other Q → IfErr result R
of_either one other (Ok x) P Q R first second which p q = tt
of_either one other (Err stop) P Q R first second (inl same) p q =
    let First : Result (Unit {0}) RefillStop → Type 0 = λ w. IfErr w P in
    first stop (subst First (sym same) p)
of_either one other (Err stop) P Q R first second (inr same) p q =
    let Second : Result (Unit {0}) RefillStop → Type 0 = λ w. IfErr w Q in
    second stop (subst Second (sym same) q)

-- one request that was asked of a shard of which all was seen
module _ {rules : ShardRules} {old new : Parted} {request : Request} {reply : Reply} (step : IsStepped rules old request reply new)
    (all : old.count ≡ length old.sight.seen) (expected : reply.place ≡ old.count) where
  -- a reply at the place that is expected is the answer after what was seen
  nothing_between : old.sight.seen ≡ step.log
  nothing_between = prefix_whole old.sight.seen step.log step.called.seen (omega (arith, step.answer.place, requests_length step.log, all, expected))

  -- where it was accepted, it is counted, and seen behind the others
  pub accepted_again : shard_of (key_of request) ≡ rules.number → reply.outcome ≡ Done → AreAccepted rules.number old (request ∷ []) new
  accepted_again here done =
      let seen : requests new.sight.seen ≡ requests old.sight.seen ++ request ∷ [] =
      seen_after_step step
      ∙ (ap (λ (outcome : Outcome). next (requests step.log) request outcome) done ∙ ap (λ (w : List Acceptance). requests w ++ request ∷ []) (sym nothing_between)) in
      record {
        all = omega (
          arith,
          step.called.count,
          ap count_of done,
          all,
          requests_length new.sight.seen,
          requests_length old.sight.seen,
          ap (λ (w : List Request). length w) seen,
          length-append (requests old.sight.seen) (request ∷ []),
        );
        seen = seen ∙ ap (λ (w : List Request). requests old.sight.seen ++ w) (sym (part_own rules.number request here));
      }

  -- what wasn't accepted may not be
  pub refused_again : (reply.outcome ≡ Done → ⊥) → MayBeDone rules.tables (requests old.sight.seen) request → ⊥
  refused_again other may =
      let Given : List Acceptance → Type 0 = λ w. MayBeDone rules.tables (requests w) request in
      other (outcome_one rules.tables _ request reply.outcome Done step.answer.outcome (subst Given nothing_between may))

-- a request that may not be done behind what was seen of its shard
pub refused_alone : (tables : Tables) (number : ℕ) (seen : List Request) (request : Request) → shard_of (key_of request) ≡ number → (MayBeDone tables seen request → ⊥)
    → IsRefusedIn tables number seen (request ∷ []) 0
refused_alone tables number seen request here refused = record {
  before = [];
  request = request;
  rest = [];
  split = refl;
  count = refl;
  here = here;
  refused = λ may. refused (subst (λ (w : List Request). MayBeDone tables w request) (append-nil seen) may);
}

-- of some requests the one of this place, and those before it and behind it
split_at : (all : List Request) (index : ℕ) (request : Request) → index < length all → request ≡ get_or all index request
    → (rest : List Request) × (all ≡ take index all ++ request ∷ rest) × (length (take index all) ≡ index)
split_at [] index request within same = absurd (omega (arith, within))
split_at (one ∷ all) zero request within same = (all, ap (λ r. r ∷ all) (sym same), refl)
split_at (one ∷ all) (suc index) request within same =
    let later = split_at all index request (omega (arith, within)) same in
    (later.0, ap (λ w. one ∷ w) later.1, ap suc later.2)

-- what is refused alone, behind those of its shard before it
pub refused_at : (tables : Tables) (number : ℕ) (seen now all : List Request) (index at : ℕ) (request : Request) → index < length all → request ≡ get_or all index request
    → at ≡ index → now ≡ seen ++ part number (take index all) → IsRefusedIn tables number now (request ∷ []) 0 → IsRefusedIn tables number seen all at
refused_at tables number seen now all index at request within same place is why =
    let split = split_at all index request within same in
    let none : why.before ≡ [] = nil_of why.before why.count in
    let one : request ∷ [] ≡ why.request ∷ why.rest = why.split ∙ ap (λ w. w ++ why.request ∷ why.rest) none in
    let asked : why.request ≡ request = ap (λ w. get_or w 0 request) (sym one) in
    record {
      before = take index all;
      request = request;
      rest = split.0;
      split = split.1;
      count = omega (arith, place, split.2);
      here = ap (λ r. shard_of (key_of r)) (sym asked) ∙ why.here;
      refused = λ may.
          let behind : now ++ part number why.before ≡ seen ++ part number (take index all) = ap (λ w. now ++ part number w) none ∙ (append-nil now ∙ is) in
          let May : Request → Type 0 = λ r. MayBeDone tables (seen ++ part number (take index all)) r in
          why.refused (subst (λ (w : List Request). MayBeDone tables w why.request) (sym behind) (subst May (sym asked) may));
    } where
      nil_of : (list : List Request) → 0 ≡ length list → list ≡ []
      nil_of [] none = refl
      nil_of (r ∷ list) none = absurd (omega (arith, none))
