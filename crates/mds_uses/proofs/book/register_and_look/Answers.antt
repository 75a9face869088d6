use Rattle.std.proofs.Common.{◌≡◌, ◌≢◌, ◌<◌, ◌==◌, ℕ, zero, suc, List, [], ◌∷◌, ◌++◌, arith, refl, sym, ◌∙◌, ap, subst, if◌then◌else◌}
use Rattle.std.proofs.lemmas.Nat.{mod_below}
use Rattle.std.proofs.lemmas.Result.{IfOk-weaker}
use Rattle.std.specs.Int.{from_be_bytes, w128}
use mathlib.Core.List.{IsPrefix}
use Rattle.mds_table.specs.Tables.{Tables}
use Rattle.mds_core.specs.declared.key.Key.{Key}
use Rattle.mds_core.specs.declared.request.Request.{Request}
use Rattle.mds_core.specs.declared.request.Request.TheVariants.{Register, Look}
use Rattle.mds_core.specs.declared.reply.Outcome.{Outcome}
use Rattle.mds_core.specs.declared.reply.Outcome.TheVariants.{Done, Seen, Refused}
use Rattle.mds_core.specs.declared.reply.Reply.{Reply}
use Rattle.mds_core.specs.declared.reply.Standing.{Standing}
use Rattle.mds_core.specs.History.{key_of, requests_of, standing_of}
use Rattle.mds_core.specs.Answer.{Gives, next}
use Rattle.mds_core.proofs.Histories.{requests_of-append, requests_of-next_same, same_key_refl}
use Rattle.mds_core.proofs.Outcomes.{outcome_one}
use Rattle.mds_book.specs.Shards.{shard_of}
use Rattle.mds_book.specs.Seats.{IsCalled, Seated, after_call, seen_after, seen_in}
use Rattle.mds_uses.proofs.book.register_and_look.Goals as goal

-- a list with something in front, and one behind which more comes
some_first : {A : Type 0} (x : A) (xs : List A) → x ∷ xs ≢ []
some_first x xs none = absurd (cc none)

some_stay : {A : Type 0} (xs ys : List A) → xs ≢ [] → xs ++ ys ≢ []
some_stay [] ys some none = some refl
some_stay (x ∷ xs) ys some none = some_first x (xs ++ ys) none

-- a vehicle's requests, once its registration was answered
some_next : (tables : Tables) (requests : List Request) (key : Key) (outcome : Outcome) → Gives tables requests (Register key) outcome → next requests (Register key) outcome ≢ []
some_next tables [] key outcome gives =
    subst (λ (given : Outcome). next [] (Register key) given ≢ []) (sym (outcome_one tables [] (Register key) outcome Done gives refl)) (some_first (Register key) [])
some_next tables (first ∷ rest) key outcome gives = by_outcome outcome where
  by_outcome : (given : Outcome) → next (first ∷ rest) (Register key) given ≢ []
  by_outcome Done = some_first first (rest ++ Register key ∷ [])
  by_outcome (Seen standing) = some_first first rest
  by_outcome (Refused refusal) = some_first first rest

-- what a seat has seen of the shard of its call is the history with what the call added
seen_then : (seat : Seated) (before : List Request) (request : Request) (reply : Reply)
    → seen_in (after_call seat before request reply) (shard_of (key_of request)) ≡ next before request reply.outcome
seen_then seat before request reply = by_number (shard_of (key_of request)) (mod_below (from_be_bytes w128 (key_of request).device) 2 (omega arith)) where
  by_number : (number : ℕ) → number < 2
      → (if number == 0 then seen_after 0 number before request reply seat.first_seen else (if number == 1 then seen_after 1 number before request reply seat.second_seen else []))
      ≡ next before request reply.outcome
  by_number zero small = refl
  by_number (suc zero) small = refl
  by_number (suc (suc more)) small = absurd (omega arith)

-- a seat that looks at a vehicle behind its registration sees where it stands
seen_behind : (tables : Tables) (old middle new : Seated) (key : Key) (reply look : Reply) → IsCalled tables old (Register key) reply middle
    → IsCalled tables middle (Look key) look new → (standing : Standing) × (look.outcome ≡ Seen standing)
seen_behind tables old middle new key reply look first second =
    let front = next first.before (Register key) reply.outcome in
    let seen : seen_in middle (shard_of key) ≡ front = ap (λ seat. seen_in seat (shard_of key)) first.seat ∙ seen_then old first.before (Register key) reply in
    let begins : IsPrefix front second.before = subst (λ known. IsPrefix known second.before) seen second.seen in
    let own : requests_of front key ≡ next (requests_of first.before key) (Register key) reply.outcome =
    requests_of-next_same first.before (Register key) reply.outcome key (same_key_refl key) in
    let some : requests_of front key ≢ [] =
    subst (λ requests. requests ≢ []) (sym own) (some_next tables (requests_of first.before key) key reply.outcome first.answer.outcome) in
    let both : requests_of front key ++ requests_of begins.0 key ≡ requests_of second.before key =
    sym (requests_of-append front begins.0 key) ∙ ap (λ history. requests_of history key) begins.1 in
    let registered : requests_of second.before key ≢ [] =
    subst (λ requests. requests ≢ []) both (some_stay (requests_of front key) (requests_of begins.0 key) some) in
    let standing = standing_of (requests_of second.before key) in
    (standing, outcome_one tables (requests_of second.before key) (Look key) look.outcome (Seen standing) second.answer.outcome (registered, refl))

pub returns : goal.returns
returns g c =
    IfOk-weaker c.call-2.result _ _
    (λ look is. seen_behind c.args.book.now.tables c.args.seat.now c.call.new.seat c.call-2.new.seat c.args.key.now c.in_ok-call.field-0 look c.in_ok-call.ensures.called is)
    c.call-2.ensures.called
