-- How the notes of a seat stay true to what it saw of a shard's log.
use Rattle.std.proofs.Common.{◌≡◌, ◌≢◌, ℕ, ◌+◌, ◌≤◌, ◌||◌, ◌++◌, ◌∷◌, [], List, Bool, true, false, cond, Some, slice_get, length, take, get_or, refl, sym, ap, ◌∙◌, subst, arith, take_all, append-nil, add-zero}
use mathlib.Core.List.{IsPrefix}
use Rattle.std.proofs.lemmas.Bool.{or_parts, ne_eqb, eq-eqb}
use Rattle.std.proofs.lemmas.List.{take-append-le, map-append, length-map}
use Rattle.std.proofs.lemmas.List.Elements.{All-push}
use Rattle.std.proofs.lemmas.List.Quantifiers.{all_pairs_push}
use Rattle.std.proofs.lemmas.List.Sums.{sum_by_push}
use Rattle.std.proofs.lemmas.Option.{slice_get_within}
use Rattle.mds_table.specs.Tables.{Tables}
use Rattle.mds_core.specs.declared.request.Request.{Request}
use Rattle.mds_core.specs.declared.reply.Reply.{Reply}
use Rattle.mds_core.specs.History.{key_of}
use Rattle.mds_core.specs.Headline.{is_done}
use Rattle.mds_core.specs.Answer.{Answers}
use Rattle.mds_settle.specs.declared.note.Note.{Note}
use Rattle.mds_settle.specs.Settled.{HasRightReply, IsInOrder, least_after}
use Rattle.mds_log.specs.Log.{Acceptance, requests}
use Rattle.mds_log.proofs.Lists.{prefix_length, prefix_get, get_last}
use Rattle.mds_book.specs.Shards.{shard_of, count_of}
use Rattle.mds_book.specs.Seats.{notes_of_call}
use Rattle.mds_book.specs.Sights.{AreTrue, Parted, ShardRules, accepted_of, log_after, rules_in}
use Rattle.mds_book.specs.Turns.{IsStepped}

-- nothing was noted, and nothing seen
pub true_none : (tables : Tables) (shard mark : ℕ) → AreTrue (rules_in tables shard) [] mark [] 0
true_none tables shard mark = record {
  answered = λ k d within. absurd (omega arith);
  stored = λ k d within. absurd (omega arith);
  ordered = λ i j d less within. absurd (omega arith);
  counted = refl;
}

-- what a beginning of a log asks is a beginning of what the log asks
pub requests_prefix : (log longer : List Acceptance) → IsPrefix log longer → IsPrefix (requests log) (requests longer)
requests_prefix log longer begins =
    (requests begins.0, sym (map-append (λ (one : Acceptance). one.request) log begins.0) ∙ ap (λ (w : List Acceptance). requests w) begins.1)

-- it asks as much as it has entries
pub requests_length : (log : List Acceptance) → length (requests log) ≡ length log
requests_length log = length-map log (λ (one : Acceptance). one.request)

-- a reply that is right after a beginning of a history is so after the history
right_longer : (tables : Tables) (history longer : List Request) (note : Note) → IsPrefix history longer → HasRightReply tables history note
    → HasRightReply tables longer note
right_longer tables history longer note begins right =
    let AnswersAfter : List Request → Type 0 = λ before. Answers tables before note.request note.reply in
    let same : take note.reply.place longer ≡ take note.reply.place history =
    ap (λ (w : List Request). take note.reply.place w) (sym begins.1) ∙ take-append-le note.reply.place history begins.0 right.within in
    let count : length history ≤ length longer = prefix_length history longer begins in
    let within : note.reply.place ≤ length history = right.within in
    record { within = omega arith; answer = subst AnswersAfter (sym same) right.answer }

-- notes that are true to a beginning of a log are true to the log
pub true_longer : (tables : Tables) (shard : ℕ) (log longer : List Acceptance) (mark : ℕ) (notes : List Note) (count : ℕ) → IsPrefix log longer
    → AreTrue (rules_in tables shard) log mark notes count → AreTrue (rules_in tables shard) longer mark notes count
true_longer tables shard log longer mark notes count begins are = record {
  answered = λ k d within here. right_longer tables (requests log) (requests longer) (get_or notes k d) (requests_prefix log longer begins) (are.answered k d within here);
  stored = λ k d within here done.
      prefix_get log longer (get_or notes k d).reply.place (record { tag = mark; request = (get_or notes k d).request }) begins (are.stored k d within here done);
  ordered = are.ordered;
  counted = are.counted;
}

-- the log before a call is a beginning of the log after it
pub after_longer : (log : List Acceptance) (mark : ℕ) (request : Request) (done : Bool) → IsPrefix log (log_after log mark request done)
after_longer log mark request true = (record { tag = mark; request = request } ∷ [], refl)
after_longer log mark request false = ([], append-nil log)

-- what is accepted stands where the log ended
stored_after : (log : List Acceptance) (mark : ℕ) (request : Request) (done : Bool) (place : ℕ) → place ≡ length log → done ≡ true
    → slice_get (log_after log mark request done) place ≡ Some (record { tag = mark; request = request })
stored_after log mark request true place here done = rw here (get_last log (record { tag = mark; request = request }))
stored_after log mark request false place here done = absurd (cc)

-- a later note of the length of the log is in order
in_order_after : (tables : Tables) (log : List Acceptance) (one : Acceptance) (note : Note) (place : ℕ) → place ≡ length log
    → HasRightReply tables (requests log) note → (is_done note.reply.outcome ≡ true → slice_get log note.reply.place ≡ Some one) → least_after note ≤ place
in_order_after tables log one note place here right stored = by_done (is_done note.reply.outcome) stored where
  by_done : (done : Bool) → (done ≡ true → slice_get log note.reply.place ≡ Some one) → cond done (note.reply.place + 1) note.reply.place ≤ place
  by_done true found = omega (arith, slice_get_within log note.reply.place one (found refl))
  by_done false found = omega (arith, right.within, requests_length log)

-- what a note counts
abbrev weight : ℕ → Note → ℕ
weight shard note = cond (accepted_of shard note) 1 0

-- a note of another shard isn't one that was accepted in this one
other_weight : (shard : ℕ) (note : Note) → note.shard ≢ shard → weight shard note ≡ 0
other_weight shard note other = rw (ne_eqb note.shard shard other) refl

-- a note of this shard counts by its outcome
own_weight : (shard : ℕ) (note : Note) → note.shard ≡ shard → weight shard note ≡ count_of note.reply.outcome
own_weight shard note here = rw (eq-eqb note.shard shard here) refl

-- the notes with that of a call in this shard, which was answered after all of the log
pub true_noted : (tables : Tables) (shard : ℕ) (log : List Acceptance) (mark : ℕ) (notes : List Note) (count : ℕ) (note : Note)
    → AreTrue (rules_in tables shard) log mark notes count → note.shard ≡ shard → Answers tables (requests log) note.request note.reply
    → AreTrue (rules_in tables shard) (log_after log mark note.request (is_done note.reply.outcome)) mark (notes ++ note ∷ []) (count + count_of note.reply.outcome)
true_noted tables shard log mark notes count note are here answer =
    let new : List Acceptance = log_after log mark note.request (is_done note.reply.outcome) in
    let begins : IsPrefix log new = after_longer log mark note.request (is_done note.reply.outcome) in
    let longer : AreTrue (rules_in tables shard) new mark notes count = true_longer tables shard log new mark notes count begins are in
    let asked : length (requests log) ≡ length log = requests_length log in
    let place : note.reply.place ≡ length log = answer.place ∙ asked in
    let AnswersAfter : List Request → Type 0 = λ before. Answers tables before note.request note.reply in
    let whole : take note.reply.place (requests log) ≡ requests log = take_all note.reply.place (requests log) (omega arith) in
    let right : HasRightReply tables (requests log) note = record { within = omega arith; answer = subst AnswersAfter (sym whole) answer } in
    record {
      answered = All-push (λ (n : Note). n.shard ≡ shard → HasRightReply tables (requests new) n) notes note longer.answered
          (λ h. right_longer tables (requests log) (requests new) note (requests_prefix log new begins) right);
      stored = All-push (λ (n : Note). n.shard ≡ shard → is_done n.reply.outcome ≡ true → slice_get new n.reply.place ≡ Some (record { tag = mark; request = n.request })) notes note
          longer.stored (λ h done. stored_after log mark note.request (is_done note.reply.outcome) note.reply.place place done);
      ordered = all_pairs_push (IsInOrder shard) notes note are.ordered
          (λ k d within first second. in_order_after tables log (record { tag = mark; request = (get_or notes k d).request }) (get_or notes k d) note.reply.place place
          (are.answered k d within first) (are.stored k d within first));
      counted = sum_by_push (λ (n : Note). weight shard n) notes note ∙ omega (arith, are.counted, own_weight shard note here);
    }

-- the notes with that of a call in another shard
pub true_past : (tables : Tables) (shard : ℕ) (log : List Acceptance) (mark : ℕ) (notes : List Note) (count : ℕ) (note : Note)
    → AreTrue (rules_in tables shard) log mark notes count → note.shard ≢ shard → AreTrue (rules_in tables shard) log mark (notes ++ note ∷ []) count
true_past tables shard log mark notes count note are other = record {
  answered = All-push (λ (n : Note). n.shard ≡ shard → HasRightReply tables (requests log) n) notes note are.answered (λ here. absurd (other here));
  stored = All-push (λ (n : Note). n.shard ≡ shard → is_done n.reply.outcome ≡ true → slice_get log n.reply.place ≡ Some (record { tag = mark; request = n.request })) notes note
      are.stored (λ here. absurd (other here));
  ordered = all_pairs_push (IsInOrder shard) notes note are.ordered (λ k d within first second. absurd (other second));
  counted = sum_by_push (λ (n : Note). weight shard n) notes note ∙ omega (arith, are.counted, other_weight shard note other);
}

-- the notes after a call in this shard
pub true_call : {rules : ShardRules} {old new : Parted} {notes more : List Note} {request : Request} {reply : Reply} (all : Bool)
    → AreTrue rules old.sight.seen old.mark notes old.count → (step : IsStepped rules old request reply new) → shard_of (key_of request) ≡ rules.number
    → more ≡ notes ++ notes_of_call all request reply → AreTrue rules new.sight.seen new.mark more new.count
true_call {rules} {old} {new} {notes} {more} {request} {reply} all are step here written =
    let seen : AreTrue rules step.log old.mark notes old.count = true_longer rules.tables rules.number old.sight.seen step.log old.mark notes old.count step.called.seen are in
    let count : ℕ = old.count + count_of reply.outcome in
    let noted : List Note = notes ++ notes_of_call all request reply in
    let TrueOf : List Acceptance → Type 0 = λ log. AreTrue rules log old.mark noted count in
    let Marked : ℕ → Type 0 = λ m. AreTrue rules new.sight.seen m noted count in
    let Written : List Note → Type 0 = λ w. AreTrue rules new.sight.seen new.mark w count in
    let Counted : ℕ → Type 0 = λ n. AreTrue rules new.sight.seen new.mark more n in
    subst Counted (sym step.called.count) (subst Written (sym written) (subst Marked (sym step.called.mark)
    (subst TrueOf (sym step.called.goes_on) (by_kept (all || is_done reply.outcome) refl step.log seen step.answer)))) where
      by_kept : (kept : Bool) → (all || is_done reply.outcome) ≡ kept → (log : List Acceptance) → AreTrue rules log old.mark notes old.count
          → Answers rules.tables (requests log) request reply
          → AreTrue rules (log_after log old.mark request (is_done reply.outcome)) old.mark
          (notes ++ cond kept (record { shard = shard_of (key_of request); request = request; reply = reply } ∷ []) []) (old.count + count_of reply.outcome)
      by_kept true is log seen answer =
          true_noted rules.tables rules.number log old.mark notes old.count (record { shard = shard_of (key_of request); request = request; reply = reply }) seen here answer
      by_kept false is log seen answer =
          let not_done : is_done reply.outcome ≡ false = (or_parts all (is_done reply.outcome) is).1 in
          let TrueWhere : Bool → Type 0 = λ done. AreTrue rules (log_after log old.mark request done) old.mark (notes ++ []) (old.count + cond done 1 0) in
          subst TrueWhere (sym not_done) (rw (append-nil notes, add-zero old.count) seen)

-- the notes after a call in another shard
pub true_other : {rules : ShardRules} {log : List Acceptance} {mark count : ℕ} {notes more : List Note} (all : Bool) (request : Request) (reply : Reply)
    → AreTrue rules log mark notes count → shard_of (key_of request) ≢ rules.number → more ≡ notes ++ notes_of_call all request reply → AreTrue rules log mark more count
true_other {rules} {log} {mark} {count} {notes} {more} all request reply are other written =
    let Written : List Note → Type 0 = λ w. AreTrue rules log mark w count in
    subst Written (sym written) (by_kept (all || is_done reply.outcome)) where
      by_kept : (kept : Bool) → AreTrue rules log mark (notes ++ cond kept (record { shard = shard_of (key_of request); request = request; reply = reply } ∷ []) []) count
      by_kept true = true_past rules.tables rules.number log mark notes count (record { shard = shard_of (key_of request); request = request; reply = reply }) are other
      by_kept false = rw (append-nil notes) are
