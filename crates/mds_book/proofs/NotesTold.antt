-- What kept notes tell where more was seen, and where a call was noted behind them.
use Rattle.std.proofs.Common.{◌≡◌, ℕ, zero, suc, ◌+◌, ◌*◌, ◌/◌, ◌%◌, ◌<◌, ◌==◌, ◌||◌, List, [], ◌∷◌, ◌++◌, Bool, true, false, cond, Some, slice_get, length, map, get_or, refl, sym, ap, ◌∙◌, subst, arith, append-nil, length-append}
use Rattle.std.specs.List.{All}
use Rattle.std.proofs.lemmas.List.{map-append, length-map}
use Rattle.std.proofs.lemmas.List.Elements.{All-push, All-append, All-map}
use Rattle.std.proofs.lemmas.Option.{get_or_from_slice_get, slice_get_within}
use mathlib.Core.List.{IsPrefix}
use Rattle.mds_core.specs.declared.request.Request.{Request}
use Rattle.mds_core.specs.declared.reply.Reply.{Reply}
use Rattle.mds_core.specs.declared.reply.Outcome.{Outcome}
use Rattle.mds_core.specs.declared.reply.Outcome.TheVariants.{Done, Seen, Refused}
use Rattle.mds_core.specs.History.{key_of}
use Rattle.mds_core.specs.Headline.{is_done}
use Rattle.mds_settle.specs.declared.note.Note.{Note}
use Rattle.mds_log.specs.Log.{Acceptance, requests}
use Rattle.mds_log.proofs.Lists.{get_last, prefix_self, prefix_trans}
use Rattle.mds_book.specs.Shards.{shard_of}
use Rattle.mds_book.specs.Seats.{notes_of_call}
use Rattle.mds_book.specs.Sights.{Parted, ShardRules, log_after}
use Rattle.mds_book.specs.Turns.{IsStepped}
use Rattle.mds_book.specs.Notes.{AreKept, AreWithin, IsNoted, IsSeen, SeesMore, TellMore, seen_by, told}
use Rattle.mds_book.specs.NotePlaces.{is_at, no_request, note_at}
use Rattle.mds_book.specs.Refilling.{AreKeptOf, AreNotesOf, told_of}
use Rattle.mds_book.proofs.Trues.{after_longer, requests_prefix}

-- what is seen of the first shard grows
pub seen_first : (first longer second : List Request) → IsPrefix first longer → SeesMore (seen_by first second) (seen_by longer second)
seen_first first longer second begins number = by_first (number == 0) where
  by_first : (is : Bool) → IsPrefix (cond is first second) (cond is longer second)
  by_first true = begins
  by_first false = prefix_self second

-- and of the second
pub seen_second : (first second longer : List Request) → IsPrefix second longer → SeesMore (seen_by first second) (seen_by first longer)
seen_second first second longer begins number = by_first (number == 0) where
  by_first : (is : Bool) → IsPrefix (cond is first second) (cond is first longer)
  by_first true = prefix_self first
  by_first false = begins

-- and of both
pub seen_both : (first longer second further : List Request) → IsPrefix first longer → IsPrefix second further → SeesMore (seen_by first second) (seen_by longer further)
seen_both first longer second further begins begins_other number = by_first (number == 0) where
  by_first : (is : Bool) → IsPrefix (cond is first second) (cond is longer further)
  by_first true = begins
  by_first false = begins_other

-- after a call the log begins with all that was seen before it
pub log_longer : {rules : ShardRules} {old new : Parted} {request : Request} {reply : Reply} → IsStepped rules old request reply new
    → IsPrefix old.sight.seen new.sight.seen
log_longer {rules} {old} {new} {request} {reply} step =
    let Longer : List Acceptance → Type 0 = λ w. IsPrefix step.log w in
    prefix_trans old.sight.seen step.log new.sight.seen step.called.seen
    (subst Longer (sym step.called.goes_on) (after_longer step.log old.mark request (is_done reply.outcome)))

-- and so does what it asks
pub seen_longer : {rules : ShardRules} {old new : Parted} {request : Request} {reply : Reply} → IsStepped rules old request reply new
    → IsPrefix (requests old.sight.seen) (requests new.sight.seen)
seen_longer {rules} {old} {new} step = requests_prefix old.sight.seen new.sight.seen (log_longer step)

-- and what was accepted stands at its place
pub stored_step : {rules : ShardRules} {old new : Parted} {request : Request} {reply : Reply} → IsStepped rules old request reply new
    → is_done reply.outcome ≡ true → slice_get (requests new.sight.seen) reply.place ≡ Some request
stored_step {rules} {old} {new} {request} {reply} step done =
    let whole : requests new.sight.seen ≡ requests step.log ++ request ∷ [] =
    ap (λ (w : List Acceptance). requests w) step.called.goes_on
    ∙ (ap (λ d. requests (log_after step.log old.mark request d)) done
    ∙ map-append (λ (one : Acceptance). one.request) step.log (record { tag = old.mark; request = request } ∷ [])) in
    rw (whole, step.answer.place) (get_last (requests step.log) request)

-- what was accepted is seen in the first shard, if it is of it
pub seen_in_first : (first second : List Request) (request : Request) (reply : Reply) → shard_of (key_of request) ≡ 0
    → (is_done reply.outcome ≡ true → slice_get first reply.place ≡ Some request) → IsSeen (seen_by first second) request reply
seen_in_first first second request reply here stored done =
    let At : ℕ → Type 0 = λ n. slice_get (seen_by first second n) reply.place ≡ Some request in
    subst At (sym here) (stored done)

-- and in the second
pub seen_in_second : (first second : List Request) (request : Request) (reply : Reply) → shard_of (key_of request) ≡ 1
    → (is_done reply.outcome ≡ true → slice_get second reply.place ≡ Some request) → IsSeen (seen_by first second) request reply
seen_in_second first second request reply here stored done =
    let At : ℕ → Type 0 = λ n. slice_get (seen_by first second n) reply.place ≡ Some request in
    subst At (sym here) (stored done)

-- an accepted outcome
done_is : (outcome : Outcome) → is_done outcome ≡ true → Done ≡ outcome
done_is Done done = refl
done_is (Seen standing) done = absurd cc
done_is (Refused refusal) done = absurd cc

-- the note of an accepted call, by its place
pub place_told : (shard : ℕ) (history : List Request) (request : Request) (reply : Reply) → shard < 2 → is_done reply.outcome ≡ true
    → slice_get history reply.place ≡ Some request → note_at (2 * reply.place + shard) history ≡ record { shard = shard; request = request; reply = reply }
place_told shard history request reply small done stored =
    let half : (2 * reply.place + shard) / 2 ≡ reply.place = omega (arith, small) in
    let rest : (2 * reply.place + shard) % 2 ≡ shard = omega (arith, small) in
    let asked : get_or history ((2 * reply.place + shard) / 2) no_request ≡ request =
    ap (λ p. get_or history p no_request) half ∙ get_or_from_slice_get history reply.place request no_request stored in
    let outcome : Done ≡ reply.outcome = done_is reply.outcome done in
    λ i. record { shard = rest i; request = asked i; reply = record { place = half i; outcome = outcome i } }

-- its place is within
pub place_within : (shard : ℕ) (history : List Request) (request : Request) (reply : Reply) → shard < 2 → slice_get history reply.place ≡ Some request
    → is_at (2 * reply.place + shard) history
place_within shard history request reply small stored = omega (arith, small, slice_get_within history reply.place request stored)

-- notes of a form whose notes stay where more is seen
module _ {N : Type 0} (number : N → ℕ) (tells : N → List Request → Note) (is_within : N → List Request → Type 0) where
  -- it is so of one note
  abbrev pub Stays : Type 0
  Stays = (note : N) (history more : List Request) → is_within note history → is_within note (history ++ more) × (tells note (history ++ more) ≡ tells note history)

  still_one : Stays → (note : N) (history longer : List Request) → IsPrefix history longer → is_within note history
      → is_within note longer × (tells note longer ≡ tells note history)
  still_one stays note history longer begins within =
      let Same : List Request → Type 0 = λ w. is_within note w × (tells note w ≡ tells note history) in
      subst Same begins.1 (stays note history begins.0 within)

  -- the notes tell the same
  same_told : Stays → (was seen : ℕ → List Request) → SeesMore was seen → (kept : List N) → AreWithin number is_within was kept
      → told number tells seen kept ≡ told number tells was kept
  same_told stays was seen more [] all = refl
  same_told stays was seen more (note ∷ rest) all =
      let head : tells note (seen (number note)) ≡ tells note (was (number note)) =
      (still_one stays note (was (number note)) (seen (number note)) (more (number note)) (all 0 note (omega arith))).1 in
      let behind : told number tells seen rest ≡ told number tells was rest = same_told stays was seen more rest (λ k d within. all (suc k) d (omega (arith, within))) in
      λ i. head i ∷ behind i

  -- and so of all
  pub tell_more : Stays → (kept : List N) → TellMore number tells is_within kept
  tell_more stays kept = record {
    within = λ was seen more are k d within.
        (still_one stays (get_or kept k d) (was (number (get_or kept k d))) (seen (number (get_or kept k d))) (more (number (get_or kept k d))) (are k d within)).0;
    same = λ was seen more are. same_told stays was seen more kept are;
  }

  -- a call that isn't noted
  pub noted_none : (all : Bool) (request : Request) (reply : Reply) (kept new : List N) → Stays → (all || is_done reply.outcome) ≡ false → new ≡ kept
      → IsNoted number tells is_within all request reply kept new
  noted_none all request reply kept new stays not same =
      let tell : TellMore number tells is_within kept = tell_more stays kept in
      let Noted : List N → Type 0 = λ w. IsNoted number tells is_within all request reply kept w in
      let none : (before : List Note) → before ≡ before ++ notes_of_call all request reply = λ before. rw (not, append-nil before) refl in
      subst Noted (sym same) (record {
        within = λ was seen more are stored. tell.within was seen more are;
        same = λ was seen more are stored. tell.same was seen more are ∙ none (told number tells was kept);
        few = omega arith;
        of_shard = λ of_shard. of_shard;
      })

  -- a call that is noted
  pub noted_one : (all : Bool) (request : Request) (reply : Reply) (kept new : List N) (note : N) → Stays
      → (all || is_done reply.outcome) ≡ true → new ≡ kept ++ note ∷ [] → number note ≡ shard_of (key_of request)
      → ((history : List Request) → (is_done reply.outcome ≡ true → slice_get history reply.place ≡ Some request) → is_within note history)
      → ((history : List Request) → (is_done reply.outcome ≡ true → slice_get history reply.place ≡ Some request)
      → tells note history ≡ record { shard = shard_of (key_of request); request = request; reply = reply })
      → IsNoted number tells is_within all request reply kept new
  noted_one all request reply kept new note stays is same here within tells_it =
      let tell : TellMore number tells is_within kept = tell_more stays kept in
      let Noted : List N → Type 0 = λ w. IsNoted number tells is_within all request reply kept w in
      let kept_one : (before : List Note) → before ++ record { shard = shard_of (key_of request); request = request; reply = reply } ∷ [] ≡ before ++ notes_of_call all request reply =
      λ before. rw is refl in
      subst Noted (sym same) (record {
        within = λ was seen more are stored.
            let Within : ℕ → Type 0 = λ n. is_within note (seen n) in
            All-push (λ n. is_within n (seen (number n))) kept note (tell.within was seen more are) (subst Within (sym here) (within (seen (shard_of (key_of request))) stored));
        same = λ was seen more are stored.
            let one : tells note (seen (number note)) ≡ record { shard = shard_of (key_of request); request = request; reply = reply } =
            ap (λ n. tells note (seen n)) here ∙ tells_it (seen (shard_of (key_of request))) stored in
            map-append (λ n. tells n (seen (number n))) kept (note ∷ [])
            ∙ (ap (λ w. w ++ tells note (seen (number note)) ∷ []) (tell.same was seen more are)
            ∙ (ap (λ x. told number tells was kept ++ x ∷ []) one ∙ kept_one (told number tells was kept)));
        few = omega (arith, length-append kept (note ∷ []));
        of_shard = λ of_shard. All-push (λ n. number n ≡ shard_of (key_of request)) kept note of_shard here;
      })

  -- notes that are all of one shard tell what they tell of it alone
  pub told_one : (shard : ℕ) (seen : ℕ → List Request) (log : List Acceptance) (kept : List N) → All (λ note. number note ≡ shard) kept → seen shard ≡ requests log
      → told number tells seen kept ≡ told number tells (λ _. requests log) kept
  told_one shard seen log [] of_shard is = refl
  told_one shard seen log (note ∷ rest) of_shard is =
      let here : seen (number note) ≡ requests log = ap seen (of_shard 0 note (omega arith)) ∙ is in
      let head : tells note (seen (number note)) ≡ tells note (requests log) = ap (λ w. tells note w) here in
      let behind : told number tells seen rest ≡ told number tells (λ _. requests log) rest = told_one shard seen log rest (λ k d within. of_shard (suc k) d (omega (arith, within))) is in
      λ i. head i ∷ behind i

  pub within_one : (shard : ℕ) (seen : ℕ → List Request) (log : List Acceptance) (kept : List N) → AreKeptOf number is_within shard log kept → seen shard ≡ requests log
      → AreWithin number is_within seen kept
  within_one shard seen log kept are is k d within =
      let Within : List Request → Type 0 = λ w. is_within (get_or kept k d) w in
      subst Within (sym (ap seen (are.of_shard k d within) ∙ is)) (are.within k d within)

-- a seat's notes after a call
pub kept_call : {N : Type 0} {number : N → ℕ} {tells : N → List Request → Note} {is_within : N → List Request → Type 0} {notes_all : Bool} {old new : List N} {all : Bool}
    {request : Request} {reply : Reply} (was seen : ℕ → List Request) → AreKept number is_within notes_all was old all
    → IsNoted number tells is_within all request reply old new → SeesMore was seen → IsSeen seen request reply
    → AreKept number is_within notes_all seen new all × (told number tells seen new ≡ told number tells was old ++ notes_of_call all request reply)
kept_call was seen are noted more stored =
    (record { within = noted.within was seen more are.within stored; may = are.may }, noted.same was seen more are.within stored)

-- a seat's notes where it has seen more
pub kept_more : {N : Type 0} {number : N → ℕ} {tells : N → List Request → Note} {is_within : N → List Request → Type 0} {notes_all : Bool} {kept : List N} {all : Bool}
    (was seen : ℕ → List Request) → AreKept number is_within notes_all was kept all → TellMore number tells is_within kept → SeesMore was seen
    → AreKept number is_within notes_all seen kept all × (told number tells seen kept ≡ told number tells was kept)
kept_more was seen are tell more = (record { within = tell.within was seen more are.within; may = are.may }, tell.same was seen more are.within)

-- the notes of one shard after a call there
pub kept_of_call : {N : Type 0} {number : N → ℕ} {tells : N → List Request → Note} {is_within : N → List Request → Type 0} {all : Bool} {request : Request} {reply : Reply}
    {rules : ShardRules} {kept more : List N} {old new : Parted} → IsStepped rules old request reply new → shard_of (key_of request) ≡ rules.number
    → IsNoted number tells is_within all request reply kept more → AreKeptOf number is_within rules.number old.sight.seen kept
    → AreKeptOf number is_within rules.number new.sight.seen more
    × ((told_of number tells new more).notes ≡ (told_of number tells old kept).notes ++ notes_of_call all request reply)
kept_of_call {N} {number} {tells} {is_within} {all} {request} {reply} {rules} {kept} {more} {old} {new} step here noted are =
    let OfShard : ℕ → Type 0 = λ n. All (λ note. number note ≡ n) kept → All (λ note. number note ≡ n) more in
    let was : ℕ → List Request = λ _. requests old.sight.seen in
    let seen : ℕ → List Request = λ _. requests new.sight.seen in
    let longer : SeesMore was seen = λ _. seen_longer step in
    let stored : IsSeen seen request reply = stored_step step in (
      record { of_shard = subst OfShard here noted.of_shard are.of_shard; within = noted.within was seen longer are.within stored },
      noted.same was seen longer are.within stored,
    )

-- a seat's notes with those of both shards behind them
pub kept_three : {N : Type 0} {number : N → ℕ} {tells : N → List Request → Note} {is_within : N → List Request → Type 0} {notes_all : Bool} {kept : List N} {all : Bool}
    {ones others : List N} (first second : Parted) (was seen : ℕ → List Request) (total : List N) → AreKept number is_within notes_all was kept all
    → TellMore number tells is_within kept → SeesMore was seen → AreKeptOf number is_within 0 first.sight.seen ones → AreKeptOf number is_within 1 second.sight.seen others
    → seen 0 ≡ requests first.sight.seen → seen 1 ≡ requests second.sight.seen → total ≡ (kept ++ ones) ++ others
    → AreKept number is_within notes_all seen total all
    × (told number tells seen total ≡ (told number tells was kept ++ (told_of number tells first ones).notes) ++ (told_of number tells second others).notes)
kept_three {N} {number} {tells} {is_within} {notes_all} {kept} {all} {ones} {others} first second was seen total are tell more are_ones are_others is_first is_second same =
    let P : N → Type 0 = λ n. is_within n (seen (number n)) in
    let Within : List N → Type 0 = λ w. AreWithin number is_within seen w in
    let Told : List N → Type 0 = λ w. told number tells seen w ≡ (told number tells was kept ++ (told_of number tells first ones).notes) ++ (told_of number tells second others).notes in
    let still : AreWithin number is_within seen kept = tell.within was seen more are.within in
    let one : told number tells seen ones ≡ (told_of number tells first ones).notes = told_one number tells is_within 0 seen first.sight.seen ones are_ones.of_shard is_first in
    let other : told number tells seen others ≡ (told_of number tells second others).notes = told_one number tells is_within 1 seen second.sight.seen others are_others.of_shard is_second in (
      record {
        within = subst Within (sym same)
            (All-append P (kept ++ ones) others
            (All-append P kept ones still (within_one number tells is_within 0 seen first.sight.seen ones are_ones is_first))
            (within_one number tells is_within 1 seen second.sight.seen others are_others is_second));
        may = are.may;
      },
      subst Told (sym same)
          (map-append (λ n. tells n (seen (number n))) (kept ++ ones) others
          ∙ (ap (λ w. w ++ told number tells seen others) (map-append (λ n. tells n (seen (number n))) kept ones)
          ∙ (ap (λ w. (w ++ told number tells seen ones) ++ told number tells seen others) (tell.same was seen more are.within)
          ∙ (ap (λ w. (told number tells was kept ++ w) ++ told number tells seen others) one
          ∙ ap (λ w. (told number tells was kept ++ (told_of number tells first ones).notes) ++ w) other)))),
    )

-- no notes are kept
pub kept_none : {N : Type 0} (number : N → ℕ) (is_within : N → List Request → Type 0) (shard : ℕ) (log : List Acceptance) (kept : List N) → kept ≡ []
    → AreKeptOf number is_within shard log kept
kept_none {N} number is_within shard log kept none =
    let Kept : List N → Type 0 = λ w. AreKeptOf number is_within shard log w in
    subst Kept (sym none) (record { of_shard = λ k d within. absurd (omega (arith, within)); within = λ k d within. absurd (omega (arith, within)) })

-- as many notes are told as are kept
pub told_length : {N : Type 0} (number : N → ℕ) (tells : N → List Request → Note) (part : Parted) (kept : List N) → length (told_of number tells part kept).notes ≡ length kept
told_length number tells part kept = length-map kept (λ note. tells note (requests part.sight.seen))

-- and they are of the shard
pub told_shard : {N : Type 0} {number : N → ℕ} {is_within : N → List Request → Type 0} {shard : ℕ} {kept : List N} (tells : N → List Request → Note) (part : Parted)
    → ((note : N) (history : List Request) → (tells note history).shard ≡ number note) → AreKeptOf number is_within shard part.sight.seen kept
    → AreNotesOf shard (told_of number tells part kept).notes
told_shard {N} {number} {is_within} {shard} {kept} tells part law are =
    All-map (λ (note : Note). note.shard ≡ shard) (λ note. tells note (requests part.sight.seen)) kept
    (λ k d within. law (get_or kept k d) (requests part.sight.seen) ∙ are.of_shard k d within)
