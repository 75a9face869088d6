-- How a group is added.
use Rattle.std.proofs.Common.{◌≡◌, ℕ, ◌+◌, ◌-◌, ◌<◌, ◌≤◌, List, [], ◌∷◌, ◌++◌, length, take, drop, All, refl, sym, ◌∙◌, ap, subst, arith, length-append, Result, Ok, Err, OnOk, OnErr}
use Rattle.std.proofs.lemmas.List.{take_rest}
use Rattle.std.proofs.lemmas.List.Elements.{All-append}
use Rattle.mds_journal.specs.Device.{Holds, Torn, TornFrom, Follows, Only, LeavesOnly}
use Rattle.mds_journal.specs.Lines.{HasNoFeed, recovered_texts, open_lines, at_rest}
use Rattle.mds_journal.specs.Journal.{IsKept, IsStaged, IsBeforeOrAfter, IsReady, StandsFor}
use Rattle.mds_journal.specs.declared.device.DeviceError.{DeviceError}
use Rattle.mds_journal.specs.declared.group.TheConstants.{MAX_GROUP_BYTES}
use Rattle.mds_journal.specs.declared.journal.Journal.{Journal}
use Rattle.mds_journal.proofs.LineLemmas.{open_lines-append, length-at_rest, texts_have_no_feed}
use Rattle.mds_journal.proofs.CallLemmas.{torn_written}
use Rattle.mds_journal.proofs.MomentLemmas.{started, weaker, and_then}
use Rattle.mds_journal.proofs.KeptLemmas.{kept_stands, kept_reaches, kept_before, torn_behind, written_behind, torn_gate, written_gate}

-- the bytes of a group with lines begin with an open gate
pub group_first : (group : List (List ℕ)) (all : List ℕ) → all ≡ at_rest group → (group ≡ [] → ⊥) → 32 ∷ drop 1 all ≡ at_rest group
group_first [] all is some = absurd (some refl)
group_first (text ∷ group) all is some = ap (λ (bytes : List ℕ). 32 ∷ drop 1 bytes) is

-- the bytes of a group but the first
pub record AreBehind (group : List (List ℕ)) (all bytes : List ℕ) : Type 0 where
  pub none : All HasNoFeed group
  pub whole : 32 ∷ bytes ≡ at_rest group
  pub few : length bytes < MAX_GROUP_BYTES
  pub size : length all ≡ length bytes + 1

pub are_behind : (group : List (List ℕ)) (all : List ℕ) → recovered_texts all ≡ group → all ≡ at_rest group → length all ≤ MAX_GROUP_BYTES → (group ≡ [] → ⊥)
    → AreBehind group all (take (length all - 1) (drop 1 all))
are_behind group all texts is short some =
    let bytes = take (length all - 1) (drop 1 all) in
    let whole : 32 ∷ bytes ≡ at_rest group = ap (λ (l : List ℕ). 32 ∷ l) (take_rest all 1) ∙ group_first group all is some in
    let size : length all ≡ length bytes + 1 = omega (arith, ap length whole, ap length is) in
    record {
      none = subst (λ (ts : List (List ℕ)). All HasNoFeed ts) texts (texts_have_no_feed all);
      whole = whole;
      few = omega (arith, size, short);
      size = size;
    }

module _ {D : Type 0} (seen : D → List ℕ) (may_leave : D → List ℕ → Type 0) where
  -- a journal whose file and outcomes are kept is ready
  pub ready_at : (texts : List (List ℕ)) (journal : Journal D) → All HasNoFeed texts → journal.end ≡ length (open_lines texts) → IsKept texts (seen journal.device)
      → ((c : List ℕ) → may_leave journal.device c → IsKept texts c) → IsReady seen may_leave journal
  ready_at texts journal none place kept outcomes =
      let same : texts ≡ recovered_texts (seen journal.device) = sym (kept_stands texts (seen journal.device) none kept) in
      record {
        place = place ∙ ap (λ (all : List (List ℕ)). length (open_lines all)) same;
        file = subst (λ (all : List (List ℕ)). IsKept all (seen journal.device)) same kept;
        outcomes = λ c left. subst (λ (all : List (List ℕ)). IsKept all c) same (outcomes c left);
      }

  -- and then file and outcomes stand for the texts
  pub ready_stands : (texts : List (List ℕ)) (journal : Journal D) → IsReady seen may_leave journal × (recovered_texts (seen journal.device) ≡ texts) → StandsFor seen may_leave texts journal.device
  ready_stands texts journal both = record {
    now = both.1;
    outcomes = λ c left. kept_stands (recovered_texts (seen journal.device)) c (texts_have_no_feed (seen journal.device)) (both.0.outcomes c left) ∙ both.1;
  }

  module _ (old : Journal D) (ready : IsReady seen may_leave old) (group : List (List ℕ)) where
    abbrev pub texts : List (List ℕ)
    texts = recovered_texts (seen old.device)

    pub none : All HasNoFeed texts
    none = texts_have_no_feed (seen old.device)

    -- before the first call
    pub group_starts : (moment : D → ℕ) (left_since : D → ℕ → List ℕ → Type 0) → ((c : List ℕ) → left_since old.device (moment old.device) c → may_leave old.device c)
        → LeavesOnly moment left_since old.device old.device (IsBeforeOrAfter texts group)
    group_starts moment left_since only =
        started moment left_since old.device (IsBeforeOrAfter texts group) (λ c left. kept_before texts group c none (ready.outcomes c (only c left)))

    module _ (n : ℕ) (few : n < MAX_GROUP_BYTES) where
      -- after the first step the texts are those from before
      pub still_kept : (c : List ℕ) → TornFrom (old.end + 1) n (may_leave old.device) c → IsKept texts c
      still_kept c from = torn_behind texts old.end ready.place n from.0 c few (ready.outcomes from.0 from.1) from.2

      pub first_leaves : (moment : D → ℕ) (left_since : D → ℕ → List ℕ → Type 0) (mid : D)
          → LeavesOnly moment left_since old.device mid (TornFrom (old.end + 1) n (may_leave old.device)) → LeavesOnly moment left_since old.device mid (IsBeforeOrAfter texts group)
      first_leaves moment left_since mid leaves =
          weaker moment left_since old.device mid (TornFrom (old.end + 1) n (may_leave old.device)) (IsBeforeOrAfter texts group) (λ c from. kept_before texts group c none (still_kept c from)) leaves

      -- a write that failed leaves it ready
      pub not_written : (new : Journal D) → new.end ≡ old.end → Torn (old.end + 1) n (seen old.device) (seen new.device)
          → Follows (Torn (old.end + 1) n) (may_leave old.device) (may_leave new.device) → IsReady seen may_leave new × (recovered_texts (seen new.device) ≡ texts)
      not_written new same torn crash =
          let kept : IsKept texts (seen new.device) = torn_behind texts old.end ready.place n (seen old.device) (seen new.device) few ready.file torn in
          (ready_at texts new none (same ∙ ready.place) kept (λ c left. still_kept c (crash c left)), kept_stands texts (seen new.device) none kept)

    module _ (bytes : List ℕ) (few : length bytes < MAX_GROUP_BYTES) (none_new : All HasNoFeed group) (whole : 32 ∷ bytes ≡ at_rest group) (mid : D)
        (written : Holds (seen old.device) (old.end + 1) bytes (seen mid)) (durable : Only (seen mid) (may_leave mid)) where
      pub staged : IsStaged texts bytes (seen mid)
      staged = written_behind texts old.end ready.place bytes (seen old.device) (seen mid) few ready.file written

      -- the second step leaves them with the group or without it
      pub second_leaves : (moment : D → ℕ) (left_since : D → ℕ → List ℕ → Type 0) (new : D)
          → LeavesOnly moment left_since mid new (TornFrom old.end 1 (may_leave mid)) → LeavesOnly moment left_since mid new (IsBeforeOrAfter texts group)
      second_leaves moment left_since new leaves =
          weaker moment left_since mid new (TornFrom old.end 1 (may_leave mid)) (IsBeforeOrAfter texts group)
          (λ c from. torn_gate texts old.end ready.place bytes (seen mid) staged group c none none_new whole (subst (λ (d : List ℕ). Torn old.end 1 d c) (durable from.0 from.1) from.2))
          leaves

      -- and then the group is on the disk
      pub group_added : (new : Journal D) → new.end ≡ old.end + length bytes → Holds (seen mid) old.end (32 ∷ []) (seen new.device) → Only (seen new.device) (may_leave new.device)
          → IsReady seen may_leave new × (recovered_texts (seen new.device) ≡ texts ++ group)
      group_added new moved opened only =
          let all : List (List ℕ) = texts ++ group in
          let none_all : All HasNoFeed all = All-append HasNoFeed texts group none none_new in
          let kept : IsKept all (seen new.device) = written_gate texts old.end ready.place bytes (seen mid) staged group (seen new.device) whole opened in
          let place : new.end ≡ length (open_lines all) =
          omega (arith, moved, ready.place, ap length (open_lines-append texts group), length-append (open_lines texts) (open_lines group), ap length whole, length-at_rest group) in
          (ready_at all new none_all place kept (λ c left. subst (λ (f : List ℕ). IsKept all f) (sym (only c left)) kept), kept_stands all (seen new.device) none_all kept)

      -- both steps
      pub both_leave : (moment : D → ℕ) (left_since : D → ℕ → List ℕ → Type 0) (new : D)
          → LeavesOnly moment left_since old.device mid (TornFrom (old.end + 1) (length bytes) (may_leave old.device))
          → LeavesOnly moment left_since mid new (TornFrom old.end 1 (may_leave mid)) → LeavesOnly moment left_since old.device new (IsBeforeOrAfter texts group)
      both_leave moment left_since new one two =
          and_then moment left_since old.device mid new (IsBeforeOrAfter texts group) (first_leaves (length bytes) few moment left_since mid one) (second_leaves moment left_since new two)

  module _ (old : Journal D) (ready : IsReady seen may_leave old) (room : List ℕ) (few : length room < MAX_GROUP_BYTES) where
    -- room that was made, or not, leaves it ready
    pub room_made : (is_true : Type 0) (result : Result (Unit {0}) DeviceError) (new : Journal D) → is_true → new.end ≡ old.end
        → OnOk result (is_true → Holds (seen old.device) (old.end + 1) room (seen new.device)) → OnErr result (is_true → Torn (old.end + 1) (length room) (seen old.device) (seen new.device))
        → Follows (Torn (old.end + 1) (length room)) (may_leave old.device) (may_leave new.device) → IsReady seen may_leave new × (recovered_texts (seen new.device) ≡ recovered_texts (seen old.device))
    room_made is_true (Ok unit) new is same written torn crash =
        let reaches : old.end + 1 ≤ length (seen old.device) = kept_reaches (recovered_texts (seen old.device)) old.end ready.place (seen old.device) ready.file in
        not_written old ready [] (length room) few new same (subst (λ (file : List ℕ). Torn (old.end + 1) (length room) (seen old.device) file) (sym (written is)) (torn_written (old.end + 1) room (seen old.device) reaches)) crash
    room_made is_true (Err error) new is same written torn crash = not_written old ready [] (length room) few new same (torn is) crash

    -- and a crash meanwhile leaves the same lines
    pub room_leaves : (moment : D → ℕ) (left_since : D → ℕ → List ℕ → Type 0) (mid : D)
        → LeavesOnly moment left_since old.device mid (TornFrom (old.end + 1) (length room) (may_leave old.device)) → LeavesOnly moment left_since old.device mid (IsKept (recovered_texts (seen old.device)))
    room_leaves moment left_since mid leaves =
        weaker moment left_since old.device mid (TornFrom (old.end + 1) (length room) (may_leave old.device)) (IsKept (recovered_texts (seen old.device))) (still_kept old ready [] (length room) few) leaves

-- a group behind that
pub room_and_group : {D : Type 0} (seen : D → List ℕ) (moment : D → ℕ) (left_since : D → ℕ → List ℕ → Type 0) (old mid new : D) (group : List (List ℕ))
    → recovered_texts (seen mid) ≡ recovered_texts (seen old) → LeavesOnly moment left_since old mid (IsKept (recovered_texts (seen old)))
    → LeavesOnly moment left_since mid new (IsBeforeOrAfter (recovered_texts (seen mid)) group) → LeavesOnly moment left_since old new (IsBeforeOrAfter (recovered_texts (seen old)) group)
room_and_group seen moment left_since old mid new group same one two =
    let texts = recovered_texts (seen old) in
    and_then moment left_since old mid new (IsBeforeOrAfter texts group)
    (weaker moment left_since old mid (IsKept texts) (IsBeforeOrAfter texts group) (λ c kept. kept_before texts group c (texts_have_no_feed (seen old)) kept) one)
    (subst (λ (all : List (List ℕ)). LeavesOnly moment left_since mid new (IsBeforeOrAfter all group)) same two)
