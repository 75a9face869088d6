-- How the lines of a file are read.
use Rattle.std.proofs.Common.{◌≡◌, ◌≢◌, ◌⊎◌, inl, inr, Bool, true, cond, ℕ, ◌+◌, ◌-◌, ◌<◌, ◌≤◌, List, [], ◌∷◌, ◌++◌, length, take, drop, slice_index, refl, sym, ◌∙◌, ap, arith, append_assoc, append-nil, length-append, length-drop, take-append-drop, take-add, drop-drop}
use Rattle.std.proofs.lemmas.Bool.{cond-true}
use Rattle.std.proofs.lemmas.List.{take_at, drop_at, drop_more, drop_all, take_rest, length-take-le}
use Rattle.std.proofs.lemmas.List.Elements.{All-push}
use Rattle.mds_journal.specs.Device.{ReadsAt}
use Rattle.mds_journal.specs.Lines.{HasNoFeed, recovered_texts, open_lines}
use Rattle.mds_journal.specs.Opening.{AreLines, GoesOn, IsTooLong, IsFound}
use Rattle.mds_journal.specs.declared.opening.Found.TheVariants.{Line, Shut, More}
use Rattle.mds_journal.proofs.LineLemmas.{recovered_line, recovered_torn, recovered_shut, open_lines-append}

-- the text that is copied out of the bytes that were read
pub line_taken : (now items cleared line : List ℕ) (next size : ℕ) (done : Bool) → now ≡ items → cleared ≡ [] → done ≡ true
    → line ≡ cond done (cleared ++ take (next + 1 + size - (next + 1)) (drop (next + 1) now)) cleared → line ≡ take size (drop 1 (drop next items))
line_taken now items cleared line next size done same none is copied =
    let count : next + 1 + size - (next + 1) ≡ size = omega arith in
    copied
    ∙ cond-true done (cleared ++ take (next + 1 + size - (next + 1)) (drop (next + 1) now)) cleared is
    ∙ ap (λ (l : List ℕ). l ++ take (next + 1 + size - (next + 1)) (drop (next + 1) now)) none
    ∙ ap (λ (n : ℕ). take n (drop (next + 1) now)) count
    ∙ ap (λ (l : List ℕ). take size (drop (next + 1) l)) same
    ∙ ap (λ (l : List ℕ). take size l) (sym (drop-drop 1 next items))

-- the bytes at hand, and what a read gave behind them
pub both_held : (now items bytes got : List ℕ) (next : ℕ) → now ≡ items → bytes ≡ take (length now - next) (drop next now) ++ got → bytes ≡ drop next items ++ got
both_held now items bytes got next same is = is ∙ ap (λ (l : List ℕ). l ++ got) (take_rest now next ∙ ap (λ (l : List ℕ). drop next l) same)

-- ---- what bytes say of the line that they begin with

pub found_line : (bytes : List ℕ) (at : ℕ) → 0 < length bytes → slice_index bytes 0 ≡ 32 → at < length (drop 1 bytes) → slice_index (drop 1 bytes) at ≡ 10 → HasNoFeed (take at (drop 1 bytes)) → IsFound bytes (Line at)
found_line [] at some is_open less feed none = absurd (omega arith)
found_line (gate ∷ bytes) at some is_open less feed none = (
  less,
  ap (λ (g : ℕ). g ∷ bytes) is_open
      ∙ ap (λ (all : List ℕ). 32 ∷ all) (sym (take-append-drop at bytes) ∙ ap (λ (all : List ℕ). take at bytes ++ all) (drop_more bytes at 0 less ∙ ap (λ (b : ℕ). b ∷ drop (at + 1) bytes) feed)),
  none,
)

pub found_shut : (bytes : List ℕ) → 0 < length bytes → slice_index bytes 0 ≢ 32 → IsFound bytes Shut
found_shut [] some shut = absurd (omega arith)
found_shut (gate ∷ bytes) some shut = (gate, bytes, refl, shut)

pub found_more : (bytes : List ℕ) → 0 < length bytes → slice_index bytes 0 ≡ 32 → HasNoFeed (drop 1 bytes) → IsFound bytes More
found_more [] some is_open none = absurd (omega arith)
found_more (gate ∷ bytes) some is_open none = inr (bytes, ap (λ (g : ℕ). g ∷ bytes) is_open, none)

-- where no more comes, an open line that isn't whole stands for nothing
pub more_nothing : (bytes : List ℕ) → IsFound bytes More → recovered_texts bytes ≡ []
more_nothing bytes (inl none) = ap recovered_texts none
more_nothing bytes (inr torn) = ap recovered_texts torn.1 ∙ recovered_torn torn.0 torn.2

module _ (file : List ℕ) (end : ℕ) (held : List ℕ) (ahead : GoesOn file end held) where
  -- behind a gate that isn't open nothing counts
  pub shut_nothing : IsFound held Shut → recovered_texts (drop end file) ≡ []
  shut_nothing found =
      ap recovered_texts (ahead.split ∙ ap (λ (all : List ℕ). all ++ ahead.rest) found.2) ∙ recovered_shut found.0 (found.1 ++ ahead.rest) found.3

  -- bytes at hand that are too many for a line
  pub more_too_long : (limit : ℕ) → IsFound held More → limit + 1 < length held → IsTooLong limit (drop end file)
  more_too_long limit (inl none) many = absurd (omega (arith, many, ap length none))
  more_too_long limit (inr torn) many =
      (torn.0, ahead.rest, ahead.split ∙ ap (λ (all : List ℕ). all ++ ahead.rest) torn.1, torn.2, omega (arith, many, ap length torn.1))

  -- ---- what a read adds to the bytes at hand

  behind_held : (at : ℕ) → at ≡ end + length held → drop at file ≡ ahead.rest
  behind_held at is =
      ap (λ (n : ℕ). drop n file) is ∙ sym (drop-drop (length held) end file) ∙ ap (λ (all : List ℕ). drop (length held) all) ahead.split ∙ drop_at held ahead.rest (length held) refl

  pub more_ahead : (at n : ℕ) (old new : List ℕ) → at ≡ end + length held → ReadsAt file at old new n → GoesOn file end (held ++ take n new)
  more_ahead at n old new is reads =
      let got : take n new ≡ take n ahead.rest = reads.bytes ∙ ap (λ (all : List ℕ). take n all) (behind_held at is) in
      record {
        rest = drop n ahead.rest;
        split = ahead.split
            ∙ ap (λ (all : List ℕ). held ++ all) (sym (take-append-drop n ahead.rest))
            ∙ sym (append_assoc held (take n ahead.rest) (drop n ahead.rest))
            ∙ ap (λ (all : List ℕ). held ++ all ++ drop n ahead.rest) (sym got);
      }

  pub none_ahead : (at : ℕ) → at ≡ end + length held → length file ≤ at → drop end file ≡ held
  none_ahead at is short =
      let none : ahead.rest ≡ [] = sym (behind_held at is) ∙ drop_all at file short in
      ahead.split ∙ ap (λ (all : List ℕ). held ++ all) none ∙ append-nil held

  by_end : (at size : ℕ) → at ≡ end + length held → 0 < size → (size ≡ 0) ⊎ (length file ≤ at) → drop end file ≡ held
  by_end at size is some (inl none) = absurd (omega (arith, none, some))
  by_end at size is some (inr short) = none_ahead at is short

  -- where a read gives nothing, all is at hand
  pub all_ahead : (at n : ℕ) (old new : List ℕ) → at ≡ end + length held → n ≡ 0 → 0 < length old → ReadsAt file at old new n → drop end file ≡ held
  all_ahead at n old new is none some reads = by_end at (length old) is some (reads.end none)

  -- ---- a line is handed out

  module _ (size : ℕ) (found : IsFound held (Line size)) where
    abbrev pub text : List ℕ
    text = take size (drop 1 held)

    abbrev line : List ℕ
    line = 32 ∷ (text ++ 10 ∷ [])

    abbrev more : List ℕ
    more = drop (size + 1) (drop 1 held)

    abbrev after : List ℕ
    after = more ++ ahead.rest

    pub text_length : length text ≡ size
    text_length = length-take-le size (drop 1 held) (omega (arith, found.0))

    line_length : length line ≡ size + 2
    line_length = omega (arith, length-append text (10 ∷ []), text_length)

    unread_is : drop end file ≡ 32 ∷ (text ++ 10 ∷ after)
    unread_is = ahead.split ∙ ap (λ (all : List ℕ). all ++ ahead.rest) found.1 ∙ ap (λ (all : List ℕ). 32 ∷ all) (append_assoc text (10 ∷ more) ahead.rest)

    line_first : drop end file ≡ line ++ after
    line_first = unread_is ∙ ap (λ (all : List ℕ). 32 ∷ all) (sym (append_assoc text (10 ∷ []) after))

    next_unread : drop (end + (size + 2)) file ≡ after
    next_unread =
        sym (drop-drop (size + 2) end file) ∙ ap (λ (all : List ℕ). drop (size + 2) all) line_first ∙ drop_at line after (size + 2) line_length

    pub next_recovered : recovered_texts (drop end file) ≡ text ∷ recovered_texts (drop (end + (size + 2)) file)
    next_recovered = ap recovered_texts unread_is ∙ recovered_line text after found.2 ∙ ap (λ (all : List ℕ). text ∷ recovered_texts all) (sym next_unread)

    pub next_within : end + (size + 2) ≤ length file
    next_within = omega (arith, length-drop end file, ap length line_first, length-append line after, line_length)

    pub next_lines : AreLines (take end file) → AreLines (take (end + (size + 2)) file)
    next_lines lines = record {
      texts = lines.texts ++ text ∷ [];
      none = All-push HasNoFeed lines.texts text lines.none found.2;
      split = take-add end (size + 2) file
          ∙ ap (λ (all : List ℕ). all ++ take (size + 2) (drop end file)) lines.split
          ∙ ap (λ (all : List ℕ). open_lines lines.texts ++ all) (ap (λ (all : List ℕ). take (size + 2) all) line_first ∙ take_at line after (size + 2) line_length)
          ∙ sym (open_lines-append lines.texts (text ∷ []));
    }

    pub next_ahead : GoesOn file (end + (size + 2)) (drop (size + 2) held)
    next_ahead =
        let held_next : drop (size + 2) held ≡ more =
        ap (λ (all : List ℕ). drop (size + 2) all) (found.1 ∙ ap (λ (all : List ℕ). 32 ∷ all) (sym (append_assoc text (10 ∷ []) more))) ∙ drop_at line more (size + 2) line_length in
        record { rest = ahead.rest; split = next_unread ∙ ap (λ (all : List ℕ). all ++ ahead.rest) (sym held_next) }

    pub line_too_long : (limit : ℕ) → limit < size → IsTooLong limit (drop end file)
    line_too_long limit many = (text, 10 ∷ after, unread_is, found.2, omega (arith, text_length, many))
