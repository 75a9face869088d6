-- What a crash leaves in each of the two steps in which a group is added.
use Rattle.std.proofs.Common.{◌≡◌, ◌≢◌, ◌⊎◌, inl, inr, ℕ, ◌+◌, ◌<◌, ◌≤◌, List, [], ◌∷◌, ◌++◌, length, get_or, take, drop, All, sym, ◌∙◌, ap, arith, append_assoc, length-append, length-drop, take-append-drop}
use Rattle.std.proofs.lemmas.Bool.{cases_eq}
use Rattle.std.proofs.lemmas.List.{take_at, drop_at, drop_more}
use Rattle.std.proofs.lemmas.List.Elements.{All-append}
use Rattle.mds_journal.specs.Device.{Holds, Torn}
use Rattle.mds_journal.specs.Lines.{HasNoFeed, recovered_texts, open_lines, at_rest}
use Rattle.mds_journal.specs.Journal.{IsKept, IsStaged, HasShortEnd, IsBeforeOrAfter}
use Rattle.mds_journal.specs.declared.group.TheConstants.{MAX_GROUP_BYTES}
use Rattle.mds_journal.proofs.LineLemmas.{recovered_closed, open_lines-append, length-at_rest}

-- a file at rest stands for its texts, whatever stands behind its gate
pub kept_stands : (texts : List (List ℕ)) (file : List ℕ) → All HasNoFeed texts → IsKept texts file → recovered_texts file ≡ texts
kept_stands texts file none kept =
    ap recovered_texts (kept.split ∙ append_assoc (open_lines texts) (35 ∷ []) kept.rest) ∙ recovered_closed texts 35 kept.rest none (omega arith)

pub kept_length : (texts : List (List ℕ)) (file : List ℕ) (kept : IsKept texts file) → length file ≡ length (open_lines texts) + 1 + length kept.rest
kept_length texts file kept = omega (arith, ap length kept.split, length-append (at_rest texts) kept.rest, length-at_rest texts)

-- and its end is short
pub kept_short : (texts : List (List ℕ)) (file : List ℕ) → All HasNoFeed texts → IsKept texts file → HasShortEnd file
kept_short texts file none kept =
    omega (arith, kept_length texts file kept, kept.few, ap (λ (all : List (List ℕ)). length (open_lines all)) (kept_stands texts file none kept))

-- so it is one from before
pub kept_before : (texts group : List (List ℕ)) (file : List ℕ) → All HasNoFeed texts → IsKept texts file → IsBeforeOrAfter texts group file
kept_before texts group file none kept = record { lines = inl (kept_stands texts file none kept); short = kept_short texts file none kept }

-- or one from after
pub kept_after : (texts group : List (List ℕ)) (file : List ℕ) → All HasNoFeed texts → All HasNoFeed group → IsKept (texts ++ group) file → IsBeforeOrAfter texts group file
kept_after texts group file none none_new kept =
    let all = All-append HasNoFeed texts group none none_new in
    record { lines = inr (kept_stands (texts ++ group) file all kept); short = kept_short (texts ++ group) file all kept }

-- what stands behind an open gate, with what is behind it
opened : (texts group : List (List ℕ)) (bytes rest : List ℕ) → 32 ∷ bytes ≡ at_rest group → open_lines texts ++ 32 ∷ (bytes ++ rest) ≡ at_rest (texts ++ group) ++ rest
opened texts group bytes rest whole =
    ap (λ (all : List ℕ). open_lines texts ++ (all ++ rest)) whole
    ∙ sym (append_assoc (open_lines texts) (at_rest group) rest)
    ∙ ap (λ (all : List ℕ). all ++ rest) (sym (append_assoc (open_lines texts) (open_lines group) (35 ∷ [])) ∙ ap (λ (all : List ℕ). all ++ 35 ∷ []) (sym (open_lines-append texts group)))

module _ (texts : List (List ℕ)) (at : ℕ) (place : at ≡ length (open_lines texts)) where
  size : length (at_rest texts) ≡ at + 1
  size = omega (arith, length-at_rest texts)

  -- a file at rest reaches behind its gate
  pub kept_reaches : (file : List ℕ) → IsKept texts file → at + 1 ≤ length file
  kept_reaches file kept = omega (arith, kept_length texts file kept)

  -- the closed gate stands in each outcome of the first write
  pub torn_behind : (n : ℕ) (old new : List ℕ) → n < MAX_GROUP_BYTES → IsKept texts old → Torn (at + 1) n old new → IsKept texts new
  torn_behind n old new few kept torn = record {
    rest = drop (at + 1) new;
    split = sym (take-append-drop (at + 1) new)
        ∙ ap (λ (all : List ℕ). all ++ drop (at + 1) new) (torn.before ∙ ap (λ (all : List ℕ). take (at + 1) all) kept.split ∙ take_at (at_rest texts) kept.rest (at + 1) size);
    few = omega (arith, length-drop (at + 1) new, torn.no_longer, kept_length texts old kept, kept.few, few);
  }

  pub written_behind : (bytes old new : List ℕ) → length bytes < MAX_GROUP_BYTES → IsKept texts old → Holds old (at + 1) bytes new → IsStaged texts bytes new
  written_behind bytes old new few kept holds =
      let rest = drop (at + 1 + length bytes) old in
      record {
        rest = rest;
        split = holds
            ∙ ap (λ (all : List ℕ). all ++ bytes ++ rest) (ap (λ (all : List ℕ). take (at + 1) all) kept.split ∙ take_at (at_rest texts) kept.rest (at + 1) size)
            ∙ append_assoc (at_rest texts) bytes rest;
        few = omega (arith, length-drop (at + 1 + length bytes) old, kept_length texts old kept, kept.few, few);
      }

  module _ (bytes file : List ℕ) (staged : IsStaged texts bytes file) where
    abbrev behind : List ℕ
    behind = bytes ++ staged.rest

    staged_split : file ≡ open_lines texts ++ 35 ∷ behind
    staged_split = staged.split ∙ append_assoc (open_lines texts) (35 ∷ []) behind

    front : take at file ≡ open_lines texts
    front = ap (λ (all : List ℕ). take at all) staged_split ∙ take_at (open_lines texts) (35 ∷ behind) at (sym place)

    back : drop (at + 1) file ≡ behind
    back = ap (λ (all : List ℕ). drop (at + 1) all) staged.split ∙ drop_at (at_rest texts) behind (at + 1) size

    pub staged_length : length file ≡ at + 1 + length bytes + length staged.rest
    staged_length = omega (arith, ap length staged.split, length-append (at_rest texts) behind, length-append bytes staged.rest, size)

    pub staged_reaches : at ≤ length file
    staged_reaches = omega (arith, staged_length)

    -- any gate stands before the group in the outcomes of the second write
    gate_torn : (new : List ℕ) → Torn at 1 file new → new ≡ open_lines texts ++ get_or new at 0 ∷ behind
    gate_torn new torn =
        let long : at < length new = omega (arith, staged_length, torn.no_shorter) in
        sym (take-append-drop at new)
        ∙ ap (λ (all : List ℕ). all ++ drop at new) (torn.before ∙ front)
        ∙ ap (λ (all : List ℕ). open_lines texts ++ all) (drop_more new at 0 long ∙ ap (λ (all : List ℕ). get_or new at 0 ∷ all) (torn.after ∙ back))

    pub torn_gate : (group : List (List ℕ)) (new : List ℕ) → All HasNoFeed texts → All HasNoFeed group → 32 ∷ bytes ≡ at_rest group → Torn at 1 file new → IsBeforeOrAfter texts group new
    torn_gate group new none none_new whole torn = by_gate (cases_eq (get_or new at 0) 32)
      where
        by_gate : (get_or new at 0 ≡ 32) ⊎ (get_or new at 0 ≢ 32) → IsBeforeOrAfter texts group new
        by_gate (inl is_open) = kept_after texts group new none none_new (record {
          rest = staged.rest;
          split = gate_torn new torn ∙ ap (λ (gate : ℕ). open_lines texts ++ gate ∷ behind) is_open ∙ opened texts group bytes staged.rest whole;
          few = omega (arith, staged.few);
        })
        by_gate (inr shut) =
            let stands : recovered_texts new ≡ texts = ap recovered_texts (gate_torn new torn) ∙ recovered_closed texts (get_or new at 0) behind none shut in
            record {
              lines = inl stands;
              short = omega (arith, staged_length, staged.few, torn.no_longer, ap (λ (all : List (List ℕ)). length (open_lines all)) stands);
            }

    pub written_gate : (group : List (List ℕ)) (new : List ℕ) → 32 ∷ bytes ≡ at_rest group → Holds file at (32 ∷ []) new → IsKept (texts ++ group) new
    written_gate group new whole holds = record {
      rest = staged.rest;
      split = holds
          ∙ ap (λ (all : List ℕ). all ++ (32 ∷ []) ++ drop (at + 1) file) front
          ∙ ap (λ (all : List ℕ). open_lines texts ++ (32 ∷ []) ++ all) back
          ∙ append_assoc (open_lines texts) (32 ∷ []) behind
          ∙ opened texts group bytes staged.rest whole;
      few = omega (arith, staged.few);
    }
