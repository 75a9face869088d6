-- Groups that are read one behind the other, and their texts.
use Rattle.std.proofs.Common.{◌≡◌, ℕ, ◌^◌, ◌≤◌, Vec, Global, List, ◌++◌, Result, Ok, Bool, Some, length, sym, ap, ◌∙◌, subst, arith, append_assoc, length-append}
use Rattle.std.proofs.lemmas.List.{length-map, map-append}
use Rattle.mds_journal.specs.Lines.{recovered_texts}
use Rattle.mds_journal.specs.Opening.{number_of}
use Rattle.mds_groups.specs.Entries.{numbers_from, AreEntries}
use Rattle.mds_groups.specs.Stream.{texts_of}
use Rattle.mds_groups.specs.declared.stream.WholeGroup.{WholeGroup}
use Rattle.mds_groups.proofs.EntryLemmas.{entries_both}
use Rattle.mds_follow.specs.Reading.{HasTexts, IsNextGroup}
use Rattle.mds_follow.specs.Pieces.{texts_in, IsEndBehind, StandBehind}
use Rattle.mds_follow.specs.declared.reader.RequestReader.{RequestReader}
use Rattle.mds_follow.specs.declared.start_fault.StartFault.{StartFault}
use Rattle.mds_follow.proofs.Readings.{few_read_texts}

module _ {D : Type 0} (seen : D → List ℕ) (is_true : D → Type 0) (old new : RequestReader D) (before : List (List ℕ)) (was : is_true new.opening.device → is_true old.opening.device)
    (same : is_true new.opening.device → seen new.opening.device ≡ seen old.opening.device) where
  abbrev old_lines : List (List ℕ)
  old_lines = recovered_texts (seen old.opening.device)

  abbrev new_lines : List (List ℕ)
  new_lines = recovered_texts (seen new.opening.device)

  -- this end comes behind the texts that were read
  pub stands_at : (texts : List (List ℕ)) (numbers : List ℕ) (end : Result Bool StartFault) → number_of old.opening ≤ 2 ^ 62 → HasTexts seen is_true old (before ++ texts)
      → (is_true old.opening.device → AreEntries old_lines before texts numbers) → IsEndBehind seen is_true new (before ++ texts) end
      → StandBehind seen is_true new before texts numbers end
  stands_at texts numbers end few has entries end_is = record {
    short = omega (arith, few_read_texts seen is_true old (before ++ texts) has, length-append before texts, few);
    entries = λ truth. subst (λ (w : List ℕ). AreEntries (recovered_texts w) before texts numbers) (sym (same truth)) (entries (was truth));
    end_is = end_is;
  }

  -- a group comes behind them
  module _ (lines : List (Vec ℕ Global)) (group : WholeGroup) (next : IsNextGroup seen is_true new (before ++ texts_in lines) (Ok (Some group))) where
    abbrev more : List (Vec ℕ Global)
    more = lines ++ group.texts.items

    texts_more : texts_in more ≡ texts_in lines ++ texts_of group
    texts_more = map-append {B = List ℕ} (λ (line : Vec ℕ Global). line.items) lines group.texts.items

    pub group_texts : HasTexts seen is_true new (before ++ texts_in more)
    group_texts =
        let all : (before ++ texts_in lines) ++ texts_of group ≡ before ++ texts_in more =
        append_assoc before (texts_in lines) (texts_of group) ∙ ap (λ (w : List (List ℕ)). before ++ w) (sym texts_more) in
        subst (HasTexts seen is_true new) all next.0

    pub group_entries : (numbers : List ℕ) → length numbers ≡ length lines → (is_true old.opening.device → AreEntries old_lines before (texts_in lines) numbers) → is_true new.opening.device
        → AreEntries new_lines before (texts_in more) (numbers ++ numbers_from group.first (length group.texts.items))
    group_entries numbers numbered entries truth =
        let others = numbers_from group.first (length group.texts.items) in
        let ones : AreEntries new_lines before (texts_in lines) numbers =
        subst (λ (w : List ℕ). AreEntries (recovered_texts w) before (texts_in lines) numbers) (sym (same truth)) (entries (was truth)) in
        let size : length numbers ≡ length (texts_in lines) = numbered ∙ sym (length-map lines (λ (line : Vec ℕ Global). line.items)) in
        subst (λ (w : List (List ℕ)). AreEntries new_lines before w (numbers ++ others)) (sym texts_more)
        (entries_both new_lines before (texts_in lines) (texts_of group) numbers others size ones (next.1 truth))
