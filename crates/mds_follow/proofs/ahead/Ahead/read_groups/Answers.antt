use Rattle.std.proofs.Common.{inl, inr, ◌^◌, ◌≤◌, ◌++◌, ◌∙◌, Vec, Global, List, ℕ, Ok, Err, Bool, true, false, Result, length, refl, sym, ap, subst, arith, length-append}
use Rattle.std.proofs.lemmas.Bool.{false≢true}
use Rattle.mds_journal.specs.Lines.{recovered_texts}
use Rattle.mds_journal.specs.Opening.{number_of}
use Rattle.mds_journal.proofs.MomentLemmas.{still_untouched}
use Rattle.mds_groups.specs.Entries.{numbers_from, AreEntries}
use Rattle.mds_groups.proofs.EntryLemmas.{numbers_count}
use Rattle.mds_follow.specs.Reading.{HasTexts}
use Rattle.mds_follow.specs.Pieces.{texts_in, StandBehind}
use Rattle.mds_follow.specs.declared.start_fault.StartFault.{StartFault}
use Rattle.mds_follow.specs.declared.start_fault.StartFault.TheVariants.{Memory}
use Rattle.mds_follow.proofs.Groups.{group_entries, group_texts, stands_at}
use Rattle.mds_follow.proofs.ahead.Ahead.read_groups.Goals as goal

-- no more lines count
pub returns-in-Ok-None-clause-lines : goal.returns-in-Ok-None-clause-lines
returns-in-Ok-None-clause-lines g c =
    let was = c.groups.invariant in
    let old = c.groups.self.reader in
    let new = c.next_group.new.self in
    let texts = texts_in c.groups.self.lines.items in
    let read_on = c.in-Ok-None.ensures.read_on in
    let few : number_of old.opening ≤ 2 ^ 62 = omega (arith, was.reading.reading.counted, was.reading.reading.short) in
    let next = rw c.in-Ok-None.field-0-is at c.in-Ok-None.ensures.next in
    record {
      numbered = was.numbered;
      further = λ more. absurd (false≢true more);
      behind = λ before has.
          let so_far = was.has before has in
          stands_at g.D.Device.seen g.D.Device.is_true old new before read_on.was_true (λ truth. (read_on.untouched truth).file) texts c.groups.self.next.numbers.items (Ok false) few so_far
          (was.entries before has) (next (before ++ texts) so_far);
    }

-- no more is read
pub returns-in-Err-clause-lines : goal.returns-in-Err-clause-lines
returns-in-Err-clause-lines g c =
    let was = c.groups.invariant in
    let old = c.groups.self.reader in
    let new = c.next_group.new.self in
    let texts = texts_in c.groups.self.lines.items in
    let read_on = c.in-Err.ensures.read_on in
    let few : number_of old.opening ≤ 2 ^ 62 = omega (arith, was.reading.reading.counted, was.reading.reading.short) in
    record {
      numbered = was.numbered;
      further = tt;
      behind = λ before has.
          let so_far = was.has before has in
          stands_at g.D.Device.seen g.D.Device.is_true old new before read_on.was_true (λ truth. (read_on.untouched truth).file) texts c.groups.self.next.numbers.items (Err c.in-Err.fault) few so_far
          (was.entries before has) (c.in-Err.ensures.next (before ++ texts) so_far);
    }

-- the next group found no room
pub returns-in-Err-add_group-clause-lines : goal.returns-in-Err-add_group-clause-lines
returns-in-Err-add_group-clause-lines g c =
    let seen = g.D.Device.seen in
    let is_true = g.D.Device.is_true in
    let was = c.groups.invariant in
    let old = c.groups.self.reader in
    let new = c.next_group.new.self in
    let lines = c.groups.self.lines.items in
    let numbers = c.groups.self.next.numbers.items in
    let read_on = c.in-Ok-Some.ensures.read_on in
    let few : number_of old.opening ≤ 2 ^ 62 = omega (arith, was.reading.reading.counted, was.reading.reading.short) in
    let stays = c.in-Err-add_group.ensures.unchanged in
    let end : Result Bool StartFault = Err Memory in
    record {
      numbered = ap (λ (w : List ℕ). length w) stays.1 ∙ was.numbered ∙ sym (ap (λ (w : List (Vec ℕ Global)). length w) stays.0);
      further = tt;
      behind = λ before has.
          let so_far = was.has before has in
          subst (λ (w : List (Vec ℕ Global)). StandBehind seen is_true new before (texts_in w) c.add_group.new.numbers.items end) (sym stays.0)
          (subst (λ (w : List ℕ). StandBehind seen is_true new before (texts_in lines) w end) (sym stays.1)
          (stands_at seen is_true old new before read_on.was_true (λ truth. (read_on.untouched truth).file) (texts_in lines) numbers end few so_far (was.entries before has) (λ truth. tt)));
    }

-- there are as many texts as are read at a time
pub returns-after-groups-clause-lines : goal.returns-after-groups-clause-lines
returns-after-groups-clause-lines g c =
    let was = c.groups.invariant in
    let reader = c.groups.self.reader in
    let few : number_of reader.opening ≤ 2 ^ 62 = omega (arith, was.reading.reading.counted, was.reading.reading.short) in
    record {
      numbered = was.numbered;
      further = λ more. elim was.further [
        | inl none ↦ absurd (omega (arith, none.0, c.groups-test.false, c.len.ensures, c.groups.self.lines.ok.0))
        | inr far ↦ far
      ];
      behind = λ before has.
          let so_far = was.has before has in
          stands_at g.D.Device.seen g.D.Device.is_true reader reader before (λ truth. truth) (λ truth. refl) (texts_in c.groups.self.lines.items) c.groups.self.next.numbers.items (Ok true) few so_far
          (was.entries before has) so_far;
    }

-- or as many bytes
pub returns-else-bytes-lt-MOST_BYTES-clause-lines : goal.returns-else-bytes-lt-MOST_BYTES-clause-lines
returns-else-bytes-lt-MOST_BYTES-clause-lines g c =
    let was = c.groups.invariant in
    let reader = c.groups.self.reader in
    let few : number_of reader.opening ≤ 2 ^ 62 = omega (arith, was.reading.reading.counted, was.reading.reading.short) in
    record {
      numbered = was.numbered;
      further = λ more. elim was.further [
        | inl none ↦ absurd (omega (arith, none.1, c.if-bytes-lt-MOST_BYTES.false))
        | inr far ↦ far
      ];
      behind = λ before has.
          let so_far = was.has before has in
          stands_at g.D.Device.seen g.D.Device.is_true reader reader before (λ truth. truth) (λ truth. refl) (texts_in c.groups.self.lines.items) c.groups.self.next.numbers.items (Ok true) few so_far
          (was.entries before has) so_far;
    }

-- one group more is read
pub groups-preserved : goal.groups-preserved
groups-preserved g c =
    let seen = g.D.Device.seen in
    let is_true = g.D.Device.is_true in
    let was = c.groups.invariant in
    let first = c.args.self.now.reader.opening in
    let old = c.groups.self.reader in
    let new = c.next_group.new.self in
    let lines = c.groups.self.lines.items in
    let numbers = c.groups.self.next.numbers.items in
    let group = c.in-Ok-Some.group in
    let count = length group.texts.items in
    let read_on = c.in-Ok-Some.ensures.read_on in
    let same = λ (truth : is_true new.opening.device). (read_on.untouched truth).file in
    let next = rw c.in-Ok-Some.field-0-is at c.in-Ok-Some.ensures.next in
    let far = rw c.in-Ok-Some.field-0-is at c.in-Ok-Some.ensures.further in
    let more_lines = c.in-Ok.ensures.lines in
    let more_numbers = c.in-Ok.ensures.numbers in
    record {
      reading = c.in-Ok-Some.ensures.reading;
      read_on = record {
        untouched = λ truth.
            still_untouched seen g.D.Device.may_leave g.D.Device.moment g.D.Device.left_since first.device old.opening.device new.opening.device
            (was.read_on.untouched (read_on.was_true truth)) (read_on.untouched truth);
        was_true = λ truth. was.read_on.was_true (read_on.was_true truth);
      };
      numbered = omega (
        arith,
        was.numbered,
        ap (λ (w : List (Vec ℕ Global)). length w) more_lines,
        length-append lines group.texts.items,
        ap (λ (w : List ℕ). length w) more_numbers,
        length-append numbers (numbers_from group.first count),
        numbers_count group.first count,
      );
      later = omega (arith, was.later, far);
      further = inr (omega (arith, was.later, far));
      has = λ before has.
          let so_far = was.has before has in
          subst (λ (w : List (Vec ℕ Global)). HasTexts seen is_true new (before ++ texts_in w)) (sym more_lines)
          (group_texts seen is_true old new before read_on.was_true same lines group (next (before ++ texts_in lines) so_far));
      entries = λ before has truth.
          let so_far = was.has before has in
          let file = recovered_texts (seen new.opening.device) in
          subst (λ (w : List (Vec ℕ Global)). AreEntries file before (texts_in w) c.add_group.new.numbers.items) (sym more_lines)
          (subst (λ (w : List ℕ). AreEntries file before (texts_in (lines ++ group.texts.items)) w) (sym more_numbers)
          (group_entries seen is_true old new before read_on.was_true same lines group (next (before ++ texts_in lines) so_far) numbers was.numbered (was.entries before has) truth));
    }
