-- What is known of a file after an append.
use Rattle.std.proofs.Common.{◌≡◌, ◌⊎◌, inl, inr, ℕ, ◌+◌, ◌<◌, ◌≤◌, ◌^◌, List, ◌++◌, length, refl, sym, ap, ◌∙◌, subst, arith, length-append}
use Rattle.std.proofs.lemmas.List.{length-map}
use Rattle.mds_core.specs.declared.request.Request.{Request}
use Rattle.mds_log.specs.Log.{Acceptance, requests}
use Rattle.mds_log.proofs.Lists.{prefix_trans}
use Rattle.mds_book.specs.declared.record_fault.RecordFault.{RecordFault}
use Rattle.mds_book.specs.declared.record_fault.RecordFault.TheVariants.{Memory, NotKept, Lost}
use Rattle.mds_follow.specs.Record.{IsBeforeOrAfter, Passes, HasSame, recorded_at, IsSafe, BeginsAt, IsDesk}
use Rattle.mds_follow.proofs.Safety.{safe_step, safe_more, recorded_requests}

module _ {F : Type 0} (is_sound is_true may_go_on : F → Type 0) (stands : F → List Request → Type 0) (moment : F → ℕ) (left_since : F → ℕ → List Request → Type 0) (start : ℕ)
    (held : List Request → Type 0) (old new : F) (told : List Acceptance) (group : List Request) where
  -- the past after a call that may have left the group or not
  abbrev pub Past : Type 0
  Past = is_true new → (all : List Request) → (may_go_on old → stands old all) → Passes moment left_since old new (λ c. may_go_on old × IsBeforeOrAfter all group c)

  abbrev pub Known : F → List Acceptance → Type 0
  Known file all = IsDesk is_sound is_true may_go_on stands moment left_since start held file all

  passes : Known old told → (is_true new → is_true old) → Past → is_true new → Passes moment left_since old new (λ c. may_go_on old × IsBeforeOrAfter (requests told) group c)
  passes known was past truth = past truth (requests told) (known.kept (was truth))

  -- what a restart may have read since the start
  pub left_more : Known old told → (is_true new → is_true old) → Past → is_true new → (c : List Request) → left_since new start c
      → left_since old start c ⊎ IsBeforeOrAfter (requests told) group c
  left_more known was past truth c left = without ((passes known was past truth).before start c (known.begun (was truth)) left) where
    without : left_since old start c ⊎ (may_go_on old × IsBeforeOrAfter (requests told) group c) → left_since old start c ⊎ IsBeforeOrAfter (requests told) group c
    without (inl earlier) = inl earlier
    without (inr now) = inr now.1

  begun : Known old told → (is_true new → is_true old) → Past → is_true new → start ≤ moment new
  begun known was past truth = omega (arith, known.begun (was truth), (passes known was past truth).later)

  safe : Known old told → (is_true new → is_true old) → Past → is_true new → IsSafe (left_since new) (moment new) told
  safe known was past truth =
      safe_step moment left_since old new (λ c. may_go_on old × IsBeforeOrAfter (requests told) group c) told group (passes known was past truth) (λ c now. now.1) (known.safe (was truth))

  -- the group isn't known to be recorded
  pub not_put : (fault : RecordFault) → Known old told → is_sound new → (is_true new → is_true old) → (may_go_on new → may_go_on old)
      → (HasSame fault → is_true new → (all : List Request) → stands old all → stands new all) → (may_go_on new → HasSame fault) → Past → Known new told
  not_put fault known sound was could same lost past = record {
    sound = sound;
    short = known.short;
    begun = begun known was past;
    safe = safe known was past;
    kept = λ truth may. by_fault fault same lost truth may;
    old = λ truth. known.old (was truth);
  } where
    by_fault : (told_fault : RecordFault) → (HasSame told_fault → is_true new → (all : List Request) → stands old all → stands new all) → (may_go_on new → HasSame told_fault)
        → is_true new → may_go_on new → stands new (requests told)
    by_fault Memory same lost truth may = same tt truth (requests told) (known.kept (was truth) (could may))
    by_fault NotKept same lost truth may = same tt truth (requests told) (known.kept (was truth) (could may))
    by_fault Lost same lost truth may = absurd (lost may)

  -- the group is recorded
  pub put : (more : List Acceptance) → Known old told → is_sound new → (is_true new → is_true old) → may_go_on old
      → (is_true new → (all : List Request) → stands old all → stands new (all ++ group)) → Past
      → ((file : F) (all c : List Request) → stands file all → left_since file (moment file) c → c ≡ all)
      → more ≡ told ++ recorded_at (moment new) group → length told + length group < 2 ^ 63 → Known new more
  put more known sound was may appended past only is short =
      let recorded : requests more ≡ requests told ++ group = ap (λ (w : List Acceptance). requests w) is ∙ recorded_requests (moment new) told group in
      let Stands : List Request → Type 0 = λ w. stands new w in
      let stands_now : is_true new → stands new (requests told ++ group) = λ truth. appended truth (requests told) (known.kept (was truth) may) in
      let Safe : List Acceptance → Type 0 = λ w. IsSafe (left_since new) (moment new) w in
      record {
        sound = sound;
        short = omega (arith, short, ap length is, length-append told (recorded_at (moment new) group), length-map {B = Acceptance} group (λ (request : Request). record { tag = moment new; request = request }));
        begun = begun known was past;
        safe = λ truth. subst Safe (sym is) (safe_more (left_since new) (moment new) told group (safe known was past truth) (λ c left. only new (requests told ++ group) c (stands_now truth) left));
        kept = λ truth still. subst Stands (sym recorded) (stands_now truth);
        old = λ truth. subst Begins (sym is) (begins_longer (known.old (was truth)));
      } where
        Begins : List Acceptance → Type 0
        Begins w = BeginsAt held start w

        longer : List Acceptance
        longer = told ++ recorded_at (moment new) group

        begins_longer : BeginsAt held start told → BeginsAt held start longer
        begins_longer is = record {
          old = is.old;
          is_held = is.is_held;
          begins = prefix_trans (recorded_at start is.old) told longer is.begins (recorded_at (moment new) group, refl);
        }
