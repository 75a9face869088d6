-- Scripts that are carried out command by command.
use Rattle.std.proofs.Common.{◌≡◌, ◌≢◌, ◌+◌, ◌<◌, ◌≤◌, ℕ, List, [], ◌∷◌, ◌++◌, length, get_or, drop, true, false, Option, Some, None, Result, Ok, Err, OnErr, IfErr, ◌⊎◌, inl, inr, refl, sym, ap, subst, ◌∙◌, arith, append_assoc, append-nil, cond}
use Rattle.std.specs.Io.KnownBytes.{Appends, Keeps}
use Rattle.std.proofs.KnownBytes.{Appends-trans}
use Rattle.std.proofs.lemmas.Bool.{true≢false}
use Rattle.std.proofs.lemmas.List.{drop_all}
use Rattle.std.proofs.lemmas.List.Sums.{take_while-cons}
use Rattle.mds_trace.specs.declared.session.Place.{Place}
use Rattle.mds_trace.specs.Walk.{Walk}
use Rattle.mds_io.specs.Page.{AppendsFront, AppendsUpTo, Passes, with_newline}
use Rattle.mds_io.specs.declared.page.PrintError.{PrintError}
use Rattle.mds_io.specs.declared.page.PrintError.TheVariants as write
use Rattle.mds_io.proofs.PageLemmas.{next_item_or, passes_all, passes_front, passes_out, passes_then}
use Rattle.mds_trace.specs.declared.script.ScriptCommand.{ScriptCommand}
use Rattle.mds_trace.specs.declared.script.ScriptCommand.TheVariants.{Quit}
use Rattle.mds_trace.specs.Printed.{before_quit, goes_on, moved_to, Prints, PrintsAll, PrintsFront, PrintsScript, PrintsSome}

-- a command that goes on isn't quit
pub not_quit : (command : Option ScriptCommand) → goes_on command ≡ true → command ≢ Some Quit
not_quit command on is = true≢false (sym on ∙ ap goes_on is)

-- past the last command none is left
pub none_left : (script : List (Option ScriptCommand)) (i : ℕ) → length script ≤ i → before_quit (drop i script) ≡ []
none_left script i past = ap before_quit (drop_all i script past)

-- at a quit none is left
pub quit_left : (script : List (Option ScriptCommand)) (i : ℕ) → i < length script → goes_on (get_or script i None) ≡ false → before_quit (drop i script) ≡ []
quit_left script i within off =
    let rest = drop (i + 1) script in
    ap before_quit (next_item_or script i None within) ∙ take_while-cons goes_on (get_or script i None) rest
    ∙ ap (λ b. cond b (get_or script i None ∷ before_quit rest) []) off

-- one more command behind others
prints_push : (walk : Walk) (done : List (Option ScriptCommand)) (command : Option ScriptCommand) (at to : Place) (text line : List ℕ)
    → PrintsAll walk done at text → Prints (moved_to walk at) command to line → PrintsAll walk (done ++ command ∷ []) to (text ++ with_newline line)
prints_push walk [] command at to text line all one = (
  to,
  line,
  [],
  subst (λ place. Prints (moved_to walk place) command to line) all.0 one,
  (refl, refl),
  ap (λ t. t ++ with_newline line) all.1 ∙ sym (append-nil (with_newline line)),
)
prints_push walk (first ∷ done) command at to text line all one = (
  all.0,
  all.1,
  all.2 ++ with_newline line,
  all.3,
  prints_push (moved_to walk all.0) done command at to all.2 line all.4 one,
  ap (λ t. t ++ with_newline line) all.5 ∙ append_assoc (with_newline all.1) all.2 (with_newline line),
)

-- a writer that took nothing
took_none : (a b : Option (List ℕ)) → Keeps a b → Appends a b []
took_none None b kept = tt
took_none (Some xs) None kept = kept
took_none (Some xs) (Some ys) kept = kept ∙ sym (append-nil xs)

-- a text went out but for a page, and nothing more
front_of_kept : (a b c : Option (List ℕ)) (text page : List ℕ) → Passes a b text page → Keeps b c → AppendsUpTo a c text
front_of_kept a b c text page passes kept = by_page page passes.1 where
  took : Appends a c passes.0
  took = subst (Appends a c) (append-nil passes.0) (Appends-trans a b c passes.0 [] passes.2 (took_none b c kept))

  by_page : (left : List ℕ) → text ≡ passes.0 ++ left → AppendsUpTo a c text
  by_page [] all = inl (subst (Appends a c) (sym (all ∙ append-nil passes.0)) took)
  by_page (byte ∷ left) split = inr (passes.0, byte ∷ left, omega arith, split, took)

-- a front went out, which it may also where memory is wanting
pub front_at_least : (fault : PrintError) (walk : Walk) (script : List (Option ScriptCommand)) (old new : Option (List ℕ))
    → PrintsSome walk script (AppendsFront old new) → PrintsFront fault walk script old new
front_at_least write.Device walk script old new some = some
front_at_least write.Memory walk script old new some = (some.0, some.1, some.2, (some.3.0, some.3.1, some.3.2, inr some.3.3))

-- a command stopped: nothing of its line went out, or a front of what waited and of that
pub front_at : {K X : Type 0} (fault : PrintError) (walk : Walk) (script : List (Option ScriptCommand)) (old new : Option (List ℕ)) → K ⊎ X
    → (fault ≡ write.Device → X) → (K → PrintsSome walk script (AppendsUpTo old new)) → (X → PrintsSome walk script (AppendsFront old new))
    → PrintsFront fault walk script old new
front_at write.Device walk script old new either device waiting stopped = stopped (device refl)
front_at write.Memory walk script old new either device waiting stopped =
    elim either [
      | inl kept ↦ waiting kept
      | inr out ↦ front_at_least write.Memory walk script old new (stopped out)
    ]

-- the last page could not be put out
pub ends_on : (result : Result (Unit {0}) PrintError) (walk : Walk) (script : List (Option ScriptCommand)) (old new : Option (List ℕ))
    → OnErr result (PrintsSome walk script (AppendsFront old new)) → IfErr result (λ fault. PrintsFront fault walk script old new)
ends_on (Ok done) walk script old new some = tt
ends_on (Err fault) walk script old new some = front_at_least fault walk script old new some

-- of a script's commands some were carried out: what they printed went out but for a page, and the rest is left
pub record IsUnderway (walk : Walk) (script rest : List (Option ScriptCommand)) (place : Place) (old now : Option (List ℕ)) (page : List ℕ) : Type 0 where
  pub done : List (Option ScriptCommand)
  pub text : List ℕ
  pub split : before_quit script ≡ done ++ before_quit rest
  pub prints : PrintsAll walk done place text
  pub passes : Passes old now text page

module _ (walk : Walk) (script : List (Option ScriptCommand)) (old : Option (List ℕ)) where
  -- before the first command
  pub starts : (page : List ℕ) → page ≡ [] → Passes old old [] page → IsUnderway walk script script walk.place old old page
  starts page none passes = record { done = []; text = []; split = refl; prints = (refl, refl); passes = passes }

  module _ (rest : List (Option ScriptCommand)) (place : Place) (now : Option (List ℕ)) (page : List ℕ) where
    -- a command that isn't quit is the next that is carried out
    goes_next : (command : Option ScriptCommand) → goes_on command ≡ true → before_quit (command ∷ rest) ≡ command ∷ before_quit rest
    goes_next command on = take_while-cons goes_on command rest ∙ ap (λ b. cond b (command ∷ before_quit rest) []) on

    module _ (command : Option ScriptCommand) (to : Place) (line : List ℕ) where
      -- the commands carried out, and one more
      split_on : (done : List (Option ScriptCommand)) → before_quit script ≡ done ++ before_quit (command ∷ rest) → goes_on command ≡ true
          → before_quit script ≡ (done ++ command ∷ []) ++ before_quit rest
      split_on done split on =
          split ∙ ap (λ t. done ++ t) (goes_next command on) ∙ sym (append_assoc done (command ∷ []) (before_quit rest))

      pub one_more : (new : Option (List ℕ)) (next : List ℕ) → IsUnderway walk script (command ∷ rest) place old now page → goes_on command ≡ true
          → Prints (moved_to walk place) command to line → Passes now new (page ++ with_newline line) next → IsUnderway walk script rest to old new next
      one_more new next under on prints passes = record {
        done = under.done ++ command ∷ [];
        text = under.text ++ with_newline line;
        split = split_on under.done under.split on;
        prints = prints_push walk under.done command place to under.text line under.prints prints;
        passes = passes_then old now new under.text page (with_newline line) next under.passes passes;
      }

      -- a front of the line and of what waits before it
      pub stops_at : (new : Option (List ℕ)) → IsUnderway walk script (command ∷ rest) place old now page → goes_on command ≡ true
          → Prints (moved_to walk place) command to line → AppendsFront now new (page ++ with_newline line) → PrintsSome walk script (AppendsFront old new)
      stops_at new under on prints front = (
        under.done ++ command ∷ [],
        before_quit rest,
        split_on under.done under.split on,
        (
          to,
          under.text ++ with_newline line,
          prints_push walk under.done command place to under.text line under.prints prints,
          passes_front old now new under.text page (with_newline line) under.passes front,
        ),
      )

    -- a front of what waits
    pub stops : (new : Option (List ℕ)) → IsUnderway walk script rest place old now page → AppendsFront now new page → PrintsSome walk script (AppendsFront old new)
    stops new under front = (under.done, before_quit rest, under.split, (place, under.text, under.prints, passes_out old now new under.text page under.passes front))

    -- nothing more, so what waits on the page did not go out, if anything does
    pub waits : (new : Option (List ℕ)) → IsUnderway walk script rest place old now page → Keeps now new → PrintsSome walk script (AppendsUpTo old new)
    waits new under kept =
        (under.done, before_quit rest, under.split, (place, under.text, under.prints, front_of_kept old now new under.text page under.passes kept))

    -- all that waits, where no command is left
    pub ends : (new : Option (List ℕ)) → IsUnderway walk script rest place old now page → before_quit rest ≡ [] → Appends now new page
        → (text : List ℕ) × PrintsScript walk script place text × Appends old new text
    ends new under over out =
        let all : under.done ≡ before_quit script = sym (under.split ∙ ap (λ t. under.done ++ t) over ∙ append-nil under.done) in (
          under.text,
          subst (λ commands. PrintsAll walk commands place under.text) all under.prints,
          passes_all old now new under.text page under.passes out,
        )
