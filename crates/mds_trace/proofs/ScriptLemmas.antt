-- Scripts that are read line by line.
use Rattle.std.proofs.Common.{◌≡◌, ◌≢◌, ◌<◌, ◌⊎◌, ℕ, zero, suc, List, [], ◌∷◌, ◌++◌, Bool, true, nat_lt, Option, inl, inr, refl, sym, ap, ◌∙◌, append_assoc, append-nil, arith}
use Rattle.std.specs.List.{All, AllZip, flat_map, list_all}
use Rattle.std.specs.Str.{IsAscii, IsUtf8}
use Rattle.std.proofs.lemmas.Bool.{and_parts}
use Rattle.std.proofs.lemmas.Bool.Decides.{nat_tests}
use Rattle.std.proofs.lemmas.Grind.{flat_map-append}
use Rattle.std.proofs.lemmas.List.Elements.{All-nil, All-push}
use Rattle.std.proofs.lemmas.Str.{IsUtf8-from_ascii}
use Rattle.mds_table.specs.declared.state.State.TheVariants.{Removed, Available, NonOperational, Reserved, OnTrip, Elsewhere, NonContactable, Missing, InDepot}
use Rattle.mds_lines.specs.Stream.{HasNoFeed, IsFirstLine}
use Rattle.mds_io.specs.Page.{with_newline}
use Rattle.mds_trace.specs.declared.script.ScriptCommand.{ScriptCommand}
use Rattle.mds_trace.specs.declared.script.ScriptCommand.TheVariants.{Move as Moves, Chain, Quit}
use Rattle.mds_trace.specs.declared.script.Move.TheVariants.{Step, Back, Next, Run}
use Rattle.mds_trace.specs.Script.{command_text, AreLines, IsCommandOf, IsScript}

-- a byte is of ASCII
abbrev is_small : ℕ → Bool
is_small byte = nat_lt byte 128

small : (byte : ℕ) → is_small byte ≡ true → byte < 128
small byte is = grind (arith, nat_tests)

all_small : (bytes : List ℕ) → list_all is_small bytes ≡ true → IsAscii bytes
all_small [] all i = omega arith
all_small (byte ∷ rest) all zero = small byte (and_parts (is_small byte) (list_all is_small rest) all).0
all_small (byte ∷ rest) all (suc i) = all_small rest (and_parts (is_small byte) (list_all is_small rest) all).1 i

-- a command's text is of ASCII
is_ascii : (command : ScriptCommand) → list_all is_small (command_text command) ≡ true
is_ascii (Moves Step) = refl
is_ascii (Moves Back) = refl
is_ascii (Moves Next) = refl
is_ascii (Moves (Run Removed)) = refl
is_ascii (Moves (Run Available)) = refl
is_ascii (Moves (Run NonOperational)) = refl
is_ascii (Moves (Run Reserved)) = refl
is_ascii (Moves (Run OnTrip)) = refl
is_ascii (Moves (Run Elsewhere)) = refl
is_ascii (Moves (Run NonContactable)) = refl
is_ascii (Moves (Run Missing)) = refl
is_ascii (Moves (Run InDepot)) = refl
is_ascii Chain = refl
is_ascii Quit = refl

-- a command's text is text
pub is_text : (command : ScriptCommand) → IsUtf8 (command_text command)
is_text command = IsUtf8-from_ascii (command_text command) (all_small (command_text command) (is_ascii command))

-- one more item in each of two lists that go together
zip_push : {A B : Type 0} (R : A → B → Type 0) (xs : List A) (ys : List B) (x : A) (y : B) → AllZip R xs ys → R x y → AllZip R (xs ++ x ∷ []) (ys ++ y ∷ [])
zip_push R [] [] x y all one = (one, tt)
zip_push R [] (z ∷ ys) x y all one = absurd all
zip_push R (z ∷ xs) [] x y all one = absurd all
zip_push R (w ∷ xs) (z ∷ ys) x y all one = (all.0, zip_push R xs ys x y all.1 one)

-- lines that were read of some bytes, what they say, and the bytes that are left: whole lines, or all that there were
pub record AreRead (bytes rest : List ℕ) (script : List (Option ScriptCommand)) : Type 0 where
  pub lines : List (List ℕ)
  pub no_feed : All HasNoFeed lines
  pub say : AllZip IsCommandOf lines script
  pub left : (bytes ≡ flat_map with_newline lines ++ rest) ⊎ ((rest ≡ []) × AreLines bytes lines)

-- before the first line
pub none_read : (bytes : List ℕ) → AreRead bytes bytes []
none_read bytes = record { lines = []; no_feed = All-nil HasNoFeed; say = tt; left = inl refl }

module _ (bytes rest : List ℕ) (script : List (Option ScriptCommand)) (line next : List ℕ) (command : Option ScriptCommand) where
  -- with one more line
  joined : (lines : List (List ℕ)) → bytes ≡ flat_map with_newline lines ++ rest → rest ≡ line ++ 10 ∷ next
      → bytes ≡ flat_map with_newline (lines ++ line ∷ []) ++ next
  joined lines whole first =
      let more : flat_map with_newline (lines ++ line ∷ []) ≡ flat_map with_newline lines ++ with_newline line =
      flat_map-append with_newline lines (line ∷ []) ∙ ap (λ t. flat_map with_newline lines ++ t) (append-nil (with_newline line)) in
      whole ∙ ap (λ t. flat_map with_newline lines ++ t) (first ∙ sym (append_assoc line (10 ∷ []) next))
      ∙ sym (append_assoc (flat_map with_newline lines) (with_newline line) next) ∙ ap (λ t. t ++ next) (sym more)

  pub one_read : AreRead bytes rest script → rest ≢ [] → IsFirstLine rest line next → IsCommandOf line command → AreRead bytes next (script ++ command ∷ [])
  one_read read some first says =
      let no_feed = All-push HasNoFeed read.lines line read.no_feed first.0 in
      let say = zip_push IsCommandOf read.lines script line command read.say says in
      elim read.left [
        | inl whole ↦ elim first.1 [
          | inl ended ↦ record { lines = read.lines ++ line ∷ []; no_feed = no_feed; say = say; left = inl (joined read.lines whole ended) }
          | inr last ↦ record {
            lines = read.lines ++ line ∷ [];
            no_feed = no_feed;
            say = say;
            left = inr (
              last.1,
              record {
                no_feed = no_feed;
                joined = inr (read.lines, line, (λ none. some (last.0 ∙ none)), refl, whole ∙ ap (λ t. flat_map with_newline read.lines ++ t) last.0);
              },
            );
          }
        ]
        | inr over ↦ absurd (some over.0)
      ]

-- all lines were read
pub all_read : (bytes rest : List ℕ) (script : List (Option ScriptCommand)) → AreRead bytes rest script → rest ≡ [] → IsScript bytes script
all_read bytes rest script read none =
    let lines : AreLines bytes read.lines = elim read.left [
      | inl whole ↦ record {
        no_feed = read.no_feed;
        joined = inl (whole ∙ ap (λ t. flat_map with_newline read.lines ++ t) none ∙ append-nil (flat_map with_newline read.lines));
      }
      | inr over ↦ over.1
    ] in
    (read.lines, lines, read.say)
