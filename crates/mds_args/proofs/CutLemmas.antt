-- Lemmas on the cuts that words ask for.
use Rattle.std.proofs.Common.{◌≡◌, ◌≢◌, ◌≤◌, ◌<◌, ◌-◌, ℕ, List, [], ◌∷◌, ◌++◌, map, take, drop, length, slice_index_or, Option, Some, None, Bor, codes, refl, sym, ◌∙◌, ap, subst, arith, append_assoc, Bool}
use Rattle.clap.specs.Words.{Row, Text, first_of}
use Rattle.mds_args.specs.declared.cuts.CutWords.{CutWords}
use Rattle.mds_args.specs.declared.words.Command.TheVariants.{Serve, Replay, Debug, Table, Vehicles, Compact, Events}
use Rattle.mds_args.specs.Words.{AreCuts, AsksNothing, HasNoNumber, HasValues, IsBefore, IsFirstCut, IsNumber, LacksBefore, max_events, max_time}
use Rattle.std.proofs.lemmas.List.{drop-map, length-drop, take_all}

-- the texts of words
abbrev pub texts : List (Bor Text) → List Text
texts words = map (λ word. word.now) words

-- where the third word is no number, no cut comes first
pub no_first : (words : List (Bor Text)) (default : Bor Text) → 2 < length words → HasNoNumber 0 max_events (Some (slice_index_or words 2 default).now)
    → (cut : CutWords) → IsFirstCut (texts words) cut → ⊥
no_first [] default long none cut first = absurd first
no_first (a ∷ []) default long none cut first = absurd first
no_first (a ∷ b ∷ []) default long none cut first = absurd first
no_first (a ∷ b ∷ c ∷ rest) default long none cut first = none cut.events first.2

-- what comes first has three words
pub first_long : (all : List Text) (cut : CutWords) → IsFirstCut all cut → 3 ≤ length all
first_long [] cut first = absurd first
first_long (a ∷ []) cut first = absurd first
first_long (a ∷ b ∷ []) cut first = absurd first
first_long (a ∷ b ∷ c ∷ rest) cut first = omega arith

-- the words are those of these cuts and of what is left
abbrev pub Gives : List Text → List Text → List CutWords → Type 0
Gives words left cuts = (more : List CutWords) → AreCuts left more → AreCuts words (cuts ++ more)

-- where all of them are those of cuts, so is what is left
abbrev pub LeavesCuts : List Text → List Text → Type 0
LeavesCuts words left = (all : List CutWords) → AreCuts words all → (more : List CutWords) × AreCuts left more

-- what is left behind the first three
pub left_behind : (left : List (Bor Text)) → texts (take (length left - 3) (drop 3 left)) ≡ drop 3 (texts left)
left_behind left = ap texts (take_all (length left - 3) (drop 3 left) (omega (arith, length-drop 3 left))) ∙ sym (drop-map (λ word. word.now) 3 left)

-- some texts are those of some words
pub some_texts : (left : List (Bor Text)) → 0 < length left → texts left ≢ []
some_texts [] some = absurd (omega (arith, some))
some_texts (word ∷ left) some = λ none. cc

pub no_texts : (left : List (Bor Text)) → length left ≡ 0 → texts left ≡ []
no_texts [] none = refl
no_texts (word ∷ left) none = absurd (omega (arith, none))

-- with one cut more
pub gives_more : (words left : List Text) (cuts : List CutWords) (cut : CutWords) → Gives words left cuts → IsFirstCut left cut → Gives words (drop 3 left) (cuts ++ cut ∷ [])
gives_more words left cuts cut gives first more are =
    let P : List CutWords → Type 0 = λ all. AreCuts words all in
    subst P (sym (append_assoc cuts (cut ∷ []) more)) (gives (cut ∷ more) (first, are))

pub leaves_more : (words left : List Text) → left ≢ [] → LeavesCuts words left → LeavesCuts words (drop 3 left)
leaves_more words left some leaves all are = let found = leaves all are in by_more found.0 found.1 where
  by_more : (more : List CutWords) → AreCuts left more → (rest : List CutWords) × AreCuts (drop 3 left) rest
  by_more [] none = absurd (some none)
  by_more (cut ∷ rest) are_ = (rest, are_.1)

-- where no cut comes first, words aren't those of cuts
pub none_left : (words left : List Text) → left ≢ [] → LeavesCuts words left → ((cut : CutWords) → IsFirstCut left cut → ⊥) → (all : List CutWords) → AreCuts words all → ⊥
none_left words left some leaves none all are = let found = leaves all are in by_more found.0 found.1 where
  by_more : (more : List CutWords) → AreCuts left more → ⊥
  by_more [] nothing = some nothing
  by_more (cut ∷ rest) are_ = none cut are_.0

-- only `compact` has its values
pub compact_only : (values : List Row)
    → ((old new : Bor Text) (before : Option ℕ) (cuts : _) (follow : Bool) (table : Option (Bor Text)) → HasValues values (Compact old new before cuts follow table) → ⊥) → AsksNothing (Some (codes "compact", values))
compact_only values none (Compact old new before cuts follow table) asks = none old new before cuts follow table asks.1
compact_only values none (Serve port each workers table journal metrics) asks = let is = asks.0 in cc
compact_only values none (Replay file table any lines unlimited workers) asks = let is = asks.0 in cc
compact_only values none (Debug file provider device table) asks = let is = asks.0 in cc
compact_only values none (Table table) asks = let is = asks.0 in cc
compact_only values none (Vehicles file table check) asks = let is = asks.0 in cc
compact_only values none (Events file provider device) asks = let is = asks.0 in cc

-- where a time is given that is none of its range, none is meant
pub no_before : (values : List Row) (text : Text) → first_of (codes "before") values ≡ Some text → HasNoNumber 0 max_time (first_of (codes "before") values) → LacksBefore values
no_before values text given none (Some time) is = none time is
no_before values text given none None is = let absent = is in cc

-- where no time is given, none is meant
pub before_none : (values : List Row) (before : Option ℕ) → IsBefore values None → IsBefore values before → before ≡ None
before_none values None none is = refl
before_none values (Some time) none is = let P : Option Text → Type 0 = λ value. IsNumber 0 max_time value time in absurd (subst P none is)

pub cuts_empty : (cuts : List CutWords) → length cuts ≡ 0 → cuts ≡ []
cuts_empty [] none = refl
cuts_empty (cut ∷ cuts) none = absurd (omega (arith, none))

-- no words are those of no cut
pub cuts_none : (words : List Text) (cuts : List CutWords) → AreCuts words [] → AreCuts words cuts → cuts ≡ []
cuts_none words [] none are = refl
cuts_none words (cut ∷ cuts) none are = let P : List Text → Type 0 = λ all. IsFirstCut all cut in absurd (subst P none are.0)
