-- How texts go out page by page.
use Rattle.std.proofs.Common.{◌≡◌, ℕ, ◌+◌, ◌<◌, List, ◌∷◌, ◌++◌, length, get_or, drop, Option, subst, sym, ap, ◌∙◌, arith, append_assoc, length-append, add-one}
use Rattle.std.proofs.Math.Seq.{drop-cons}
use Rattle.std.specs.Io.KnownBytes.{Appends}
use Rattle.std.proofs.KnownBytes.{Appends-trans}
use Rattle.mds_io.specs.Page.{AppendsFront, Passes, with_newline}

-- a text went out but for what was left, and of that and more all but the new rest
pub passes_then : (a b c : Option (List ℕ)) (text left more rest : List ℕ) → Passes a b text left → Passes b c (left ++ more) rest → Passes a c (text ++ more) rest
passes_then a b c text left more rest first second =
    let joined : text ++ more ≡ (first.0 ++ second.0) ++ rest =
    ap (λ t. t ++ more) first.1 ∙ append_assoc first.0 left more ∙ ap (λ t. first.0 ++ t) second.1 ∙ sym (append_assoc first.0 second.0 rest) in
    (first.0 ++ second.0, joined, Appends-trans a b c first.0 second.0 first.2 second.2)

-- a text went out but for what was left, and of that and more a front
pub passes_front : (a b c : Option (List ℕ)) (text left more : List ℕ) → Passes a b text left → AppendsFront b c (left ++ more) → AppendsFront a c (text ++ more)
passes_front a b c text left more first second =
    let whole = passes_then a b c text left more second.1 first (second.0, second.3, second.4) in
    (whole.0, second.1, second.2, whole.1, whole.2)

-- a text went out but for what was left, and then that and more
pub passes_to_end : (a b c : Option (List ℕ)) (text left more : List ℕ) → Passes a b text left → Appends b c (left ++ more) → Appends a c (text ++ more)
passes_to_end a b c text left more first second =
    let joined : (text ++ more) ≡ first.0 ++ (left ++ more) = ap (λ t. t ++ more) first.1 ∙ append_assoc first.0 left more in
    subst (λ t. Appends a c t) (sym joined) (Appends-trans a b c first.0 (left ++ more) first.2 second)

-- a front of a text is a front of a longer one
pub front_of_more : (a b : Option (List ℕ)) (text more : List ℕ) → AppendsFront a b text → AppendsFront a b (text ++ more)
front_of_more a b text more front = (
  front.0,
  front.1 ++ more,
  rw length-append (omega (arith, front.2)),
  ap (λ t. t ++ more) front.3 ∙ append_assoc front.0 front.1 more,
  front.4,
)

-- a text went out but for the page and a line before others; then so did the page and the line, but for the new page
pub passes_line : (a b c : Option (List ℕ)) (text page line rest next : List ℕ) → Passes a b text (page ++ (line ++ rest)) → Passes b c (page ++ line) next → Passes a c text (next ++ rest)
passes_line a b c text page line rest next first second =
    let joined : text ≡ (first.0 ++ second.0) ++ (next ++ rest) =
    first.1 ∙ ap (λ t. first.0 ++ t) (sym (append_assoc page line rest) ∙ ap (λ t. t ++ rest) second.1 ∙ append_assoc second.0 next rest)
    ∙ sym (append_assoc first.0 second.0 (next ++ rest)) in
    (first.0 ++ second.0, joined, Appends-trans a b c first.0 second.0 first.2 second.2)

-- a text went out but for the page and a line before others; then a front of the page and the line did
pub front_of_line : (a b c : Option (List ℕ)) (text page line rest : List ℕ) → Passes a b text (page ++ (line ++ rest)) → AppendsFront b c (page ++ line) → AppendsFront a c text
front_of_line a b c text page line rest first second =
    let whole = passes_line a b c text page line rest second.1 first (second.0, second.3, second.4) in
    (whole.0, second.1 ++ rest, rw length-append (omega (arith, second.2)), whole.1, whole.2)

-- what is left of a list begins with the item at the place reached
pub next_item_or : {X : Type 0} (xs : List X) (i : ℕ) (d : X) → i < length xs → drop i xs ≡ get_or xs i d ∷ drop (i + 1) xs
next_item_or xs i d within = rw add-one (drop-cons xs i d within)

pub next_item : {X : Type 0} (xs : List X) (i : ℕ) (x : X) → i < length xs → x ≡ get_or xs i x → drop i xs ≡ x ∷ drop (i + 1) xs
next_item xs i x within is = next_item_or xs i x within ∙ ap (λ y. y ∷ drop (i + 1) xs) (sym is)

-- a text went out but for what was left, and a front of that
pub passes_out : (a b c : Option (List ℕ)) (text left : List ℕ) → Passes a b text left → AppendsFront b c left → AppendsFront a c text
passes_out a b c text left first second =
    let joined : text ≡ (first.0 ++ second.0) ++ second.1 =
    first.1 ∙ ap (λ t. first.0 ++ t) second.3 ∙ sym (append_assoc first.0 second.0 second.1) in
    (first.0 ++ second.0, second.1, second.2, joined, Appends-trans a b c first.0 second.0 first.2 second.4)

-- a text went out but for what was left, and then that too
pub passes_all : (a b c : Option (List ℕ)) (text left : List ℕ) → Passes a b text left → Appends b c left → Appends a c text
passes_all a b c text left first second = subst (λ t. Appends a c t) (sym first.1) (Appends-trans a b c first.0 left first.2 second)

-- a page of lines: of a list's items each has a line, which its place may enter; the lines are laid on a page one by one, and the
-- page goes out as it fills. `lines` are those of items of which the first has this place
module _ {X : Type 0} (line : ℕ → X → List ℕ) (lines : ℕ → List X → List ℕ)
    (first : (i : ℕ) (x : X) (xs : List X) → lines i (x ∷ xs) ≡ with_newline (line i x) ++ lines (i + 1) xs)
    (items : List X) (old : Option (List ℕ)) (text : List ℕ) where
  -- of the text all went out but the page, and the lines of the items from the i-th on
  abbrev pub AreWaiting : ℕ → Option (List ℕ) → List ℕ → Type 0
  AreWaiting i now page = Passes old now text (page ++ lines i (drop i items))

  -- what is left begins with the line of the i-th item
  begins : (i : ℕ) (x : X) (now : Option (List ℕ)) (page : List ℕ) → drop i items ≡ x ∷ drop (i + 1) items → AreWaiting i now page
      → Passes old now text (page ++ (with_newline (line i x) ++ lines (i + 1) (drop (i + 1) items)))
  begins i x now page is waiting = subst (λ t. Passes old now text (page ++ t)) (ap (lines i) is ∙ first i x (drop (i + 1) items)) waiting

  -- one line more
  pub line_added : (i : ℕ) (x : X) (now new : Option (List ℕ)) (page next : List ℕ) → drop i items ≡ x ∷ drop (i + 1) items → AreWaiting i now page
      → Passes now new (page ++ with_newline (line i x)) next → AreWaiting (i + 1) new next
  line_added i x now new page next is waiting passes =
      passes_line old now new text page (with_newline (line i x)) (lines (i + 1) (drop (i + 1) items)) next (begins i x now page is waiting) passes

  -- a line at which it stopped
  pub line_stopped : (i : ℕ) (x : X) (now new : Option (List ℕ)) (page : List ℕ) → drop i items ≡ x ∷ drop (i + 1) items → AreWaiting i now page
      → AppendsFront now new (page ++ with_newline (line i x)) → AppendsFront old new text
  line_stopped i x now new page is waiting front =
      front_of_line old now new text page (with_newline (line i x)) (lines (i + 1) (drop (i + 1) items)) (begins i x now page is waiting) front
