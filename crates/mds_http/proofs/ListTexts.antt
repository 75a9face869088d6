-- The texts of a list's items, as one more comes behind the others.
use Rattle.std.proofs.Common.{◌≡◌, ℕ, ◌+◌, ◌<◌, ◌≤◌, List, [], ◌∷◌, ◌++◌, length, take, codes, slice_get, Some, sym, ap, ◌∙◌, arith}
use Rattle.std.specs.List.{flat_map}
use Rattle.std.proofs.lemmas.Grind.{flat_map-append}
use Rattle.std.proofs.lemmas.List.{append-nil, append_assoc, take_more, length-take-le}
use Rattle.std.proofs.lemmas.Option.{slice_get_within, get_or_from_slice_get}
use Rattle.mds_batch.specs.Texts.{with_commas}

module _ {A : Type 0} (text : A → List ℕ) where
  commas_pushed : (items : List A) (item : A) → 1 ≤ length items → with_commas text (items ++ item ∷ []) ≡ with_commas text items ++ (codes "," ++ text item)
  commas_pushed [] item some = absurd (omega (arith, some))
  commas_pushed (first ∷ rest) item some =
      let behind : List ℕ = flat_map (λ next. codes "," ++ text next) rest in
      ap (λ (more : List ℕ). text first ++ more) (flat_map-append (λ next. codes "," ++ text next) rest (item ∷ []))
      ∙ ap (λ (last : List ℕ). text first ++ (behind ++ (codes "," ++ last))) (append-nil (text item))
      ∙ sym (append_assoc (text first) behind (codes "," ++ text item))

  -- the text of the first alone
  pub commas_first : (items : List A) (item : A) → slice_get items 0 ≡ Some item → with_commas text (take 1 items) ≡ text item
  commas_first [] item is = absurd (omega (arith, slice_get_within [] 0 item is))
  commas_first (first ∷ rest) item is = rw append-nil (ap text (get_or_from_slice_get (first ∷ rest) 0 item item is))

  -- behind the first, a comma and the text of the next
  commas_more : (items : List A) (at : ℕ) (item : A) → 1 ≤ at → slice_get items at ≡ Some item
      → with_commas text (take (at + 1) items) ≡ with_commas text (take at items) ++ (codes "," ++ text item)
  commas_more items at item some is =
      let within : at < length items = slice_get_within items at item is in
      rw (take_more items at item within, get_or_from_slice_get items at item item is)
      (commas_pushed (take at items) item (omega (arith, some, within, length-take-le at items (omega (arith, within)))))

  -- so the texts grow by a comma and the next text, behind what was there
  pub commas_grow : (items : List A) (at : ℕ) (item : A) (there before comma now : List ℕ) → 1 ≤ at → slice_get items at ≡ Some item
      → before ≡ there ++ with_commas text (take at items) → comma ≡ before ++ codes "," → now ≡ comma ++ text item
      → now ≡ there ++ with_commas text (take (at + 1) items)
  commas_grow items at item there before comma now some is was then is_now =
      let had : List ℕ = with_commas text (take at items) in
      rw (is_now, then, was, commas_more items at item some is)
      (append_assoc (there ++ had) (codes ",") (text item) ∙ append_assoc there had (codes "," ++ text item))
