-- Where the next line feed stands.
use Rattle.std.proofs.Common.{◌≡◌, ◌≢◌, ℕ, ◌+◌, ◌-◌, ◌<◌, ◌≤◌, List, [], ◌∷◌, ◌++◌, length, take, drop, get_or, sym, ◌∙◌, ap, subst, arith}
use Rattle.std.proofs.lemmas.Bool.{eqb-true, eq-eqb}
use Rattle.std.proofs.lemmas.List.{get_or-take, get_or-drop, length-take, length-drop, take_more, take_rest, take_all}
use Rattle.std.proofs.lemmas.List.Elements.{All-from_get_or}
use Rattle.std.proofs.Math.Seq.{take-add}
use Rattle.memchr.specs.Find.{Nowhere, Passes, is_byte}
use Rattle.mds_batch.specs.declared.item.EventItem.{EventItem}
use Rattle.mds_lines.specs.Stream.{HasNoFeed}
use Rattle.mds_lines.specs.LineReading.{AreRead}
use Rattle.mds_lines.proofs.LineLemmas.{read_others}

-- the bytes up to where none was found have none
none_up_to : (bytes : List ℕ) (n : ℕ) → Nowhere (Passes (is_byte 10) bytes) 0 n → HasNoFeed (take n bytes)
none_up_to bytes n none = All-from_get_or (λ byte. byte ≢ 10) (take n bytes) 0 (λ i within is.
    let less : i < n = omega (arith, within, length-take n bytes) in
    none i (omega arith) less (eq-eqb _ _ (sym (get_or-take n bytes i 0 less) ∙ is)))

module _ (bytes : List ℕ) (from : ℕ) where
  -- what is searched
  abbrev pub rest : List ℕ
  rest = take (length bytes - from) (drop from bytes)

  module _ (ended count taken : ℕ) (items : List EventItem) where
    -- the bytes up to where no line feed was found are read
    pub read_up_to : (at : ℕ) → Nowhere (Passes (is_byte 10) rest) 0 at → AreRead (take from bytes) ended count taken items → AreRead (take (from + at) bytes) ended count taken items
    read_up_to at none read =
        let none_here = none_up_to (drop from bytes) at (subst (λ all. Nowhere (Passes (is_byte 10) all) 0 at) (take_rest bytes from) none) in
        subst (λ front. AreRead front ended count taken items) (sym (take-add from at bytes)) (read_others (take from bytes) ended count taken items (take at (drop from bytes)) none_here read)

    -- and all of them where there is none
    pub read_whole : from ≤ length bytes → Nowhere (Passes (is_byte 10) rest) 0 (length rest) → AreRead (take from bytes) ended count taken items → AreRead bytes ended count taken items
    read_whole within none read =
        let most : length bytes ≤ from + length rest = omega (arith, within, ap length (take_rest bytes from), length-drop from bytes) in
        subst (λ all. AreRead all ended count taken items) (take_all (from + length rest) bytes most) (read_up_to (length rest) none read)

  -- a place that was found is one of the bytes
  pub found_within : (at : ℕ) → from ≤ length bytes → at < length rest → from + at < length bytes
  found_within at within less = omega (arith, within, less, ap length (take_rest bytes from), length-drop from bytes)

  -- the line feed that was found stands behind them
  pub with_feed : (at : ℕ) → from + at < length bytes → Passes (is_byte 10) rest at → take (from + (at + 1)) bytes ≡ take (from + at) bytes ++ 10 ∷ []
  with_feed at within passes =
      let feed : get_or bytes (from + at) 0 ≡ 10 = sym (get_or-drop from bytes at 0) ∙ ap (λ all. get_or all at 0) (sym (take_rest bytes from)) ∙ eqb-true _ _ passes in
      ap (λ n. take n bytes) (omega arith) ∙ take_more bytes (from + at) 0 within ∙ ap (λ byte. take (from + at) bytes ++ byte ∷ []) feed
