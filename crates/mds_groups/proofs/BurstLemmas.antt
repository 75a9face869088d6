-- What is found of a group that was changed by a burst of bits, wherever it begins.
use Rattle.std.proofs.Common.{◌≡◌, ◌≢◌, inl, inr, ℕ, suc, ◌+◌, ◌*◌, ◌-◌, ◌%◌, ◌^◌, ◌<◌, ◌≤◌, List, [], ◌∷◌, ◌++◌, length, take, codes, All, refl, sym, ap, ◌∙◌, subst, arith, length-append}
use Rattle.std.specs.Int.Bits.{bit_xor, xor_assoc, xor_self, xor_zero_r, xor_shifted, xor_comm}
use Rattle.std.proofs.lemmas.Bool.{cases_eq, cases_lt}
use Rattle.std.proofs.lemmas.Nat.{mod-mul-add, mul-le, pow-add, xor_block, xor_lt}
use Rattle.std.proofs.lemmas.List.Elements.{All-cons, All-head, All-nil, All-tail}
use Rattle.std.proofs.Math.Nat.{mul_assoc, mul-mod_left}
use Rattle.std.proofs.Math.Pow.{pow_mono}
use Rattle.mds_journal.specs.Lines.{open_lines}
use Rattle.mds_journal.proofs.LineLemmas.{open_lines-append}
use Rattle.mds_check.specs.Crc.{crc32}
use Rattle.mds_check.specs.Form.{check_digits, check_text}
use Rattle.mds_check.specs.Laws.{DifferInARun, IsByte, number_of}
use Rattle.mds_check.proofs.FormLemmas.{check_text-length}
use Rattle.mds_check.proofs.LawLemmas.{checks_same, number-lt, run_found, same_number}
use Rattle.mds_check.proofs.StateLemmas.{same_by_xor, xor_across}
use Rattle.mds_groups.specs.Form.{check_of}
use Rattle.mds_groups.specs.Laws.{ChangedGroupsAreFound}

-- ---- the numbers of bytes

some_power : (k : ℕ) → 0 < 2 ^ k
some_power k =
    let more : 2 ^ 0 ≤ 2 ^ k = pow_mono {i = 0} {j = k} (omega arith) in
    omega (arith, more)

-- differences that are moved
xor_moved : (a b k : ℕ) → bit_xor (a * 2 ^ k) (b * 2 ^ k) ≡ bit_xor a b * 2 ^ k
xor_moved a b k =
    let plus : (n : ℕ) → n + 0 ≡ n = λ n. omega arith in
    ap (λ (n : ℕ). bit_xor n (b * 2 ^ k)) (sym (plus (a * 2 ^ k)))
    ∙ ap (bit_xor (a * 2 ^ k + 0)) (sym (plus (b * 2 ^ k)))
    ∙ xor_block k a b 0 0 (some_power k) (some_power k) ∙ plus (bit_xor a b * 2 ^ k)

number-append : (xs ys : List ℕ) → number_of (xs ++ ys) ≡ bit_xor (number_of xs) (number_of ys * 2 ^ (8 * length xs))
number-append [] ys =
    let once : number_of ys * 2 ^ (8 * 0) ≡ number_of ys = omega arith in
    sym (xor_comm 0 (number_of ys * 2 ^ (8 * 0)) ∙ xor_zero_r (number_of ys * 2 ^ (8 * 0)) ∙ once)
number-append (x ∷ xs) ys =
    let n = number_of ys in
    let bits = 8 * length xs in
    let more : bits + 8 ≡ 8 * suc (length xs) = omega arith in
    let moved : n * 2 ^ bits * 2 ^ 8 ≡ n * 2 ^ (8 * suc (length xs)) =
    mul_assoc n (2 ^ bits) (2 ^ 8) ∙ ap (λ (p : ℕ). n * p) (sym (pow-add 2 bits 8) ∙ ap (λ (e : ℕ). 2 ^ e) more) in
    ap (λ (m : ℕ). bit_xor x (m * 2 ^ 8)) (number-append xs ys)
    ∙ ap (bit_xor x) (sym (xor_moved (number_of xs) (n * 2 ^ bits) 8))
    ∙ sym (xor_assoc x (number_of xs * 2 ^ 8) (n * 2 ^ bits * 2 ^ 8))
    ∙ ap (bit_xor (number_of (x ∷ xs))) moved

-- the difference of bytes is that of their fronts, and that of their backs moved
halves : (xs ys us vs : List ℕ) → length xs ≡ length us → All IsByte xs → All IsByte us
    → bit_xor (number_of (xs ++ ys)) (number_of (us ++ vs))
    ≡ bit_xor (number_of ys) (number_of vs) * 2 ^ (8 * length xs) + bit_xor (number_of xs) (number_of us)
halves xs ys us vs size first second =
    let k = 8 * length xs in
    let a = number_of xs in
    let b = number_of ys in
    let c = number_of us in
    let d = number_of vs in
    let other : c < 2 ^ k = subst (λ (n : ℕ). c < 2 ^ (8 * n)) (sym size) (number-lt us second) in
    ap (λ (n : ℕ). bit_xor n (number_of (us ++ vs))) (number-append xs ys)
    ∙ ap (bit_xor (bit_xor a (b * 2 ^ k))) (number-append us vs ∙ ap (λ (n : ℕ). bit_xor c (d * 2 ^ (8 * n))) (sym size))
    ∙ xor_across a (b * 2 ^ k) c (d * 2 ^ k)
    ∙ xor_comm (bit_xor a c) (bit_xor (b * 2 ^ k) (d * 2 ^ k))
    ∙ ap (λ (n : ℕ). bit_xor n (bit_xor a c)) (xor_moved b d k)
    ∙ xor_shifted (bit_xor b d) k (bit_xor a c) (xor_lt k a c (number-lt xs first) other)

-- ---- lines of checks

-- what each begins with
abbrev check_front : List ℕ
check_front = 32 ∷ codes "{\"crc32\":\""

-- and what is behind that
abbrev check_back : ℕ → List ℕ
check_back check = check_digits check ++ codes "\"}" ++ 10 ∷ []

line_split : (check : ℕ) → open_lines (check_text check ∷ []) ≡ check_front ++ check_back check
unfolding check_text
line_split check = refl

text_split : (check : ℕ) → check_text check ≡ codes "{\"crc32\":\"" ++ take 10 (check_back check)
unfolding check_text
text_split check = refl

line_length : (check : ℕ) → length (open_lines (check_text check ∷ [])) ≡ 22
line_length check =
    let text : length (check_text check ++ 10 ∷ []) ≡ 20 + 1 = length-append (check_text check) (10 ∷ []) ∙ ap (λ (n : ℕ). n + 1) (check_text-length check) in
    omega (arith, text)

-- ---- bursts

-- what is behind, and what is before
bytes_behind : (xs ys : List ℕ) → All IsByte (xs ++ ys) → All IsByte ys
bytes_behind [] ys are = are
bytes_behind (x ∷ xs) ys are = bytes_behind xs ys (All-tail IsByte x (xs ++ ys) are)

bytes_before : (xs ys : List ℕ) → All IsByte (xs ++ ys) → All IsByte xs
bytes_before [] ys are = All-nil IsByte
bytes_before (x ∷ xs) ys are =
    All-cons IsByte x xs (All-head IsByte x (xs ++ ys) are) (bytes_before xs ys (All-tail IsByte x (xs ++ ys) are))

-- a difference in front of a place doesn't come from bits behind it
run_before : (run place k high low : ℕ) → high * 2 ^ k + low ≡ run * 2 ^ place → low < 2 ^ k → low ≢ 0 → place < k
run_before run place k high low is below some = elim (cases_lt place k) [
  | inl before ↦ before
  | inr past ↦
      let rest = place - k in
      let whole : rest + k ≡ place = omega (arith, past) in
      let moved : run * 2 ^ place ≡ run * 2 ^ rest * 2 ^ k =
      ap (λ (e : ℕ). run * 2 ^ e) (sym whole) ∙ ap (λ (p : ℕ). run * p) (pow-add 2 rest k) ∙ sym (mul_assoc run (2 ^ rest) (2 ^ k)) in
      let none : low ≡ 0 =
      sym (mod-mul-add high (2 ^ k) low below) ∙ ap (λ (n : ℕ). n % 2 ^ k) (is ∙ moved) ∙ mul-mod_left (run * 2 ^ rest) (2 ^ k) in
      absurd (some none)
]

-- and a run is too short to reach this far
too_far : (p far low run : ℕ) → 2 ^ 88 * p ≤ far → far + low ≡ run → run ≤ 2 ^ 32 * p → 0 < p → ⊥
too_far p far low run one two three some = omega (arith, one, two, three, some)

module _ (ts us : List ℕ) (m n : ℕ) (first : m ≡ crc32 ts) (second : n ≡ crc32 us)
    (differs : DifferInARun (ts ++ open_lines (check_text m ∷ [])) (us ++ open_lines (check_text n ∷ []))) where
  abbrev one : List ℕ
  one = open_lines (check_text m ∷ [])

  abbrev two : List ℕ
  two = open_lines (check_text n ∷ [])

  abbrev low : ℕ
  low = bit_xor (number_of ts) (number_of us)

  abbrev apart : ℕ
  apart = bit_xor (number_of (check_back m)) (number_of (check_back n))

  size : length ts ≡ length us
  size =
      let all : length ts + length one ≡ length us + length two = sym (length-append ts one) ∙ differs.size ∙ length-append us two in
      omega (arith, all, line_length m, line_length n)

  ts_are : All IsByte ts
  ts_are = bytes_before ts one differs.are_bytes.0

  us_are : All IsByte us
  us_are = bytes_before us two differs.are_bytes.1

  one_are : All IsByte (check_front ++ check_back m)
  one_are = subst (All IsByte) (line_split m) (bytes_behind ts one differs.are_bytes.0)

  two_are : All IsByte (check_front ++ check_back n)
  two_are = subst (All IsByte) (line_split n) (bytes_behind us two differs.are_bytes.1)

  -- the lines of the checks differ behind their fronts
  lines_apart : bit_xor (number_of one) (number_of two) ≡ apart * 2 ^ 88
  lines_apart =
      let parts = halves check_front (check_back m) check_front (check_back n) refl (bytes_before check_front (check_back m) one_are) (bytes_before check_front (check_back n) two_are) in
      let none : bit_xor (number_of check_front) (number_of check_front) ≡ 0 = xor_self (number_of check_front) in
      ap (λ (bytes : List ℕ). bit_xor (number_of bytes) (number_of two)) (line_split m)
      ∙ ap (λ (bytes : List ℕ). bit_xor (number_of (check_front ++ check_back m)) (number_of bytes)) (line_split n)
      ∙ parts ∙ ap (λ (w : ℕ). apart * 2 ^ 88 + w) none ∙ omega arith

  whole : apart * 2 ^ 88 * 2 ^ (8 * length ts) + low ≡ differs.run * 2 ^ differs.place
  whole =
      sym (ap (λ (w : ℕ). w * 2 ^ (8 * length ts) + low) lines_apart)
      ∙ sym (halves ts one us two size ts_are us_are) ∙ differs.differ

  -- where the texts are the same, so are the checks
  not_same : low ≡ 0 → ⊥
  not_same none =
      let same : ts ≡ us = same_number ts us ts_are us_are size (same_by_xor (number_of ts) (number_of us) none) in
      let checks : m ≡ n = first ∙ ap crc32 same ∙ sym second in
      let all : ts ++ one ≡ us ++ two = ap (λ (w : List ℕ). w ++ one) same ∙ ap (λ (check : ℕ). us ++ open_lines (check_text check ∷ [])) checks in
      let zero_run : 0 ≡ differs.run * 2 ^ differs.place =
      sym (ap (λ (w : List ℕ). bit_xor (number_of w) (number_of (us ++ two))) all ∙ xor_self (number_of (us ++ two))) ∙ differs.differ in
      let some : 1 * 1 ≤ differs.run * 2 ^ differs.place = mul-le 1 1 differs.run (2 ^ differs.place) (omega (arith, differs.some)) (omega (arith, some_power differs.place)) in
      absurd (omega (arith, zero_run, some))

  -- where the texts alone differ, their checks do
  not_texts : apart ≡ 0 → ⊥
  not_texts none =
      let back : check_back m ≡ check_back n =
      same_number (check_back m) (check_back n) (bytes_behind check_front (check_back m) one_are) (bytes_behind check_front (check_back n) two_are) refl
      (same_by_xor (number_of (check_back m)) (number_of (check_back n)) none) in
      let texts : check_text m ≡ check_text n =
      text_split m ∙ ap (λ (w : List ℕ). codes "{\"crc32\":\"" ++ take 10 w) back ∙ sym (text_split n) in
      let checks : crc32 ts ≡ crc32 us =
      checks_same ts us ts_are us_are (ap check_text (sym first) ∙ texts ∙ ap check_text second) in
      let nothing : 0 * 2 ^ (8 * length ts) ≡ 0 = omega arith in
      let high : apart * 2 ^ 88 * 2 ^ (8 * length ts) ≡ 0 = ap (λ (w : ℕ). w * 2 ^ 88 * 2 ^ (8 * length ts)) none ∙ nothing in
      let low_is : low ≡ differs.run * 2 ^ differs.place = omega (arith, high, whole) in
      run_found ts us (record {
        size = size;
        are_bytes = (ts_are, us_are);
        run = differs.run;
        place = differs.place;
        differ = low_is;
        some = differs.some;
        short = differs.short;
      }) checks

  pub burst_found : ⊥
  burst_found = elim (cases_eq low 0) [
    | inl none ↦ not_same none
    | inr some ↦ elim (cases_eq apart 0) [
      | inl none ↦ not_texts none
      | inr far ↦
          let k = 8 * length ts in
          let other : number_of us < 2 ^ k = subst (λ (n : ℕ). number_of us < 2 ^ (8 * n)) (sym size) (number-lt us us_are) in
          let below : low < 2 ^ k = xor_lt k (number_of ts) (number_of us) (number-lt ts ts_are) other in
          let before = run_before differs.run differs.place k (apart * 2 ^ 88) low whole below some in
          let wide : 1 * 2 ^ 88 ≤ apart * 2 ^ 88 = mul-le 1 (2 ^ 88) apart (2 ^ 88) (omega (arith, far)) (omega arith) in
          let most : 2 ^ 88 * 2 ^ k ≤ apart * 2 ^ 88 * 2 ^ k = mul-le (2 ^ 88) (2 ^ k) (apart * 2 ^ 88) (2 ^ k) (omega (arith, wide)) (omega arith) in
          let short : differs.run ≤ 2 ^ 32 = omega (arith, differs.short) in
          let near : 2 ^ differs.place ≤ 2 ^ k = pow_mono {i = differs.place} {j = k} (omega (arith, before)) in
          let within : differs.run * 2 ^ differs.place ≤ 2 ^ 32 * 2 ^ k = mul-le differs.run (2 ^ differs.place) (2 ^ 32) (2 ^ k) short near in
          too_far (2 ^ k) (apart * 2 ^ 88 * 2 ^ k) low (differs.run * 2 ^ differs.place) most whole within (some_power k)
    ]
  ]

pub changed_groups_are_found : ChangedGroupsAreFound
changed_groups_are_found texts others differs =
    let first = open_lines-append texts (check_of texts ∷ []) in
    let second = open_lines-append others (check_of others ∷ []) in
    burst_found (open_lines texts) (open_lines others) (crc32 (open_lines texts)) (crc32 (open_lines others)) refl refl
    (subst (λ (w : List ℕ). DifferInARun w (open_lines others ++ open_lines (check_of others ∷ []))) first
    (subst (λ (w : List ℕ). DifferInARun (open_lines (texts ++ check_of texts ∷ [])) w) second differs))
