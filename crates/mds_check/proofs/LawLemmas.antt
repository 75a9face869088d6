-- What the checks find.
use Rattle.std.proofs.Common.{◌≡◌, ◌≢◌, inl, inr, ℕ, suc, ◌+◌, ◌*◌, ◌-◌, ◌%◌, ◌^◌, ◌<◌, ◌≤◌, true, List, [], ◌∷◌, ◌++◌, length, All, refl, sym, ap, ◌∙◌, subst, arith, append_assoc, length-append}
use Rattle.std.specs.Int.Bits.{bit_xor, xor_self, xor_zero_r, xor_shifted, xor_comm}
use Rattle.std.proofs.lemmas.Nat.{xor_mod, xor_lt, pow_below, shl_below, mul-le}
use Rattle.std.proofs.lemmas.Bool.{cases_eq, cases_lt}
use Rattle.std.proofs.lemmas.List.{append_cancel_left}
use Rattle.std.proofs.lemmas.List.Elements.{All-nil, All-cons, All-head, All-tail, All-append}
use Rattle.std.proofs.Math.Pow.{pow_mono}
use Rattle.mds_journal.specs.Lines.{HasNoFeed, recovered_texts, open_lines}
use Rattle.mds_journal.proofs.LineLemmas.{recovered_line, recovered_lines, recovered_end}
use Rattle.mds_check.specs.Crc.{after_bits, after_byte, after_bytes, crc32}
use Rattle.mds_check.specs.Form.{check_text, IsText, laid_out, groups_of, IsChecked, CheckState, between_groups, behind_text, FitsFrom}
use Rattle.mds_check.specs.Laws.{IsByte, number_of, DifferInARun, file_with}
use Rattle.mds_check.proofs.StateLemmas.{Differ, differ, differ_is, xor_across, after_bits-xor, after_bits-add, after_bits-shl, after_bits-lt, after_bits-none, after_bytes-append, after_bytes-number, differ_bytes, differ_byte, differ_number}
use Rattle.mds_check.proofs.FormLemmas.{checks_are_apart, same_low_bits, check_text-no_feed}
use Rattle.mds_check.proofs.GroupLemmas.{groups_read_back, taken_none}

-- ---- checks of bytes

-- the last step keeps differences
differ_check : (a b : ℕ) → Differ a b → Differ (bit_xor a 0xFFFF_FFFF) (bit_xor b 0xFFFF_FFFF)
differ_check a b apart =
    let same : bit_xor a b ≡ bit_xor (bit_xor a 0xFFFF_FFFF) (bit_xor b 0xFFFF_FFFF) =
    sym (xor_across a 0xFFFF_FFFF b 0xFFFF_FFFF ∙ xor_zero_r (bit_xor a b)) in
    differ_is a b (bit_xor a 0xFFFF_FFFF) (bit_xor b 0xFFFF_FFFF) same apart

-- states that differ aren't the same
not_same : (a b : ℕ) → Differ a b → a ≢ b
not_same a b apart same = apart.some (ap (λ (n : ℕ). bit_xor n b) same ∙ xor_self b)

other_check : (a b : ℕ) → Differ a b → bit_xor a 0xFFFF_FFFF ≢ bit_xor b 0xFFFF_FFFF
other_check a b apart = not_same (bit_xor a 0xFFFF_FFFF) (bit_xor b 0xFFFF_FFFF) (differ_check a b apart)

-- nor are the lowest 32 bits of both
not_same_low : (a b : ℕ) → Differ a b → a % 2 ^ 32 ≢ b % 2 ^ 32
not_same_low a b apart same =
    let small : bit_xor a b < 2 ^ 32 = apart.small in
    let none : bit_xor a b % 2 ^ 32 ≡ 0 =
    xor_mod a b 32 ∙ ap (λ (n : ℕ). bit_xor n (b % 2 ^ 32)) same ∙ xor_self (b % 2 ^ 32) in
    apart.some (omega (arith, none, small))

differ_bytes_of : (x y : ℕ) → IsByte x → IsByte y → x ≢ y → Differ x y
differ_bytes_of x y first second other = differ x y (omega arith) (omega arith) other

-- one byte that differs, among others
differ_one : (state x y : ℕ) (front back : List ℕ) → Differ x y → Differ (after_bytes state (front ++ x ∷ back)) (after_bytes state (front ++ y ∷ back))
differ_one state x y [] back apart = differ_bytes (after_byte state x) (after_byte state y) back (differ_byte state x y apart)
differ_one state x y (byte ∷ front) back apart = differ_one (after_byte state byte) x y front back apart

pub byte_found : (front back : List ℕ) (x y : ℕ) → IsByte x → IsByte y → x ≢ y → crc32 (front ++ x ∷ back) ≢ crc32 (front ++ y ∷ back)
byte_found front back x y first second other =
    other_check (after_bytes 0xFFFF_FFFF (front ++ x ∷ back)) (after_bytes 0xFFFF_FFFF (front ++ y ∷ back))
    (differ_one 0xFFFF_FFFF x y front back (differ_bytes_of x y first second other))

-- behind bytes a state has at most 32 bits
after_byte-lt : (state byte : ℕ) → state < 2 ^ 32 → IsByte byte → after_byte state byte < 2 ^ 32
unfolding after_byte
after_byte-lt state byte small is = after_bits-lt 8 (bit_xor state byte) (xor_lt 32 state byte small (omega (arith, is)))

after_bytes-lt : (state : ℕ) (bytes : List ℕ) → state < 2 ^ 32 → All IsByte bytes → after_bytes state bytes < 2 ^ 32
after_bytes-lt state [] small are = small
after_bytes-lt state (byte ∷ bytes) small are =
    after_bytes-lt (after_byte state byte) bytes (after_byte-lt state byte small (All-head IsByte byte bytes are)) (All-tail IsByte byte bytes are)

crc32-lt : (bytes : List ℕ) → All IsByte bytes → crc32 bytes < 2 ^ 32
crc32-lt bytes are =
    xor_lt 32 (after_bytes 0xFFFF_FFFF bytes) 0xFFFF_FFFF (after_bytes-lt 0xFFFF_FFFF bytes (omega arith) are) (omega arith)

-- bytes whose checks have one text have one check
pub checks_same : (xs ys : List ℕ) → All IsByte xs → All IsByte ys → check_text (crc32 xs) ≡ check_text (crc32 ys) → crc32 xs ≡ crc32 ys
checks_same xs ys first second same = checks_are_apart (crc32 xs) (crc32 ys) (crc32-lt xs first) (crc32-lt ys second) same

-- ---- several bytes

pub number-lt : (bytes : List ℕ) → All IsByte bytes → number_of bytes < 2 ^ (8 * length bytes)
number-lt [] are = omega arith
number-lt (byte ∷ bytes) are =
    let rest = number-lt bytes (All-tail IsByte byte bytes are) in
    let here : byte < 2 ^ 8 = All-head IsByte byte bytes are in
    let size : 8 * suc (length bytes) ≡ 8 * length bytes + 8 = omega arith in
    let shifted : number_of bytes * 2 ^ 8 < 2 ^ (8 * length bytes + 8) = shl_below (number_of bytes) (8 * length bytes) 8 rest in
    let wide : 2 ^ 8 ≤ 2 ^ (8 * length bytes + 8) = pow_mono {i = 8} {j = 8 * length bytes + 8} (omega arith) in
    let low : byte < 2 ^ (8 * length bytes + 8) = omega (arith, here, wide) in
    subst (λ (bits : ℕ). number_of (byte ∷ bytes) < 2 ^ bits) (sym size) (xor_lt (8 * length bytes + 8) byte (number_of bytes * 2 ^ 8) low shifted)

-- bytes of one length with one number are the same
pub same_number : (xs ys : List ℕ) → All IsByte xs → All IsByte ys → length xs ≡ length ys → number_of xs ≡ number_of ys → xs ≡ ys
same_number [] [] first second size same = refl
same_number [] (y ∷ ys) first second size same = absurd (omega arith)
same_number (x ∷ xs) [] first second size same = absurd (omega arith)
same_number (x ∷ xs) (y ∷ ys) first second size same =
    let a : x < 2 ^ 8 = All-head IsByte x xs first in
    let b : y < 2 ^ 8 = All-head IsByte y ys second in
    let sum : number_of xs * 2 ^ 8 + x ≡ number_of ys * 2 ^ 8 + y =
    sym (xor_shifted (number_of xs) 8 x a) ∙ xor_comm (number_of xs * 2 ^ 8) x ∙ same ∙ xor_comm y (number_of ys * 2 ^ 8) ∙ xor_shifted (number_of ys) 8 y b in
    let here : x ≡ y = omega (arith, sum, a, b) in
    let rest : xs ≡ ys = same_number xs ys (All-tail IsByte x xs first) (All-tail IsByte y ys second) (omega arith) (omega (arith, sum, a, b)) in
    cc (here, rest)

number_small : (bytes : List ℕ) → All IsByte bytes → length bytes ≤ 4 → number_of bytes < 2 ^ 32
number_small bytes are few =
    let wide : 2 ^ (8 * length bytes) ≤ 2 ^ 32 = pow_mono {i = 8 * length bytes} {j = 32} (omega arith) in
    let small = number-lt bytes are in
    omega (arith, wide, small)

pub four_found : (front back xs ys : List ℕ) → All IsByte xs → All IsByte ys → length xs ≡ length ys → length xs ≤ 4 → xs ≢ ys → crc32 (front ++ xs ++ back) ≢ crc32 (front ++ ys ++ back)
four_found front back xs ys first second size few other =
    let before = after_bytes 0xFFFF_FFFF front in
    let numbers : Differ (number_of xs) (number_of ys) =
    differ (number_of xs) (number_of ys) (number_small xs first few) (number_small ys second (omega arith)) (λ same. other (same_number xs ys first second size same)) in
    let apart = differ_bytes (after_bytes before xs) (after_bytes before ys) back (differ_number before xs ys size numbers) in
    let whole = λ (middle : List ℕ). after_bytes-append 0xFFFF_FFFF (front ++ middle) back ∙ ap (λ (state : ℕ). after_bytes state back) (after_bytes-append 0xFFFF_FFFF front middle) in
    λ same. other_check (after_bytes (after_bytes before xs) back) (after_bytes (after_bytes before ys) back) apart
    (sym (ap (λ (state : ℕ). bit_xor state 0xFFFF_FFFF) (whole xs)) ∙ same ∙ ap (λ (state : ℕ). bit_xor state 0xFFFF_FFFF) (whole ys))

-- ---- runs of bits

run_within : (run place bits : ℕ) → 0 < run → run * 2 ^ place < 2 ^ bits → place ≤ bits
run_within run place bits some within = elim (cases_lt bits place) [
  | inl past ↦
      let more : 2 ^ bits < 2 ^ place = pow_below bits place past in
      let once : 1 * 2 ^ place ≤ run * 2 ^ place = mul-le 1 (2 ^ place) run (2 ^ place) (omega arith) (omega arith) in
      absurd (omega (arith, within, more, once))
  | inr is ↦ is
]

pub run_found : (xs ys : List ℕ) → DifferInARun xs ys → crc32 xs ≢ crc32 ys
run_found xs ys differs =
    let bits = 8 * length xs in
    let run = differs.run in
    let place = differs.place in
    let n = number_of xs in
    let m = number_of ys in
    let second : m < 2 ^ bits = subst (λ (size : ℕ). m < 2 ^ (8 * size)) (sym differs.size) (number-lt ys differs.are_bytes.1) in
    let within : run * 2 ^ place < 2 ^ bits = subst (λ (k : ℕ). k < 2 ^ bits) differs.differ (xor_lt bits n m (number-lt xs differs.are_bytes.0) second) in
    let most : place ≤ bits = run_within run place bits differs.some within in
    let behind = bits - place in
    let parts : bits ≡ place + behind = omega (arith, most) in
    let first : ℕ = 0xFFFF_FFFF in
    let same : bit_xor (bit_xor first n) (bit_xor first m) ≡ run * 2 ^ place = xor_across first n first m ∙ differs.differ in
    let states : bit_xor (after_bytes first xs) (after_bytes first ys) ≡ after_bits behind run =
    ap (λ (state : ℕ). bit_xor state (after_bytes first ys)) (after_bytes-number first xs)
    ∙ ap (bit_xor (after_bits bits (bit_xor first n))) (after_bytes-number first ys ∙ ap (λ (size : ℕ). after_bits (8 * size) (bit_xor first m)) (sym differs.size))
    ∙ sym (after_bits-xor bits (bit_xor first n) (bit_xor first m))
    ∙ ap (after_bits bits) same
    ∙ ap (λ (count : ℕ). after_bits count (run * 2 ^ place)) parts
    ∙ after_bits-add place behind (run * 2 ^ place)
    ∙ ap (after_bits behind) (after_bits-shl place run) in
    let some = differs.some in
    other_check (after_bytes first xs) (after_bytes first ys) (record {
      some = λ none. let zero_run = after_bits-none behind run differs.short (sym states ∙ none) in absurd (omega (arith, zero_run, some));
      small = subst (λ (k : ℕ). k < 2 ^ 32) (sym states) (after_bits-lt behind run differs.short);
    })

-- ---- lines

-- what fits from one state on doesn't from another, where the group is begun
not_both : (a b : CheckState) (lines : List (List ℕ)) → Differ a.state b.state → a.begun ≡ true → FitsFrom a lines → FitsFrom b lines → ⊥
not_both a b [] apart begun first second = cc (begun, first)
not_both a b (line ∷ lines) apart begun first second = elim (cases_eq (length line) 20) [
  | inl is ↦
      not_same_low (bit_xor a.state 0xFFFF_FFFF) (bit_xor b.state 0xFFFF_FFFF) (differ_check a.state b.state apart)
      (same_low_bits (bit_xor a.state 0xFFFF_FFFF) (bit_xor b.state 0xFFFF_FFFF) (sym (first.1 is).0 ∙ (second.1 is).0))
  | inr text ↦
      not_both (behind_text a line) (behind_text b line) lines (differ_bytes a.state b.state (open_lines (line ∷ [])) apart) refl (first.0 text) (second.0 text)
]

-- lines in front that are the same
same_front : (check : CheckState) (before xs ys : List (List ℕ)) → ((from : CheckState) → FitsFrom from xs → FitsFrom from ys → ⊥)
    → FitsFrom check (before ++ xs) → FitsFrom check (before ++ ys) → ⊥
same_front check [] xs ys apart first second = apart check first second
same_front check (line ∷ before) xs ys apart first second = elim (cases_eq (length line) 20) [
  | inl is ↦ same_front between_groups before xs ys apart (first.1 is).1 (second.1 is).1
  | inr text ↦ same_front (behind_text check line) before xs ys apart (first.0 text) (second.0 text)
]

-- the same of lists of lines that are checked
not_both_checked : (before xs ys : List (List ℕ)) → ((from : CheckState) → FitsFrom from xs → FitsFrom from ys → ⊥)
    → IsChecked (before ++ xs) → IsChecked (before ++ ys) → ⊥
not_both_checked before xs ys apart first second =
    same_front between_groups before xs ys apart ((taken_none (before ++ xs)).0 first) ((taken_none (before ++ ys)).0 second)

-- a byte that differs in a line makes states differ
differ_line : (state x y : ℕ) (front back : List ℕ) → Differ x y
    → Differ (after_bytes state (open_lines ((front ++ x ∷ back) ∷ []))) (after_bytes state (open_lines ((front ++ y ∷ back) ∷ [])))
differ_line state x y front back apart =
    let whole = λ (byte : ℕ). sym (append_assoc front (byte ∷ back) (10 ∷ [])) in
    let from = after_byte state 32 in
    subst (λ (bytes : List ℕ). Differ (after_bytes from bytes) (after_bytes from ((front ++ y ∷ back) ++ 10 ∷ []))) (whole x)
    (subst (λ (bytes : List ℕ). Differ (after_bytes from (front ++ x ∷ (back ++ 10 ∷ []))) (after_bytes from bytes)) (whole y)
    (differ_one from x y front (back ++ 10 ∷ []) apart))

pub line_found : (before after : List (List ℕ)) (front back : List ℕ) (x y : ℕ) → IsByte x → IsByte y → x ≢ y
    → IsChecked (before ++ (front ++ x ∷ back) ∷ after) → IsChecked (before ++ (front ++ y ∷ back) ∷ after) → ⊥
line_found before after front back x y first second other =
    let one = front ++ x ∷ back in
    let two = front ++ y ∷ back in
    let size : length one ≡ length two = length-append front (x ∷ back) ∙ sym (length-append front (y ∷ back)) in
    not_both_checked before (one ∷ after) (two ∷ after) (λ from fits also. elim (cases_eq (length one) 20) [
      | inl is ↦
          let same : one ≡ two = (fits.1 is).0 ∙ sym (also.1 (sym size ∙ is)).0 in
          let tails : x ∷ back ≡ y ∷ back = append_cancel_left front (x ∷ back) (y ∷ back) same in
          other (cc tails)
      | inr text ↦
          not_both (behind_text from one) (behind_text from two) after
          (differ_line from.state x y front back (differ_bytes_of x y first second other)) refl (fits.0 text) (also.0 (λ is. text (size ∙ is)))
    ])

-- two lines of texts, and the line that they become where another byte stands in the place of the line feed between them
joined_apart : (before after : List (List ℕ)) (one two : List ℕ) (byte : ℕ) → IsByte byte → byte ≢ 10
    → IsText one → IsText two → IsText (one ++ byte ∷ 32 ∷ two)
    → IsChecked (before ++ one ∷ two ∷ after) → IsChecked (before ++ (one ++ byte ∷ 32 ∷ two) ∷ after) → ⊥
joined_apart before after one two byte small other first second whole =
    let joined = one ++ byte ∷ 32 ∷ two in
    let feed : IsByte 10 = omega arith in
    not_both_checked before (one ∷ two ∷ after) (joined ∷ after) (λ from fits also.
    let start = after_byte from.state 32 in
    let apart : Differ (after_bytes start (one ++ 10 ∷ (32 ∷ (two ++ 10 ∷ [])))) (after_bytes start (one ++ byte ∷ (32 ∷ (two ++ 10 ∷ [])))) =
    differ_one start 10 byte one (32 ∷ (two ++ 10 ∷ [])) (differ_bytes_of 10 byte feed small (λ same. other (sym same))) in
    let lines : after_bytes start (one ++ 10 ∷ (32 ∷ (two ++ 10 ∷ []))) ≡ after_bytes (after_bytes from.state (open_lines (one ∷ []))) (open_lines (two ∷ [])) =
    ap (after_bytes start) (sym (append_assoc one (10 ∷ []) (32 ∷ (two ++ 10 ∷ [])))) ∙ after_bytes-append start (one ++ 10 ∷ []) (32 ∷ (two ++ 10 ∷ [])) in
    let line : after_bytes start (one ++ byte ∷ (32 ∷ (two ++ 10 ∷ []))) ≡ after_bytes from.state (open_lines (joined ∷ [])) =
    ap (after_bytes start) (sym (append_assoc one (byte ∷ 32 ∷ two) (10 ∷ []))) in
    let states = subst (λ (state : ℕ). Differ state (after_bytes from.state (open_lines (joined ∷ [])))) lines
    (subst (λ (state : ℕ). Differ (after_bytes start (one ++ 10 ∷ (32 ∷ (two ++ 10 ∷ [])))) state) line apart) in
    not_both (behind_text (behind_text from one) two) (behind_text from joined) after states refl ((fits.0 first).0 second) (also.0 whole))

-- ---- files

-- the lines of a file with this byte in one of them
pub file_lines : (before : List (List ℕ)) (front back rest : List ℕ) (byte : ℕ) → All HasNoFeed before → HasNoFeed (front ++ byte ∷ back)
    → recovered_texts (file_with before front byte back rest) ≡ before ++ (front ++ byte ∷ back) ∷ recovered_texts rest
file_lines before front back rest byte none own =
    ap (λ (bytes : List ℕ). recovered_texts (open_lines before ++ 32 ∷ bytes)) (sym (append_assoc front (byte ∷ back) (10 ∷ rest)))
    ∙ recovered_lines before (32 ∷ ((front ++ byte ∷ back) ++ 10 ∷ rest)) none
    ∙ ap (λ (lines : List (List ℕ)). before ++ lines) (recovered_line (front ++ byte ∷ back) rest own)

pub with_no_feed : (front back : List ℕ) (byte : ℕ) → HasNoFeed front → HasNoFeed back → byte ≢ 10 → HasNoFeed (front ++ byte ∷ back)
with_no_feed front back byte first second other =
    let IsOther : ℕ → Type 0 = λ (b : ℕ). b ≢ 10 in
    All-append IsOther front (byte ∷ back) first (All-cons IsOther byte back other second)

pub file_found : (before : List (List ℕ)) (front back rest : List ℕ) (x y : ℕ)
    → All HasNoFeed before → HasNoFeed front → HasNoFeed back → x ≢ 10 → y ≢ 10 → IsByte x → IsByte y → x ≢ y
    → IsChecked (recovered_texts (file_with before front x back rest)) → IsChecked (recovered_texts (file_with before front y back rest)) → ⊥
file_found before front back rest x y none ahead behind x_other y_other first second other one two =
    line_found before (recovered_texts rest) front back x y first second other
    (subst IsChecked (file_lines before front back rest x none (with_no_feed front back x ahead behind x_other)) one)
    (subst IsChecked (file_lines before front back rest y none (with_no_feed front back y ahead behind y_other)) two)

pub joined_found : (before : List (List ℕ)) (first second rest : List ℕ) (byte : ℕ)
    → All HasNoFeed before → HasNoFeed first → HasNoFeed second → IsByte byte → byte ≢ 10
    → IsText first → IsText second → IsText (first ++ byte ∷ 32 ∷ second)
    → IsChecked (recovered_texts (file_with before first 10 (32 ∷ second) rest)) → IsChecked (recovered_texts (file_with before first byte (32 ∷ second) rest)) → ⊥
joined_found before first second rest byte none ahead behind small other one_text two_text whole_text one two =
    let gate : HasNoFeed (32 ∷ second) = All-cons (λ (b : ℕ). b ≢ 10) 32 second (λ feed. cc) behind in
    let lines : recovered_texts (file_with before first 10 (32 ∷ second) rest) ≡ before ++ first ∷ second ∷ recovered_texts rest =
    recovered_lines before (32 ∷ (first ++ 10 ∷ (32 ∷ (second ++ 10 ∷ rest)))) none
    ∙ ap (λ (more : List (List ℕ)). before ++ more)
    (recovered_line first (32 ∷ (second ++ 10 ∷ rest)) ahead ∙ ap (λ (more : List (List ℕ)). first ∷ more) (recovered_line second rest behind)) in
    joined_apart before (recovered_texts rest) first second byte small other one_text two_text whole_text
    (subst IsChecked lines one)
    (subst IsChecked (file_lines before first (32 ∷ second) rest byte none (with_no_feed first (32 ∷ second) byte ahead gate other)) two)

laid_no_feed : (groups : List (List (List ℕ))) → All (All HasNoFeed) groups → All HasNoFeed (laid_out groups)
laid_no_feed [] none = All-nil HasNoFeed
laid_no_feed (group ∷ groups) none =
    let check = check_text (crc32 (open_lines group)) in
    All-append HasNoFeed group (check ∷ laid_out groups) (All-head (All HasNoFeed) group groups none)
    (All-cons HasNoFeed check (laid_out groups) (check_text-no_feed (crc32 (open_lines group))) (laid_no_feed groups (All-tail (All HasNoFeed) group groups none)))

pub groups_written : (groups : List (List (List ℕ))) (end : List ℕ) → All (All IsText) groups → All (All HasNoFeed) groups → recovered_texts end ≡ []
    → (groups_of (recovered_texts (open_lines (laid_out groups) ++ end)) ≡ groups) × IsChecked (recovered_texts (open_lines (laid_out groups) ++ end))
groups_written groups end are none nothing =
    let lines = recovered_end (laid_out groups) end (laid_no_feed groups none) nothing in
    let back = groups_read_back groups are in
    (ap groups_of lines ∙ back, subst IsChecked (sym lines) (ap laid_out back))
