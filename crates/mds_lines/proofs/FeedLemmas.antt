-- Faults of streams, and pieces of bytes.
use Rattle.std.proofs.Common.{◌≡◌, ◌≢◌, inl, inr, ℕ, ◌+◌, ◌-◌, ◌<◌, ◌≤◌, List, [], ◌∷◌, ◌++◌, length, take, drop, Option, Some, None, refl, sym, ap, subst, ◌∙◌, append_assoc, append-nil, length-append, arith}
use Rattle.std.proofs.lemmas.List.{take-append-drop, take-append-le, length-take}
use Rattle.std.proofs.lemmas.List.Elements.{All-nil}
use Rattle.std.proofs.Math.Seq.{take-append_seam, take-append-add}
use Rattle.mds_table.specs.Json.{max_bytes}
use Rattle.mds_batch.specs.declared.item.EventItem.{EventItem}
use Rattle.mds_lines.specs.declared.line_fault.LineFault.{LineFault}
use Rattle.mds_lines.specs.declared.line_fault.LineFault.TheVariants.{TooLong}
use Rattle.mds_lines.specs.Stream.{HasNoFeed, HasEndedItems, HasLineFault, IsFaultyWith}
use Rattle.mds_lines.specs.Fed.{Fed}
use Rattle.mds_lines.specs.LineReading.{AreRead, IsFaultyAtEnd, IsKept}
use Rattle.mds_lines.proofs.LineLaws.{one_ended_list}

-- a fault of the line that some bytes end with is that of each stream in which a line feed comes next
pub faulty_with_feed : (bytes : List ℕ) (fault : LineFault) → length bytes < max_bytes → IsFaultyAtEnd bytes fault → IsFaultyWith (bytes ++ 10 ∷ []) fault
faulty_with_feed bytes fault short at_end = λ more.
    subst (λ stream. HasLineFault stream fault) (sym (append_assoc bytes (10 ∷ []) more))
    (at_end (bytes ++ 10 ∷ more) more (record { ends = inl refl; within = omega (arith, short, length-append bytes (10 ∷ more)) }))

-- more bytes change no fault
pub faulty_with_more : (bytes more : List ℕ) (fault : LineFault) → IsFaultyWith bytes fault → IsFaultyWith (bytes ++ more) fault
faulty_with_more bytes more fault faulty = λ rest. subst (λ stream. HasLineFault stream fault) (sym (append_assoc bytes more rest)) (faulty (more ++ rest))

-- the fault of the first bytes is that of all
pub faulty_front : (n : ℕ) (bytes : List ℕ) (fault : LineFault) → IsFaultyWith (take n bytes) fault → IsFaultyWith bytes fault
faulty_front n bytes fault faulty = subst (λ all. IsFaultyWith all fault) (take-append-drop n bytes) (faulty_with_more (take n bytes) (drop n bytes) fault faulty)

-- the fault of bytes and a part of a piece is that of the bytes and the whole piece
pub faulty_piece : (n : ℕ) (bytes piece : List ℕ) (fault : LineFault) → IsFaultyWith (bytes ++ take n piece) fault → IsFaultyWith (bytes ++ piece) fault
faulty_piece n bytes piece fault faulty =
    subst (λ all. IsFaultyWith all fault) (append_assoc bytes (take n piece) (drop n piece) ∙ ap (λ all. bytes ++ all) (take-append-drop n piece))
    (faulty_with_more (bytes ++ take n piece) (drop n piece) fault faulty)

-- the lines that are read are those that have ended
pub ended_items : (bytes : List ℕ) (ended count taken : ℕ) (items : List EventItem) → length bytes ≤ max_bytes → AreRead bytes ended count taken items → HasEndedItems bytes items
ended_items bytes ended count taken items short read = (read.0, read.1, read.2.begins, read.2.unended, short, read.3)

-- and the other way round
pub read_items : (bytes : List ℕ) (ended count taken : ℕ) (own items : List EventItem) → length bytes ≤ max_bytes → AreRead bytes ended count taken own → HasEndedItems bytes items → AreRead bytes ended count taken items
read_items bytes ended count taken own items short read has =
    subst (λ all. AreRead bytes ended count taken all) (one_ended_list bytes own items (ended_items bytes ended count taken own short read) has) read

-- no line has ended in no bytes
pub none_ended : HasEndedItems [] []
none_ended = ([], [], record { joined = refl; whole = All-nil HasNoFeed }, All-nil (λ byte. byte ≢ 10), omega arith, record { each = tt; few = omega arith })

-- bytes past the limit, where the lines up to there have no fault
pub faulty_too_long : (most : ℕ) (bytes : List ℕ) (ended count taken : ℕ) (items : List EventItem) → most ≡ max_bytes → most < length bytes → AreRead (take most bytes) ended count taken items → IsFaultyWith bytes TooLong
faulty_too_long most bytes ended count taken items is long read = λ more.
    let front : take most bytes ≡ take max_bytes (bytes ++ more) = sym (ap (λ n. take n (bytes ++ more)) (sym is) ∙ take-append-le most bytes more (omega (arith, long))) in
    let short : length (take most bytes) ≤ max_bytes = omega (arith, is, length-take most bytes) in
    (omega (arith, is, long, length-append bytes more), (items, subst (λ all. HasEndedItems all items) front (ended_items (take most bytes) ended count taken items short read)))

-- the bytes before a piece are the first of all, also where only a part of all is taken that they are in
pub front_kept : (bytes more : List ℕ) (to : ℕ) → length bytes ≤ to → take (length bytes) (take to (bytes ++ more)) ≡ bytes
front_kept bytes more to within =
    let joined : length bytes + (to - length bytes) ≡ to = omega (arith, within) in
    subst (λ n. take (length bytes) (take n (bytes ++ more)) ≡ bytes) joined
    (ap (take (length bytes)) (take-append-add bytes more (to - length bytes)) ∙ take-append_seam bytes (take (to - length bytes) more))

-- so they are what was read before the piece came
pub front_read : (from to kept : ℕ) (bytes piece all now : List ℕ) → from ≡ length bytes → length bytes ≤ to → all ≡ bytes ++ take kept piece → now ≡ all → bytes ≡ take from (take to now)
front_read from to kept bytes piece all now is within grown same =
    sym (ap (λ n. take n (take to now)) is ∙ ap (λ one. take (length bytes) (take to one)) (same ∙ grown) ∙ front_kept bytes (take kept piece) to within)

-- a fault of every stream that begins with some bytes is that of the bytes alone
pub faulty_now : (bytes : List ℕ) (fault : LineFault) → IsFaultyWith bytes fault → HasLineFault bytes fault
faulty_now bytes fault faulty = subst (λ all. HasLineFault all fault) (append-nil bytes) (faulty [])

-- a fault of the line that some bytes end with is theirs, where the stream ends
pub faulty_last : (bytes : List ℕ) (fault : LineFault) → length bytes ≤ max_bytes → IsFaultyAtEnd bytes fault → HasLineFault bytes fault
faulty_last bytes fault short at_end = at_end bytes [] (record { ends = inr (refl, refl); within = omega (arith, short) })

-- the bytes that were fed
abbrev bytes_of : Fed → List ℕ
bytes_of fed = fed.bytes

-- what is seen of a reader has its bytes
pub same_bytes : (fed seen : Fed) → fed ≡ seen → fed.bytes ≡ seen.bytes
same_bytes fed seen is = ap bytes_of is

-- without a fault the lines that have ended are read
pub kept_items : (fed seen : Fed) (kept : Option LineFault) (ended count taken : ℕ) (items : List EventItem) → fed ≡ seen → kept ≡ None → IsKept kept fed.bytes ended count taken → HasEndedItems seen.bytes items → AreRead fed.bytes ended count taken items
kept_items fed seen kept ended count taken items is none held has =
    let read : IsKept None fed.bytes ended count taken = subst (λ one. IsKept one fed.bytes ended count taken) none held in
    read_items fed.bytes ended count taken read.0.0 items read.1 read.0.1 (subst (λ bytes. HasEndedItems bytes items) (sym (same_bytes fed seen is)) has)

-- a fault that is kept is that of the bytes that are seen
pub kept_fault : (fed seen : Fed) (kept : Option LineFault) (fault : LineFault) (ended count taken : ℕ) → fed ≡ seen → kept ≡ Some fault → IsKept kept fed.bytes ended count taken → IsFaultyWith seen.bytes fault
kept_fault fed seen kept fault ended count taken is found held =
    let faulty : IsKept (Some fault) fed.bytes ended count taken = subst (λ one. IsKept one fed.bytes ended count taken) found held in
    subst (λ all. IsFaultyWith all fault) (ap bytes_of is) faulty
