-- What is known of a reader while its lines are handed out.
use Rattle.std.specs.Prelude.{◌≡◌, ℕ, ◌^◌, ◌<◌, ◌≤◌, List, [], ◌∷◌, ◌++◌, length, drop, Bool}
use Rattle.std.specs.Prelude.{true, false, Option, Some, None, IfSome, Result, Ok, Err}
use Rattle.std.specs.Io.KnownBytes.{prepend_known}
use Rattle.mds_journal.specs.Lines.{HasNoFeed, lines_behind, recovered_texts}
use Rattle.mds_journal.specs.Opening.{IsTooLong}
use Rattle.mds_journal.specs.declared.stream.StreamError.{StreamError}
use Rattle.mds_journal.specs.declared.stream.StreamError.TheVariants.{Memory, Read, TooLong, Full}
use Rattle.mds_journal.specs.declared.stream.LineStream.{LineStream}

-- how many bytes a text may have
abbrev pub most_of : {R : Type 0} → LineStream R → ℕ
most_of stream = stream.longest

-- how many lines were handed out, which is the number of the next
abbrev pub lines_given : {R : Type 0} → LineStream R → ℕ
lines_given stream = stream.count

-- how many lines an answer hands out
abbrev pub lines_of_stream : Result Bool StreamError → ℕ
lines_of_stream (Ok true) = 1
lines_of_stream (Ok false) = 0
lines_of_stream (Err error) = 0

-- what was read of the bytes behind the lines that were handed out
abbrev pub held_by : {R : Type 0} → LineStream R → List ℕ
held_by stream = drop stream.next stream.bytes.items

-- all that is behind the lines that were handed out, where it is known what the reader gives
abbrev pub unread_of : {R : Type 0} → (R → Option (List ℕ)) → LineStream R → Option (List ℕ)
unread_of remaining stream = prepend_known (held_by stream) (remaining stream.reader)

-- the next line may be asked for
pub record IsStream {R : Type 0} (stream : LineStream R) : Type 0 where
  pub limit : stream.longest < 2 ^ 62
  pub begins : stream.next ≤ length stream.bytes.items

-- known bytes begin with an open line of this text, and these are left
abbrev pub HandsOut : Option (List ℕ) → List ℕ → Option (List ℕ) → Type 0
HandsOut None text left = Unit {0}
HandsOut (Some bytes) text None = ⊥
HandsOut (Some bytes) text (Some rest) = (bytes ≡ 32 ∷ (text ++ 10 ∷ rest)) × HasNoFeed text

-- of known bytes the first line that counts has this text, and all others count behind it
abbrev pub CountsFirst : Option (List ℕ) → List ℕ → Option (List ℕ) → Type 0
CountsFirst None text left = Unit {0}
CountsFirst (Some bytes) text None = ⊥
CountsFirst (Some bytes) text (Some rest) = recovered_texts bytes ≡ text ∷ recovered_texts rest

-- in known bytes no line counts
abbrev pub StandsForNothing : Option (List ℕ) → Type 0
StandsForNothing known = IfSome known (λ bytes. recovered_texts bytes ≡ [])

-- what would count of known bytes if their first gate were open, counts now
abbrev pub OpensGate : Option (List ℕ) → Option (List ℕ) → Type 0
OpensGate None left = Unit {0}
OpensGate (Some bytes) None = ⊥
OpensGate (Some bytes) (Some rest) = recovered_texts rest ≡ lines_behind bytes

-- why lines can't be read on: the line of this number has more bytes than the limit, or so many
-- lines were handed out that no more are
abbrev pub IsStreamFault : ℕ → ℕ → Option (List ℕ) → StreamError → Type 0
IsStreamFault number limit known (TooLong line) = (line ≡ number) × IfSome known (IsTooLong limit)
IsStreamFault number limit known Full = 2 ^ 62 ≤ number
IsStreamFault number limit known Read = Unit {0}
IsStreamFault number limit known Memory = Unit {0}
