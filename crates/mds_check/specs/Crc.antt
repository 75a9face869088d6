-- The CRC-32 of ISO 3309, as zlib's crc32 has it: 32 bits of state, which take in each byte bit by
-- bit, the lowest bit first.
use Rattle.std.specs.Prelude.{ℕ, ◌/◌, ◌%◌, ◌==◌, if◌then◌else◌, List, [], ◌∷◌, bit_xor}
use Rattle.std.proofs.Common.{zero, suc}

-- the state behind one bit
unfoldable pub after_bit : ℕ → ℕ
after_bit state =
    if state % 2 == 1 then bit_xor (state / 2) 0xEDB8_8320 else state / 2

-- the state behind some bits
unfoldable pub after_bits : ℕ → ℕ → ℕ
after_bits zero state = state
after_bits (suc bits) state = after_bits bits (after_bit state)

-- the state behind a byte
unfoldable pub after_byte : ℕ → ℕ → ℕ
after_byte state byte = after_bits 8 (bit_xor state byte)

-- the state behind some bytes
abbrev pub after_bytes : ℕ → List ℕ → ℕ
after_bytes state [] = state
after_bytes state (byte ∷ bytes) = after_bytes (after_byte state byte) bytes

-- the check of some bytes
abbrev pub crc32 : List ℕ → ℕ
crc32 bytes = bit_xor (after_bytes 0xFFFF_FFFF bytes) 0xFFFF_FFFF
