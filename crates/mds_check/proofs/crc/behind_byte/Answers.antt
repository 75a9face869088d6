use Rattle.std.proofs.Common.{ℕ, [], ◌/◌, sym, ap, ◌∙◌}
use Rattle.std.specs.Int.Bits.{bit_xor}
use Rattle.mds_check.specs.Crc.{after_bits}
use Rattle.mds_check.proofs.TableLemmas.{first_apart}
use Rattle.mds_check.proofs.crc.behind_byte.Goals as goal

pub returns : goal.returns
returns c =
    ap (λ (word : ℕ). bit_xor word (c.args.state / 256))
    (c.word.ensures ∙ ap (λ (low : ℕ). after_bits 8 (bit_xor low c.args.byte)) c.low_byte.ensures)
    ∙ sym (first_apart c.args.state c.args.byte [])
