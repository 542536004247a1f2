-- One byte more is taken in: the bytes behind it are left, and with none left the register is the CRC.
use Rattle.std.proofs.Common.{◌≡◌, ℕ, ◌+◌, ◌≤◌, ◌<◌, List, length, get_or, drop, refl, sym, ap, ap₂, ◌∙◌, add-one, drop-cons}
use lib.ListN.{drop_of_length-le}
use Rattle.std.specs.Int.Bits.{bit_xor}
use Rattle.crc.specs.Crc.{shift, shifts, crc_from, crc16_of}
use Rattle.crc.proofs.Agree.{agree_at}
use Rattle.crc.proofs.crc16.Goals as goal

one_less : (bytes : List ℕ) (i crc next result : ℕ) → i < length bytes → crc_from crc (drop i bytes) ≡ result
    → next ≡ shifts 8 (bit_xor crc (get_or bytes i 0)) → crc_from next (drop (i + 1) bytes) ≡ result
unfolding crc_from
one_less bytes i crc next result more inv e =
    ap₂ crc_from e (ap (λ (k : ℕ). drop k bytes) (add-one i)) ∙ sym (ap (crc_from crc) (drop-cons bytes i 0 more)) ∙ inv

none_left : (bytes : List ℕ) (i crc result : ℕ) → length bytes ≤ i → crc_from crc (drop i bytes) ≡ result → crc ≡ result
unfolding crc_from
none_left bytes i crc result end inv = sym (ap (crc_from crc) (drop_of_length-le bytes end)) ∙ inv

pub loop-byte-init : goal.loop-byte-init
unfolding crc16_of
loop-byte-init c = refl

-- the sixteen constants are what four shifts make of each half byte: one test, computed by the definition of a shift
pub take_in-crc-requires : goal.take_in-crc-requires
unfolding shifts shift
take_in-crc-requires c = agree_at _ (shifts 4) 16 refl

pub loop-byte-preserved : goal.loop-byte-preserved
loop-byte-preserved c = one_less _ _ _ _ _ c.loop-byte-test.true c.loop-byte.invariant c.take_in-crc.ensures

pub returns : goal.returns
returns c = none_left _ _ _ _ c.loop-byte-test.false c.loop-byte.invariant
