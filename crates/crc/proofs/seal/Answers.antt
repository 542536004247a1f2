-- With room the bytes stored behind the body leave the frame; without room nothing changes.
use Rattle.std.proofs.Common.{◌≡◌, ℕ, ◌+◌, ◌-◌, ◌/◌, ◌%◌, ◌≤◌, ◌<◌, List, [], ◌∷◌, ◌++◌, length, take, drop, sym, ◌∙◌, append_assoc, arith}
use borrow.Author.Tests.{le-leb, lt-leb}
use lib.Seq.{drop-drop}
use Rattle.crc.specs.Crc.{low_first, crc16_of, framed, Seals}
use Rattle.crc.proofs.Sealed.{with-room, without-room}
use Rattle.crc.proofs.seal.Goals as goal
use Rattle.crc.proofs.seal.Goals.{then-buffer-lt2-via-then-buffer-lt2, then-buffer-lt2-via-else-buffer-lt2+then-buffer-n}

pub returns-then-buffer-lt2 : goal.returns-then-buffer-lt2
returns-then-buffer-lt2 c =
    let full : length c.args.buffer.now < c.args.n + 2 = elim c.then-buffer-lt2.branch [
      | then-buffer-lt2-via-then-buffer-lt2 w ↦ omega arith
      | then-buffer-lt2-via-else-buffer-lt2+then-buffer-n w ↦ omega arith
    ] in
    record { frame = without-room _ _ full; room = rw (lt-leb (c.args.n + 2) _ full) }

-- the two bytes of the CRC were stored
stored : (buffer bytes last : List ℕ) (n crc : ℕ) → n + 2 ≤ length buffer → crc < 65536 → crc ≡ crc16_of (take n buffer)
    → bytes ≡ crc % 256 ∷ crc / 256 % 256 ∷ [] → last ≡ bytes
    → Seals buffer n (take n buffer ++ (last ++ drop (n + 2 - n) (drop n buffer))) (n + 2)
unfolding framed
stored buffer bytes last n crc room small e b s =
    let high : crc / 256 % 256 ≡ crc / 256 = omega arith in
    let two : n + 2 - n ≡ 2 = omega arith in
    let body = take n buffer in
    rw (s, b, high, two, e, drop-drop 2 n buffer)
    (record {
      buffer = sym (append_assoc body (low_first (crc16_of body)) (drop (n + 2) buffer)) ∙ (with-room buffer n room).buffer;
      handed = (with-room buffer n room).handed;
    })

pub returns-clause-frame : goal.returns-clause-frame
returns-clause-frame c =
    stored c.args.buffer.now _ _ c.args.n _ (omega arith) c.crc16-crc.type_inv c.crc16-crc.ensures c.to_le_bytes.ensures c.copy_from_slice.ensures.after

pub returns-clause-room : goal.returns-clause-room
returns-clause-room c = rw (le-leb (c.args.n + 2) (length c.args.buffer.now) (omega arith))
