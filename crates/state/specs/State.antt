-- The link state as firmware holds it, in 24 bytes: 0 phase, 1 item, 2 count, 3 BCC, 4 mark, 8 to 11 time with the low byte
-- first, 12 to 19 kept characters. The other bytes are ignored going in and 0 coming out.
use Rattle.std.specs.Prelude.{Bool, cond, not, List, [], ◌∷◌, ◌++◌, ◌⊎◌, ℕ, ◌<◌, eqb, length, get_or}
use Rattle.std.proofs.Math.Seq.{slice}
use Rattle.rkc.specs.declared.Link.{Link}
use Rattle.kept.specs.Bytes.{from_low, low_first}
use Rattle.rkc.specs.State.{in_phase}

abbrev pub state_bytes : ℕ
state_bytes = 24

-- whether bytes can hold a state
abbrev pub is_state : List ℕ → Bool
is_state s = eqb (length s) state_bytes

-- any byte but 0 marks
abbrev pub is_marked : ℕ → Bool
is_marked byte = not (eqb byte 0)

abbrev pub mark_byte : Bool → ℕ
mark_byte mark = cond mark 1 0

-- each field at its place
abbrev pub fields : List ℕ → Link
fields s =
    record {
      phase = get_or s 0 0;
      item = get_or s 1 0;
      count = get_or s 2 0;
      bcc = get_or s 3 0;
      mark = is_marked (get_or s 4 0);
      kept = slice 12 20 s;
      time = from_low (slice 8 12 s);
    }

-- a phase that no link has
abbrev pub unknown_phase : ℕ
unknown_phase = 255

-- the state that bytes hold: those of another length hold an unknown phase, so that each step refuses them in its place among
-- the faults
unfoldable pub unpacked : List ℕ → Link
unpacked s = cond (is_state s) (fields s) (in_phase unknown_phase)

-- the bytes that hold a state
unfoldable pub packed : Link → List ℕ
packed l =
    l.phase ∷ l.item ∷ l.count ∷ l.bcc
    ∷ mark_byte l.mark ∷ 0 ∷ 0 ∷ 0
    ∷ (low_first 4 l.time ++ (l.kept ++ (0 ∷ 0 ∷ 0 ∷ 0 ∷ [])))

-- the bytes once they were given a state to hold: those of another length stay
abbrev pub packed_into : List ℕ → Link → List ℕ
packed_into s l = cond (is_state s) (packed l) s

-- the bytes that hold nothing: 5, 6, 7, and 20 to 23
abbrev pub HoldsNothing : ℕ → Type 0
HoldsNothing i = ((4 < i) × (i < 8)) ⊎ (19 < i)
