-- What is claimed in specs/Alarms.antt: every call leaves a good table good, and the alarm states of a good table are true.
-- Assumes nothing.
use mathlib.Core.Path.{◌≡◌, refl, ap, ◌∙◌}
use mathlib.Core.Bool.{Bool, true, false}
use mathlib.Core.List.{List}
use Prim.Native.Nat.{ℕ}
use borrow.Author.Tests.{eqb-true, eqb-false}
use lib.Dec.{eqb}
use lib.IntN.{ℤ}
use Rattle.numbers.specs.Numbers.{none}
use Rattle.table.specs.Table.{good_table}
use Rattle.table.proofs.Laws.{good-alarms, good_start, good-put}
use Rattle.rtu.proofs.Demands.{frame-good}
use Rattle.ascii.proofs.Claims.{line-good}
use Rattle.demands.proofs.Demands.{demand-1-byte}
use Rattle.playback.specs.Playback.{play_number, played}
use Rattle.playback.proofs.Played.{started}
use Rattle.playback.proofs.Claims.{playback-claimed}
use Rattle.panel.specs.Alarms.{LampsTrue, OfLamps}

good-lamps : (t : List ℤ) → good_table t ≡ true → LampsTrue t
good-lamps t g = record { alarms_true = good-alarms t g; still_good = g }

-- a playback that is refused leaves the table
played-good : (t : List ℤ) (address : ℕ) (c : List ℕ) → good_table t ≡ true → good_table (played t address c) ≡ true
played-good t address c g = by (eqb (play_number t address c) none) refl
  where
    by : (b : Bool) → eqb (play_number t address c) none ≡ b → good_table (played t address c) ≡ true
    by true e = (playback-claimed t address c).good (eqb-true _ _ e)
    by false e = ap good_table ((playback-claimed t address c).refusal_leaves (eqb-false _ _ e)) ∙ g

pub lamps-claimed : OfLamps
lamps-claimed =
    record {
      after_byte = λ call g. good-lamps _ ((demand-1-byte call).good_stays_good g);
      after_frame = λ call frame g. good-lamps _ (frame-good call frame g);
      after_line = λ call line g. good-lamps _ (line-good call line g);
      after_playback = λ t address c g. good-lamps _ (played-good t address c g);
      after_put = λ t n v g. good-lamps _ (good-put t n v g);
      after_start = λ t l. good-lamps _ (ap good_table (started t l) ∙ good_start);
    }
