-- Each function of the C face promises one outcome: the result, and all that was lent.
-- Assumes nothing.
use mathlib.Core.Path.{◌≡◌, refl}
use mathlib.Core.List.{List}
use Prim.Native.Nat.{ℕ}
use lib.IntN.{ℤ}
use Rattle.numbers.specs.Promise.{OneOutcome}
use Rattle.numbers.proofs.Single.{single, ◌&◌, lent-single}
use Rattle.rkc.specs.Outcome.{Step}
use Rattle.panel.specs.Promise.{StepLeft}
use Rattle.panel.proofs.Frames.{result-single}
use Rattle.panel.proofs as panel
use Rattle.panel.specs.contracts as contract

-- a number, and one thing that was lent
pub start_table : OneOutcome contract.vb_start_table.ended panel.vb_start_table.Reads.Asked panel.vb_start_table.Reads.Post
start_table = record { asks_nothing = λ κs a. tt; single = λ κs a o u p q. (lent-single p q).0 & (lent-single p q).1 & refl }

pub start_link : OneOutcome contract.vb_start_link.ended panel.vb_start_link.Reads.Asked panel.vb_start_link.Reads.Post
start_link = record { asks_nothing = λ κs a. tt; single = λ κs a o u p q. (lent-single p q).0 & (lent-single p q).1 & refl }

pub put : OneOutcome contract.vb_put.ended panel.vb_put.Reads.Asked panel.vb_put.Reads.Post
put = record { asks_nothing = λ κs a. tt; single = λ κs a o u p q. (lent-single p q).0 & (lent-single p q).1 & refl }

pub read_text : OneOutcome contract.vb_read_text.ended panel.vb_read_text.Reads.Asked panel.vb_read_text.Reads.Post
read_text =
    record { asks_nothing = λ κs a. tt; single = λ κs a o u p q. (lent-single p q).0 & refl & refl & (lent-single p q).1 & refl }

pub write_text : OneOutcome contract.vb_write_text.ended panel.vb_write_text.Reads.Asked panel.vb_write_text.Reads.Post
write_text =
    record { asks_nothing = λ κs a. tt; single = λ κs a o u p q. (lent-single p q).0 & refl & refl & (lent-single p q).1 & refl }

-- a step: the result, the state and the buffer
pub step-single : {step : Step} {r q : ℕ} {s held kept before after other : List ℕ} → StepLeft step r s held before after
    → StepLeft step q s kept before other → (r ≡ q) × (held ≡ kept) × (after ≡ other)
step-single x y = (single x.given y.given, single x.holds y.holds, single x.sent y.sent)

pub byte : OneOutcome contract.vb_byte.ended panel.vb_byte.Reads.Asked panel.vb_byte.Reads.Post
byte =
    record {
      asks_nothing = λ κs a. tt;
      single = λ κs a o u p q.
          let s = step-single p.step q.step in
          s.0 & s.1 & single p.left q.left & s.2 & refl;
    }

pub idle : OneOutcome contract.vb_idle.ended panel.vb_idle.Reads.Asked panel.vb_idle.Reads.Post
idle = record { asks_nothing = λ κs a. tt; single = λ κs a o u p q. let s = step-single p q in s.0 & s.1 & s.2 & refl }

-- a frame: the answer in the result, the table and the buffer
pub rtu : OneOutcome contract.vb_rtu.ended panel.vb_rtu.Reads.Asked panel.vb_rtu.Reads.Post
rtu =
    record {
      asks_nothing = λ κs a. tt;
      single = λ κs a o u p q.
          let x = p.outcome in
          let y = q.outcome in
          result-single (single x.sends.given y.sends.given) (single x.sends.len y.sends.len)
          & single x.table y.table
          & single x.sends.sent y.sends.sent
          & refl;
    }

pub ascii : OneOutcome contract.vb_ascii.ended panel.vb_ascii.Reads.Asked panel.vb_ascii.Reads.Post
ascii =
    record {
      asks_nothing = λ κs a. tt;
      single = λ κs a o u p q.
          result-single (single p.sends.given q.sends.given) (single p.sends.len q.sends.len)
          & single p.table q.table
          & single p.sends.sent q.sends.sent
          & refl;
    }

pub playback : OneOutcome contract.vb_playback.ended panel.vb_playback.Reads.Asked panel.vb_playback.Reads.Post
playback = record { asks_nothing = λ κs a. tt; single = λ κs a o u p q. (lent-single p q).0 & (lent-single p q).1 & refl }

pub show : OneOutcome contract.vb_show.ended panel.vb_show.Reads.Asked panel.vb_show.Reads.Post
show =
    record {
      asks_nothing = λ κs a. tt;
      single = λ κs a o u p q.
          single {A = ℕ} p.given q.given
          & refl
          & refl
          & single {A = ℕ} p.place q.place
          & single {A = ℕ} p.len q.len
          & refl;
    }

-- the last write: the number with whether one was found, the value and the records read
pub last-write : OneOutcome contract.vb_last_write.ended panel.vb_last_write.Reads.Asked panel.vb_last_write.Reads.Post
last-write =
    record {
      asks_nothing = λ κs a. tt;
      single = λ κs a o u p q.
          single {A = ℕ} p.given q.given
          & refl
          & refl
          & refl
          & single {A = ℤ} p.written q.written
          & single {A = ℕ} p.read q.read
          & refl;
    }
