-- Each function of the C library promises one outcome: the result, and all that was lent.
-- Assumes nothing.
use mathlib.Core.Path.{refl}
use Prim.Native.Nat.{ℕ}
use lib.IntN.{ℤ}
use Rattle.numbers.specs.Promise.{OneOutcome}
use Rattle.numbers.proofs.Single.{single, ◌&◌, lent-single}
use Rattle.panel.proofs.Frames.{result-single}
use Rattle.panel.proofs.Single.{step-single}
use Rattle.panel_c.proofs as panel_c
use Rattle.panel_c.specs.contracts as contract

-- a number, and one thing that was lent
pub start_table : OneOutcome contract.vb_start_table.ended panel_c.vb_start_table.Reads.Asked panel_c.vb_start_table.Reads.Post
start_table = record { asks_nothing = λ κs a. tt; single = λ κs a o u p q. (lent-single p q).0 & (lent-single p q).1 & refl }

pub start_link : OneOutcome contract.vb_start_link.ended panel_c.vb_start_link.Reads.Asked panel_c.vb_start_link.Reads.Post
start_link = record { asks_nothing = λ κs a. tt; single = λ κs a o u p q. (lent-single p q).0 & (lent-single p q).1 & refl }

pub put : OneOutcome contract.vb_put.ended panel_c.vb_put.Reads.Asked panel_c.vb_put.Reads.Post
put = record { asks_nothing = λ κs a. tt; single = λ κs a o u p q. (lent-single p q).0 & (lent-single p q).1 & refl }

pub read_text : OneOutcome contract.vb_read_text.ended panel_c.vb_read_text.Reads.Asked panel_c.vb_read_text.Reads.Post
read_text =
    record { asks_nothing = λ κs a. tt; single = λ κs a o u p q. (lent-single p q).0 & refl & refl & (lent-single p q).1 & refl }

pub write_text : OneOutcome contract.vb_write_text.ended panel_c.vb_write_text.Reads.Asked panel_c.vb_write_text.Reads.Post
write_text =
    record { asks_nothing = λ κs a. tt; single = λ κs a o u p q. (lent-single p q).0 & refl & refl & (lent-single p q).1 & refl }

-- a step: the result, the state and the buffer
pub byte : OneOutcome contract.vb_byte.ended panel_c.vb_byte.Reads.Asked panel_c.vb_byte.Reads.Post
byte =
    record {
      asks_nothing = λ κs a. tt;
      single = λ κs a o u p q.
          let s = step-single p.step q.step in
          s.0 & s.1 & single p.left q.left & s.2 & refl;
    }

pub idle : OneOutcome contract.vb_idle.ended panel_c.vb_idle.Reads.Asked panel_c.vb_idle.Reads.Post
idle = record { asks_nothing = λ κs a. tt; single = λ κs a o u p q. let s = step-single p q in s.0 & s.1 & s.2 & refl }

-- a frame: the answer in the result, the table and the buffer
pub rtu : OneOutcome contract.vb_rtu.ended panel_c.vb_rtu.Reads.Asked panel_c.vb_rtu.Reads.Post
rtu =
    record {
      asks_nothing = λ κs a. tt;
      single = λ κs a o u p q.
          let x = p.outcome in
          let y = q.outcome in
          result-single (single x.sends.given y.sends.given) (single x.sends.len y.sends.len)
          & single x.table y.table
          & single x.sends.sent y.sends.sent
          & refl;
    }

pub ascii : OneOutcome contract.vb_ascii.ended panel_c.vb_ascii.Reads.Asked panel_c.vb_ascii.Reads.Post
ascii =
    record {
      asks_nothing = λ κs a. tt;
      single = λ κs a o u p q.
          result-single (single p.sends.given q.sends.given) (single p.sends.len q.sends.len)
          & single p.table q.table
          & single p.sends.sent q.sends.sent
          & refl;
    }

pub playback : OneOutcome contract.vb_playback.ended panel_c.vb_playback.Reads.Asked panel_c.vb_playback.Reads.Post
playback = record { asks_nothing = λ κs a. tt; single = λ κs a o u p q. (lent-single p q).0 & (lent-single p q).1 & refl }

pub show : OneOutcome contract.vb_show.ended panel_c.vb_show.Reads.Asked panel_c.vb_show.Reads.Post
show =
    record {
      asks_nothing = λ κs a. tt;
      single = λ κs a o u p q.
          single {A = ℕ} p.given q.given
          & refl
          & refl
          & single {A = ℕ} p.place q.place
          & single {A = ℕ} p.len q.len
          & refl;
    }

-- the last write: the number with whether one was found, the value and the records read
pub last-write : OneOutcome contract.vb_last_write.ended panel_c.vb_last_write.Reads.Asked panel_c.vb_last_write.Reads.Post
last-write =
    record {
      asks_nothing = λ κs a. tt;
      single = λ κs a o u p q.
          single {A = ℕ} p.given q.given
          & refl
          & refl
          & refl
          & single {A = ℤ} p.written q.written
          & single {A = ℕ} p.read q.read
          & refl;
    }
