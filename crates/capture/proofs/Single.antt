-- Each public function of this crate promises one outcome, and so does each step of a walk back; one that gives back a part of the
-- capture promises one part.
-- Assumes nothing.
use Rattle.std.specs.Prelude.{Option, Result, Ok, Err}
use mathlib.Core.Path.{◌≡◌, refl, sym, ap}
use mathlib.Core.List.{List}
use Prim.Native.Nat.{ℕ}
use Rattle.numbers.specs.declared.Refusal.{Refusal}
use Rattle.numbers.specs.Promise.{OneOutcome, OnePart}
use Rattle.numbers.proofs.Refusals.{same-refusal, same-given, refusal-met}
use Rattle.numbers.proofs.Single.{single, ◌&◌}
use Rattle.capture.specs.declared.Back.{Back}
use Rattle.capture.specs.declared.Stretch.{Stretch}
use Rattle.capture.specs.Back.{Steps}
use Rattle.capture.specs.Show.{Shown, shown_as, Shows}
use Rattle.capture.proofs as capture
use Rattle.capture.specs.contracts as contract

pub begins : OneOutcome contract.begins.ended capture.begins.Reads.Asked capture.begins.Reads.Post
begins = record { asks_nothing = λ κs a. tt; single = λ κs a o u p q. single p q & refl }

pub record-ends : OneOutcome contract.record_ends.ended capture.record_ends.Reads.Asked capture.record_ends.Reads.Post
record-ends = record { asks_nothing = λ κs a. tt; single = λ κs a o u p q. single p q & refl }

pub trailer-begins : OneOutcome contract.trailer_begins.ended capture.trailer_begins.Reads.Asked capture.trailer_begins.Reads.Post
trailer-begins = record { asks_nothing = λ κs a. tt; single = λ κs a o u p q. single p q & refl }

pub count : OneOutcome contract.count.ended capture.count.Reads.Asked capture.count.Reads.Post
count = record { asks_nothing = λ κs a. tt; single = λ κs a o u p q. single p q & refl }

pub trailer-right : OneOutcome contract.trailer_right.ended capture.trailer_right.Reads.Asked capture.trailer_right.Reads.Post
trailer-right = record { asks_nothing = λ κs a. tt; single = λ κs a o u p q. single p q & refl }

pub fault : OneOutcome contract.fault.ended capture.fault.Reads.Asked capture.fault.Reads.Post
fault = record { asks_nothing = λ κs a. tt; single = λ κs a o u p q. same-given (single p q) & refl }

-- two steps of one walk
pub step-single : {walk left other : Back} {given gave : Option ℕ} → Steps walk given left → Steps walk gave other
    → (given ≡ gave) × (left ≡ other)
step-single p q =
    (single p.place q.place, λ i. record { capture = single p.same q.same i; end = single p.further q.further i })

pub next : OneOutcome contract.BackIterator.next.ended capture.BackIterator.next.Reads.Asked capture.BackIterator.next.Reads.Post
next =
    record {
      asks_nothing = λ κs a. tt;
      single = λ κs a o u p q. let s = step-single p.0 q.0 in s.0 & (s.1 & refl);
    }

-- two answers that show one frame
pub shown-single : {c : List ℕ} {frame : ℕ} {r s : Shown} → Shows c frame r → Shows c frame s → r ≡ s
shown-single p q =
    λ i. record { number = single p.given q.given i; place = single p.place q.place i; len = single p.len q.len i }

-- what is shown tells its outcome
same-shown : (x y : Result Stretch Refusal) → shown_as x ≡ shown_as y → x ≡ y
same-shown (Ok x) (Ok y) e = λ i. Ok (record { place = (e i).place; len = (e i).len })
same-shown (Err r) (Err s) e = ap Err (same-refusal (ap (λ (a : Shown). a.number) e))
same-shown (Ok x) (Err s) e = absurd (refusal-met s (sym (ap (λ (a : Shown). a.number) e)))
same-shown (Err r) (Ok y) e = absurd (refusal-met r (ap (λ (a : Shown). a.number) e))

pub look_up : OneOutcome contract.look_up.ended capture.look_up.Reads.Asked capture.look_up.Reads.Post
look_up = record { asks_nothing = λ κs a. tt; single = λ κs a o u p q. same-shown o.0 u.0 (shown-single p q) & refl }

pub frame-before : OnePart contract.frame_before.ended (λ κs r. r) capture.frame_before.Reads.Asked capture.frame_before.Reads.Post
frame-before =
    record {
      asks_nothing = λ κs a. tt;
      single = λ κs a o u p q. (single p.bytes q.bytes, single p.stands q.stands, refl);
    }

pub show : OnePart contract.show.ended (λ κs r. r) capture.show.Reads.Asked capture.show.Reads.Post
show =
    record {
      asks_nothing = λ κs a. tt;
      single = λ κs a o u p q. (single p.bytes q.bytes, single p.stands q.stands, refl);
    }
