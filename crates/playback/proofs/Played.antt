-- The numbers of a playback one by one, and what keeps its promise.
-- Assumes nothing.
use Rattle.std.specs.Prelude.{Result, Ok, Err}
use mathlib.Core.Path.{◌≡◌, refl, sym, ◌∙◌}
use mathlib.Core.Bool.{true, false}
use mathlib.Core.List.{List}
use Prim.Native.Nat.{ℕ}
use native.Mathlib.Omega.{arith}
use borrow.Author.Tests.{eqb-true, eq-eqb, ne_eqb}
use lib.Dec.{eqb}
use lib.IntN.{ℤ}
use lib.ListN.{length, length-replicate}
use Rattle.numbers.specs.declared.Refusal.{Refusal}
use Rattle.numbers.specs.Numbers.{none, least_buffer, bad_setting}
use Rattle.numbers.specs.Promise.{Lent}
use Rattle.numbers.specs.Refusals.{number_given}
use Rattle.numbers.proofs.Order.{last-met, passed, is-refused, is-done}
use Rattle.items.specs.ItemList.{items}
use Rattle.table.specs.Table.{wrong_length, alarms_kept, start_values, start_number, start_table}
use Rattle.table.proofs.Laws.{good_start, good_length}
use Rattle.call.specs.Call.{is_address, call_fault}
use Rattle.capture.specs.Format.{capture_fault, frames}
use Rattle.playback.specs.Playback.{handed_over, at_start, play_number, played}
use Rattle.playback.specs.Settling.{LastWrites}
use Rattle.playback.proofs.Frames.{start_fine, last-writes}

-- ---- the numbers

module _ (t : List ℤ) (address : ℕ) (c : List ℕ) where
  pub play_length : (length t ≡ items → ⊥) → play_number t address c ≡ wrong_length
  unfolding play_number
  play_length l = rw (ne_eqb (length t) items l)

  module _ (l : length t ≡ items) where
    pub play_address : is_address address ≡ false → play_number t address c ≡ bad_setting
    unfolding play_number
    play_address a = rw (eq-eqb (length t) items l, a)

    pub play_capture : is_address address ≡ true → play_number t address c ≡ capture_fault c
    unfolding play_number
    play_capture a = rw (eq-eqb (length t) items l, a) (last-met (capture_fault c))

  -- with none the table has an entry for each item, and the address is one that a device can have
  pub length-right : play_number t address c ≡ none → length t ≡ items
  unfolding play_number
  length-right e = eqb-true (length t) items (passed (eqb (length t) items) wrong_length _ (omega arith) e).0

  pub address-right : play_number t address c ≡ none → is_address address ≡ true
  unfolding play_number
  address-right e = (passed (is_address address) bad_setting _ (omega arith) (passed (eqb (length t) items) wrong_length _ (omega arith) e).1).0

module _ (t : List ℤ) (address : ℕ) (c : List ℕ) where
  -- and the capture has no fault
  pub capture-right : play_number t address c ≡ none → capture_fault c ≡ none
  capture-right e = sym (play_capture t address c (length-right t address c e) (address-right t address c e)) ∙ e

-- ---- the promise

-- what is no refusal has no number
pub not-refused : (fault : Result Unit Refusal) → ((refusal : Refusal) → fault ≡ Err refusal → ⊥) → number_given fault ≡ none
not-refused (Ok u) h = refl
not-refused (Err refusal) h = absurd (h refusal refl)

-- a table of that length starts at the start values
pub started : (t : List ℤ) → length t ≡ items → start_table t ≡ start_values
unfolding start_table start_number
started t l = rw (eq-eqb (length t) items l)

pub start-length : length start_values ≡ items
start-length = good_length start_values good_start

pub start-at : (address : ℕ) → is_address address ≡ true → call_fault (at_start address) ≡ none
unfolding at_start
start-at address a = start_fine address _ a (omega (arith, length-replicate {A = ℕ} least_buffer 0))

-- and is not refused
pub start-fine : (t : List ℤ) → length t ≡ items → start_number t ≡ none
unfolding start_number
start-fine t l = rw (eq-eqb (length t) items l)

module _ (t : List ℤ) (address : ℕ) (c : List ℕ) where
  pub not-played : {number : ℕ} → number ≡ play_number t address c → (number ≡ none → ⊥)
      → Lent (play_number t address c) (played t address c) number t
  unfolding played
  not-played e h =
      record {
        given = e;
        left = sym (is-refused (play_number t address c) (λ n. t) (handed_over (at_start address) (frames c)).table (λ z. h (e ∙ z)));
      }

  pub is-played : {settled left : List ℤ} → play_number t address c ≡ none → LastWrites address (frames c) start_values settled
      → left ≡ alarms_kept settled → Lent (play_number t address c) (played t address c) none left
  unfolding played at_start
  is-played met w k =
      record {
        given = sym met;
        left =
            k
            ∙ last-writes (frames c) (at_start address) (start-at address (address-right t address c met)) w
            ∙ sym (is-done (play_number t address c) (λ n. t) (handed_over (at_start address) (frames c)).table met);
      }
