-- One more byte that comes.
-- Assumes nothing.
use mathlib.Core.Path.{◌≡◌, ap, ap₂, ◌∙◌}
use mathlib.Core.List.{List}
use Prim.Native.Nat.{ℕ, ◌+◌, ◌<◌}
use native.Mathlib.Numerals.{add-one}
use lib.IntN.{ℤ}
use lib.ListN.{length, get_or, drop}
use lib.Seq.{drop-cons}
use Rattle.rkc.specs.declared.Stepped.{Stepped}
use Rattle.rkc.specs.declared.Link.{Link}
use Rattle.rkc.specs.Outcome.{Outcome, received}
use Rattle.rkc.specs.Promise.{Leads}
use Rattle.instrument.specs.declared.Instrument.{Instrument}
use Rattle.instrument.specs.Session.{call_of, left_by, lent, heard, Hears}

-- the byte at a place is the next to come
pub heard-next : (o : Outcome) (bytes : List ℕ) (k : ℕ) → k < length bytes
    → heard o (drop k bytes) ≡ heard (received (call_of (left_by o) lent (get_or bytes k 0))) (drop (k + 1) bytes)
unfolding heard
heard-next o bytes k h = rw (add-one, drop-cons bytes k 0)

-- what a step hands back and leaves is what the byte comes to
pub hears-next : (i : Instrument) (buffer : List ℕ) (byte : ℕ) {j : Instrument} {r : Stepped} {after : List ℕ}
    → Leads (call_of i buffer byte) r after j.table → j.link ≡ r.link → Hears (received (call_of i buffer byte)) r j
hears-next i buffer byte leads link =
    record {
      back = leads.steps.back;
      left = ap₂ (λ (t : List ℤ) (l : Link). record { table = t; link = l }) leads.left (link ∙ ap (λ (s : Stepped). s.link) leads.steps.back);
    }
