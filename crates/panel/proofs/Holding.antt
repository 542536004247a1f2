-- From what a step of the link promises to what its call promises: its result can be held, and once held it is the call's.
-- Assumes nothing.
use mathlib.Core.Path.{◌≡◌, subst}
use mathlib.Core.Bool.{false}
use mathlib.Core.List.{List}
use Prim.Native.Nat.{ℕ, ◌≤◌}
use native.Mathlib.Omega.{arith}
use lib.IntN.{ℤ}
use lib.ListN.{length}
use Rattle.rkc.specs.declared.Link.{Link}
use Rattle.rkc.specs.declared.Stepped.{Stepped}
use Rattle.rkc.specs.Outcome.{Step, ByteCall, received, IdleCall, idled}
use Rattle.rkc.specs.Promise.{Leads, Idles}
use Rattle.demands.proofs.EachReply.{received-short, idled-short}
use Rattle.state.specs.State.{state_bytes, unpacked}
use Rattle.panel.specs.Calls.{is_call_fault}
use Rattle.panel.specs.Promise.{longest_reply, Holdable}
use Rattle.panel.proofs.Faults.{received-whole, idled-whole}

holdable : (s : List ℕ) (step : Step) (r : Stepped) → length step.reply ≤ 11
    → (is_call_fault step.number ≡ false → length s ≡ state_bytes)
    → r ≡ record { link = step.link; number = step.number; len = length step.reply } → Holdable r s
holdable s step r short whole back =
    let few : length step.reply ≤ longest_reply = omega arith in
    record { short = rw back few; whole = rw back whole }

-- a call on a state, made of the state that the bytes hold
module _ (s : List ℕ) (of : Link → ByteCall) (on : (of (unpacked s)).link ≡ unpacked s) {l : Link} {r : Stepped} {after : List ℕ} {left : List ℤ}
    (e : l ≡ unpacked s) (p : Leads (of l) r after left) where
  leads : Leads (of (unpacked s)) r after left
  leads = subst (λ (k : Link). Leads (of k) r after left) e p

  pub byte-holdable : Holdable r s
  byte-holdable =
      holdable s (received (of (unpacked s))).step r (received-short (of (unpacked s))) (received-whole s (of (unpacked s)) on) leads.steps.back

module _ (s : List ℕ) (of : Link → IdleCall) (on : (of (unpacked s)).link ≡ unpacked s) {l : Link} {r : Stepped} {after : List ℕ}
    (e : l ≡ unpacked s) (p : Idles (of l) r after) where
  idles : Idles (of (unpacked s)) r after
  idles = subst (λ (k : Link). Idles (of k) r after) e p

  pub idle-holdable : Holdable r s
  idle-holdable =
      holdable s (idled (of (unpacked s))) r (idled-short (of (unpacked s))) (idled-whole s (of (unpacked s)) on) idles.back
