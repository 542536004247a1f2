-- A reply is nothing, one character, or the data reply of an item: act by act, so that a claim about every reply is shown of these
-- three alone. None has over 11 bytes.
-- Assumes nothing.
use Rattle.std.specs.Prelude.{Option, Some, None}
use mathlib.Core.Path.{◌≡◌}
use mathlib.Core.Bool.{◌&&◌}
use mathlib.Core.List.{List, [], ◌∷◌, map}
use Prim.Native.Nat.{ℕ, ◌-◌, ◌≤◌}
use native.Mathlib.Omega.{arith}
use lib.Dec.{eqb, leb}
use lib.IntN.{ℤ}
use lib.ListN.{length, length-append, length-map}
use Rattle.numbers.specs.Numbers.{none}
use Rattle.numbers.proofs.Tests.{chosen}
use Rattle.items.specs.ItemList.{decimals_of, found}
use Rattle.table.specs.Table.{answered, xu_of}
use Rattle.line.specs.Line.{ETX, EOT, ACK, NAK, sent, bcc}
use Rattle.text.specs.Numbers.{width}
use Rattle.text.proofs.Texts.{written-length}
use Rattle.phases.specs.Phases.{waiting}
use Rattle.phases.specs.declared.Act.{Act}
use Rattle.phases.specs.declared.Act.TheVariants.{Go, First, Both, More, Ended, Quit, Poll, Send, Judge}
use Rattle.rkc.specs.declared.Link.{Link}
use Rattle.rkc.specs.State.{used}
use Rattle.rkc.specs.Outcome.{Step, Outcome, message, data_reply, item_text, item_sent, polled, refusing, judged, performed}
use Rattle.rkc.specs.Outcome.{ByteCall, byte_fault, received, IdleCall, idle_fault, elapsed, patience, idled}

-- ---- every reply

module _ (P : List ℕ → Type 0) (structure : ℕ) (nothing : P []) (one : (c : ℕ) → P (sent structure c ∷ []))
    (item : (i : ℕ) (six : List ℕ) → length six ≡ width → P (map (sent structure) (data_reply i six))) where
  item-reply : (time : ℕ) (t : List ℤ) (i : ℕ) → P (item_sent structure time t i).reply
  unfolding item_sent
  item-reply time t i =
      chosen (λ (s : Step). P s.reply) (eqb (item_text t i).number none)
      (λ _. item i _ (written-length width (decimals_of (xu_of t) i) (answered t i) (omega arith)))
      (λ _. one EOT)

  polled-reply : (time : ℕ) (t : List ℤ) (f : Option ℕ) → P (polled structure time t f).reply
  polled-reply time t (Some i) = item-reply time t i
  polled-reply time t None = one EOT

  judged-reply : (t : List ℤ) (l : Link) (c : ℕ) → P (judged structure t l c).step.reply
  judged-reply t l c =
      chosen (λ (o : Outcome). P o.step.reply) (eqb (refusing t l c) none) (λ _. one ACK) (λ _. one NAK)

  performed-reply : (l : Link) (t : List ℤ) (time : ℕ) (x : Act) → P (performed l t structure time x).step.reply
  unfolding performed
  performed-reply l t time (Go phase) = nothing
  performed-reply l t time (First a) = nothing
  performed-reply l t time (Both a b) = nothing
  performed-reply l t time (More c) = nothing
  performed-reply l t time Ended = nothing
  performed-reply l t time (Quit refusal) = one EOT
  performed-reply l t time (Poll a b) = polled-reply time t (found a b)
  performed-reply l t time (Send i) = item-reply time t (i - 1)
  performed-reply l t time (Judge c) = judged-reply t l c

module _ (P : List ℕ → Type 0) (nothing : P []) where
  pub received-reply : (call : ByteCall) → ((c : ℕ) → P (sent call.structure c ∷ []))
      → ((i : ℕ) (six : List ℕ) → length six ≡ width → P (map (sent call.structure) (data_reply i six)))
      → P (received call).step.reply
  unfolding received
  received-reply call one item =
      chosen (λ (o : Outcome). P o.step.reply) (eqb (byte_fault call) none)
      (λ _. performed-reply P call.structure nothing one item (used call.link) call.table call.time _)
      (λ _. nothing)

  pub idled-reply : (call : IdleCall) → ((c : ℕ) → P (sent call.structure c ∷ [])) → P (idled call).reply
  unfolding idled
  idled-reply call one =
      chosen (λ (s : Step). P s.reply) (eqb (idle_fault call) none)
      (λ _. chosen (λ (s : Step). P s.reply) (eqb (used call.link).phase waiting && leb patience (elapsed call.time (used call.link).time))
      (λ _. one EOT)
      (λ _. nothing))
      (λ _. nothing)

-- ---- how long

-- STX, identifier, six characters, ETX and BCC
data-reply-long : (structure i : ℕ) (six : List ℕ) → length six ≡ width → length (map (sent structure) (data_reply i six)) ≤ 11
unfolding data_reply
data-reply-long structure i six e =
    let m = length-append six (ETX ∷ []) in
    let a = length-append (message i six) (bcc (message i six) ∷ []) in
    rw length-map (omega arith)

abbrev Short : List ℕ → Type 0
Short reply = length reply ≤ 11

pub received-short : (call : ByteCall) → length (received call).step.reply ≤ 11
received-short call = received-reply Short (omega arith) call (λ c. omega arith) (data-reply-long call.structure)

pub idled-short : (call : IdleCall) → length (idled call).reply ≤ 11
idled-short call = idled-reply Short (omega arith) call (λ c. omega arith)
