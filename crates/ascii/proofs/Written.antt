-- A line that is made in the buffer of its body, and a reply that becomes one.
-- Assumes nothing.
use Rattle.std.proofs.Common.{◌≡◌, ℕ, suc, ◌+◌, ◌-◌, ◌*◌, ◌≤◌, List, [], ◌∷◌, ◌++◌, length, take, drop, set, ℤ, sym, refl, ap, ◌∙◌, ap₂, arith, length-append, length-take-le}
use lib.Seq.{sets, take-append-le}
use Rattle.crc.specs.Crc.{framed}
use Rattle.crc.proofs.Framed.{length-framed, take-framed}
use Rattle.crc.proofs.Sealed.{front}
use Rattle.modbus.specs.declared.Answered.{Answered}
use Rattle.modbus.specs.Outcome.{Outcome}
use Rattle.modbus.specs.Promise.{Gives}
use Rattle.call.specs.Call.{sent_as, sending}
use Rattle.call.proofs.Answered.{sent-some, gives-formed}
use Rattle.ascii.specs.Hexadecimal.{hex_of}
use Rattle.ascii.specs.Line.{colon, CR, LF, lrc_of, line_of}
use Rattle.ascii.specs.Promise.{Writes}
use Rattle.ascii.proofs.Hexadecimal.{hex-length, hex-append}
use Rattle.ascii.proofs.Stores.{set-sets, sets-append, sets_over}

-- the characters of a body with its LRC, and the length of a line
pub digits-length : (body : List ℕ) (lrc : ℕ) → length (hex_of (body ++ (lrc ∷ []))) ≡ 2 * length body + 2
digits-length body lrc = omega (arith, hex-length (body ++ (lrc ∷ [])), length-append body (lrc ∷ []))

pub line-length : (body : List ℕ) → length (line_of body) ≡ 2 * length body + 5
unfolding line_of
line-length body =
    let digits = hex_of (body ++ (lrc_of body ∷ [])) in
    omega (arith, length-append digits (CR ∷ LF ∷ []), digits-length body (lrc_of body))

-- ---- a line in the buffer of its body

module _ (buffer : List ℕ) (n : ℕ) (room : 2 * n + 5 ≤ length buffer) where
  long : length (take n buffer) ≡ n
  long = length-take-le n buffer (omega arith)

  -- the characters of the body, those of the LRC behind them, and then both ends
  stored : (lrc : ℕ) {spread checked : List ℕ} → lrc ≡ lrc_of (take n buffer) → spread ≡ sets buffer 1 (hex_of (take n buffer))
      → checked ≡ sets spread (2 * n + 1) (hex_of (lrc ∷ []))
      → set (set (set checked 0 colon) (2 * n + 3) CR) (2 * n + 4) LF ≡ sets buffer 0 (line_of (take n buffer))
  unfolding line_of
  stored lrc {spread} {checked} e s c =
      let body = take n buffer in
      let digits = hex_of (body ++ (lrc ∷ [])) in
      let ends = CR ∷ LF ∷ [] in
      let behind : 2 * n + 1 ≡ 1 + length (hex_of body) = omega (arith, long, hex-length body) in
      let end : 2 * n + 3 ≡ 1 + length digits = omega (arith, long, digits-length body lrc) in
      let last : 2 * n + 4 ≡ suc (2 * n + 3) = omega arith in
      let all : checked ≡ sets buffer 1 digits =
      c ∙ ap₂ (λ (b : List ℕ) (k : ℕ). sets b k (hex_of (lrc ∷ []))) s behind
      ∙ sym (sets-append (hex_of body) (hex_of (lrc ∷ [])) buffer 1)
      ∙ ap (sets buffer 1) (sym (hex-append body (lrc ∷ []))) in
      let front : set checked 0 colon ≡ sets (set buffer 0 colon) 1 digits =
      ap (λ (b : List ℕ). set b 0 colon) all ∙ set-sets digits buffer 0 1 colon (omega arith) in
      ap₂ (λ (b : List ℕ) (k : ℕ). set (set b (2 * n + 3) CR) k LF) front last
      ∙ ap (λ (k : ℕ). sets (sets (set buffer 0 colon) 1 digits) k ends) end
      ∙ sym (sets-append digits ends (set buffer 0 colon) 1)
      ∙ ap (λ (x : ℕ). sets buffer 0 (colon ∷ hex_of (body ++ (x ∷ [])) ++ ends)) e

  pub writes : (lrc : ℕ) {spread checked : List ℕ} → lrc ≡ lrc_of (take n buffer) → spread ≡ sets buffer 1 (hex_of (take n buffer))
      → checked ≡ sets spread (2 * n + 1) (hex_of (lrc ∷ []))
      → Writes buffer n (set (set (set checked 0 colon) (2 * n + 3) CR) (2 * n + 4) LF) (2 * n + 5)
  writes lrc e s c =
      record { handed = omega (arith, long, line-length (take n buffer)); sent = stored lrc e s c }

-- ---- the reply of a frame that becomes a line

-- a reply without bytes, in the form of either line
both-silent : (reply : List ℕ) → length (sent_as framed reply) ≡ 0 → sent_as line_of reply ≡ sent_as framed reply
both-silent [] e = refl
both-silent (b ∷ reply) e = absurd (omega (arith, length-framed (b ∷ reply)))

some_bytes : (reply : List ℕ) → (length (sent_as framed reply) ≡ 0 → ⊥) → length reply ≡ 0 → ⊥
some_bytes [] h e = h refl
some_bytes (b ∷ reply) h e = omega arith

module _ (o : Outcome) {a : Answered} {before mid : List ℕ} {left : List ℤ} (g : Gives (sending framed o) a before mid left) where
  -- nothing was replied
  pub gives_none : a.len ≡ 0 → Gives (sending line_of o) a before mid left
  gives_none e =
      let same = both-silent o.reply (sym g.sends.len ∙ e) in
      record {
        sends = record {
          given = g.sends.given;
          len = g.sends.len ∙ ap length (sym same);
          sent = g.sends.sent ∙ ap (sets before 0) (sym same);
        };
        table = g.table;
      }

  -- something was
  module _ (some : a.len ≡ 0 → ⊥) where
    pub replied : length o.reply ≡ 0 → ⊥
    replied = some_bytes o.reply (λ z. some (g.sends.len ∙ z))

    sealed : sent_as framed o.reply ≡ framed o.reply
    sealed = sent-some framed o.reply replied

    pub body-long : a.len ≡ length o.reply + 2
    body-long = g.sends.len ∙ ap length sealed ∙ length-framed o.reply

    pub gives-written : {after : List ℕ} {len : ℕ} → 2 * length o.reply + 5 ≤ length before → Writes mid (a.len - 2) after len
        → Gives (sending line_of o) (record { number = a.number; len = len }) before after left
    gives-written {after} {len} room w =
        let reply = o.reply in
        let n : a.len - 2 ≡ length reply = omega (arith, body-long) in
        let stored : mid ≡ sets before 0 (framed reply) = g.sends.sent ∙ ap (sets before 0) sealed in
        let long = length-framed reply in
        let line = line-length reply in
        let body : take (a.len - 2) mid ≡ reply =
        ap₂ take n stored ∙ ap (take (length reply)) (front before (framed reply) (omega arith))
        ∙ take-append-le (length reply) (framed reply) (drop (length (framed reply)) before) (omega arith)
        ∙ take-framed reply in
        gives-formed line_of o g.sends.given g.table replied (w.handed ∙ ap (λ (b : List ℕ). length (line_of b)) body)
        (w.sent ∙ ap₂ (λ (b c : List ℕ). sets b 0 (line_of c)) stored body
        ∙ sets_over before (framed reply) (omega arith) (line_of reply) (omega arith) (omega arith))
