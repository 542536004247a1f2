-- `panel::vb_write_text`: what the text is given, and its six characters at the front.
use Rattle.std.proofs.Common.{◌≡◌, ◌≤◌, length, refl, sym, ap, ◌∙◌, arith, rules}
use Rattle.std.proofs.Math.Facts.{to_z-of_z}
use Rattle.text.specs.Numbers.{width}
use Rattle.text.specs.Writing.{Written}
use Rattle.numbers.proofs.Refusals.{given_if}
use Rattle.panel.proofs.Outcomes.{text-given, number-with-room, left-with-room}
use Rattle.panel.proofs.vb_write_text.Goals as goal

pub returns : goal.returns
returns c =
    let a = c.args in
    let e = rw (to_z-of_z c.ranges.value) at c.write-written.ensures in
    let room : width ≤ length a.chars.now = omega arith in
    let long : length c.characters_of-six.result ≡ width = search rules in
    record {
      given = c.from-2.ensures ∙ given_if _ c.err.ensures.value c.number_if.ensures ∙ text-given _ e ∙ sym (number-with-room a.decimals a.value a.chars.now room);
      left =
          left-with-room a.decimals a.value a.chars.now room c.copy_from_slice.ensures.after (search rules) c.characters_of-six.result long refl
          (c.characters_of-six.ensures ∙ ap (λ (w : Written). w.chars) e);
    }
