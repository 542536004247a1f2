-- `state::lay_out`: each byte of the state is stored, so that nothing of what stood there is left.
use Rattle.std.proofs.Common.{rules, ◌≡◌, ◌/◌, length, refl, sym, arith}
use Rattle.kept.proofs.Lists.{elements}
use Rattle.state.specs.State.{packed}
use Rattle.state.proofs.Packing.{marked}
use Rattle.state.proofs.lay_out.Goals as goal

pub returns : goal.returns
unfolding packed
returns c =
    let n = c.args.link.time in
    let third : n / 65536 ≡ n / 256 / 256 = omega arith in
    let fourth : n / 16777216 ≡ n / 256 / 256 / 256 = omega arith in
    let eight : length c.args.link.kept ≡ 8 = search rules in
    rw (c.copy_from_slice-3.ensures.after, c.copy_from_slice-2.ensures.after, c.copy_from_slice.ensures.after, c.to_le_bytes.ensures, c.from.ensures, marked c.args.link.mark, third, fourth, sym (elements c.args.link.kept 8 eight), sym (elements c.args.state.now 24 c.requires)) refl
