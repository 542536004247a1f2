-- `play`: a fault leaves the table, and else what the frames are known to write to each item is written over the start values, and then the
-- alarm states are made true.
use Rattle.std.specs.Prelude.{Ok}
use Rattle.std.proofs.Common.{◌≡◌, length, sym, ap, ◌∙◌}
use Rattle.numbers.proofs.Refusals.{refusal-met, same-given}
use Rattle.table.specs.Table.{start_values}
use Rattle.playback.proofs.Walked.{known-writes}
use Rattle.playback.proofs.Played.{length-right, capture-right, started, start-length, start-fine, not-refused, not-played, is-played}
use Rattle.playback.proofs.play.Goals as goal

pub returns-in_default : goal.returns-in_default
returns-in_default c =
    not-played c.args.table.now c.args.address c.args.capture.now c.play_fault-fault.ensures (λ z.
    let fine : c.play_fault-fault.result ≡ Ok tt = same-given z in cc)

-- a table of the right length is started
pub returns-in_err-start : goal.returns-in_err-start
returns-in_err-start c =
    let met = sym c.play_fault-fault.ensures ∙ not-refused c.play_fault-fault.result (λ r e. cc) in
    let right = length-right c.args.table.now c.args.address c.args.capture.now met in
    absurd (refusal-met c.in_err-start.field-0.0 (c.in_err-start.ensures.given ∙ start-fine c.args.table.now right))

pub settle_all-requires : goal.settle_all-requires
settle_all-requires c =
    let met = sym c.play_fault-fault.ensures ∙ not-refused c.play_fault-fault.result (λ r e. cc) in
    capture-right c.args.table.now c.args.address c.args.capture.now met

pub write_over-requires : goal.write_over-requires
write_over-requires c =
    let met = sym c.play_fault-fault.ensures ∙ not-refused c.play_fault-fault.result (λ r e. cc) in
    let right = length-right c.args.table.now c.args.address c.args.capture.now met in
    ap length (c.start.ensures.left ∙ started c.args.table.now right) ∙ start-length

pub returns : goal.returns
returns c =
    let met = sym c.play_fault-fault.ensures ∙ not-refused c.play_fault-fault.result (λ r e. cc) in
    let right = length-right c.args.table.now c.args.address c.args.capture.now met in
    let fresh : c.start.new.table ≡ start_values = c.start.ensures.left ∙ started c.args.table.now right in
    is-played c.args.table.now c.args.address c.args.capture.now met
    (known-writes c.settle_all.ensures (rw fresh at c.write_over.ensures))
    c.keep_alarms.ensures
