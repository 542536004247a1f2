-- `bench::hear` is safe: no reply is longer than the buffer.
use Rattle.std.proofs.Common.{sym, arith}
use lib.Seq.{length-take-le}
use Rattle.bench.proofs.Replies.{within-buffer}
use Rattle.bench.proofs.hear.Goals as goal

pub slice_bounds-reply-end : goal.slice_bounds-reply-end
slice_bounds-reply-end c = within-buffer _ c.hear-len.ensures.leads (omega arith)

pub slice_bounds-write_all-end : goal.slice_bounds-write_all-end
slice_bounds-write_all-end c = sym (length-take-le _ _ (within-buffer _ c.hear-len.ensures.leads (omega arith)))
