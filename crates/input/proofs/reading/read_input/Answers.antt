-- Each read takes the next piece, and the last leaves the buffer full or the input at its end.
use Rattle.std.proofs.Common.{arith}
use Rattle.input.proofs.PieceLaws.{none_taken, taken_more, full}
use Rattle.input.proofs.reading.read_input.Goals as goal

pub loop-at-init : goal.loop-at-init
loop-at-init g c = record { inside = omega arith; consumed = none_taken _ }

pub loop-at-preserved : goal.loop-at-preserved
loop-at-preserved g c =
    let r = c.in_ok-n.ensures in
    record { inside = omega (arith, r.bytes.0); consumed = taken_more _ _ _ _ _ _ _ c.loop-at.invariant.consumed r.kept r.bytes.1.0 }

pub returns-clause-bytes : goal.returns-clause-bytes
returns-clause-bytes g c = full _ _ _ _ _ (omega arith) c.loop-at.invariant.consumed
