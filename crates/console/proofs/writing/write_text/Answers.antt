-- A write takes the next part, or nothing where it was interrupted.
use Rattle.console.proofs.WriteLaws.{part_written, nothing_written}
use Rattle.console.proofs.writing.write_text.Goals as goal
use Rattle.console.proofs.writing.write_text.Goals.{in-Ok, in-Err+else-ne}

pub loop-preserved : goal.loop-preserved
loop-preserved g c =
    let l = c.loop in
    elim c.match-write.branch [
      | in-Ok w ↦ part_written _ _ _ _ _ _ _ l.invariant.0 w.at-is l.invariant.1 w.in-Ok.ensures.bound w.in-Ok.ensures.bytes
      | in-Err+else-ne w ↦ nothing_written _ _ _ _ _ _ l.invariant.0 w.at-is l.invariant.1 w.in-Err.ensures.bytes
    ]
