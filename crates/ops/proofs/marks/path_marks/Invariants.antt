-- The marks before i are written.
use Rattle.std.proofs.Common.{◌≡◌, take}
use Rattle.ops.specs.Marks.{mark_path}
use Rattle.ops.specs.Sets.{overlay}
use Rattle.ops.proofs.marks.path_marks.Given as goal

abbrev pub invariant-loop-i : goal.invariant-loop-i
invariant-loop-i l = l.marks ≡ overlay (take l.i (mark_path l.ops)) l.fn.marks
