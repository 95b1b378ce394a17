use Rattle.std.proofs.Common.{false, refl}
use Rattle.ops.proofs.MarkLaws.{all_over}
use Rattle.ops.proofs.marks.full_marks.Goals as goal

pub returns : goal.returns
returns c = all_over c.args.ops.now c.args.marks.now c.fill.new.self c.min-end.result c.min-end.ensures c.fill.ensures.len (λ k h. c.fill.ensures.clones k false h refl)
