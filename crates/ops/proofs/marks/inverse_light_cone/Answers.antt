use Rattle.std.proofs.Common.{List, Bool, ap, ◌∙◌}
use Rattle.ops.specs.Sets.{overlay, set_marks}
use Rattle.ops.proofs.CoverLaws.{cone_marked}
use Rattle.ops.proofs.marks.inverse_light_cone.Goals as goal

pub returns : goal.returns
returns c = cone_marked c.args.w c.args.key.now c.args.ops.now (c.cone_from.ensures ∙ ap (λ (s : List Bool). overlay (set_marks s c.args.ops.now) c.args.marks.now) c.of_word.ensures)
