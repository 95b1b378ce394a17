use Rattle.std.proofs.Common.{rules}
use Rattle.std.proofs.Common.{◌∙◌, ap}
use Rattle.std.proofs.Common.{ℕ, take}
use Rattle.std.proofs.lemmas.List.{take_all, take_min}
use Rattle.replies.specs.Printed.{z_lines}
use Rattle.replies.proofs.WriteLaws.{put}
use Rattle.replies.proofs.TextLaws.{lines_more}
use Rattle.replies.proofs.Page.write_means.Goals as goal

pub loop-x-init : goal.loop-x-init
unfolding z_lines
loop-x-init c = c.hold.ensures

pub loop-x-preserved : goal.loop-x-preserved
unfolding z_lines
loop-x-preserved c = lines_more _ c.loop-x.x-index (search rules) c.loop-x.invariant c.write_real_field.ensures

pub returns : goal.returns
unfolding z_lines
returns c =
    put (ap z_lines (take_all c.loop-x.x-index _ (search rules) ∙ ap (λ (k : ℕ). take k c.args.means.now) c.min.ensures ∙ take_min c.args.n c.args.means.now)) c.loop-x.invariant
