use Rattle.std.proofs.Common.{rules}
use Rattle.std.proofs.Common.{ap}
use Rattle.replies.proofs.WriteLaws.{both, put}
use Rattle.std.proofs.Common.{ℤ}
use Rattle.text.specs.Bytes.{bytes}
use Rattle.replies.proofs.TextLaws.{as_held}
use Rattle.replies.specs.Printed.{int_text, field, printed}
use Rattle.replies.proofs.Page.write_reply.Goals as goal

pub returns : goal.returns
unfolding printed
returns c =
    let e = ap (λ (z : ℤ). field (bytes "shown=") (int_text z)) (as_held c.args.reply.shown (search rules)) in
    (both c.write_count.ensures (both c.write_count-2.ensures (both c.write_real_field.ensures (both (put e c.write_signed_field.ensures) (both c.write_count-3.ensures (both c.write_count-4.ensures (both c.write_count-5.ensures (both c.write_real_field-2.ensures c.write_means.ensures))))))))
