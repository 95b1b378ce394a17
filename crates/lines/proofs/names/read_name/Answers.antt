use Rattle.std.proofs.Common.{◌≡◌, ◌∙◌, None}
use Rattle.std.specs.Option.{option_or}
use Rattle.lines.specs.OpLines.{one_name, other_name, channel_name}
use Rattle.lines.proofs.NameLaws.{name_in}
use Rattle.lines.proofs.names.read_name.Goals as goal

pub returns : goal.returns
returns c =
    let e : c.or-2.result ≡ option_or (option_or (one_name c.args.s.now None) (other_name c.args.s.now None)) (channel_name c.args.s.now) = cc in
    e ∙ name_in c.args.s.now
