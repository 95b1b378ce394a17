-- What was read lies within the buffer, and the text buffer takes every text.
use Rattle.std.proofs.Common.{◌∙◌}
use Rattle.console.proofs.TextLaws.{screened, fed}
use Rattle.console.proofs.answer_input.Goals as goal

pub returns-clause-says : goal.returns-clause-says
returns-clause-says g c =
    screened _ _ _ _ _ c.in_ok-read.ensures.held c.bench_text-written.ensures c.requires.1 c.bench_text-written.auto.out

pub returns-clause-fed : goal.returns-clause-fed
returns-clause-fed g c = fed _ _ _ _ _ _ (c.read_input.auto.buf ∙ c.requires.0) c.in_ok-read.ensures.bytes
