use Rattle.sheet.proofs.ScreenLaws.{answer_text, same_text}
use Rattle.qubit_bench.proofs.qubit_bench_answer.Goals as goal

pub returns : goal.returns
returns c = record {
  text = same_text (answer_text c.args.sheet.now _ c.answer-reply.ensures) c.printed.ensures;
  memory = c.answer-reply.ensures.memory;
}
