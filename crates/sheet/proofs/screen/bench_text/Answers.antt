use Rattle.sheet.proofs.ScreenLaws.{same_text, bench_long, bench_short}
use Rattle.sheet.proofs.screen.bench_text.Goals as goal

pub returns-then-s-gt65536 : goal.returns-then-s-gt65536
returns-then-s-gt65536 c = same_text (bench_long c.args.s.now c.if-s-gt65536.true) c.too_long_text.ensures

pub returns-else-s-gt65536 : goal.returns-else-s-gt65536
returns-else-s-gt65536 c = same_text (bench_short c.args.s.now c.if-s-gt65536.false) c.sheet_text.ensures
