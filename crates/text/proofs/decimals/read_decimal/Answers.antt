-- Each digit is read by `next_digit`, and what it cannot read spells no number.
use Rattle.std.proofs.Common.{sym, ◌∙◌, rules}
use Rattle.text.proofs.ReadLaws.{steps_next, steps_stop, steps_end, digit_stays}
use Rattle.text.proofs.decimals.read_decimal.Goals as goal

pub returns-in_err-v : goal.returns-in_err-v
returns-in_err-v c = c.from_residual.ensures ∙ steps_stop _ _ _ c.loop-b.b-index _ c.loop-b.invariant digit_stays (search rules) (sym c.in_err-v.was ∙ c.push_digit.ensures)

pub loop-b-preserved : goal.loop-b-preserved
loop-b-preserved c = steps_next _ _ _ c.loop-b.b-index _ c.loop-b.invariant _ (search rules) (sym c.in_ok-v.was ∙ c.push_digit.ensures)

pub returns : goal.returns
returns c = steps_end _ _ c.args.s.now c.loop-b.b-index _ c.loop-b.invariant (search rules)
