-- The multiplier of the letter that is there.
use Rattle.std.proofs.Common.{ap, sym, ◌∙◌, arith}
use Rattle.branches.specs.Letters.{multiplier, letter_factor}
use Rattle.branches.proofs.ChannelRows.{letter_small}
use Rattle.branches.proofs.channels.letter_factor.Goals as goal

pub returns-in_err-letter : goal.returns-in_err-letter
unfolding letter_factor
returns-in_err-letter c = c.from_residual.ensures ∙ ap (multiplier c.args.lambda) c.in_err-letter.ensures

pub offset_bounds-lambda-letter : goal.offset_bounds-lambda-letter
offset_bounds-lambda-letter c = let h = letter_small c.args.w c.args.q _ c.in_ok-letter.letter (sym c.in_ok-letter.ensures) in omega arith

pub bounds-lambda-letter : goal.bounds-lambda-letter
bounds-lambda-letter c = letter_small c.args.w c.args.q _ c.in_ok-letter.letter (sym c.in_ok-letter.ensures)

pub returns : goal.returns
unfolding letter_factor
returns c = ap (multiplier c.args.lambda) c.in_ok-letter.ensures
