-- The number so far has as many digits as bytes were read, so it fits.
use Rattle.std.proofs.Common.{sym, ◌∙◌, rules, arith}
use Rattle.text.proofs.ReadLaws.{steps_next, steps_stop, steps_end, hex_stays, hex_good, hex_bad, hex_low, hex_grows, hex_fits, hex16_none, hex16_start}
use Rattle.text.proofs.reals.read_hex.Goals as goal

pub returns-then-s-ne16 : goal.returns-then-s-ne16
returns-then-s-ne16 c = hex16_none _ c.if-s-ne16.true

pub loop-b-init : goal.loop-b-init
loop-b-init c = (search rules, search rules, hex16_start _ c.if-s-ne16.false)

pub overflow_mul-v : goal.overflow_mul-v
overflow_mul-v c = omega (arith, hex_fits c.loop-b.b-index c.loop-b.v 0 c.loop-b.invariant.1 (omega arith) (search rules))

pub returns-in_err-v : goal.returns-in_err-v
returns-in_err-v c = c.from_residual.ensures ∙ steps_stop _ _ _ c.loop-b.b-index _ c.loop-b.invariant.2 hex_stays (search rules) (hex_bad _ _ (sym c.hex_digit.ensures ∙ c.in_err-v.was))

pub overflow_add-v : goal.overflow_add-v
overflow_add-v c =
    let d = hex_low _ _ (sym c.hex_digit.ensures ∙ c.in_ok-v.was) in
    record { fits = hex_fits c.loop-b.b-index c.loop-b.v _ c.loop-b.invariant.1 d (search rules) }

pub loop-b-preserved : goal.loop-b-preserved
loop-b-preserved c =
    let d = sym c.hex_digit.ensures ∙ c.in_ok-v.was in
    (search rules, hex_grows _ _ _ c.loop-b.invariant.1 (hex_low _ _ d), steps_next _ _ _ c.loop-b.b-index _ c.loop-b.invariant.2 _ (search rules) (hex_good _ _ _ d))

pub returns : goal.returns
returns c = steps_end _ _ c.args.s.now c.loop-b.b-index _ c.loop-b.invariant.2 (search rules)
