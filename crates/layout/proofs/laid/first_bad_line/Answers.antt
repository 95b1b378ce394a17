use Rattle.std.proofs.Common.{rules, arith}
use Rattle.std.proofs.Common.{◌∙◌, ap, length, eqb, tests}
use Rattle.std.proofs.lemmas.Iterator.Splits.{YieldsList-from_slice_split}
use Rattle.std.proofs.lemmas.Iterator.Consumers.{YieldsList-turn, YieldsList-end, YieldsList-from_enumerate}
use Rattle.std.proofs.lemmas.List.{length_push}
use Rattle.text.specs.Bytes.{newline}
use Rattle.text.proofs.PartLaws.{parts_split}
use Rattle.layout.proofs.LineLaws.{parts_counted, passing_none, passing_all, part_bad, part_good}
use Rattle.layout.proofs.laid.first_bad_line.Goals as goal

pub loop-i-init : goal.loop-i-init
loop-i-init c = passing_none c.args.terms c.args.ops c.args.s.now

pub returns-then-not-is_right : goal.returns-then-not-is_right
returns-then-not-is_right c =
    let t = YieldsList-turn (YieldsList-from_enumerate (YieldsList-from_slice_split _ (λ b. eqb b 10) c.args.s.now (cc) (cc) (cc) (λ x b q k. search (rules, tests))) (cc)) c.loop-i.yielded _ c.loop-i.yielded_by _ _ _ c.in-Some.is c.next.ensures.steps in
    part_bad c.loop-i.invariant _ (parts_split newline c.args.s.now) _ _ t _ c.line_kind.ensures _ c.is_right.ensures c.if-not-is_right.true

pub loop-i-preserved : goal.loop-i-preserved
loop-i-preserved c =
    let t = YieldsList-turn (YieldsList-from_enumerate (YieldsList-from_slice_split _ (λ b. eqb b 10) c.args.s.now (cc) (cc) (cc) (λ x b q k. search (rules, tests))) (cc)) c.loop-i.yielded _ c.loop-i.yielded_by _ _ _ c.in-Some.is c.next.ensures.steps in
    rw (length_push c.loop-i.yielded (c.in-Some.i, c.in-Some.l), c.saturating_sub-rest.ensures) (part_good c.loop-i.invariant _ (parts_split newline c.args.s.now) _ _ t _ c.line_kind.ensures _ c.is_right.ensures c.if-not-is_right.false)

pub returns : goal.returns
returns c =
    let t = YieldsList-end (YieldsList-from_enumerate (YieldsList-from_slice_split _ (λ b. eqb b 10) c.args.s.now (cc) (cc) (cc) (λ x b q k. search (rules, tests))) (cc)) c.loop-i.yielded _ c.loop-i.yielded_by _ _ c.in-None.is c.next.ensures.steps in
    let n = t.1 ∙ parts_counted 0 _ ∙ ap length (parts_split newline c.args.s.now) in
    passing_all c.loop-i.invariant (omega (arith, n))
