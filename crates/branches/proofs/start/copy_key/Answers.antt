use Rattle.std.proofs.Common.{◌∷◌, [], ◌++◌, ℕ, List, ap, sym, ◌∙◌, get_or, arith}
use Rattle.std.proofs.lemmas.List.{take_more, take_more_set, take_all}
use Rattle.branches.proofs.start.copy_key.Goals as goal

pub loop-k-preserved : goal.loop-k-preserved
loop-k-preserved c =
    take_more_set c.loop-k.to c.loop-k.k _ (omega (arith, c.loop-k.auto.to, c.requires))
    ∙ ap (λ (xs : List ℕ). xs ++ get_or c.args.from.now c.loop-k.k 0 ∷ []) c.loop-k.invariant
    ∙ sym (take_more c.args.from.now c.loop-k.k 0 (omega arith))

pub returns : goal.returns
returns c =
    sym (take_all c.loop-k.k c.loop-k.to (omega (arith, c.loop-k.auto.to, c.requires)))
    ∙ c.loop-k.invariant
    ∙ take_all c.loop-k.k c.args.from.now (omega arith)
