-- A row that is not met is passed over.
use Rattle.std.proofs.Common.{◌+◌, sym, ap, ◌∙◌, subst}
use Rattle.terms.specs.Rotation.{met_by}
use Rattle.branches.specs.Pairs.{Pairing}
use Rattle.branches.proofs.PairLaws.{pairing_unmet}
use Rattle.branches.proofs.pairs.pair_row.Goals as goal

pub returns-clause-paired : goal.returns-clause-paired
returns-clause-paired c e =
    let a = c.args in
    let r = a.rows.now in
    let x = a.index.now in
    subst (Pairing a.axis r.w r.words.now a.n (a.i + 1) x.buckets) (sym c.pass.ensures.passed)
    (pairing_unmet a.axis r.w r.words.now a.n a.i x.buckets x.memory.now c.requires.1.1.1.0 c.requires.0 c.requires.1.0 c.requires.1.1.1.1
    (sym (c.key_met.ensures ∙ ap (met_by a.axis) c.key.ensures) ∙ c.if-key_met.false))
