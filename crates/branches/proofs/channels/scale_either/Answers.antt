-- A letter at one of the two qubits.
use Rattle.std.proofs.Common.{ap, rules, ◌∙◌, refl}
use Rattle.words.specs.Keys.{Key, has_letter}
use Rattle.branches.proofs.ChannelRows.{either_met, either_unmet}
use Rattle.branches.proofs.channels.scale_either.Goals as goal

pub returns-then-has_letter : goal.returns-then-has_letter
returns-then-has_letter c =
    let a = c.args in
    let s = a.rows.now in
    record {
      same = search rules;
      left = either_met s.w a.a a.b a.f a.i s.words.now s.coeffs.now (c.has_letter.ensures ∙ ap (λ (k : Key). has_letter s.w k a.a) c.key-key.ensures)
          (c.has_letter-2.ensures ∙ ap (λ (k : Key). has_letter s.w k a.b) c.key-key.ensures) refl c.if-has_letter.true refl c.scaled.ensures refl;
    }

pub returns-else-has_letter : goal.returns-else-has_letter
returns-else-has_letter c =
    let a = c.args in
    let s = a.rows.now in
    record {
      same = search rules;
      left = either_unmet s.w a.a a.b a.f a.i s.words.now s.coeffs.now (c.has_letter.ensures ∙ ap (λ (k : Key). has_letter s.w k a.a) c.key-key.ensures)
          (c.has_letter-2.ensures ∙ ap (λ (k : Key). has_letter s.w k a.b) c.key-key.ensures) refl c.if-has_letter.false;
    }
