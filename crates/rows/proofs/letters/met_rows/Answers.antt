-- What the letters are summed to is how many terms are met.
use Rattle.std.proofs.Common.{◌≡◌, ℕ, ◌*◌, ◌∷◌, [], cond, sym, ◌∙◌, refl, rules, bit_or}
use Rattle.words.specs.Keys.{has_letter}
use Rattle.terms.specs.Met.{met_terms}
use Rattle.words.specs.Rows.{key_at}
use Rattle.rows.specs.Rows.{terms_in}
use Rattle.rows.proofs.StepLaws.{room_yes}
use Rattle.rows.proofs.LetterRows.{met_held, count_start, count_turn, one_number, two_numbers}
use Rattle.rows.proofs.letters.met_rows.Goals as goal

pub returns-in-None : goal.returns-in-None
returns-in-None c =
    let a = c.args in
    let k = λ (i : ℕ). key_at (2 * a.w) a.words.now i in
    rw c.in-None.is
    (met_held a.w a.n (a.a ∷ []) a.words.now a.coeffs.now (room_yes a.w a.n a.words.now a.coeffs.now c.rows_in.ensures c.if-rows_in-n.false)
    (sym (rw c.in-None.is at c.has_targets.ensures) ∙ c.if-not-has_targets.false)
    (c.count_rows.ensures (λ (i : ℕ). met_terms a.w (a.a ∷ []) (terms_in (2 * a.w) i a.words.now a.coeffs.now)) (count_start _ _ _ _)
    (λ i x h e.
    let f : x ≡ cond (has_letter a.w (k i) a.a) 1 0 = search rules in
    count_turn a.w (a.a ∷ []) i a.words.now a.coeffs.now (one_number a.w a.a a.a (k i) f))))

pub returns-in-Some : goal.returns-in-Some
returns-in-Some c =
    let a = c.args in
    let b = c.in-Some.b in
    let k = λ (i : ℕ). key_at (2 * a.w) a.words.now i in
    rw c.in-Some.is
    (met_held a.w a.n (a.a ∷ b ∷ []) a.words.now a.coeffs.now (room_yes a.w a.n a.words.now a.coeffs.now c.rows_in.ensures c.if-rows_in-n.false)
    (sym (rw c.in-Some.is at c.has_targets.ensures) ∙ c.if-not-has_targets.false)
    (c.count_rows-in-Some.ensures (λ (i : ℕ). met_terms a.w (a.a ∷ b ∷ []) (terms_in (2 * a.w) i a.words.now a.coeffs.now)) (count_start _ _ _ _)
    (λ i x h e.
    let f : x ≡ bit_or (cond (has_letter a.w (k i) a.a) 1 0) (cond (has_letter a.w (k i) b) 1 0) = search rules in
    count_turn a.w (a.a ∷ b ∷ []) i a.words.now a.coeffs.now (f ∙ two_numbers a.w a.a b (k i) refl refl))))
