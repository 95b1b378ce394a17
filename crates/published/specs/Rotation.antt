-- "Rotation": t, tdg, rz, p and rzz, on complex coefficients. Which terms are met, and their partners, is a matter of words alone: terms Rotation.
use Rattle.std.specs.Prelude.{Bool, cond, List, [], ◌∷◌, ◌++◌, map, Float}
use Rattle.std.proofs.Math.Option.{Option, none, some}
use Rattle.numbers.specs.Tests.{is_zero}
use Rattle.words.specs.Keys.{Key}
use Rattle.published.specs.declared.Complex64.{Complex64}
use Rattle.published.specs.Complex.{scaled_of, flipped_of, plus_of}
use Rattle.published.specs.Term.{Term, term, find}

-- "c × cos + flip(partner)"
abbrev pub mixed : Float → Float → Complex64 → Complex64 → Complex64
mixed sin cos c d = plus_of (scaled_of cos c) (flipped_of sin d)

module _ (met : Key → Bool) (partner : Key → Key) (sin cos : Float) where
  -- "Sine equal to 0: met terms times cosine"
  abbrev pub scaled_met : Term → Term
  scaled_met t = cond (met t.key) (term t.key (scaled_of cos t.coeff)) t

  -- the partner's word with flip(c)
  abbrev pub flipped_term : Term → Term
  flipped_term t = term (partner t.key) (flipped_of sin t.coeff)

  -- what becomes of a met term, by its partner's old coefficient
  abbrev pub turned_term : Term → Option Complex64 → Term
  turned_term t (some d) = term t.key (mixed sin cos t.coeff d)
  -- "rewritten as the partner's word with flip(c) if cosine equals 0, else its coefficient is scaled by the cosine"
  turned_term t none = cond (is_zero cos) (flipped_term t) (term t.key (scaled_of cos t.coeff))

  -- "and the partner's word with flip(c) is appended"
  abbrev pub appended_term : Term → Option Complex64 → List Term
  appended_term t (some d) = []
  appended_term t none = cond (is_zero cos) [] (flipped_term t ∷ [])

  abbrev pub turned_row : List Term → Term → Term
  turned_row old t = cond (met t.key) (turned_term t (find (partner t.key) old)) t

  -- "in row order"
  unfoldable pub appended_rows : List Term → List Term → List Term
  appended_rows old [] = []
  appended_rows old (t ∷ ts) = cond (met t.key) (appended_term t (find (partner t.key) old)) [] ++ appended_rows old ts

  -- "from the old values"
  unfoldable pub rotated : List Term → List Term
  rotated ts = cond (is_zero sin) (map scaled_met ts) (map (turned_row ts) ts ++ appended_rows ts ts)
