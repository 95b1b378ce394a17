-- "Rotation": t, tdg, rz, p and rzz. The partner of a met word has one Y letter more or less, so one parity, that of the row's own word,
-- gives the sign of the flip that it sends and of the one that it takes in.
use Rattle.std.specs.Prelude.{ℕ, ◌*◌, ltb, eqb, Bool, cond, not, ◌&&◌, List, [], ◌∷◌, ◌++◌, map, Float}
use Rattle.std.proofs.Math.Option.{Option, none, some}
use Rattle.numbers.specs.Tests.{is_zero}
use Rattle.words.specs.Keys.{Key, ◌⊕◌, bit_at, flip_at, z_at}
use Rattle.terms.specs.declared.Axis.{Axis}
use Rattle.terms.specs.declared.Axis.TheVariants.{Z, Zz}
use Rattle.terms.specs.Coefficient.{scaled_of, plus_of, flipped_of}
use Rattle.terms.specs.Term.{Term, term, find, odd_y}

-- "A term is met if x is set at the target; for rzz, at exactly one target"
unfoldable pub met_by : Axis → Key → Bool
met_by (Z q) k = bit_at k q
met_by (Zz a b) k = bit_at k a ⊕ bit_at k b

-- "partner (z flipped at every target)"
unfoldable pub partner_by : ℕ → Axis → Key → Key
partner_by w (Z q) k = flip_at k (z_at w q)
partner_by w (Zz a b) k = flip_at (flip_at k (z_at w a)) (z_at w b)

-- targets within a key of 2 * w words, two of them distinct
abbrev pub on_key : ℕ → Axis → Bool
on_key w (Z q) = ltb q (64 * w)
on_key w (Zz a b) = ltb a (64 * w) && (ltb b (64 * w) && not (eqb a b))

-- "c × cos + flip(partner)"; odd is the parity of c's word
abbrev pub mixed : Bool → Float → Float → Float → Float → Float
mixed odd sin cos v u = plus_of (scaled_of cos v) (flipped_of (not odd) sin u)

module _ (w : ℕ) (met : Key → Bool) (partner : Key → Key) (sin cos : Float) where
  -- "Sine equal to 0: met terms times cosine"
  abbrev pub scaled_met : Term → Term
  scaled_met t = cond (met t.key) (term t.key (scaled_of cos t.coeff)) t

  -- the partner's word with flip(c)
  abbrev pub flipped_term : Term → Term
  flipped_term t = term (partner t.key) (flipped_of (odd_y w t.key) sin t.coeff)

  -- what becomes of a met term, by its partner's old number
  abbrev pub turned_term : Term → Option Float → Term
  turned_term t (some d) = term t.key (mixed (odd_y w t.key) sin cos t.coeff d)
  turned_term t none = cond (is_zero cos) (flipped_term t) (term t.key (scaled_of cos t.coeff))

  abbrev pub appended_term : Term → Option Float → List Term
  appended_term t (some d) = []
  appended_term t none = cond (is_zero cos) [] (flipped_term t ∷ [])

  abbrev pub turned_row : List Term → Term → Term
  turned_row old t = cond (met t.key) (turned_term t (find (partner t.key) old)) t

  -- "in row order"
  unfoldable pub appended_rows : List Term → List Term → List Term
  appended_rows old [] = []
  appended_rows old (t ∷ ts) = cond (met t.key) (appended_term t (find (partner t.key) old)) [] ++ appended_rows old ts

  -- "from the old values"
  unfoldable pub rotated : List Term → List Term
  rotated ts = cond (is_zero sin) (map scaled_met ts) (map (turned_row ts) ts ++ appended_rows ts ts)
