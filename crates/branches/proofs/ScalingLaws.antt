-- A row times the factor of its key. Assumes nothing.
use mathlib.Core.Path.{◌≡◌, refl, sym, ap, ◌∙◌, subst}
use mathlib.Core.Bool.{Bool, true, false, cond}
use mathlib.Core.List.{List, map}
use Prim.Native.Nat.{ℕ}
use lib.ListN.{get_or}
use lib.Ieee.{Float, nan}
use Rattle.std.specs.Prelude.{Option, Some, None}
use Rattle.std.specs.Bool.{then_some}
use Rattle.words.specs.Keys.{Key, has_letter}
use Rattle.words.specs.Rows.{key_at}
use Rattle.terms.specs.Coefficient.{scaled_of}
use Rattle.terms.specs.Term.{Term, term}
use Rattle.terms.specs.Rotation.{met_by, partner_by, scaled_met}
use Rattle.terms.specs.Channel.{letter_index, scaled_letter}
use Rattle.rows.specs.Rows.{coeff_at, term_at, terms_in, put_coeff, Holds}
use Rattle.rows.proofs.RowLaws.{put_val_same}
use Rattle.branches.specs.declared.rotation.Rotation.{Rotation}
use Rattle.branches.specs.Letters.{letter_of, multiplier, letter_factor}
use Rattle.branches.specs.Rotated.{met_factor}
use Rattle.branches.specs.Scaling.{times, scaled_at}

pub scaled_key : (f : Key → Option Float) (t : Term) → (scaled_at f t).key ≡ t.key
scaled_key f t = go (f t.key)
  where
    go : (r : Option Float) → (times r t).key ≡ t.key
    go (Some x) = refl
    go None = refl

module _ (f : Key → Option Float) (s i : ℕ) (ws : List ℕ) (cs : List Float) {r : Option Float} (is : r ≡ f (key_at s ws i)) where
  abbrev put : Option Float → List Float
  put o = put_coeff cs i (times o (term_at s ws cs i)).coeff

  pub factor_met : (x : Float) {u v : Float} {cs' : List Float} → r ≡ Some x → v ≡ coeff_at cs i → u ≡ scaled_of x v → cs' ≡ put_coeff cs i u
      → cs' ≡ put_coeff cs i (scaled_at f (term_at s ws cs i)).coeff
  factor_met x e ev eu ec = ec ∙ ap (put_coeff cs i) (eu ∙ ap (scaled_of x) ev) ∙ ap put (sym e ∙ is)

  pub factor_unmet : {cs' : List Float} → r ≡ None → cs' ≡ cs → cs' ≡ put_coeff cs i (scaled_at f (term_at s ws cs i)).coeff
  factor_unmet e ec = ec ∙ sym (put_val_same cs i) ∙ ap put (sym e ∙ is)

-- ---- the factors of the steps

module _ (s n : ℕ) (ws : List ℕ) (cs : List Float) where
  pub held_by : {F G : Term → Term} {ws' : List ℕ} {cs' : List Float} → F ≡ G → Holds s n n (map F (terms_in s n ws cs)) ws ws' cs cs'
      → Holds s n n (map G (terms_in s n ws cs)) ws ws' cs cs'
  held_by {F} {G} {ws'} {cs'} = subst (λ (F : Term → Term). Holds s n n (map F (terms_in s n ws cs)) ws ws' cs cs')

chosen : (b : Bool) (x : Float) (t : Term) → times (then_some b x) t ≡ cond b (term t.key (scaled_of x t.coeff)) t
chosen true x t = refl
chosen false x t = refl

pub by_letter : (w q : ℕ) (l : List Float) → scaled_at (letter_factor w q l) ≡ scaled_letter w q l
unfolding letter_of letter_factor
by_letter w q l = λ k t. go (has_letter w t.key q) (letter_index w q t.key) t k
  where
    go : (b : Bool) (i : ℕ) (t : Term) → times (multiplier l (cond b (Some i) None)) t ≡ cond b (term t.key (scaled_of (get_or l i nan) t.coeff)) t
    go true i t = refl
    go false i t = refl

pub by_met : (w : ℕ) (r : Rotation) → scaled_at (met_factor r) ≡ scaled_met w (met_by r.axis) (partner_by w r.axis) r.sin r.cos
unfolding met_factor
by_met w r = λ k t. chosen (met_by r.axis t.key) r.cos t k
