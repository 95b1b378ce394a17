-- The factors in a text are what std's `split` at its commas gives, and a pass over them. Assumes nothing.
use Prim.Native.Nat.{ℕ, ◌+◌, ◌<◌}
use mathlib.Core.Path.{◌≡◌, refl, sym, ap, ◌∙◌}
use mathlib.Core.List.{List, [], ◌∷◌, map}
use mathlib.Core.Bool.{Bool, true, false, ◌&&◌, true≢false}
use native.Mathlib.Omega.{arith}
use borrow.Author.Tests.{eqb-true}
use lib.Dec.{eqb, ltb}
use lib.ListN.{length, get_or, drop}
use Rattle.std.specs.List.{slice_split, list_all}
use Rattle.std.proofs.lemmas.List.{at_drop_more}
use Rattle.text.specs.Bytes.{comma}
use Rattle.text.proofs.PartLaws.{parts_split}
use Rattle.ops.specs.Task.{every}
use Rattle.lines.specs.TermLines.{is_factor, are_factors, factor_texts, factor_of, qubits_in, all_below}

-- no text has no factors, and any other has its parts. b is what `is_empty` answered
pub texts_none : (f : List ℕ) (b : Bool) → b ≡ eqb (length f) 0 → b ≡ true → [] ≡ factor_texts f
unfolding factor_texts
texts_none [] b e h = refl
texts_none (x ∷ f) b e h = absurd (omega (arith, eqb-true (length (x ∷ f)) 0 (sym e ∙ h)))

pub texts_split : (f : List ℕ) (b : Bool) → b ≡ eqb (length f) 0 → b ≡ false → slice_split (λ b. eqb b comma) f ≡ factor_texts f
unfolding factor_texts
texts_split [] b e h = absurd (true≢false (sym e ∙ h))
texts_split (x ∷ f) b e h = parts_split comma (x ∷ f)

-- a test of each
pub all_factors : (ps : List (List ℕ)) → list_all is_factor ps ≡ are_factors ps
unfolding are_factors
all_factors [] = refl
all_factors (p ∷ ps) = ap (λ (b : Bool). is_factor p && b) (all_factors ps)

pub all_qubits : (n : ℕ) (ps : List (List ℕ)) → list_all (λ p. ltb (factor_of p).qubit n) ps ≡ all_below n (qubits_in (map factor_of ps))
unfolding every
all_qubits n [] = refl
all_qubits n (p ∷ ps) = ap (λ (b : Bool). ltb (factor_of p).qubit n && b) (all_qubits n ps)

-- the factor that a pass comes to
pub factor_next : {S : Type 0} (F : List (List ℕ) → S) (ps : List (List ℕ)) (i : ℕ) (p : List ℕ) → (i < length ps) × (p ≡ get_or ps i p) → F (drop i ps) ≡ F (p ∷ drop (i + 1) ps)
factor_next F ps i p h = at_drop_more F ps i p h.0 ∙ ap (λ (x : List ℕ). F (x ∷ drop (i + 1) ps)) (sym h.1)
