-- 2026-10 on sheets: a noisy sum inside the proviso, and one outside it on which `path` and `wide` print different numbers. Assumes nothing.
use Prim.Native.Nat.{ℕ, ◌≤◌}
use native.Mathlib.Omega.{arith}
use mathlib.Core.Path.{◌≡◌, refl, sym, ◌∙◌}
use mathlib.Core.Bool.{true, false}
use mathlib.Core.Logic.{◌⊎◌, inl, inr}
use mathlib.Core.List.{List, [], ◌∷◌}
use Rattle.cones.specs.Wide.{as_path, as_wide, Provided}
use Rattle.dynamics.specs.Outcome.{all_letters, wide_marks}
use Rattle.sheet.specs.SheetCone.{rejoined, task_of_bytes}
use Rattle.sheet.specs.Screen.{bench}
use Rattle.sheet.proofs.Cases.{computed, text}
use Rattle.wide.specs.SheetWide.{bytes_as, WideAsPath}
use Rattle.wide.proofs.WideBytes.{wide_of_bytes}

-- Z0, Z1 and minus Z0: the lines of Z0 cancel, and damp on 0 stands in the cone; damp on 2 does not
abbrev noisy : List ℕ
noisy = text
    ("qubits=3" ∷ "run=path" ∷ "epsilon=0000000000000000" ∷ "max_terms=0" ∷ "limit=8" ∷ "terms=3" ∷ "term=3ff0000000000000:Z0" ∷
    "term=3ff0000000000000:Z1" ∷ "term=bff0000000000000:Z0" ∷ "ops=3" ∷ "op=damp:0:3fe0000000000000" ∷ "op=barrier:" ∷ "op=damp:2:3fe0000000000000" ∷ [])

pub noisy_marks : wide_marks (task_of_bytes noisy) ≡ true ∷ false ∷ false ∷ []
unfolding computed all_letters
noisy_marks = refl

noisy_provided : Provided (task_of_bytes (bytes_as as_path noisy))
unfolding computed rejoined
noisy_provided = inl refl

-- the hypotheses of the theorem hold of it, with the memory of `bench`
pub noisy_agrees : WideAsPath noisy (λ v. 512) (λ v. 256)
noisy_agrees = wide_of_bytes.called noisy (λ v. 512) (λ v. 256) refl

-- .. and what `bench` prints for it as `wide` is what it prints for it as `path`
pub noisy_path : bench (bytes_as as_path noisy) ≡ text
    ("status=0" ∷ "line=0" ∷ "mean=3ff0000000000000" ∷ "shown=1000" ∷ "t_count=0" ∷ "peak_terms=3" ∷ "touched=1" ∷ "discarded=0000000000000000" ∷ [])
unfolding computed rejoined bench
noisy_path = refl

pub noisy_wide : bench (bytes_as as_wide noisy) ≡ text
    ("status=0" ∷ "line=0" ∷ "mean=3ff0000000000000" ∷ "shown=1000" ∷ "t_count=0" ∷ "peak_terms=3" ∷ "touched=1" ∷ "discarded=0000000000000000" ∷ [])
noisy_wide = sym (wide_of_bytes.screen noisy noisy_provided) ∙ noisy_path

-- "provided max_terms is 0 or at least the number of merged starting terms": X0 of weight 0.5 and Y0 of weight 1, max_terms 1, epsilon 0.6. h on 1 meets
-- neither; in `path` its truncation drops X0, before t brings the two together. `wide` skips it
abbrev outside : List ℕ
outside = text
    ("qubits=2" ∷ "run=wide" ∷ "epsilon=3fe3333333333333" ∷ "max_terms=1" ∷ "limit=8" ∷ "terms=2" ∷ "term=3fe0000000000000:X0" ∷
    "term=3ff0000000000000:Y0" ∷ "ops=3" ∷ "op=h:0" ∷ "op=t:0" ∷ "op=h:1" ∷ [])

neither : ◌≡◌ {A = ℕ} 1 0 ⊎ (2 ≤ 1) → ⊥
neither (inl e) = omega arith
neither (inr h) = omega arith

pub outside_is : Provided (task_of_bytes (bytes_as as_path outside)) → ⊥
unfolding computed rejoined
outside_is p = neither p

pub outside_path : bench (bytes_as as_path outside) ≡ text
    ("status=0" ∷ "line=0" ∷ "mean=3fe6a09e667f3bcc" ∷ "shown=707" ∷ "t_count=0" ∷ "peak_terms=2" ∷ "touched=3" ∷ "discarded=3fe0000000000000" ∷ [])
unfolding computed rejoined bench
outside_path = refl

pub outside_wide : bench (bytes_as as_wide outside) ≡ text
    ("status=0" ∷ "line=0" ∷ "mean=3ff0f876ccdf6cd9" ∷ "shown=1061" ∷ "t_count=0" ∷ "peak_terms=2" ∷ "touched=3" ∷ "discarded=3fd6a09e667f3bce" ∷ [])
unfolding computed rejoined bench all_letters
outside_wide = refl
