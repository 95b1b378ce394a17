-- Cases on numbers and on tests. Assumes nothing.
use mathlib.Core.Path.{◌≡◌, refl, sym}
use mathlib.Core.Logic.{◌⊎◌, inl, inr}
use mathlib.Core.Bool.{Bool, true, false, ◌&&◌, ◌||◌, cond, and-eq-true_iff, false≢true}
pub use mathlib.Core.Bool.{and-false}
use Prim.Native.Nat.{ℕ, ◌≤◌, ◌<◌}
use lib.Dec.{leb, ltb, eqb}
use borrow.Author.Tests.{ltb-true, leb-true, le-leb, ltb-false, eqb-true, eqb-false}

pub bool_cases : (t : Bool) → (t ≡ true) ⊎ (t ≡ false)
bool_cases true = inl refl
bool_cases false = inr refl

lt_go : (a b : ℕ) (t : Bool) → ltb a b ≡ t → (a < b) ⊎ (b ≤ a)
lt_go a b true e = inl (ltb-true a b e)
lt_go a b false e = inr (ltb-false a b e)

pub lt_or_le : (a b : ℕ) → (a < b) ⊎ (b ≤ a)
lt_or_le a b = lt_go a b (ltb a b) refl

eq_go : (a b : ℕ) (t : Bool) → eqb a b ≡ t → (a ≡ b) ⊎ (a ≡ b → ⊥)
eq_go a b true e = inl (eqb-true a b e)
eq_go a b false e = inr (eqb-false a b e)

pub eq_or_ne : (a b : ℕ) → (a ≡ b) ⊎ (a ≡ b → ⊥)
eq_or_ne a b = eq_go a b (eqb a b) refl

pub or_false : (b c : Bool) → b || c ≡ false → (b ≡ false) × (c ≡ false)
or_false true c e = absurd (false≢true (sym e))
or_false false c e = (refl, e)

pub and_true : (b c : Bool) → b && c ≡ true → (b ≡ true) × (c ≡ true)
and_true b c e = (and-eq-true_iff b c).0 e

-- two tests that are true together are equal
pub same_test : (b c : Bool) → (b ≡ true → c ≡ true) → (c ≡ true → b ≡ true) → b ≡ c
same_test true c f g = sym (f refl)
same_test false true f g = g refl
same_test false false f g = refl

pub leb_iff : (a b c d : ℕ) → (a ≤ b → c ≤ d) → (c ≤ d → a ≤ b) → leb a b ≡ leb c d
leb_iff a b c d f g = same_test (leb a b) (leb c d) (λ e. le-leb c d (f (leb-true a b e))) (λ e. le-leb a b (g (leb-true c d e)))

-- what holds of either of two, and what the test says of it
pub cond_cases : {A : Type 0} (P : A → Type 0) (b : Bool) {x y : A} → (b ≡ true → P x) → (b ≡ false → P y) → P (cond b x y)
cond_cases P true p q = p refl
cond_cases P false p q = q refl

pub cond_holds : {A : Type 0} (P : A → Type 0) (b : Bool) {x y : A} → P x → P y → P (cond b x y)
cond_holds P b p q = cond_cases P b (λ e. p) (λ e. q)
