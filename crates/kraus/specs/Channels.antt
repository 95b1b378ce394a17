-- The six channels as Nielsen and Chuang have them, section 8.3, and the formulas of their multipliers.
use Rattle.std.specs.Prelude.{ℕ, ◌≡◌, List, [], ◌∷◌, ◌++◌, map, Float}
use Rattle.terms.specs.declared.ChannelAction.{ChannelAction}
use Rattle.terms.specs.declared.ChannelKind.TheVariants.{Local, Depolarizing2q}
use Rattle.kraus.specs.Arithmetic.{Arithmetic}
use Rattle.kraus.specs.Formula.{Formula, number, real, ◌⊞◌, ◌⊟◌, ◌⊠◌, ◌÷◌, held, root, rounded}
use Rattle.kraus.specs.Exact.{Exact, value_of}
use Rattle.kraus.specs.Operators.{Letter, I, X, Y, Z, pauli, rows, product, Element, element, Element2, element2}
use Rattle.kraus.specs.Operators.{Operators, scalar, sigma, heisenberg, Operators2, scalar2, tensor, heisenberg2}

-- with one target
pub data Channel : Type 0 where
  Pauli Depol Damp Phase Thermal : Channel

-- ---- the operation elements

abbrev one : Formula
one = number 1

abbrev nil : Formula
nil = number 0

-- 8.3.3, bit flip, phase flip and bit-phase flip, in one mixture: X, Y and Z are applied with the probabilities px, py and pz
abbrev pub pauli_elements : List Element
pauli_elements =
    element (one ⊟ real 0 ⊟ real 1 ⊟ real 2) (pauli I) ∷ element (real 0) (pauli X) ∷ element (real 1) (pauli Y) ∷ element (real 2) (pauli Z) ∷ []

-- 8.3.4, depolarizing, in the form (8.103): the state is left alone with probability 1 - p, and X, Y and Z are applied with probability p/3 each. p is
-- the sum of the three. (In the form (8.100) p is the probability of the state being replaced by I/2: 4/3 of this p.)
abbrev pub depol_elements : List Element
depol_elements =
    element (one ⊟ real 0) (pauli I) ∷ element (real 0 ÷ 3) (pauli X) ∷ element (real 0 ÷ 3) (pauli Y) ∷ element (real 0 ÷ 3) (pauli Z) ∷ []

-- 8.3.5, amplitude damping: E0 = [1 0; 0 √(1-γ)], E1 = [0 √γ; 0 0] = √γ [0 1; 0 0]
abbrev pub damp_elements : Formula → List Element
damp_elements g = element one (rows one nil nil (root (one ⊟ g))) ∷ element g (rows nil one nil nil) ∷ []

-- 8.3.6, phase damping: E0 = [1 0; 0 √(1-λ)], E1 = [0 0; 0 √λ] = √λ [0 0; 0 1]
abbrev pub phase_elements : Formula → List Element
phase_elements g = element one (rows one nil nil (root (one ⊟ g))) ∷ element g (rows nil nil nil one) ∷ []

-- 8.3.5, generalized amplitude damping, whose stationary state is [p 0; 0 1-p]: √p times the elements of amplitude damping, and √(1-p) times
-- those toward |1⟩, E2 = [√(1-γ) 0; 0 1], E3 = [0 0; √γ 0]
abbrev pub general_elements : Formula → Formula → List Element
general_elements g p =
    element p (rows one nil nil (root (one ⊟ g)))
    ∷ element (p ⊠ g) (rows nil one nil nil)
    ∷ element (one ⊟ p) (rows (root (one ⊟ g)) nil nil one)
    ∷ element ((one ⊟ p) ⊠ g) (rows nil nil one nil)
    ∷ []

-- one channel after another: each of its elements times each of the other's
abbrev followed : Element → Element → Element
followed e f = element (f.weight ⊠ e.weight) (product f.factor e.factor)

unfoldable pub followed_by : List Element → List Element → List Element
followed_by [] fs = []
followed_by (e ∷ es) fs = map (followed e) fs ++ followed_by es fs

-- thermal relaxation: generalized amplitude damping with γ = gad and p = 1 - excited (`excited` is what the stationary state has at |1⟩), then phase
-- damping with λ = gpd. In the other order they do the same (`phase_first`, proofs/Heisenberg).
abbrev pub thermal_elements : List Element
thermal_elements = followed_by (general_elements (real 0) (one ⊟ real 2)) (phase_elements (real 1))

abbrev pub elements : Channel → List Element
elements Pauli = pauli_elements
elements Depol = depol_elements
elements Damp = damp_elements (real 0)
elements Phase = phase_elements (real 0)
elements Thermal = thermal_elements

-- The reals of a channel in parameters x, y, z, which are at least 0: px, py, pz themselves; p = 3x, where x is the probability of each letter;
-- gamma = 1 - x², where x is √(1-gamma); and so gad and gpd with x and y, and excited = z.
abbrev lost_by : Formula → Formula
lost_by r = one ⊟ r ⊠ r

abbrev pub reals : Channel → List Formula
reals Pauli = real 0 ∷ real 1 ∷ real 2 ∷ []
reals Depol = (number 3 ⊠ real 0) ∷ []
reals Damp = lost_by (real 0) ∷ []
reals Phase = lost_by (real 0) ∷ []
reals Thermal = lost_by (real 0) ∷ lost_by (real 1) ∷ real 2 ∷ []

-- ---- the formulas of `channel_action`, in its order

abbrev left : Formula
left = one ⊟ real 0 ⊟ real 1 ⊟ real 2

abbrev kept : ℕ → Formula
kept i = held (one ⊟ real i)

-- the multiplier of each letter
abbrev pub multiplier : Channel → Letter → Formula
multiplier Pauli I = one
multiplier Pauli X = left ⊞ real 0 ⊟ real 1 ⊟ real 2
multiplier Pauli Y = left ⊞ real 1 ⊟ real 0 ⊟ real 2
multiplier Pauli Z = left ⊞ real 2 ⊟ real 0 ⊟ real 1
multiplier Depol I = one
multiplier Depol X = one ⊟ number 4 ⊠ real 0 ÷ 3
multiplier Depol Y = one ⊟ number 4 ⊠ real 0 ÷ 3
multiplier Depol Z = one ⊟ number 4 ⊠ real 0 ÷ 3
multiplier Damp I = one
multiplier Damp X = root (kept 0)
multiplier Damp Y = root (kept 0)
multiplier Damp Z = kept 0
multiplier Phase I = one
multiplier Phase X = root (kept 0)
multiplier Phase Y = root (kept 0)
multiplier Phase Z = one
multiplier Thermal I = one
multiplier Thermal X = root (kept 0) ⊠ root (kept 1)
multiplier Thermal Y = root (kept 0) ⊠ root (kept 1)
multiplier Thermal Z = kept 0

-- what of a letter goes to the identity: `z_to_identity` of Z
abbrev pub to_identity : Channel → Formula
to_identity Pauli = nil
to_identity Depol = nil
to_identity Damp = real 0
to_identity Phase = nil
to_identity Thermal = real 0 ⊠ (one ⊟ number 2 ⊠ real 2)

abbrev pub identity_of : Channel → Letter → Formula
identity_of c I = nil
identity_of c X = nil
identity_of c Y = nil
identity_of c Z = to_identity c

-- in binary64
abbrev pub rounded_action : Channel → List Float → ChannelAction
rounded_action c rs =
    record {
      kind = Local;
      lambda = rounded rs (multiplier c X) ∷ rounded rs (multiplier c Y) ∷ rounded rs (multiplier c Z) ∷ [];
      z_to_identity = rounded rs (to_identity c);
    }

-- ---- the sum of E† P E is the multiplier times P, and what goes to the identity times I; of I, the sum of E† E is I

module _ (N : Arithmetic) (value : Formula → N.Number) where
  abbrev pub image : Channel → Letter → (Operators N).Number
  image c l = heisenberg N value (elements c) (sigma N l)

  abbrev pub due : Channel → Letter → (Operators N).Number
  due c l = (Operators N).plus ((Operators N).times (scalar N (value (multiplier c l))) (sigma N l)) (scalar N (value (identity_of c l)))

-- the exact value of a formula in the reals of a channel, which are the formulas fs in the parameters
abbrev pub read_by : (N : Arithmetic) → Exact N → List Formula → N.Number → N.Number → N.Number → Formula → N.Number
read_by N E fs x y z f = value_of N E (map (value_of N E (x ∷ y ∷ z ∷ [])) fs) f

abbrev pub Published : Channel → Letter → Type 1
Published c l =
    (N : Arithmetic) (E : Exact N) (x y z : N.Number) → E.AtLeast0 x → E.AtLeast0 y → E.AtLeast0 z
    → image N (read_by N E (reals c) x y z) c l ≡ due N (read_by N E (reals c) x y z) c l

-- ---- two targets
-- 8.3.4, (8.103) on two qubits: the state is left alone with probability 1 - p, and each of the fifteen pairs of letters other than II is applied with
-- probability p/15. p is the sum of the fifteen probabilities.
abbrev each : Letter → List Letter → List Element2
each l ms = map (element2 (real 0 ÷ 15) l) ms

abbrev pub depol2_elements : List Element2
depol2_elements =
    element2 (one ⊟ real 0) I I
    ∷ (each I (X ∷ Y ∷ Z ∷ []) ++ each X (I ∷ X ∷ Y ∷ Z ∷ []) ++ each Y (I ∷ X ∷ Y ∷ Z ∷ []) ++ each Z (I ∷ X ∷ Y ∷ Z ∷ []))

-- p = 15x, where x is the probability of each
abbrev pub reals2 : List Formula
reals2 = (number 15 ⊠ real 0) ∷ []

-- a pair with a letter other than I anticommutes with eight of the fifteen
abbrev pub either_letter : Formula
either_letter = one ⊟ number 16 ⊠ real 0 ÷ 15

abbrev pub multiplier2 : Letter → Letter → Formula
multiplier2 I I = one
multiplier2 I X = either_letter
multiplier2 I Y = either_letter
multiplier2 I Z = either_letter
multiplier2 X m = either_letter
multiplier2 Y m = either_letter
multiplier2 Z m = either_letter

-- in binary64
abbrev pub rounded_action2 : List Float → ChannelAction
rounded_action2 rs =
    let l = rounded rs either_letter in
    record { kind = Depolarizing2q; lambda = l ∷ l ∷ l ∷ []; z_to_identity = rounded rs nil }

module _ (N : Arithmetic) (value : Formula → N.Number) where
  abbrev pub image2 : Letter → Letter → (Operators2 N).Number
  image2 l m = heisenberg2 N value depol2_elements (tensor N (sigma N l) (sigma N m))

  abbrev pub due2 : Letter → Letter → (Operators2 N).Number
  due2 l m = (Operators2 N).times (scalar2 N (value (multiplier2 l m))) (tensor N (sigma N l) (sigma N m))

abbrev pub Published2 : Letter → Letter → Type 1
Published2 l m =
    (N : Arithmetic) (E : Exact N) (x y z : N.Number) → E.AtLeast0 x → E.AtLeast0 y → E.AtLeast0 z
    → image2 N (read_by N E reals2 x y z) l m ≡ due2 N (read_by N E reals2 x y z) l m
