-- The Pauli matrices, and the Heisenberg picture: a channel whose operation elements are E_k takes the observable P to the sum of E_k† P E_k
-- (of a state ρ, Nielsen and Chuang have the sum of E_k ρ E_k†: section 8.2.3).
use Rattle.std.specs.Prelude.{List, [], ◌∷◌}
use Rattle.kraus.specs.Arithmetic.{Arithmetic, Complex, complex, complex_over, matrix, matrices_over}
use Rattle.kraus.specs.Formula.{Formula}

pub data Letter : Type 0 where
  I X Y Z : Letter

-- what an operation element is a multiple of: a Pauli matrix, the matrix with the real rows (f g) and (h k), a product
pub data Factor : Type 0 where
  pauli : Letter → Factor
  rows : Formula → Formula → Formula → Formula → Factor
  product : Factor → Factor → Factor

-- the element √weight · factor
pub record Element : Type 0 where
  pub weight : Formula
  pub factor : Factor

abbrev pub element : Formula → Factor → Element
element w m = record { weight = w; factor = m }

-- on two qubits: √weight · first ⊗ second
pub record Element2 : Type 0 where
  pub weight : Formula
  pub first : Letter
  pub second : Letter

abbrev pub element2 : Formula → Letter → Letter → Element2
element2 w l m = record { weight = w; first = l; second = m }

module _ (N : Arithmetic) where
  abbrev pub Operators : Arithmetic
  Operators = matrices_over (complex_over N)

  abbrev pub of_real : N.Number → Complex N.Number
  of_real v = complex v N.nought

  abbrev pub i : Complex N.Number
  i = complex N.nought N.unit

  -- v times the identity
  abbrev pub scalar : N.Number → Operators.Number
  scalar v = matrix (of_real v) (of_real N.nought) (of_real N.nought) (of_real v)

  abbrev pub sigma : Letter → Operators.Number
  sigma I = matrix (of_real N.unit) (of_real N.nought) (of_real N.nought) (of_real N.unit)
  sigma X = matrix (of_real N.nought) (of_real N.unit) (of_real N.unit) (of_real N.nought)
  sigma Y = matrix (of_real N.nought) ((complex_over N).minus i) i (of_real N.nought)
  sigma Z = matrix (of_real N.unit) (of_real N.nought) (of_real N.nought) (of_real (N.minus N.unit))

  -- two qubits: m ⊗ n has the blocks m.a n, m.b n, m.c n, m.d n
  abbrev pub Operators2 : Arithmetic
  Operators2 = matrices_over Operators

  abbrev pub block : Complex N.Number → Operators.Number → Operators.Number
  block v n = let ◌*◌ = (complex_over N).times in matrix (◌*◌ v n.a) (◌*◌ v n.b) (◌*◌ v n.c) (◌*◌ v n.d)

  abbrev pub tensor : Operators.Number → Operators.Number → Operators2.Number
  tensor m n = matrix (block m.a n) (block m.b n) (block m.c n) (block m.d n)

  abbrev pub scalar2 : N.Number → Operators2.Number
  scalar2 v = tensor (scalar v) (sigma I)

  -- with a value for each formula
  module _ (value : Formula → N.Number) where
    abbrev pub factor_of : Factor → Operators.Number
    factor_of (pauli l) = sigma l
    factor_of (rows f g h k) = matrix (of_real (value f)) (of_real (value g)) (of_real (value h)) (of_real (value k))
    factor_of (product m n) = Operators.times (factor_of m) (factor_of n)

    -- E† P E = weight · factor† P factor
    abbrev pub conjugated_by : Element → Operators.Number → Operators.Number
    conjugated_by e p =
        let m = factor_of e.factor in
        Operators.times (scalar (value e.weight)) (Operators.times (Operators.star m) (Operators.times p m))

    unfoldable pub heisenberg : List Element → Operators.Number → Operators.Number
    heisenberg [] p = Operators.nought
    heisenberg (e ∷ es) p = Operators.plus (conjugated_by e p) (heisenberg es p)

    abbrev pub conjugated_by2 : Element2 → Operators2.Number → Operators2.Number
    conjugated_by2 e p =
        let m = tensor (sigma e.first) (sigma e.second) in
        Operators2.times (scalar2 (value e.weight)) (Operators2.times (Operators2.star m) (Operators2.times p m))

    unfoldable pub heisenberg2 : List Element2 → Operators2.Number → Operators2.Number
    heisenberg2 [] p = Operators2.nought
    heisenberg2 (e ∷ es) p = Operators2.plus (conjugated_by2 e p) (heisenberg2 es p)
