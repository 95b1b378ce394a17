-- Numbers by their operations, and over any such numbers the complex numbers and the 2 × 2 matrices. A matrix of matrices is one of 4 × 4 numbers, in blocks.

pub record Arithmetic : Type 1 where
  pub Number : Type 0
  pub nought : Number
  pub unit : Number
  pub plus : Number → Number → Number
  pub times : Number → Number → Number
  pub minus : Number → Number
  -- the conjugate, of matrices the adjoint
  pub star : Number → Number

-- re + i im
pub record Complex (A : Type 0) : Type 0 where
  pub re : A
  pub im : A

abbrev pub complex : {A : Type 0} → A → A → Complex A
complex r i = record { re = r; im = i }

abbrev pub complex_over : Arithmetic → Arithmetic
complex_over N =
    let ◌+◌ = N.plus in
    let ◌*◌ = N.times in
    record {
      Number = Complex N.Number;
      nought = complex N.nought N.nought;
      unit = complex N.unit N.nought;
      plus = λ u v. complex (◌+◌ u.re v.re) (◌+◌ u.im v.im);
      times = λ u v. complex (◌+◌ (◌*◌ u.re v.re) (N.minus (◌*◌ u.im v.im))) (◌+◌ (◌*◌ u.re v.im) (◌*◌ u.im v.re));
      minus = λ u. complex (N.minus u.re) (N.minus u.im);
      star = λ u. complex (N.star u.re) (N.minus (N.star u.im));
    }

-- the rows (a b) and (c d)
pub record Matrix (A : Type 0) : Type 0 where
  pub a : A
  pub b : A
  pub c : A
  pub d : A

abbrev pub matrix : {A : Type 0} → A → A → A → A → Matrix A
matrix x y z w = record { a = x; b = y; c = z; d = w }

abbrev pub matrices_over : Arithmetic → Arithmetic
matrices_over N =
    let ◌+◌ = N.plus in
    let ◌*◌ = N.times in
    record {
      Number = Matrix N.Number;
      nought = matrix N.nought N.nought N.nought N.nought;
      unit = matrix N.unit N.nought N.nought N.unit;
      plus = λ m n. matrix (◌+◌ m.a n.a) (◌+◌ m.b n.b) (◌+◌ m.c n.c) (◌+◌ m.d n.d);
      times = λ m n. matrix
          (◌+◌ (◌*◌ m.a n.a) (◌*◌ m.b n.c)) (◌+◌ (◌*◌ m.a n.b) (◌*◌ m.b n.d))
          (◌+◌ (◌*◌ m.c n.a) (◌*◌ m.d n.c)) (◌+◌ (◌*◌ m.c n.b) (◌*◌ m.d n.d));
      minus = λ m. matrix (N.minus m.a) (N.minus m.b) (N.minus m.c) (N.minus m.d);
      star = λ m. matrix (N.star m.a) (N.star m.c) (N.star m.b) (N.star m.d);
    }
