-- The reals on a line are binary64, whatever its bytes: each is read from 64 bits, or is zero. Assumes nothing.
use Prim.Native.Nat.{ℕ}
use mathlib.Core.List.{List}
use lib.Dec.{eqb}
use lib.ListN.{length, drop}
use lib.Ieee.{binary64, of_bits}
use lib.Ieee.Bits.{of_bits-fits}
use Rattle.std.specs.Prelude.{Option, Some, None, Float, option_map, option_and_then}
use Rattle.numbers.specs.Constants.{zero64}
use Rattle.terms.proofs.CaseLaws.{cond_holds}
use Rattle.text.specs.Bytes.{bytes, before, after, comma, colon, begins, same}
use Rattle.text.specs.Numerals.{hex16, real}
use Rattle.ops.specs.Binary.{IsBinary64, RealsAreBinary64}
use Rattle.lines.specs.declared.Name.{Name}
use Rattle.lines.specs.declared.Name.TheVariants.{OneTarget, TwoTargets, T, Tdg, Rz, P, Rzz, Pauli, Depol, Damp, Phase, Thermal, Depol2}
use Rattle.ops.specs.declared.Op.{Op}
use Rattle.lines.specs.Fields.{real_field, or_zero_real}
use Rattle.lines.specs.TermLines.{line_on}
use Rattle.lines.specs.OpLines.{name_of, has_two, real_count, targets_in, triple_of, reals_in, op_with, op_after, op, or_none, op_on}

zero_is : IsBinary64 zero64
zero_is = of_bits-fits binary64 0

-- ---- a real that was read
abbrev RealIs : Option Float → Type 0
RealIs (Some x) = IsBinary64 x
RealIs None = Unit {0}

real_is : (s : List ℕ) → RealIs (real s)
real_is s = go (hex16 s)
  where
    go : (r : Option ℕ) → RealIs (option_map (of_bits binary64) r)
    go None = tt
    go (Some v) = of_bits-fits binary64 v

or_zero_is : (r : Option Float) → RealIs r → IsBinary64 (or_zero_real r)
or_zero_is (Some x) h = h
or_zero_is None h = zero_is

pub field_is : (k l : List ℕ) → IsBinary64 (or_zero_real (real_field k l))
field_is k l = cond_holds (λ r. IsBinary64 (or_zero_real r)) (begins k l) (or_zero_is (real (drop (length k) l)) (real_is (drop (length k) l))) zero_is

-- ---- the reals of an op that was read
abbrev RealsAre : Option (Float × Float × Float) → Type 0
RealsAre (Some (x, y, z)) = IsBinary64 x × (IsBinary64 y × IsBinary64 z)
RealsAre None = Unit {0}

triple_are : (x y z : Option Float) → RealIs x → RealIs y → RealIs z → RealsAre (triple_of x y z)
triple_are None y z h k m = tt
triple_are (Some x) None z h k m = tt
triple_are (Some x) (Some y) None h k m = tt
triple_are (Some x) (Some y) (Some z) h k m = (h, (k, m))

reals_are : (n : ℕ) (r : List ℕ) → RealsAre (reals_in n r)
unfolding reals_in
reals_are n r =
    let a = before comma r in
    let b = after comma r in
    cond_holds RealsAre (eqb n 0) (zero_is, (zero_is, zero_is))
    (cond_holds RealsAre (eqb n 1) (triple_are (real r) (Some zero64) (Some zero64) (real_is r) zero_is zero_is)
    (cond_holds RealsAre (eqb n 2) (triple_are (real a) (real b) (Some zero64) (real_is a) (real_is b) zero_is)
    (triple_are (real a) (real (before comma b)) (real (after comma b)) (real_is a) (real_is (before comma b)) (real_is (after comma b)))))

abbrev OpIs : Option Op → Type 0
OpIs (Some o) = RealsAreBinary64 o
OpIs None = Unit {0}

op_with_is : (n : Name) (t : Option (ℕ × ℕ)) (r : Option (Float × Float × Float)) → RealsAre r → OpIs (op_with n t r)
op_with_is n None r h = tt
op_with_is n (Some (a, b)) None h = tt
op_with_is (OneTarget g) (Some (a, b)) (Some (x, y, z)) h = tt
op_with_is (TwoTargets g) (Some (a, b)) (Some (x, y, z)) h = tt
op_with_is T (Some (a, b)) (Some (x, y, z)) h = tt
op_with_is Tdg (Some (a, b)) (Some (x, y, z)) h = tt
op_with_is Rz (Some (a, b)) (Some (x, y, z)) h = (h.0, (h.1.0, tt))
op_with_is P (Some (a, b)) (Some (x, y, z)) h = (h.0, (h.1.0, tt))
op_with_is Rzz (Some (a, b)) (Some (x, y, z)) h = (h.0, (h.1.0, tt))
op_with_is Pauli (Some (a, b)) (Some (x, y, z)) h = (h.0, (h.1.0, (h.1.1, tt)))
op_with_is Depol (Some (a, b)) (Some (x, y, z)) h = (h.0, tt)
op_with_is Damp (Some (a, b)) (Some (x, y, z)) h = (h.0, tt)
op_with_is Phase (Some (a, b)) (Some (x, y, z)) h = (h.0, tt)
op_with_is Thermal (Some (a, b)) (Some (x, y, z)) h = (h.0, (h.1.0, (h.1.1, tt)))
op_with_is Depol2 (Some (a, b)) (Some (x, y, z)) h = (h.0, tt)

op_after_is : (n : Name) (v : List ℕ) → OpIs (op_after n v)
unfolding op_after
op_after_is n v =
    cond_holds OpIs (eqb (real_count n) 0) (op_with_is n (targets_in (has_two n) v) (Some (zero64, zero64, zero64)) (zero_is, (zero_is, zero_is)))
    (op_with_is n (targets_in (has_two n) (before colon v)) (reals_in (real_count n) (after colon v)) (reals_are (real_count n) (after colon v)))

op_is : (v : List ℕ) → OpIs (op v)
unfolding op
op_is v = cond_holds OpIs (same (bytes "barrier:") v) tt (named (name_of (before colon v)))
  where
    named : (n : Option Name) → OpIs (option_and_then (λ n. op_after n (after colon v)) n)
    named None = tt
    named (Some n) = op_after_is n (after colon v)

or_none_is : (r : Option Op) → OpIs r → RealsAreBinary64 (or_none r)
or_none_is (Some o) h = h
or_none_is None h = tt

-- ---- the reals on a line
pub op_line_is : (l : List ℕ) → RealsAreBinary64 (op_on l)
op_line_is l = or_none_is (op (drop 3 l)) (op_is (drop 3 l))

pub term_line_is : (l : List ℕ) → IsBinary64 (line_on l).weight
unfolding line_on
term_line_is l = or_zero_is (real (before colon (drop 5 l))) (real_is (before colon (drop 5 l)))
