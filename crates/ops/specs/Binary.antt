-- The reals of a task as binary64 numbers.
use Rattle.std.specs.Prelude.{T, Float, Bool, List}
use Rattle.std.specs.Float.{binary64}
use Rattle.std.specs.Float.Ieee.{fits}
use Rattle.terms.specs.Lists.{All}
use Rattle.ops.specs.declared.Op.{Op}
use Rattle.ops.specs.Ops.{shape_of}
use Rattle.ops.specs.Task.{Task, every}

-- "A real number is the 16 lowercase hexadecimal digits of its binary64 bits": every real is a binary64, as every f64 is
abbrev pub IsBinary64 : Float → Type 0
IsBinary64 x = T (fits binary64 x)

abbrev pub RealsAreBinary64 : Op → Type 0
RealsAreBinary64 op = All IsBinary64 (shape_of op).reals

pub record Binary64Values (t : Task) : Type 0 where
  pub epsilon : IsBinary64 t.limits.epsilon
  pub weights : All (λ l. IsBinary64 l.weight) t.lines
  pub reals : All RealsAreBinary64 t.ops

-- the same of ops, as a test
abbrev pub reals_fit64 : Op → Bool
reals_fit64 op = every (fits binary64) (shape_of op).reals

abbrev pub all_fit64 : List Op → Bool
all_fit64 ops = every reals_fit64 ops
