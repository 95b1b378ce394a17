-- The op that a text names, where the three lists of names are looked through one by one.
use Prim.Native.Nat.{ℕ}
use mathlib.Core.Path.{◌≡◌, refl}
use mathlib.Core.List.{List}
use mathlib.Core.Bool.{Bool, true, false, cond}
use Rattle.std.specs.Prelude.{Option, Some, None}
use Rattle.std.specs.Option.{option_or}
use Rattle.lines.specs.declared.Name.{Name}
use Rattle.lines.specs.OpLines.{one_name, other_name, channel_name, name_of}

-- a choice of one name, or else another
or_cond : (b : Bool) (x : Name) (r o : Option Name) → option_or (cond b (Some x) r) o ≡ cond b (Some x) (option_or r o)
or_cond true x r o = refl
or_cond false x r o = refl

pub name_in : (s : List ℕ) → option_or (option_or (one_name s None) (other_name s None)) (channel_name s) ≡ name_of s
unfolding name_of
name_in s = simp or_cond
