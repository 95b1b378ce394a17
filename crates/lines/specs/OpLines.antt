-- "`op=NAME:TARGETS`, or `op=NAME:TARGETS:REALS`, parts split by commas."
use Rattle.std.specs.Prelude.{ℕ, Bool, true, false, cond, ◌&&◌, List, eqb, drop, Float, Option, Some, None, is_some, unwrap_or, option_and_then}
use Rattle.numbers.specs.Constants.{zero64}
use Rattle.words.specs.declared.Gate.TheVariants.{Id, X, Y, Z, H, S, Sdg, Sx, Sxdg, Cx, Cz, Swap}
use Rattle.text.specs.Bytes.{bytes, before, after, comma, colon, begins, same}
use Rattle.text.specs.Numerals.{decimal, real}
use Rattle.ops.specs.declared.Op.{Op}
use Rattle.ops.specs.declared.Op.TheVariants as O
use Rattle.lines.specs.declared.Name.{Name}
use Rattle.lines.specs.declared.Name.TheVariants.{OneTarget, TwoTargets, T, Tdg, Rz, P, Rzz, Pauli, Depol, Damp, Phase, Thermal, Depol2}

-- ---- NAME
-- "One target: id x y z h s sdg t tdg sx sxdg. Two: cx (control first), cz, swap. rz and p .., rzz"
abbrev pub one_name : List ℕ → Option Name → Option Name
one_name s other =
    cond (same (bytes "id") s) (Some (OneTarget Id))
    (cond (same (bytes "x") s) (Some (OneTarget X))
    (cond (same (bytes "y") s) (Some (OneTarget Y))
    (cond (same (bytes "z") s) (Some (OneTarget Z))
    (cond (same (bytes "h") s) (Some (OneTarget H))
    (cond (same (bytes "s") s) (Some (OneTarget S))
    (cond (same (bytes "sdg") s) (Some (OneTarget Sdg))
    (cond (same (bytes "sx") s) (Some (OneTarget Sx))
    (cond (same (bytes "sxdg") s) (Some (OneTarget Sxdg)) other))))))))

abbrev pub other_name : List ℕ → Option Name → Option Name
other_name s other =
    cond (same (bytes "t") s) (Some T)
    (cond (same (bytes "tdg") s) (Some Tdg)
    (cond (same (bytes "cx") s) (Some (TwoTargets Cx))
    (cond (same (bytes "cz") s) (Some (TwoTargets Cz))
    (cond (same (bytes "swap") s) (Some (TwoTargets Swap))
    (cond (same (bytes "rz") s) (Some Rz)
    (cond (same (bytes "p") s) (Some P)
    (cond (same (bytes "rzz") s) (Some Rzz) other)))))))

-- "Channels: pauli .., depol .., damp .., phase .., thermal ..; depol2"
abbrev pub channel_name : List ℕ → Option Name
channel_name s =
    cond (same (bytes "pauli") s) (Some Pauli)
    (cond (same (bytes "depol") s) (Some Depol)
    (cond (same (bytes "damp") s) (Some Damp)
    (cond (same (bytes "phase") s) (Some Phase)
    (cond (same (bytes "thermal") s) (Some Thermal)
    (cond (same (bytes "depol2") s) (Some Depol2) None)))))

unfoldable pub name_of : List ℕ → Option Name
name_of s = one_name s (other_name s (channel_name s))

-- ---- how many targets, and how many reals
abbrev pub has_two : Name → Bool
has_two (OneTarget g) = false
has_two (TwoTargets g) = true
has_two T = false
has_two Tdg = false
has_two Rz = false
has_two P = false
has_two Rzz = true
has_two Pauli = false
has_two Depol = false
has_two Damp = false
has_two Phase = false
has_two Thermal = false
has_two Depol2 = true

-- "each with sine,cosine"; "pauli (px,py,pz), depol (p), damp (gamma), phase (gamma), thermal (gad,gpd,excited) ..; depol2 (p)"
abbrev pub real_count : Name → ℕ
real_count (OneTarget g) = 0
real_count (TwoTargets g) = 0
real_count T = 0
real_count Tdg = 0
real_count Rz = 2
real_count P = 2
real_count Rzz = 2
real_count Pauli = 3
real_count Depol = 1
real_count Damp = 1
real_count Phase = 1
real_count Thermal = 3
real_count Depol2 = 1

-- ---- TARGETS: A, or A,B. One target has 0 beside it
abbrev pub pair_of : Option ℕ → Option ℕ → Option (ℕ × ℕ)
pair_of None b = None
pair_of (Some m) None = None
pair_of (Some m) (Some n) = Some (m, n)

unfoldable pub targets_in : Bool → List ℕ → Option (ℕ × ℕ)
targets_in false t = pair_of (decimal t) (Some 0)
targets_in true t = pair_of (decimal (before comma t)) (decimal (after comma t))

-- ---- REALS: X, or X,Y, or X,Y,Z. Those that are not asked for are 0
abbrev pub triple_of : Option Float → Option Float → Option Float → Option (Float × Float × Float)
triple_of None y z = None
triple_of (Some x) None z = None
triple_of (Some x) (Some y) None = None
triple_of (Some x) (Some y) (Some z) = Some (x, y, z)

unfoldable pub reals_in : ℕ → List ℕ → Option (Float × Float × Float)
reals_in n r =
    cond (eqb n 0) (Some (zero64, zero64, zero64))
    (cond (eqb n 1) (triple_of (real r) (Some zero64) (Some zero64))
    (cond (eqb n 2) (triple_of (real (before comma r)) (real (after comma r)) (Some zero64))
    (triple_of (real (before comma r)) (real (before comma (after comma r))) (real (after comma (after comma r))))))

-- ---- the op
abbrev pub op_from : Name → ℕ → ℕ → Float → Float → Float → Op
op_from (OneTarget g) a b x y z = O.Native g a 0
op_from (TwoTargets g) a b x y z = O.Native g a b
op_from T a b x y z = O.T a
op_from Tdg a b x y z = O.Tdg a
op_from Rz a b x y z = O.Rz a x y
op_from P a b x y z = O.P a x y
op_from Rzz a b x y z = O.Rzz a b x y
op_from Pauli a b x y z = O.Pauli a x y z
op_from Depol a b x y z = O.Depol a x
op_from Damp a b x y z = O.Damp a x
op_from Phase a b x y z = O.Phase a x
op_from Thermal a b x y z = O.Thermal a x y z
op_from Depol2 a b x y z = O.Depol2 a b x

abbrev pub op_with : Name → Option (ℕ × ℕ) → Option (Float × Float × Float) → Option Op
op_with n None r = None
op_with n (Some t) None = None
op_with n (Some (a, b)) (Some (x, y, z)) = Some (op_from n a b x y z)

-- what follows a name: its targets alone, or its targets and its reals
unfoldable pub op_after : Name → List ℕ → Option Op
op_after n v =
    cond (eqb (real_count n) 0) (op_with n (targets_in (has_two n) v) (Some (zero64, zero64, zero64)))
    (op_with n (targets_in (has_two n) (before colon v)) (reals_in (real_count n) (after colon v)))

-- "`op=barrier:` has no target."
unfoldable pub op : List ℕ → Option Op
op v = cond (same (bytes "barrier:") v) (Some O.Barrier) (option_and_then (λ n. op_after n (after colon v)) (name_of (before colon v)))

-- whether an op was read, and the op on an `op` line
abbrev pub is_op_line : List ℕ → Bool
is_op_line l = begins (bytes "op=") l && is_some (op (drop 3 l))

abbrev pub or_none : Option Op → Op
or_none r = unwrap_or r (O.Native Id 0 0)

abbrev pub op_on : List ℕ → Op
op_on l = or_none (op (drop 3 l))
