-- Question 1: "Is the sheet laid out as above?", and the values of a sheet's lines.
use Rattle.std.specs.Prelude.{ℕ, suc, ◌+◌, ◌-◌, Bool, true, false, cond, ◌&&◌, List, [], ◌∷◌, map, ltb, eqb, length, take, drop, get_or, Option, Some, None, is_some}
use Rattle.text.specs.Bytes.{bytes}
use Rattle.ops.specs.declared.Op.{Op}
use Rattle.layout.specs.declared.Head.{Head}
use Rattle.layout.specs.declared.Kind.{Kind}
use Rattle.layout.specs.declared.Kind.TheVariants.{AQubits, ARun, AnEpsilon, AMaxTerms, ALimit, ATerms, ATerm, AnOps, AnOp, Beyond}
use Rattle.lines.specs.Fields.{count, real_field, run_field, or_zero, or_zero_real, or_full}
use Rattle.lines.specs.TermLines.{TermLine, is_term_line, line_on}
use Rattle.lines.specs.OpLines.{is_op_line, op_on}

-- "in this order": which line stands at number k, counted from 1, where there are t `term` lines and o `op` lines
unfoldable pub head_kind : ℕ → Kind
head_kind k =
    cond (eqb k 1) AQubits
    (cond (eqb k 2) ARun
    (cond (eqb k 3) AnEpsilon
    (cond (eqb k 4) AMaxTerms
    (cond (eqb k 5) ALimit ATerms))))

unfoldable pub later_kind : ℕ → ℕ → ℕ → Kind
later_kind t o i = cond (ltb i t) ATerm (cond (eqb i t) AnOps (cond (ltb (i - t - 1) o) AnOp Beyond))

unfoldable pub kind : ℕ → ℕ → ℕ → Kind
kind t o k = cond (ltb k 7) (head_kind k) (later_kind t o (k - 7))

-- whether a line is what its kind asks
unfoldable pub is_laid_out : Kind → List ℕ → Bool
is_laid_out AQubits l = is_some (count (bytes "qubits=") l)
is_laid_out ARun l = is_some (run_field l)
is_laid_out AnEpsilon l = is_some (real_field (bytes "epsilon=") l)
is_laid_out AMaxTerms l = is_some (count (bytes "max_terms=") l)
is_laid_out ALimit l = is_some (count (bytes "limit=") l)
is_laid_out ATerms l = is_some (count (bytes "terms=") l)
is_laid_out ATerm l = is_term_line l
is_laid_out AnOps l = is_some (count (bytes "ops=") l)
is_laid_out AnOp l = is_op_line l
is_laid_out Beyond l = false

abbrev pub is_beyond : Kind → Bool
is_beyond AQubits = false
is_beyond ARun = false
is_beyond AnEpsilon = false
is_beyond AMaxTerms = false
is_beyond ALimit = false
is_beyond ATerms = false
is_beyond ATerm = false
is_beyond AnOps = false
is_beyond AnOp = false
is_beyond Beyond = true

-- "each ended by byte 10, .. nothing after the last": what follows the last byte 10 is empty, and no line is missing there
abbrev pub is_end : Kind → List ℕ → Bool
is_end c p = is_beyond c && eqb (length p) 0

-- the first line, from line k on, that is not what it should be. "a missing line counts as the line it should be"
unfoldable pub bad_line : ℕ → ℕ → List (List ℕ) → ℕ → Option ℕ
bad_line t o [] k = Some k
bad_line t o (p ∷ []) k = cond (is_end (kind t o k) p) None (Some k)
bad_line t o (p ∷ q ∷ ps) k = let r = bad_line t o (q ∷ ps) (suc k) in cond (is_laid_out (kind t o k) p) r (Some k)

-- ---- the values of a sheet's lines
unfoldable pub head_of : List (List ℕ) → Head
head_of ls =
    let t = or_zero (count (bytes "terms=") (get_or ls 5 [])) in
    record {
      qubits = or_zero (count (bytes "qubits=") (get_or ls 0 []));
      run = or_full (run_field (get_or ls 1 []));
      epsilon = or_zero_real (real_field (bytes "epsilon=") (get_or ls 2 []));
      max_terms = or_zero (count (bytes "max_terms=") (get_or ls 3 []));
      limit = or_zero (count (bytes "limit=") (get_or ls 4 []));
      terms = t;
      ops = or_zero (count (bytes "ops=") (get_or ls (6 + t) []));
    }

-- question 1
abbrev pub question1 : Head → List (List ℕ) → Option ℕ
question1 h ls = bad_line h.terms h.ops ls 1

-- the `term` lines and the op list
abbrev pub term_lines : Head → List (List ℕ) → List TermLine
term_lines h ls = map line_on (take h.terms (drop 6 ls))

abbrev pub sheet_ops : Head → List (List ℕ) → List Op
sheet_ops h ls = map op_on (take h.ops (drop (7 + h.terms) ls))
