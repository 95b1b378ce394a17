-- What the loads leave: the ops of a sheet in a list, and its `term` lines in a table. This is defined for every list of lines, laid out
-- or not: a line that is not there is an empty line.
use Rattle.std.specs.Prelude.{◌≡◌, ℕ, ◌+◌, ◌*◌, Bool, cond, ◌&&◌, leb, min, length, drop, get_or, Float}
use mathlib.Core.List.{List, [], ◌++◌, flatten}
use Rattle.words.specs.Keys.{Key}
use Rattle.terms.specs.Lists.{tab, foldl}
use Rattle.words.specs.Rows.{key_at}
use Rattle.ops.specs.declared.Op.{Op}
use Rattle.lines.specs.OpLines.{op_on}
use Rattle.lines.specs.TermLines.{weight_on, factors_on, placed}
use Rattle.layout.specs.declared.Head.{Head}

-- ---- the ops

-- op j of a sheet, counted from 0: it is on the line that has 7 + terms + j lines before it
abbrev pub op_line : Head → List (List ℕ) → ℕ → Op
op_line h ls j = op_on (get_or ls (7 + h.terms + j) [])

-- a list with the first ops of a sheet in its first places, at most 4,096 and as many as it has, and behind them those that stood there
abbrev pub with_ops : Head → List (List ℕ) → List Op → List Op
with_ops h ls os = let n = min (min h.ops 4096) (length os) in tab n (op_line h ls) ++ drop n os

-- ---- the `term` lines

-- row j of a table with the line that has j lines and the first 6 before it: the factors of the line have set their bits in the 2 * w words
-- that stood in the row
abbrev pub row_with : ℕ → List (List ℕ) → List ℕ → ℕ → Key
row_with w ls keys j = foldl (placed w) (key_at (2 * w) keys j) (factors_on (get_or ls (6 + j) []))

-- the words of a table with the n lines after the first 6: their n rows in order, and behind them the words that stood there
unfoldable pub keys_with : ℕ → ℕ → List (List ℕ) → List ℕ → List ℕ
keys_with w n ls keys = flatten (tab n (row_with w ls keys)) ++ drop (n * (2 * w)) keys

-- the weights of a table with the n lines after the first 6: their n weights in order, and behind them the numbers that stood there
unfoldable pub weights_with : ℕ → List (List ℕ) → List Float → List Float
weights_with n ls weights = tab n (λ j. weight_on (get_or ls (6 + j) [])) ++ drop n weights

-- whether two buffers, with 2 * w words and one weight to a line, hold n lines whole
abbrev pub holds_lines : ℕ → ℕ → List ℕ → List Float → Bool
holds_lines w n ks vs = leb (n * (2 * w)) (length ks) && leb n (length vs)

-- The two buffers of a table, before (ks, vs) and after (ks', vs'): if they hold all `term` lines of a sheet whole, then the lines are in them,
-- else both are as they were.
pub record LinesLoaded (w : ℕ) (h : Head) (ls : List (List ℕ)) (ks ks' : List ℕ) (vs vs' : List Float) : Type 0 where
  pub keys : ks' ≡ cond (holds_lines w h.terms ks vs) (keys_with w h.terms ls ks) ks
  pub weights : vs' ≡ cond (holds_lines w h.terms ks vs) (weights_with h.terms ls vs) vs
