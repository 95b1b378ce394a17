-- A task in lent memory: line l of a table has the 2 * W words from l * 2 * W on, and weight l; it has as many lines as weights.
use Rattle.std.specs.Prelude.{ℕ, ◌*◌, ◌/◌, Bool, List, leb, length, get_or, Float}
use Rattle.std.specs.Float.{nan}
use Rattle.words.specs.Keys.{width_of}
use Rattle.words.specs.Rows.{key_at}
use Rattle.terms.specs.Lists.{tab}
use Rattle.ops.specs.declared.Limits.{Limits}
use Rattle.ops.specs.declared.Op.{Op}
use Rattle.ops.specs.Task.{Line, Task}

abbrev pub table_line : ℕ → List ℕ → List Float → ℕ → Line
table_line w keys weights l = record { key = key_at (2 * w) keys l; weight = get_or weights l nan }

-- the first k lines
abbrev pub task_in : ℕ → Limits → List ℕ → List Float → ℕ → List Op → Task
task_in qubits l keys weights k ops = record { qubits = qubits; limits = l; lines = tab k (table_line (width_of qubits) keys weights); ops = ops }

-- the task of an observable and a circuit
abbrev pub task_of : ℕ → Limits → List ℕ → List Float → List Op → Task
task_of qubits l keys weights ops = task_in qubits l keys weights (length weights) ops

-- the keys have all lines, of 2 * w words each
abbrev pub has_lines : ℕ → List ℕ → List Float → Bool
has_lines w keys weights = leb (length weights) (length keys / (2 * w))
