-- What question 2 says of the counts. Assumes nothing.
use mathlib.Core.Path.{◌≡◌}
use mathlib.Core.Bool.{true, ◌&&◌}
use Prim.Native.Nat.{ℕ, ◌≤◌}
use lib.Dec.{leb}
use lib.ListN.{length}
use borrow.Author.Tests.{leb-true}
use Rattle.terms.proofs.CaseLaws.{and_true}
use Rattle.ops.specs.Task.{Task, counts_fit, sizes_fit}

-- of the numbers of qubits, limit, terms and ops
pub record Counts (q m k n : ℕ) : Type 0 where
  pub some_qubits : 1 ≤ q
  pub qubits : q ≤ 256
  pub some_limit : 1 ≤ m
  pub limit : m ≤ 1048576
  pub terms : k ≤ 1024
  pub few : k ≤ m
  pub ops : n ≤ 4096

pub counts_say : (q m k n : ℕ) → counts_fit q m k n ≡ true → Counts q m k n
counts_say q m k n h =
    let a = and_true (leb 1 q && leb q 256 && (leb 1 m && leb m 1048576)) (leb k 1024 && leb k m && leb n 4096) h in
    let b = and_true (leb 1 q && leb q 256) (leb 1 m && leb m 1048576) a.0 in
    let c = and_true (leb 1 q) (leb q 256) b.0 in
    let d = and_true (leb 1 m) (leb m 1048576) b.1 in
    let e = and_true (leb k 1024 && leb k m) (leb n 4096) a.1 in
    let f = and_true (leb k 1024) (leb k m) e.0 in
    record {
      some_qubits = leb-true 1 q c.0;
      qubits = leb-true q 256 c.1;
      some_limit = leb-true 1 m d.0;
      limit = leb-true m 1048576 d.1;
      terms = leb-true k 1024 f.0;
      few = leb-true k m f.1;
      ops = leb-true n 4096 e.1;
    }

-- of a task
pub sizes_say : (t : Task) → sizes_fit t ≡ true → Counts t.qubits t.limits.limit (length t.lines) (length t.ops)
unfolding sizes_fit
sizes_say t h = counts_say t.qubits t.limits.limit (length t.lines) (length t.ops) h
