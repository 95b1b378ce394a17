-- An index as one value, where it is known to be there: what it has, and a row added. Assumes nothing.
use mathlib.Core.Path.{◌≡◌, refl, sym, ap, ◌∙◌, subst}
use mathlib.Core.Bool.{true, false}
use mathlib.Core.List.{List}
use Prim.Native.Nat.{ℕ, ◌+◌}
use lib.ListN.{length}
use Rattle.std.specs.Prelude.{Option, Some, None}
use Rattle.std.specs.Borrow.{MutBor}
use Rattle.rows.specs.declared.Rows.{Rows}
use Rattle.rows.specs.Lent.{row_key}
use Rattle.branches.specs.declared.Sought.{Sought}
use Rattle.branches.specs.declared.Index.{Index}
use Rattle.branches.specs.Probe.{files}
use Rattle.branches.specs.Chains.{class_of, bucket_of, pushed, Filed, Indexed, Spare}
use Rattle.branches.specs.Index.{Indexes, Spares, SameIndex, SameIf, InMemory}
use Rattle.branches.proofs.FileLaws.{index_more, index_skip}

pub filed_at : (s : Sought) (r : Rows) (n : ℕ) {o : Option Index} (x : Index) → o ≡ Some x → Indexes s r n o → Filed s r.w r.words.now n x.buckets x.memory.now
filed_at s r n x e I = (subst (Indexes s r n) e I).index x.buckets refl

pub same_trans : {x y z : Index} → SameIndex x y → SameIndex y z → SameIndex x z
same_trans {x} {y} {z} a b = record { memory = b.memory ∙ a.memory; long = b.long ∙ a.long; buckets = b.buckets ∙ a.buckets }

pub spares_same : (n : ℕ) (o p : Option Index) → SameIf o p → Spares n o → Spares n p
spares_same n (Some x) (Some y) a h = subst (λ (b : ℕ). Spare n (Some b) (length y.memory.now)) (sym a.buckets) (subst (Spare n (Some x.buckets)) (sym a.long) h)
spares_same n (Some x) None a h = absurd a
spares_same n None (Some y) a h = absurd a
spares_same n None None a h = h

pub memory_same : (m : MutBor (List ℕ)) (o p : Option Index) → SameIf o p → InMemory m o → InMemory m p
memory_same m (Some x) (Some y) a h = (a.memory ∙ h.0, a.long ∙ h.1)
memory_same m (Some x) None a h = absurd a
memory_same m None (Some y) a h = absurd a
memory_same m None None a h = h

module _ (s : Sought) (r : Rows) (m : ℕ) {o : Option Index} (x : Index) (e : o ≡ Some x) (room : Spares (m + 1) o) (I : Indexes s r m o) where
  pub index_put : {x' : Index} {b : ℕ} → SameIndex x x' → files r.w s (row_key r m) ≡ true → b ≡ bucket_of x.buckets (class_of r.w s (row_key r m))
      → x'.memory.now ≡ pushed m x.buckets b x.memory.now → Indexes s r (m + 1) (Some x')
  index_put {x'} {b} S f q p =
      subst (λ (c : ℕ). Indexed s r.w r.words.now (m + 1) (Some c) x'.memory.now) (sym S.buckets)
      (index_more s r.w r.words.now m x.buckets x.memory.now (subst (Indexes s r m) e I) (subst (Spares (m + 1)) e room) refl f
      (p ∙ ap (λ (c : ℕ). pushed m x.buckets c x.memory.now) q))

  pub index_left : files r.w s (row_key r m) ≡ false → Indexes s r (m + 1) (Some x)
  index_left f = index_skip s r.w r.words.now m x.buckets x.memory.now (subst (Indexes s r m) e I) (subst (Spares (m + 1)) e room) refl f

-- ---- an index, if any, after one step and another

pub same_if_refl : (o : Option Index) → SameIf o o
same_if_refl (Some x) = record { memory = refl; long = refl; buckets = refl }
same_if_refl None = tt

pub same_if_trans : (o p q : Option Index) → SameIf o p → SameIf p q → SameIf o q
same_if_trans (Some x) (Some y) (Some z) a b = same_trans a b
same_if_trans (Some x) (Some y) None a b = absurd b
same_if_trans (Some x) None q a b = absurd a
same_if_trans None (Some y) q a b = absurd a
same_if_trans None None (Some z) a b = absurd b
same_if_trans None None None a b = tt
