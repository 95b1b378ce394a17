-- How large `touched` can be: at most limit terms to an op. So where limit is at most 1,048,576 and there are at most 4,096 ops, a run's is at most
-- 2^32, the sum over at most limit lines 2^52, over at most 256 qubits 2^40: each fits 64 bits. Assumes nothing.
use mathlib.Core.Path.{◌≡◌}
use Prim.Native.Nat.{ℕ, suc, ◌+◌, ◌*◌, ◌^◌, ◌≤◌, ◌<◌}
use native.Mathlib.Nat.{mul-le-mul}
use native.Mathlib.Omega.{arith}
use mathlib.Core.Bool.{Bool, true, false, cond, ◌&&◌}
use mathlib.Core.List.{List, [], ◌∷◌}
use borrow.Author.Tests.{leb-true}
use lib.ListN.{length}
use lib.Ieee.{lt}
use Rattle.numbers.specs.Tests.{is_finite}
use Rattle.numbers.specs.Constants.{zero64}
use Rattle.terms.specs.Truncation.{crowded}
use Rattle.terms.specs.Mean.{mean_of}
use Rattle.ops.specs.declared.Limits.{Limits}
use Rattle.ops.specs.declared.Op.{Op}
use Rattle.dynamics.specs.Acts.{act, met}
use Rattle.dynamics.specs.Turn.{UnlessRefused, Stage, refused, going, ask, State, state, fine, drop_small, ended, finish, Outcome, outcome}
use Rattle.dynamics.specs.Runs.{turn, step, runs, marked_run}
use Rattle.dynamics.proofs.ActLaws.{met_few}
use Rattle.dynamics.proofs.Alike.{bind_holds, ask_holds, settle_holds}

-- at most limit terms, and at most n of them met so far
pub record Counted (l : Limits) (n : ℕ) (s : State) : Type 0 where
  pub few : length s.terms ≤ l.limit
  pub met : s.touched ≤ n

-- an outcome's count
abbrev pub Met : ℕ → Outcome → Type 0
Met n o = o.touched ≤ n

module _ (w : ℕ) (l : Limits) where
  -- one op meets at most limit terms: what `touched` needs of the 64 bits before an op is added to it
  pub turn_counted : (op : Op) (s : State) (n : ℕ) → Counted l n s → UnlessRefused (Counted l (l.limit + n)) (turn w l op s)
  turn_counted op s n c =
      settle_holds l u (Counted l (l.limit + n)) λ f g. record { few = leb-true _ _ g; met = kept (crowded l.max_terms u.terms) }
    where
      u : State
      u = state (act w op s.terms) s.peak s.discarded (s.touched + met w op s.terms)

      kept : (b : Bool) → (cond b (drop_small l.epsilon u) u).touched ≤ l.limit + n
      kept true = omega (arith, c.few, c.met, met_few w op s.terms)
      kept false = omega (arith, c.few, c.met, met_few w op s.terms)

  pub runs_counted : (ms : List Bool) (ops : List Op) (s : State) (n : ℕ) → Counted l n s → UnlessRefused (Counted l (length ops * l.limit + n)) (runs w l ms ops s)
  unfolding runs
  runs_counted ms [] s n c = record { few = c.few; met = omega (arith, c.met) }
  runs_counted [] (op ∷ ops) s n c = record { few = c.few; met = omega (arith, c.met) }
  runs_counted (m ∷ ms) (op ∷ ops) s n c =
      bind_holds (Counted l (length ops * l.limit + n)) (Counted l (suc (length ops) * l.limit + n)) (runs w l ms ops s) (step w l m op) (runs_counted ms ops s n c) (go m)
    where
      widen : (x : Stage State) → UnlessRefused (Counted l (l.limit + (length ops * l.limit + n))) x → UnlessRefused (Counted l (suc (length ops) * l.limit + n)) x
      widen (refused q) h = tt
      widen (going u) h = record { few = h.few; met = omega (arith, h.met) }

      go : (m : Bool) (u : State) → Counted l (length ops * l.limit + n) u → UnlessRefused (Counted l (suc (length ops) * l.limit + n)) (step w l m op u)
      go true u h = widen (turn w l op u) (turn_counted op u (length ops * l.limit + n) h)
      go false u h = record { few = h.few; met = omega (arith, h.met) }

  finish_met : (s : State) (n : ℕ) → s.touched ≤ n → UnlessRefused (Met n) (finish w l s)
  unfolding finish ended
  finish_met s n h = go (lt zero64 l.epsilon)
    where
      end : (u : State) → u.touched ≤ n → let m = mean_of w u.terms in
          UnlessRefused (Met n) (ask 8 (fine u && is_finite m) (going (outcome u.terms m [] u.peak u.discarded u.touched)))
      end u k = let m = mean_of w u.terms in
          ask_holds (Met n) 8 (fine u && is_finite m) (going (outcome u.terms m [] u.peak u.discarded u.touched)) (λ e. k)

      go : (b : Bool) → let u = cond b (drop_small l.epsilon s) s in let m = mean_of w u.terms in
          UnlessRefused (Met n) (ask 8 (fine u && is_finite m) (going (outcome u.terms m [] u.peak u.discarded u.touched)))
      go true = end (drop_small l.epsilon s) h
      go false = end s h

  -- a run from at most limit terms, of which none is met yet
  pub run_met : (ms : List Bool) (ops : List Op) (s : State) → length s.terms ≤ l.limit → s.touched ≡ 0 → UnlessRefused (Met (length ops * l.limit)) (marked_run w l ms ops s)
  unfolding marked_run
  run_met ms ops s few none =
      bind_holds (Counted l (length ops * l.limit + 0)) (Met (length ops * l.limit)) (runs w l ms ops s) (finish w l) (runs_counted ms ops s 0 (record { few = few; met = omega (arith, none) }))
      (λ u c. finish_met u (length ops * l.limit) (omega (arith, c.met)))

-- ---- 64 bits
module _ (ops limit : ℕ) (short : ops ≤ 4096) (low : limit ≤ 1048576) where
  pub run_fits : ops * limit ≤ 4294967296
  run_fits = mul-le-mul short low

  pub fold_fits : (lines : ℕ) → lines ≤ limit → lines * (ops * limit) < 2 ^ 64
  fold_fits lines h = let few : lines ≤ 1048576 = omega (arith, h, low) in let a : lines * (ops * limit) ≤ 1048576 * 4294967296 = mul-le-mul few run_fits in omega (arith, a)

  pub all_fits : (qubits : ℕ) → qubits ≤ 256 → qubits * (ops * limit) < 2 ^ 64
  all_fits qubits h = let a : qubits * (ops * limit) ≤ 256 * 4294967296 = mul-le-mul h run_fits in omega (arith, a)
