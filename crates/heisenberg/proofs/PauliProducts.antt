-- Where a word anticommutes with σ, iσP is S† P S: tests over all bits. Assumes nothing.
use Prim.Native.Nat.{◌+◌, ◌%◌}
use mathlib.Core.Path.{◌≡◌, subst}
use mathlib.Core.Bool.{Bool, true, false, not, ◌&&◌, ◌||◌, beq}
use lib.Dec.{T, eqb, eqb→eq}
use Rattle.words.specs.Keys.{◌⊕◌}
use Rattle.words.specs.declared.Bits as B
use Rattle.words.specs.Tableau.{half}
use Rattle.words.proofs.EveryGate as E
use Rattle.heisenberg.specs.PauliProduct.{sigma, product, negated, anticommute, quarter_bits, quarter_turns, PauliRotations}

-- a test that holds where a word anticommutes with σ
where_met : (p : Bool → B.Bits → Bool) → T (E.every_bits (λ s. not (anticommute (sigma true) s) || p true s)) → T (E.every_bits (λ s. not (anticommute (sigma false) s) || p false s))
    → (both : Bool) (s : B.Bits) → anticommute (sigma both) s ≡ true → T (p both s)
where_met p t f true s e = subst (λ (m : Bool). T (not m || p true s)) e (E.at_bits (λ s. not (anticommute (sigma true) s) || p true s) t s)
where_met p t f false s e = subst (λ (m : Bool). T (not m || p false s)) e (E.at_bits (λ s. not (anticommute (sigma false) s) || p false s) f s)

met : (both : Bool) (s : B.Bits) → s.xa ⊕ (both && s.xb) ≡ anticommute (sigma both) s
met true s = E.beq→eq _ _ (E.at_bits (λ s. beq (s.xa ⊕ (true && s.xb)) (anticommute (sigma true) s)) tt s)
met false s = E.beq→eq _ _ (E.at_bits (λ s. beq (s.xa ⊕ (false && s.xb)) (anticommute (sigma false) s)) tt s)

pub pauli_rotations : PauliRotations
pauli_rotations both s = record {
  met = met both s;
  word = λ e. E.same→eq _ _ (where_met (λ both s. E.same (quarter_bits both s) (product (sigma both) s)) tt tt both s e);
  turns = λ e. eqb→eq _ _ (where_met (λ both s. eqb (quarter_turns both s) ((1 + half (negated (sigma both) s)) % 4)) tt tt both s e);
}
