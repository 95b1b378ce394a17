-- A gate carries a product of two words to the product of the two carried, phases in quarter turns: at the bits of the targets. One test
-- over twelve gates and 256 pairs. Assumes nothing.
use Prim.Native.Nat.{ℕ, ◌+◌, ◌%◌}
use mathlib.Core.Path.{◌≡◌}
use mathlib.Core.Bool.{Bool, cond, ◌&&◌}
use lib.Dec.{T, eqb, eqb→eq}
use Rattle.words.specs.declared.Bits as B
use Rattle.words.specs.declared.Gate.{Gate}
use Rattle.words.specs.Keys.{◌⊕◌}
use Rattle.words.specs.Gates.{mk, conj_bits, conj_phase}
use Rattle.words.proofs.EveryGate.{and_fst, and_snd, every_bits, at_bits, at_each, same, same→eq}

-- the word of a product, and the factor -1 for each qubit where a Z of the first passes an X of the second, in quarter turns
abbrev pub times : B.Bits → B.Bits → B.Bits
times s t = mk (s.xa ⊕ t.xa) (s.za ⊕ t.za) (s.xb ⊕ t.xb) (s.zb ⊕ t.zb)

abbrev pub passed : B.Bits → B.Bits → ℕ
passed s t = cond (s.za && t.xa) 2 0 + cond (s.zb && t.xb) 2 0

abbrev bits : Gate → B.Bits → B.Bits → Bool
bits g s t = same (conj_bits g (times s t)) (times (conj_bits g s) (conj_bits g t))

abbrev turns : Gate → B.Bits → B.Bits → Bool
turns g s t = eqb ((passed s t + conj_phase g (times s t)) % 4) ((conj_phase g s + conj_phase g t + passed (conj_bits g s) (conj_bits g t)) % 4)

tested : (g : Gate) (s t : B.Bits) → T (bits g s t && turns g s t)
tested g s t = at_bits (λ t. bits g s t && turns g s t) (at_each (λ g s. every_bits (λ t. bits g s t && turns g s t)) tt g s) t

pub product_bits : (g : Gate) (s t : B.Bits) → conj_bits g (times s t) ≡ times (conj_bits g s) (conj_bits g t)
product_bits g s t = same→eq _ _ (and_fst (bits g s t) (turns g s t) (tested g s t))

pub product_turns : (g : Gate) (s t : B.Bits)
    → (passed s t + conj_phase g (times s t)) % 4 ≡ (conj_phase g s + conj_phase g t + passed (conj_bits g s) (conj_bits g t)) % 4
product_turns g s t = eqb→eq _ _ (and_snd (bits g s t) (turns g s t) (tested g s t))
