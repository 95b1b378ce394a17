-- The gates' rule on words X^x Z^z agrees with Aaronson and Gottesman's on signed letters, for all twelve gates and all bits. Assumes nothing.
use Prim.Native.Nat.{◌+◌, ◌*◌, ◌%◌}
use mathlib.Core.Bool.{Bool, false, ◌&&◌}
use lib.Dec.{T, eqb, eqb→eq}
use Rattle.words.specs.declared.Bits as B
use Rattle.words.specs.declared.Gate.{Gate}
use Rattle.words.specs.Gates.{conj_bits, conj_phase}
use Rattle.words.specs.Tableau.{Signed, published, ys, half, Agrees}
use Rattle.words.proofs.EveryGate.{and_fst, and_snd, at_each, same, same→eq}

abbrev result : Gate → B.Bits → Signed
result g s = published g (record { bits = s; r = false })

abbrev bits : Gate → B.Bits → Bool
bits g s = same (conj_bits g s) (result g s).bits

abbrev turns : Gate → B.Bits → Bool
turns g s = eqb ((conj_phase g s + 3 * ys (conj_bits g s)) % 4) ((half (result g s).r + 3 * ys s) % 4)

pub published_agrees : (g : Gate) (s : B.Bits) → Agrees g s
published_agrees g s =
    let t : T (bits g s && turns g s) = at_each (λ g s. bits g s && turns g s) tt g s in
    (same→eq _ _ (and_fst (bits g s) (turns g s) t), eqb→eq _ _ (and_snd (bits g s) (turns g s) t))
