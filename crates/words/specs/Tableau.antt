-- The rules of Aaronson and Gottesman, "Improved simulation of stabilizer circuits", section III, on one row of a tableau at two qubits, in their order.
-- A row is (-1)^r times letters: I, X, Z, Y where (x, z) is (0, 0), (1, 0), (0, 1), (1, 1).
use Rattle.std.specs.Prelude.{ℕ, ◌+◌, ◌*◌, ◌%◌, ◌≡◌, Bool, true, false, cond, ◌&&◌}
use Rattle.words.specs.declared.Bits as B
use Rattle.words.specs.declared.Gate.{Gate}
use Rattle.words.specs.declared.Gate.TheVariants.{Id, X, Y, Z, H, S, Sdg, Sx, Sxdg, Cx, Cz, Swap}
use Rattle.words.specs.Keys.{◌⊕◌}
use Rattle.words.specs.Gates.{conj_bits, conj_phase}

pub record Signed : Type 0 where
  pub bits : B.Bits
  pub r : Bool

-- CNOT from control a to target b: r := r ⊕ xa zb (xb ⊕ za ⊕ 1), xb := xb ⊕ xa, za := za ⊕ zb
abbrev pub cnot : Signed → Signed
cnot t =
    let s = t.bits in
    record {
      bits = record { xa = s.xa; za = s.za ⊕ s.zb; xb = s.xb ⊕ s.xa; zb = s.zb };
      r = t.r ⊕ (s.xa && s.zb && (s.xb ⊕ s.za ⊕ true));
    }

-- Hadamard on a: r := r ⊕ xa za, and xa and za are exchanged
abbrev pub hadamard : Signed → Signed
hadamard t =
    let s = t.bits in
    record { bits = record { xa = s.za; za = s.xa; xb = s.xb; zb = s.zb }; r = t.r ⊕ (s.xa && s.za) }

-- Phase on a: r := r ⊕ xa za, za := za ⊕ xa
abbrev pub phase : Signed → Signed
phase t =
    let s = t.bits in
    record { bits = record { xa = s.xa; za = s.za ⊕ s.xa; xb = s.xb; zb = s.zb }; r = t.r ⊕ (s.xa && s.za) }

-- the qubits a and b with their names exchanged, for a rule on the other one
abbrev pub renamed : Signed → Signed
renamed t =
    let s = t.bits in
    record { bits = record { xa = s.xb; za = s.zb; xb = s.xa; zb = s.za }; r = t.r }

-- U† P U is P taken forward through U†, which is made of the three published gates: the first gate applied stands innermost
abbrev pub published : Gate → Signed → Signed
published Cx t = cnot t
published H t = hadamard t
published S t = phase (phase (phase t))
published Sdg t = phase t
published Sx t = hadamard (phase (phase (phase (hadamard t))))
published Sxdg t = hadamard (phase (hadamard t))
published Cz t = renamed (hadamard (renamed (cnot (renamed (hadamard (renamed t))))))
published Swap t = cnot (renamed (cnot (renamed (cnot t))))
published Id t = t
published X t = hadamard (phase (phase (hadamard t)))
published Y t = hadamard (phase (phase (hadamard (phase (phase t)))))
published Z t = phase (phase t)

-- how many of the two letters are Y. Since Y = iXZ, the word X^x Z^z is i^(3 * ys) times its letters
abbrev pub ys : B.Bits → ℕ
ys s = cond (s.xa && s.za) 1 0 + cond (s.xb && s.zb) 1 0

-- a sign as quarter turns
abbrev pub half : Bool → ℕ
half r = cond r 2 0

-- "Y = iXZ": a gate's rule on the word X^x Z^z and the published rule on its letters agree
abbrev pub Agrees : Gate → B.Bits → Type 0
Agrees g s =
    let t = published g (record { bits = s; r = false }) in
    (conj_bits g s ≡ t.bits) × ((conj_phase g s + 3 * ys (conj_bits g s)) % 4 ≡ (half t.r + 3 * ys s) % 4)
