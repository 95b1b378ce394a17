-- Aaronson and Gottesman, section III, over any number of qubits: a row of a tableau is a sign r and two bits x and z for each qubit. A gate changes r and
-- the bits at its targets by the rules of words Tableau, and no others.
use Rattle.std.specs.Prelude.{ℕ, ◌+◌, ◌*◌, ◌%◌, ◌<◌, ◌≡◌, Bool, cond, eqb, length}
use Rattle.words.specs.declared.Gate.{Gate}
use Rattle.words.specs.Keys.{Key, bit_at, z_at}
use Rattle.words.specs.Gates.{mk, bits_at, conj_key, conj_phase, Targets}
use Rattle.words.specs.Tableau.{Signed, published, half}
use Rattle.words.specs.Letters.{ys_of}

pub record Row : Type 0 where
  pub x : ℕ → Bool
  pub z : ℕ → Bool
  pub r : Bool

-- the row of a word of 64 * w qubits, with a sign
abbrev pub row_of : ℕ → Key → Bool → Row
row_of w k r = record { x = bit_at k; z = λ q. bit_at k (z_at w q); r = r }

-- what a rule reads of a row
abbrev pub read_at : ℕ → ℕ → Row → Signed
read_at a b t = record { bits = mk (t.x a) (t.z a) (t.x b) (t.z b); r = t.r }

-- the bits with the one at a qubit replaced
abbrev pub put : ℕ → Bool → (ℕ → Bool) → ℕ → Bool
put a v f q = cond (eqb q a) v (f q)

-- the row after a gate. The rule of a gate with one target returns the bits at b as they were
abbrev pub updated : Gate → ℕ → ℕ → Row → Row
updated g a b t =
    let u = published g (read_at a b t) in
    record { x = put a u.bits.xa (put b u.bits.xb t.x); z = put a u.bits.za (put b u.bits.zb t.z); r = u.r }

-- "Y = iXZ": (-1)^r times the letters of a word is i^quarters times X^x Z^z
abbrev pub quarters : ℕ → Key → Bool → ℕ
quarters w k r = half r + ys_of w k

-- the gate's key and quarter turns on X^x Z^z are the row update
pub record IsRowUpdate (g : Gate) (w a b : ℕ) (k : Key) (r : Bool) : Type 0 where
  pub xs : (q : ℕ) → q < 64 * w → bit_at (conj_key g w a b k) q ≡ (updated g a b (row_of w k r)).x q
  pub zs : (q : ℕ) → q < 64 * w → bit_at (conj_key g w a b k) (z_at w q) ≡ (updated g a b (row_of w k r)).z q
  pub turns : quarters w (conj_key g w a b k) (updated g a b (row_of w k r)).r % 4 ≡ (quarters w k r + conj_phase g (bits_at w a b k)) % 4

-- of every gate, every width, targets that the words have, every word and sign
abbrev pub TableauOfAnyWidth : Type 0
TableauOfAnyWidth = (g : Gate) (w a b : ℕ) (k : Key) → Targets g w a b → length k ≡ 2 * w → (r : Bool) → IsRowUpdate g w a b k r
