-- Begušić, Gray and Chan: for U = e^(-iθσ/2) and a word P that anticommutes with σ, U† P U = cos θ · P + sin θ · iσP; a word that commutes with σ stays. Here σ is Z of
-- qubit a, or Z of a and b, so only the bits at a and b count: P is met just if it anticommutes with σ, and iσP is S† P S.
use Rattle.std.specs.Prelude.{ℕ, ◌+◌, ◌%◌, ◌≡◌, Bool, true, false, ◌&&◌}
use Rattle.words.specs.declared.Bits as B
use Rattle.words.specs.declared.Gate.TheVariants as G
use Rattle.words.specs.Keys.{◌⊕◌}
use Rattle.words.specs.Gates.{mk, conj_bits, conj_phase}
use Rattle.words.specs.Tableau.{half}

-- σ: Z of a, and of b too for rzz
abbrev pub sigma : Bool → B.Bits
sigma both = mk false true false both

-- X^x Z^z X^u Z^v = (-1)^(z · u) X^(x + u) Z^(z + v)
abbrev pub product : B.Bits → B.Bits → B.Bits
product s t = mk (s.xa ⊕ t.xa) (s.za ⊕ t.za) (s.xb ⊕ t.xb) (s.zb ⊕ t.zb)

abbrev pub negated : B.Bits → B.Bits → Bool
negated s t = (s.za && t.xa) ⊕ (s.zb && t.xb)

abbrev pub anticommute : B.Bits → B.Bits → Bool
anticommute s t = negated s t ⊕ negated t s

-- S† P S: s at a; for rzz s at b between two cx, which turn nothing
abbrev pub exchanged : B.Bits → B.Bits
exchanged s = mk s.xb s.zb s.xa s.za

abbrev pub quarter_bits : Bool → B.Bits → B.Bits
quarter_bits true s = conj_bits G.Cx (exchanged (conj_bits G.S (exchanged (conj_bits G.Cx s))))
quarter_bits false s = conj_bits G.S s

abbrev pub quarter_turns : Bool → B.Bits → ℕ
quarter_turns true s = conj_phase G.S (exchanged (conj_bits G.Cx s))
quarter_turns false s = conj_phase G.S s

pub record IsPauliRotation (both : Bool) (s : B.Bits) : Type 0 where
  -- "A term is met if x is set at the target; for rzz, at exactly one target"
  pub met : s.xa ⊕ (both && s.xb) ≡ anticommute (sigma both) s
  pub word : anticommute (sigma both) s ≡ true → quarter_bits both s ≡ product (sigma both) s
  pub turns : anticommute (sigma both) s ≡ true → quarter_turns both s ≡ (1 + half (negated (sigma both) s)) % 4

abbrev pub PauliRotations : Type 0
PauliRotations = (both : Bool) (s : B.Bits) → IsPauliRotation both s
