-- A test of every gate and of all bits at its targets, which antt computes, holds of each gate and all bits. Assumes nothing.
use mathlib.Core.Path.{◌≡◌, refl, sym, ap, ap₂, ◌∙◌}
use mathlib.Core.Bool.{Bool, true, false, ◌&&◌, beq}
use lib.Dec.{T}
use Rattle.words.specs.declared.Bits as B
use Rattle.words.specs.declared.Gate.{Gate}
use Rattle.words.specs.declared.Gate.TheVariants.{Id, X, Y, Z, H, S, Sdg, Sx, Sxdg, Cx, Cz, Swap}
use Rattle.words.specs.Gates.{mk}

abbrev every_bool : (Bool → Bool) → Bool
every_bool p = p true && p false

abbrev pub every_bits : (B.Bits → Bool) → Bool
every_bits p = every_bool (λ x. every_bool (λ z. every_bool (λ u. every_bool (λ v. p (mk x z u v)))))

abbrev pub every_gate : (Gate → Bool) → Bool
every_gate p = p Id && (p X && (p Y && (p Z && (p H && (p S && (p Sdg && (p Sx && (p Sxdg && (p Cx && (p Cz && p Swap))))))))))

pub and_fst : (a b : Bool) → T (a && b) → T a
and_fst true b t = tt
and_fst false b t = t

pub and_snd : (a b : Bool) → T (a && b) → T b
and_snd true b t = t
and_snd false b t = absurd t

at_bool : (p : Bool → Bool) → T (every_bool p) → (b : Bool) → T (p b)
at_bool p t true = and_fst (p true) (p false) t
at_bool p t false = and_snd (p true) (p false) t

pub at_bits : (p : B.Bits → Bool) → T (every_bits p) → (s : B.Bits) → T (p s)
at_bits p t s =
    at_bool (λ v. p (mk s.xa s.za s.xb v))
    (at_bool (λ u. every_bool (λ v. p (mk s.xa s.za u v)))
    (at_bool (λ z. every_bool (λ u. every_bool (λ v. p (mk s.xa z u v))))
    (at_bool (λ x. every_bool (λ z. every_bool (λ u. every_bool (λ v. p (mk x z u v)))))
    t s.xa) s.za) s.xb) s.zb

pub at_gate : (p : Gate → Bool) → T (every_gate p) → (g : Gate) → T (p g)
at_gate p t g =
    let t₁ = and_snd (p Id) _ t in
    let t₂ = and_snd (p X) _ t₁ in
    let t₃ = and_snd (p Y) _ t₂ in
    let t₄ = and_snd (p Z) _ t₃ in
    let t₅ = and_snd (p H) _ t₄ in
    let t₆ = and_snd (p S) _ t₅ in
    let t₇ = and_snd (p Sdg) _ t₆ in
    let t₈ = and_snd (p Sx) _ t₇ in
    let t₉ = and_snd (p Sxdg) _ t₈ in
    let t₁₀ = and_snd (p Cx) _ t₉ in
    elim g as (λ (g : Gate). T (p g)) [
      | Id ↦ and_fst (p Id) _ t
      | X ↦ and_fst (p X) _ t₁
      | Y ↦ and_fst (p Y) _ t₂
      | Z ↦ and_fst (p Z) _ t₃
      | H ↦ and_fst (p H) _ t₄
      | S ↦ and_fst (p S) _ t₅
      | Sdg ↦ and_fst (p Sdg) _ t₆
      | Sx ↦ and_fst (p Sx) _ t₇
      | Sxdg ↦ and_fst (p Sxdg) _ t₈
      | Cx ↦ and_fst (p Cx) _ t₉
      | Cz ↦ and_fst (p Cz) _ t₁₀
      | Swap ↦ and_snd (p Cz) _ t₁₀
    ]

-- both at once: a law over gates and bits is `at_each test tt`
pub at_each : (p : Gate → B.Bits → Bool) → T (every_gate (λ g. every_bits (p g))) → (g : Gate) (s : B.Bits) → T (p g s)
at_each p t g s = at_bits (p g) (at_gate (λ g. every_bits (p g)) t g) s

pub beq→eq : (a b : Bool) → T (beq a b) → a ≡ b
beq→eq true true t = refl
beq→eq false false t = refl
beq→eq true false t = absurd t
beq→eq false true t = absurd t

-- whether two records of bits are equal
abbrev pub same : B.Bits → B.Bits → Bool
same s t = beq s.xa t.xa && (beq s.za t.za && (beq s.xb t.xb && beq s.zb t.zb))

pub same→eq : (s t : B.Bits) → T (same s t) → s ≡ t
same→eq s t h =
    let p : s.xa ≡ t.xa = beq→eq s.xa t.xa (and_fst (beq s.xa t.xa) _ h) in
    let h₁ = and_snd (beq s.xa t.xa) _ h in
    let q : s.za ≡ t.za = beq→eq s.za t.za (and_fst (beq s.za t.za) _ h₁) in
    let h₂ = and_snd (beq s.za t.za) _ h₁ in
    let u : s.xb ≡ t.xb = beq→eq s.xb t.xb (and_fst (beq s.xb t.xb) _ h₂) in
    let v : s.zb ≡ t.zb = beq→eq s.zb t.zb (and_snd (beq s.xb t.xb) _ h₂) in
    ap₂ (λ (x z : Bool). mk x z s.xb s.zb) p q ∙ ap₂ (λ (x z : Bool). mk t.xa t.za x z) u v

-- what a function of a gate and bits has in the arm of a gate
pub arm : {A : Type 0} (f : Gate → B.Bits → A) (s : B.Bits) {g h : Gate} → g ≡ h → f h s ≡ f g s
arm f s e = ap (λ (g : Gate). f g s) (sym e)
