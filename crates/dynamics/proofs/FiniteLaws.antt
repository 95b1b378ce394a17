-- What is finite was made from what is finite: a sum with a coefficient that is not finite keeps one through every op, and through the drop of
-- small terms. Assumes nothing.
use Prim.Native.Nat.{ℕ, zero, suc}
use mathlib.Core.Path.{◌≡◌, refl, sym, ap₂, ◌∙◌}
use mathlib.Core.Bool.{Bool, true, false, cond, not, ◌&&◌, ◌||◌}
use mathlib.Core.List.{List, [], ◌∷◌, ◌++◌, map}
use lib.Dec.{eqb-suc-zero}
use lib.ListN.{get_or}
use lib.Ieee.{Float, nan, inf, fin, binary64, neg, add, mul, lt}
use Rattle.numbers.specs.Constants.{sine_t, cosine_t}
use Rattle.numbers.specs.Tests.{is_finite, is_zero, abs_of}
use Rattle.words.specs.Keys.{Key, has_letter, same_key}
use Rattle.words.specs.Gates.{bits_at}
use Rattle.words.specs.declared.Gate.{Gate}
use Rattle.terms.specs.declared.Axis.{Axis}
use Rattle.terms.specs.declared.Axis.TheVariants.{Z, Zz}
use Rattle.terms.specs.declared.ChannelAction.{ChannelAction}
use Rattle.terms.specs.declared.ChannelKind.{ChannelKind}
use Rattle.terms.specs.declared.ChannelKind.TheVariants.{Local, Depolarizing2q}
use Rattle.terms.specs.declared.NoiseChannel.{NoiseChannel}
use Rattle.terms.specs.declared.NoiseChannel.TheVariants as N
use Rattle.terms.specs.Lists.{foldl}
use Rattle.terms.specs.Coefficient.{signed, scaled_of, flipped_of, plus_of, negates, finite_of}
use Rattle.terms.specs.Term.{Term, term, odd_y, is_in, add_to, conjugated, all_finite}
use Rattle.terms.specs.Rotation.{met_by, partner_by, scaled_met, turned_row, appended_rows, rotated}
use Rattle.terms.specs.Channel.{action_of, is_zletter, letter_index, insert, branch, with_branches, scaled_letter, scaled_local, scaled_either, channel_by, channeled}
use Rattle.terms.specs.Truncation.{is_small, kept_of}
use Rattle.terms.proofs.CaseLaws.{and_true, cond_cases}
use Rattle.terms.proofs.StepLaws.{row_cases}
use Rattle.ops.specs.declared.Op.{Op}
use Rattle.ops.specs.declared.Op.TheVariants.{Native, T, Tdg, Rz, P, Rzz, Pauli, Depol, Damp, Phase, Thermal, Depol2, Barrier}
use Rattle.ops.specs.Ops.{targets, on_words}
use Rattle.dynamics.specs.Acts.{turned, noisy, act_on, act}

-- ---- numbers

finite_neg : (x : Float) → is_finite (neg x) ≡ is_finite x
unfolding neg
finite_neg nan = refl
finite_neg (inf s) = refl
finite_neg (fin s m e) = refl

finite_mul : (x y : Float) → is_finite (mul binary64 x y) ≡ true → is_finite x ≡ true
unfolding mul
finite_mul nan y h = h
finite_mul (inf s) nan h = h
finite_mul (inf s) (inf t) h = h
finite_mul (inf s) (fin t zero e) h = h
finite_mul (inf s) (fin t (suc m) e) h = rw eqb-suc-zero at h
finite_mul (fin s m e) y h = refl

finite_add : (x y : Float) → is_finite (add binary64 x y) ≡ true → is_finite x ≡ true
unfolding add
finite_add nan y h = h
finite_add (inf s) nan h = h
finite_add (inf true) (inf true) h = h
finite_add (inf true) (inf false) h = h
finite_add (inf false) (inf true) h = h
finite_add (inf false) (inf false) h = h
finite_add (inf s) (fin t m e) h = h
finite_add (fin s m e) y h = refl

-- a number whose size is below another
finite_below : (x e : Float) → lt (abs_of x) e ≡ true → is_finite x ≡ true
unfolding lt
finite_below nan e h = h
finite_below (inf s) nan h = h
finite_below (inf s) (inf true) h = h
finite_below (inf s) (inf false) h = h
finite_below (inf s) (fin t m d) h = h
finite_below (fin s m d) e h = refl

-- ---- what a step makes of a number

finite_signed : (b : Bool) (v : Float) → is_finite (signed b v) ≡ true → is_finite v ≡ true
finite_signed true v h = sym (finite_neg v) ∙ h
finite_signed false v h = h

finite_plus : (c d : Float) → finite_of (plus_of c d) ≡ true → finite_of c ≡ true
finite_plus c d = finite_add c d

finite_scaled : (f c : Float) → finite_of (scaled_of f c) ≡ true → finite_of c ≡ true
finite_scaled f c = finite_mul c f

finite_flipped : (odd : Bool) (s c : Float) → finite_of (flipped_of odd s c) ≡ true → finite_of c ≡ true
finite_flipped odd s c h = finite_mul c s (finite_signed (not odd) (mul binary64 c s) h)

-- ---- lists of terms

abbrev Fine : Term → Type 0
Fine t = finite_of t.coeff ≡ true

map_finite : (f : Term → Term) → ((t : Term) → Fine (f t) → Fine t) → (ts : List Term) → all_finite (map f ts) ≡ true → all_finite ts ≡ true
unfolding all_finite
map_finite f h [] e = refl
map_finite f h (t ∷ ts) e =
    let p = and_true (finite_of (f t).coeff) (all_finite (map f ts)) e in
    ap₂ ◌&&◌ (h t p.0) (map_finite f h ts p.1)

append_finite : (ts us : List Term) → all_finite (ts ++ us) ≡ true → all_finite ts ≡ true
unfolding all_finite
append_finite [] us e = refl
append_finite (t ∷ ts) us e =
    let p = and_true (finite_of t.coeff) (all_finite (ts ++ us)) e in
    ap₂ ◌&&◌ p.0 (append_finite ts us p.1)

add_to_finite : (k : Key) (d : Float) (ts : List Term) → all_finite (add_to k d ts) ≡ true → all_finite ts ≡ true
unfolding all_finite add_to
add_to_finite k d [] e = refl
add_to_finite k d (t ∷ ts) e = go (same_key k t.key) e (add_to_finite k d ts)
  where
    go : (b : Bool) → all_finite (cond b (term t.key (plus_of t.coeff d) ∷ ts) (t ∷ add_to k d ts)) ≡ true → (all_finite (add_to k d ts) ≡ true → all_finite ts ≡ true)
        → (finite_of t.coeff && all_finite ts) ≡ true
    go true e r = let p = and_true (finite_of (plus_of t.coeff d)) (all_finite ts) e in ap₂ ◌&&◌ (finite_plus t.coeff d p.0) p.1
    go false e r = let p = and_true (finite_of t.coeff) (all_finite (add_to k d ts)) e in ap₂ ◌&&◌ p.0 (r p.1)

insert_finite : (ts : List Term) (t : Term) → all_finite (insert ts t) ≡ true → all_finite ts ≡ true
unfolding insert
insert_finite ts t = cond_cases (λ us. all_finite us ≡ true → all_finite ts ≡ true) (is_in t.key ts)
    (λ b. add_to_finite t.key t.coeff ts) (λ b. append_finite ts (t ∷ []))

fold_finite : (f : List Term → Term → List Term) → ((ts : List Term) (t : Term) → all_finite (f ts t) ≡ true → all_finite ts ≡ true)
    → (us ts : List Term) → all_finite (foldl f ts us) ≡ true → all_finite ts ≡ true
unfolding foldl
fold_finite f h [] ts e = e
fold_finite f h (u ∷ us) ts e = h ts u (fold_finite f h us (f ts u) e)

-- ---- steps

gate_finite : (w : ℕ) (g : Gate) (a b : ℕ) (ts : List Term) → all_finite (map (conjugated w g a b) ts) ≡ true → all_finite ts ≡ true
unfolding conjugated
gate_finite w g a b = map_finite (conjugated w g a b) (λ t. finite_signed (negates g (bits_at w a b t.key) (odd_y w t.key)) t.coeff)

rotated_finite : (w : ℕ) (met : Key → Bool) (partner : Key → Key) (sin cos : Float) (ts : List Term) → all_finite (rotated w met partner sin cos ts) ≡ true → all_finite ts ≡ true
unfolding rotated
rotated_finite w met partner sin cos ts = cond_cases (λ us. all_finite us ≡ true → all_finite ts ≡ true) (is_zero sin)
    (λ b. map_finite (scaled_met w met partner sin cos) (λ t. cond_cases (λ u. Fine u → Fine t) (met t.key) (λ m. finite_scaled cos t.coeff) (λ m h. h)) ts)
    (λ b h. map_finite (turned_row w met partner sin cos ts) row ts (append_finite (map (turned_row w met partner sin cos ts) ts) (appended_rows w met partner sin cos ts ts) h))
  where
    row : (t : Term) → Fine (turned_row w met partner sin cos ts t) → Fine t
    row t = row_cases w met partner sin cos ts t (λ u l. Fine u → Fine t) (λ m h. h)
        (λ d m e h. finite_scaled cos t.coeff (finite_plus (scaled_of cos t.coeff) (flipped_of (not (odd_y w t.key)) sin d) h))
        (λ m e z. finite_flipped (odd_y w t.key) sin t.coeff) (λ m e z. finite_scaled cos t.coeff)

channeled_finite : (w a b : ℕ) (c : ChannelAction) (ts : List Term) → all_finite (channeled w a b c ts) ≡ true → all_finite ts ≡ true
unfolding channeled scaled_local
channeled_finite w a b c ts = go c.kind
  where
    f : Float
    f = c.z_to_identity

    branches : all_finite (with_branches w a f ts) ≡ true → all_finite ts ≡ true
    branches = cond_cases (λ us. all_finite us ≡ true → all_finite ts ≡ true) (is_zero f) (λ z h. h)
        (λ z. fold_finite (branch w a f) (λ us t. cond_cases (λ vs. all_finite vs ≡ true → all_finite us ≡ true) (is_zletter w a t.key) (λ e. insert_finite us _) (λ e h. h)) ts ts)

    go : (k : ChannelKind) → all_finite (channel_by k w a b c ts) ≡ true → all_finite ts ≡ true
    go Local h = branches (map_finite (scaled_letter w a c.lambda)
        (λ t. cond_cases (λ u. Fine u → Fine t) (has_letter w t.key a) (λ e. finite_scaled (get_or c.lambda (letter_index w a t.key) nan) t.coeff) (λ e k. k))
        (with_branches w a f ts) h)
    go Depolarizing2q h = map_finite (scaled_either w a b (get_or c.lambda 0 nan))
        (λ t. cond_cases (λ u. Fine u → Fine t) (has_letter w t.key a || has_letter w t.key b) (λ e. finite_scaled (get_or c.lambda 0 nan) t.coeff) (λ e k. k)) ts h

module _ (w : ℕ) where
  turned_finite : (x : Axis) (s c : Float) (ts : List Term) → all_finite (turned w x s c ts) ≡ true → all_finite ts ≡ true
  turned_finite x s c = rotated_finite w (met_by x) (partner_by w x) s c

  noisy_finite : (a b : ℕ) (c : NoiseChannel) (ts : List Term) → all_finite (noisy w a b c ts) ≡ true → all_finite ts ≡ true
  noisy_finite a b c = channeled_finite w a b (action_of c)

  on_finite : (op : Op) (ts : List Term) → all_finite (act_on w op ts) ≡ true → all_finite ts ≡ true
  on_finite (Native g a b) = gate_finite w g a b
  on_finite (T q) = turned_finite (Z q) sine_t cosine_t
  on_finite (Tdg q) = turned_finite (Z q) (neg sine_t) cosine_t
  on_finite (Rz q s c) = turned_finite (Z q) s c
  on_finite (P q s c) = turned_finite (Z q) s c
  on_finite (Rzz a b s c) = turned_finite (Zz a b) s c
  on_finite (Pauli q px py pz) = noisy_finite q 0 (N.Pauli px py pz)
  on_finite (Depol q p) = noisy_finite q 0 (N.Depolarizing p)
  on_finite (Damp q gamma) = noisy_finite q 0 (N.AmplitudeDamping gamma)
  on_finite (Phase q gamma) = noisy_finite q 0 (N.PhaseDamping gamma)
  on_finite (Thermal q gad gpd excited) = noisy_finite q 0 (N.ThermalRelaxation gad gpd excited)
  on_finite (Depol2 a b p) = noisy_finite a b (N.TwoQubitDepolarizing p)
  on_finite Barrier = λ ts h. h

  -- an op after which every coefficient is finite had none before it that was not
  pub act_finite : (op : Op) (ts : List Term) → all_finite (act w op ts) ≡ true → all_finite ts ≡ true
  unfolding act
  act_finite op ts = cond_cases (λ us. all_finite us ≡ true → all_finite ts ≡ true) (on_words w (targets op)) (λ b. on_finite op ts) (λ b h. h)

  -- ---- the drop: what is small is finite

  small_finite : (e : Float) (t : Term) → is_small e t ≡ true → Fine t
  small_finite e t = finite_below t.coeff e

  pub kept_finite : (e : Float) (ts : List Term) → all_finite (kept_of e ts) ≡ true → all_finite ts ≡ true
  unfolding all_finite kept_of
  kept_finite e [] h = refl
  kept_finite e (t ∷ ts) h = go (is_small e t) refl h (kept_finite e ts)
    where
      go : (b : Bool) → is_small e t ≡ b → all_finite (cond b (kept_of e ts) (t ∷ kept_of e ts)) ≡ true → (all_finite (kept_of e ts) ≡ true → all_finite ts ≡ true)
          → (finite_of t.coeff && all_finite ts) ≡ true
      go true s h r = ap₂ ◌&&◌ (small_finite e t s) (r h)
      go false s h r = let f = and_true (finite_of t.coeff) (all_finite (kept_of e ts)) h in ap₂ ◌&&◌ f.0 (r f.1)
