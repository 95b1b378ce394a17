-- One row under a channel: its letter, its multiplier, its identity branch, and a turn of each loop over the rows. Assumes nothing.
use mathlib.Core.Path.{◌≡◌, refl, sym, ap, ap₂, ◌∙◌, subst}
use mathlib.Core.Bool.{Bool, true, false, not, cond, ◌&&◌, ◌||◌}
use mathlib.Core.List.{List, map}
use Prim.Native.Nat.{ℕ, ◌+◌, ◌*◌, ◌≤◌, ◌<◌}
use native.Mathlib.Nat.{zero-add, le_refl}
use native.Mathlib.Omega.{arith}
use lib.Dec.{eqb, leb}
use lib.ListN.{length, get_or, take}
use lib.Seq.{take-length}
use lib.Ieee.{Float, nan}
use Rattle.words.specs.Keys.{Key, bit_at, flip_at, z_at, has_letter, same_key}
use Rattle.words.proofs.KeyLaws.{flip_at_length}
use Rattle.numbers.specs.Tests.{is_zero}
use Rattle.terms.specs.declared.Axis.TheVariants.{Z}
use Rattle.terms.specs.declared.ChannelAction.{ChannelAction}
use Rattle.terms.specs.declared.ChannelKind.TheVariants.{Local, Depolarizing2q}
use Rattle.std.specs.Prelude.{Option, Some, None, is_some}
use Rattle.terms.specs.Lists.{foldl, map_to}
use Rattle.terms.specs.Coefficient.{scaled_of, plus_of}
use Rattle.terms.specs.Term.{Term, term, no_term}
use Rattle.terms.specs.Rotation.{partner_by}
use Rattle.terms.specs.Branch.{first, row_of}
use Rattle.terms.specs.Channel.{letter_index, is_zletter, insert, branch, branches_to, with_branches, scaled_letter, scaled_local, scaled_either, channeled}
use Rattle.terms.proofs.ListLaws.{length_tab, get_d_tab}
use Rattle.terms.proofs.FirstLaws.{first_ext, first_at}
use Rattle.terms.proofs.FoundLaws.{added_at, is_at, added_row, in_row}
use Rattle.terms.proofs.IdentityLaws.{branch_now}
use Rattle.branches.specs.Letters.{letter_of}
use Rattle.words.specs.Rows.{key_at}
use Rattle.rows.specs.Rows.{coeff_at, term_at, terms_in, rows_in, put_key, put_coeff, Room, Stored, Holds, Grown}
use Rattle.rows.proofs.RowLaws.{length_key, put_val_same, put_key_same}
use Rattle.rows.proofs.HoldLaws.{hold_start, hold_at, hold_val, hold_push, hold_map, hold_wide, hold_trans, room_at, room_less}
use Rattle.rows.proofs.StepLaws.{grown}

-- ---- the letter, from its two bits

abbrev letter_by : Bool → Bool → Option ℕ
letter_by true true = Some 1
letter_by true false = Some 0
letter_by false true = Some 2
letter_by false false = None

pub letter_is : (w q : ℕ) (k : Key) {x z : Bool} → (b c : Bool) → x ≡ bit_at k (64 * 0 + q) → z ≡ bit_at k (z_at w q) → x ≡ b → z ≡ c → letter_by b c ≡ letter_of w q k
unfolding letter_of
letter_is w q k b c ex ez eb ec = sym (ap₂ pick (ap (bit_at k) (sym (zero-add q)) ∙ sym ex ∙ eb) (sym ez ∙ ec) ∙ same b c)
  where
    pick : Bool → Bool → Option ℕ
    pick x z = cond (x || z) (Some (cond x (cond z 1 0) 2)) None

    same : (b c : Bool) → cond (b || c) (Some (cond b (cond c 1 0) 2)) None ≡ letter_by b c
    same true true = refl
    same true false = refl
    same false true = refl
    same false false = refl

module _ (w q : ℕ) (k : Key) where
  pub letter_small : (l : ℕ) → letter_of w q k ≡ Some l → l < 3
  unfolding letter_of
  letter_small l e = go (bit_at k q) (bit_at k (z_at w q)) e
    where
      go : (x z : Bool) → cond (x || z) (Some (cond x (cond z 1 0) 2)) None ≡ Some l → l < 3
      go true true e = let p : 1 ≡ l = cc in omega arith
      go true false e = let p : 0 ≡ l = cc in omega arith
      go false true e = let p : 2 ≡ l = cc in omega arith
      go false false e = absurd (let z : ◌≡◌ {A = ℕ} 0 1 = cc in omega arith)

-- ---- the letter Z

abbrev pub is_two : Option ℕ → Bool
is_two (Some l) = eqb l 2
is_two None = false

z_letter : (w q : ℕ) (k : Key) → is_zletter w q k ≡ is_two (letter_of w q k)
unfolding letter_of
z_letter w q k = go (bit_at k q) (bit_at k (z_at w q))
  where
    go : (x z : Bool) → (not x && z) ≡ is_two (cond (x || z) (Some (cond x (cond z 1 0) 2)) None)
    go true true = refl
    go true false = refl
    go false true = refl
    go false false = refl

pub two_is : (w q : ℕ) (k : Key) {f : Option ℕ} → f ≡ letter_of w q k → is_two f ≡ is_zletter w q k
two_is w q k e = ap is_two e ∙ sym (z_letter w q k)

-- ---- a term added to the row that has its word, or appended

module _ (w q m i : ℕ) (d : Float) (ws : List ℕ) (cs : List Float) (room : Room (2 * w) (m + 1) ws cs) (before : i < m) where
  abbrev s : ℕ
  s = 2 * w

  abbrev ts : List Term
  ts = terms_in s m ws cs

  abbrev k : Key
  k = flip_at (key_at s ws i) (z_at w q)

  long : length ts ≡ m
  long = length_tab m (term_at s ws cs)

  whole : length k ≡ s
  whole = flip_at_length (key_at s ws i) (z_at w q) ∙ length_key s ws i (room_at room i (omega arith)).0

  module _ {f : Option ℕ} (is : f ≡ first (λ j. same_key (key_at s ws j) k) m) where
    found : row_of (length ts) k ts ≡ f
    found =
        ap (λ (n : ℕ). first (λ j. same_key (get_or ts j no_term).key k) n) long
        ∙ first_ext (λ j. same_key (get_or ts j no_term).key k) (λ j. same_key (key_at s ws j) k) m
        (λ j l z. same_key (get_d_tab m (term_at s ws cs) j no_term l z).key k)
        ∙ sym is

    pub insert_below : (j : ℕ) → f ≡ Some j → j < m
    insert_below j e = (first_at (λ j. same_key (key_at s ws j) k) m j (sym is ∙ e)).0

    pub insert_new : {ws' : List ℕ} {cs' : List Float} → f ≡ None → ws' ≡ put_key s ws m (partner_by w (Z q) (key_at s ws i)) → cs' ≡ put_coeff cs m d
        → Holds s (m + 1) (m + 1) (insert ts (term k d)) ws ws' cs cs'
    unfolding insert partner_by
    insert_new e ew ec =
        rw (in_row k ts ∙ ap is_at (found ∙ e), ew, ec) (hold_push (hold_start s (m + 1) m ws cs) room (omega arith) (term k d) whole)

    pub insert_old : (j : ℕ) {v u : Float} {cs' : List Float} → f ≡ Some j → v ≡ coeff_at cs j → u ≡ plus_of v d → cs' ≡ put_coeff cs j u
        → Holds s m m (insert ts (term k d)) ws ws cs cs'
    unfolding insert
    insert_old j e ev eu ec =
        let h = insert_below j e in
        let at_j : get_or ts j no_term ≡ term_at s ws cs j = get_d_tab m (term_at s ws cs) j no_term h in
        rw (in_row k ts ∙ ap is_at (found ∙ e), added_row k d ts ∙ ap (added_at d ts) (found ∙ e), at_j, ec, eu, ev)
        (hold_val (hold_start s m m ws cs) (room_less (omega arith) room) (le_refl m) j h (plus_of (coeff_at cs j) d))

-- ---- a turn of the loop over the identity branches

pub branches_held : (w q : ℕ) (f : Float) (n i : ℕ) (l : List Term) {m r : ℕ} {ws₀ ws ws' : List ℕ} {cs₀ cs cs' : List Float}
    → length l ≡ n → i < n → i < m → Holds (2 * w) m m (branches_to w q f i l) ws₀ ws cs₀ cs → m ≤ r
    → Holds (2 * w) r r (branch w q f (terms_in (2 * w) m ws cs) (term_at (2 * w) ws cs i)) ws ws' cs cs'
    → Holds (2 * w) r r (branches_to w q f (i + 1) l) ws₀ ws' cs₀ cs'
branches_held w q f n i l {m} {r} {ws₀} {ws} {ws'} {cs₀} {cs} {cs'} e h b H le K =
    let now_is : branch w q f (terms_in (2 * w) m ws cs) (term_at (2 * w) ws cs i) ≡ branches_to w q f (i + 1) l =
    ap₂ (branch w q f) H.terms (sym (hold_at H i b)) ∙ branch_now w q f l i (omega arith) in
    hold_trans (hold_wide le H) (subst (λ (us : List Term). Holds (2 * w) r r us ws ws' cs cs') now_is K)

-- ---- a row times a number, if it has a letter at one of two qubits

pub letter_there : (w q : ℕ) (k : Key) {f : Option ℕ} → f ≡ letter_of w q k → is_some f ≡ has_letter w k q
unfolding letter_of
letter_there w q k e = ap is_some e ∙ go (has_letter w k q)
  where
    go : (b : Bool) → is_some (cond b (Some (letter_index w q k)) None) ≡ b
    go true = refl
    go false = refl

pub either_key : (w a b : ℕ) (f : Float) (t : Term) → (scaled_either w a b f t).key ≡ t.key
either_key w a b f t = go (has_letter w t.key a || has_letter w t.key b)
  where
    go : (x : Bool) → (cond x (term t.key (scaled_of f t.coeff)) t).key ≡ t.key
    go true = refl
    go false = refl

module _ (w a b : ℕ) (f : Float) (i : ℕ) (ws : List ℕ) (cs : List Float) where
  abbrev row : Term
  row = term_at (2 * w) ws cs i

  stored : {cs' : List Float} → cs' ≡ put_coeff cs i (scaled_either w a b f row).coeff → Stored (2 * w) i (scaled_either w a b f row) ws ws cs cs'
  stored e = (sym (ap (put_key (2 * w) ws i) (either_key w a b f row) ∙ put_key_same (2 * w) ws i), e)

  module _ {p q m : Bool} (ep : p ≡ has_letter w row.key a) (eq : q ≡ has_letter w row.key b) (em : m ≡ (p || q)) where
    met : m ≡ (has_letter w row.key a || has_letter w row.key b)
    met = em ∙ ap₂ ◌||◌ ep eq

    pub either_met : {v u : Float} {cs' : List Float} → m ≡ true → v ≡ coeff_at cs i → u ≡ scaled_of f v → cs' ≡ put_coeff cs i u
        → Stored (2 * w) i (scaled_either w a b f row) ws ws cs cs'
    either_met e ev eu ec =
        stored (ec ∙ ap (put_coeff cs i) (eu ∙ ap (scaled_of f) ev ∙ ap (λ (x : Bool). (cond x (term row.key (scaled_of f row.coeff)) row).coeff) (sym (sym met ∙ e))))

    pub either_unmet : m ≡ false → Stored (2 * w) i (scaled_either w a b f row) ws ws cs cs
    either_unmet e =
        stored (sym (put_val_same cs i) ∙ ap (λ (x : Bool). put_coeff cs i (cond x (term row.key (scaled_of f row.coeff)) row).coeff) (sym (sym met ∙ e)))

  -- a turn of the loop over the rows
  pub either_turn : {n : ℕ} (l : List Term) {ws₀ ws' : List ℕ} {cs₀ cs' : List Float} → Holds (2 * w) n n (map_to (scaled_either w a b f) i l) ws₀ ws cs₀ cs
      → Room (2 * w) n ws₀ cs₀ → i < n → Stored (2 * w) i (scaled_either w a b f row) ws ws' cs cs'
      → Holds (2 * w) n n (map_to (scaled_either w a b f) (i + 1) l) ws₀ ws' cs₀ cs'
  either_turn {n} l {ws₀} {ws'} {cs₀} {cs'} H room h S =
      rw (S.0 ∙ ap (put_key (2 * w) ws i) (either_key w a b f row) ∙ put_key_same (2 * w) ws i)
      (hold_map (scaled_either w a b f) (either_key w a b f) i l H room (le_refl n) h S.1)

-- ---- the branches and then the multipliers

module _ (w q : ℕ) (lambda : List Float) (f : Float) (n : ℕ) (ws : List ℕ) (cs : List Float) where
  pub local_scaled : {ws' : List ℕ} {cs' : List Float} → is_zero f ≡ true → Holds (2 * w) n n (map (scaled_letter w q lambda) (terms_in (2 * w) n ws cs)) ws ws' cs cs'
      → Holds (2 * w) n n (scaled_local w q lambda (with_branches w q f (terms_in (2 * w) n ws cs))) ws ws' cs cs'
  unfolding scaled_local
  local_scaled e H = rw e H

  pub local_branched : {m : ℕ} {ws₁ ws₂ : List ℕ} {cs₁ cs₂ : List Float} → is_zero f ≡ false
      → Holds (2 * w) m m (branches_to w q f n (terms_in (2 * w) n ws cs)) ws ws₁ cs cs₁
      → Holds (2 * w) m m (map (scaled_letter w q lambda) (terms_in (2 * w) m ws₁ cs₁)) ws₁ ws₂ cs₁ cs₂
      → Holds (2 * w) m m (scaled_local w q lambda (with_branches w q f (terms_in (2 * w) n ws cs))) ws ws₂ cs cs₂
  unfolding scaled_local
  local_branched {m} {ws₁} {ws₂} {cs₁} {cs₂} e H K =
      let all : take n (terms_in (2 * w) n ws cs) ≡ terms_in (2 * w) n ws cs =
      ap (λ (k : ℕ). take k (terms_in (2 * w) n ws cs)) (sym (length_tab n (term_at (2 * w) ws cs))) ∙ take-length (terms_in (2 * w) n ws cs) in
      let done : branches_to w q f n (terms_in (2 * w) n ws cs) ≡ foldl (branch w q f) (terms_in (2 * w) n ws cs) (terms_in (2 * w) n ws cs) =
      ap (foldl (branch w q f) (terms_in (2 * w) n ws cs)) all in
      rw (e, ← done) (hold_trans H (subst (λ (us : List Term). Holds (2 * w) m m (map (scaled_letter w q lambda) us) ws₁ ws₂ cs₁ cs₂) H.terms K))

-- the channel, by its kind
module _ (w a b n : ℕ) (c : ChannelAction) (ws : List ℕ) (cs : List Float) where
  pub channel_local : {r : ℕ} {ws' : List ℕ} {cs' : List Float} → leb (2 * n) (rows_in w ws cs) ≡ true → c.kind ≡ Local → r ≤ 2 * n
      → Holds (2 * w) r r (scaled_local w a c.lambda (with_branches w a c.z_to_identity (terms_in (2 * w) n ws cs))) ws ws' cs cs'
      → Grown w n (channeled w a b c (terms_in (2 * w) n ws cs)) r ws ws' cs cs'
  unfolding channeled
  channel_local e kind h H = grown w n _ e h (rw kind H)

  pub channel_pair : {ws' : List ℕ} {cs' : List Float} → leb (2 * n) (rows_in w ws cs) ≡ true → c.kind ≡ Depolarizing2q
      → Holds (2 * w) n n (map (scaled_either w a b (get_or c.lambda 0 nan)) (terms_in (2 * w) n ws cs)) ws ws' cs cs'
      → Grown w n (channeled w a b c (terms_in (2 * w) n ws cs)) n ws ws' cs cs'
  unfolding channeled
  channel_pair e kind H = grown w n _ e (omega arith) (rw kind H)
