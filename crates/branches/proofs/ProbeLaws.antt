-- The key looked for from a row, word by word, and what the functions on one key compute. Assumes nothing.
use mathlib.Core.Path.{◌≡◌, refl, sym, ap, ap₂, ◌∙◌, subst}
use mathlib.Core.Bool.{Bool, true, false, not, cond}
use mathlib.Core.Logic.{⊎_elim}
use mathlib.Core.List.{List}
use Prim.Native.Nat.{ℕ, ◌+◌, ◌-◌, ◌*◌, ◌/◌, ◌%◌, ◌^◌, ◌≤◌, ◌<◌, min}
use native.Mathlib.Nat.{one-mul, zero-add, add-sub_cancel_left, min_comm}
use native.Mathlib.Omega.{arith}
use lib.Dec.{ltb}
use lib.Pow.{shl_exact}
use lib.Bits.{bit_xor}
use lib.ListN.{length, get_or, take, drop}
use lib.Seq.{ext_get_or}
use borrow.Author.Tests.{eq-eqb, ne_eqb, lt-ltb, le-ltb}
use Rattle.words.specs.Keys.{Key, ◌⊕◌, bit_at, flip_of, flip_at, z_at, same_key}
use Rattle.words.proofs.WordLaws.{xor_flip}
use Rattle.words.proofs.KeyLaws.{flip_at_length, flip_at_word, flip_at_other_word, flip_at_twice, bit_at_cleared, same_key_refl, same_key_differ}
use Rattle.terms.specs.declared.Axis.{Axis}
use Rattle.terms.specs.declared.Axis.TheVariants.{Z, Zz}
use Rattle.terms.specs.Lists.{tab}
use Rattle.terms.specs.Rotation.{met_by, partner_by}
use Rattle.terms.proofs.CaseLaws.{eq_or_ne, lt_or_le}
use Rattle.terms.proofs.AxisLaws.{partner_back, partner_length}
use Rattle.terms.proofs.ListLaws.{length_tab, get_d_tab, tab_ext}
use Rattle.words.specs.Rows.{key_at}
use Rattle.rows.proofs.RowLaws.{word_at, length_key}
use Rattle.branches.specs.declared.Sought.{Sought}
use Rattle.branches.specs.declared.Sought.TheVariants.{Same, Partner, Identity}
use Rattle.branches.specs.Probe.{sought_by, files, flipped_word, partner_word, sought_word}
use Rattle.branches.specs.Chains.{class_of}

-- ---- one word

module _ (w q k v : ℕ) where
  pub flipped_before : k < w → v ≡ flipped_word w q k v
  unfolding flipped_word
  flipped_before h = sym (ap (λ (b : Bool). cond b (flip_of v (z_at w q % 64)) v) (ne_eqb k (z_at w q / 64) (λ e. omega arith)))

  pub flipped_other : w ≤ k → (k - w ≡ q / 64 → ⊥) → v ≡ flipped_word w q k v
  unfolding flipped_word
  flipped_other h n = sym (ap (λ (b : Bool). cond b (flip_of v (z_at w q % 64)) v) (ne_eqb k (z_at w q / 64) (λ e. n (omega arith))))

  pub flipped_here : w ≤ k → k - w ≡ q / 64 → bit_xor v (1 * 2 ^ (q % 64) % 2 ^ 64) ≡ flipped_word w q k v
  unfolding flipped_word
  flipped_here h e =
      let b : z_at w q % 64 ≡ q % 64 = omega arith in
      ap (bit_xor v) (shl_exact 1 (q % 64) 64 (omega arith) (omega arith) ∙ one-mul (2 ^ (q % 64)))
      ∙ xor_flip v (q % 64) ∙ ap (flip_of v) (sym b)
      ∙ sym (ap (λ (t : Bool). cond t (flip_of v (z_at w q % 64)) v) (eq-eqb k (z_at w q / 64) (omega arith)))

flipped_word_lem : (w q : ℕ) (key : Key) (k : ℕ) → k < length key → get_or (flip_at key (z_at w q)) k 0 ≡ flipped_word w q k (get_or key k 0)
unfolding flipped_word
flipped_word_lem w q key k h = ⊎_elim
    (λ (e : k ≡ z_at w q / 64).
    ap (λ (j : ℕ). get_or (flip_at key (z_at w q)) j 0) e ∙ flip_at_word key (z_at w q) (omega arith)
    ∙ ap (λ (j : ℕ). flip_of (get_or key j 0) (z_at w q % 64)) (sym e)
    ∙ sym (ap (λ (b : Bool). cond b (flip_of (get_or key k 0) (z_at w q % 64)) (get_or key k 0)) (eq-eqb k (z_at w q / 64) e)))
    (λ (n : k ≡ z_at w q / 64 → ⊥).
    flip_at_other_word key (z_at w q) k n
    ∙ sym (ap (λ (b : Bool). cond b (flip_of (get_or key k 0) (z_at w q % 64)) (get_or key k 0)) (ne_eqb k (z_at w q / 64) n)))
    (eq_or_ne k (z_at w q / 64))

partner_word_lem : (w : ℕ) (x : Axis) (key : Key) (k : ℕ) → k < length key → get_or (partner_by w x key) k 0 ≡ partner_word w x k (get_or key k 0)
unfolding partner_by partner_word
partner_word_lem w (Z q) key k h = flipped_word_lem w q key k h
partner_word_lem w (Zz a b) key k h =
    flipped_word_lem w b (flip_at key (z_at w a)) k (subst (λ (n : ℕ). k < n) (sym (flip_at_length key (z_at w a))) h)
    ∙ ap (flipped_word w b k) (flipped_word_lem w a key k h)

sought_word_lem : (w : ℕ) (s : Sought) (key : Key) (k : ℕ) → k < length key → get_or (sought_by w s key) k 0 ≡ sought_word w s k (get_or key k 0)
unfolding sought_word
sought_word_lem w Same key k h = refl
sought_word_lem w (Partner x) key k h = partner_word_lem w x key k h
sought_word_lem w (Identity q) key k h = flipped_word_lem w q key k h

-- ---- the key looked for

sought_length : (w : ℕ) (s : Sought) (key : Key) → length (sought_by w s key) ≡ length key
sought_length w Same key = refl
sought_length w (Partner x) key = partner_length w x key
sought_length w (Identity q) key = flip_at_length key (z_at w q)

-- what is looked for from it is the first key
pub sought_back : (w : ℕ) (s : Sought) (key : Key) → sought_by w s (sought_by w s key) ≡ key
sought_back w Same key = refl
sought_back w (Partner x) key = partner_back w x key
sought_back w (Identity q) key = flip_at_twice key (z_at w q)

-- the smaller of a word and the word looked for
abbrev pub class_word : ℕ → Sought → ℕ → ℕ → ℕ
class_word w s k v = min v (sought_word w s k v)

class_length : (w : ℕ) (s : Sought) (key : Key) → length (class_of w s key) ≡ length key
unfolding class_of
class_length w s key = length_tab (length key) (λ k. class_word w s k (get_or key k 0))

-- it is the smaller of the two for either of them
pub class_sought : (w : ℕ) (s : Sought) (key : Key) → class_of w s (sought_by w s key) ≡ class_of w s key
unfolding class_of
class_sought w s key =
    ap (λ (n : ℕ). tab n (λ k. class_word w s k (get_or (sought_by w s key) k 0))) (sought_length w s key)
    ∙ tab_ext (length key) (λ k. class_word w s k (get_or (sought_by w s key) k 0)) (λ k. class_word w s k (get_or key k 0))
    (λ k h.
    let there : get_or (sought_by w s key) k 0 ≡ sought_word w s k (get_or key k 0) = sought_word_lem w s key k h in
    let back : sought_word w s k (get_or (sought_by w s key) k 0) ≡ get_or key k 0 =
    sym (sought_word_lem w s (sought_by w s key) k (subst (λ (n : ℕ). k < n) (sym (sought_length w s key)) h)) ∙ ap (λ (l : Key). get_or l k 0) (sought_back w s key) in
    ap₂ min there back ∙ min_comm (sought_word w s k (get_or key k 0)) (get_or key k 0))

-- an x-word is the row's own
pub sought_before : (w : ℕ) (s : Sought) (k v : ℕ) → k < w → v ≡ sought_word w s k v
unfolding sought_word partner_word
sought_before w Same k v h = refl
sought_before w (Partner (Z q)) k v h = flipped_before w q k v h
sought_before w (Partner (Zz a b)) k v h = flipped_before w b k v h ∙ ap (flipped_word w b k) (flipped_before w a k v h)
sought_before w (Identity q) k v h = flipped_before w q k v h

-- the word with z cleared is in an index of identity branches
pub identity_files : (w q : ℕ) (k : Key) → bit_at k (z_at w q) ≡ true → files w (Identity q) (flip_at k (z_at w q)) ≡ true
identity_files w q k e = ap not (bit_at_cleared k (z_at w q) e)

-- ---- the key of row j and that looked for from row i

module _ (w : ℕ) (s : Sought) (ws : List ℕ) (i : ℕ) (hi : i * (2 * w) + 2 * w ≤ length ws) where
  pub whole : length (sought_by w s (key_at (2 * w) ws i)) ≡ 2 * w
  whole = sought_length w s (key_at (2 * w) ws i) ∙ length_key (2 * w) ws i hi

  pub word : (k : ℕ) → k < 2 * w → get_or (sought_by w s (key_at (2 * w) ws i)) k 0 ≡ sought_word w s k (get_or ws (i * (2 * w) + k) 0)
  word k h =
      sought_word_lem w s (key_at (2 * w) ws i) k (subst (λ (n : ℕ). k < n) (sym (length_key (2 * w) ws i hi)) h)
      ∙ ap (sought_word w s k) (word_at (2 * w) ws i k h)

  pub class_whole : length (class_of w s (key_at (2 * w) ws i)) ≡ 2 * w
  class_whole = class_length w s (key_at (2 * w) ws i) ∙ length_key (2 * w) ws i hi

  pub class_word_lem : (k : ℕ) → k < 2 * w → get_or (class_of w s (key_at (2 * w) ws i)) k 0 ≡ class_word w s k (get_or ws (i * (2 * w) + k) 0)
  unfolding class_of
  class_word_lem k h =
      get_d_tab (length (key_at (2 * w) ws i)) (λ j. class_word w s j (get_or (key_at (2 * w) ws i) j 0)) k 0 (subst (λ (n : ℕ). k < n) (sym (length_key (2 * w) ws i hi)) h)
      ∙ ap (class_word w s k) (word_at (2 * w) ws i k h)

  pub probe_differs : (j k : ℕ) → k < 2 * w → (get_or ws (j * (2 * w) + k) 0 ≡ sought_word w s k (get_or ws (i * (2 * w) + k) 0) → ⊥)
      → same_key (key_at (2 * w) ws j) (sought_by w s (key_at (2 * w) ws i)) ≡ false
  probe_differs j k h n =
      same_key_differ (key_at (2 * w) ws j) (sought_by w s (key_at (2 * w) ws i)) k (λ e. n (sym (word_at (2 * w) ws j k h) ∙ e ∙ word k h))

  pub probe_same : (j : ℕ) → j * (2 * w) + 2 * w ≤ length ws
      → ((k : ℕ) → k < 2 * w → get_or ws (j * (2 * w) + k) 0 ≡ sought_word w s k (get_or ws (i * (2 * w) + k) 0))
      → same_key (key_at (2 * w) ws j) (sought_by w s (key_at (2 * w) ws i)) ≡ true
  probe_same j hj f =
      let lj = length_key (2 * w) ws j hj in
      let both : key_at (2 * w) ws j ≡ sought_by w s (key_at (2 * w) ws i) =
      ext_get_or 0 (key_at (2 * w) ws j) (sought_by w s (key_at (2 * w) ws i)) (lj ∙ sym whole)
      (λ k h. let b : k < 2 * w = omega arith in word_at (2 * w) ws j k b ∙ f k b ∙ sym (word k b)) in
      ap (same_key (key_at (2 * w) ws j)) (sym both) ∙ same_key_refl (key_at (2 * w) ws j)

-- ---- one row as a part of the buffer

pub part_key : (s i : ℕ) (ws : List ℕ) → take (i * s + s - i * s) (drop (i * s) ws) ≡ key_at s ws i
part_key s i ws = ap (λ (n : ℕ). take n (drop (i * s) ws)) (add-sub_cancel_left (i * s) s)

-- ---- one key

pub met_one : (x : Axis) (q : ℕ) (k : Key) {r : Bool} → x ≡ Z q → r ≡ bit_at k (64 * 0 + q) → r ≡ met_by x k
unfolding met_by
met_one x q k e h = h ∙ ap (bit_at k) (zero-add q) ∙ ap (λ (y : Axis). met_by y k) (sym e)

pub met_two : (x : Axis) (a b : ℕ) (k : Key) {r s : Bool} → x ≡ Zz a b → r ≡ bit_at k (64 * 0 + a) → s ≡ bit_at k (64 * 0 + b) → r ⊕ s ≡ met_by x k
unfolding met_by
met_two x a b k e h g = ap₂ ◌⊕◌ (h ∙ ap (bit_at k) (zero-add a)) (g ∙ ap (bit_at k) (zero-add b)) ∙ ap (λ (y : Axis). met_by y k) (sym e)

-- a qubit that the words have
pub on_one : (w q : ℕ) → ltb (q / 64) w ≡ ltb q (64 * w)
on_one w q = ⊎_elim (λ (h : q / 64 < w). lt-ltb (q / 64) w h ∙ sym (lt-ltb q (64 * w) (omega arith))) (λ (h : w ≤ q / 64). le-ltb (q / 64) w h ∙ sym (le-ltb q (64 * w) (omega arith))) (lt_or_le (q / 64) w)
