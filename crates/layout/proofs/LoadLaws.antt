-- Laws of the loads: a turn of the loop over the `op` lines and of that over the `term` lines, and what the two loads leave. Assumes nothing.
use mathlib.Core.Path.{◌≡◌, refl, sym, ap, ap₂, ◌∙◌, subst}
use mathlib.Core.Bool.{Bool, true, false, cond, ◌&&◌}
use mathlib.Core.List.{List, [], ◌∷◌, ◌++◌, map, flatten, append_assoc, append-nil}
use Prim.Native.Nat.{ℕ, zero, suc, ◌+◌, ◌-◌, ◌*◌, ◌/◌, ◌≤◌, ◌<◌, min, zero-le, suc-le-suc}
use native.Mathlib.Nat.{le-div_iff_mul-le, le_of_suc-le-suc, not-suc-le-zero, suc-mul, zero-mul, add-zero, add_assoc, add_comm, mul-le-mul_right}
use native.Mathlib.Numerals.{add-one}
use native.Mathlib.Omega.{arith}
use borrow.Author.Tests.{le-leb, lt-leb, leb-true}
use lib.Dec.{leb}
use lib.ListN.{length, take, drop, get_or, set, replicate, length-append, length-drop, length-replicate, replicate-append-replicate, get_or-append}
use lib.Seq.{drop-cons, append_snoc, set_at, get_or-drop, take_at, drop_at, drop-drop}
use lib.Ieee.{Float, nan}
use Rattle.text.specs.Bytes.{parts, newline}
use Rattle.words.specs.Keys.{no_letters}
use Rattle.words.proofs.RowSteps.{part_is, part_back}
use Rattle.terms.specs.Lists.{tab, foldl}
use Rattle.terms.proofs.ListLaws.{length_tab, get_d_tab, tab_snoc, tab_ext, map_tab}
use Rattle.terms.proofs.CaseLaws.{leb_iff, and_true, and-false}
use Rattle.words.specs.Rows.{key_at}
use Rattle.rows.specs.Rows.{put_key}
use Rattle.rows.proofs.RowLaws.{row_before, drop_more, length_key}
use Rattle.ops.specs.declared.Op.{Op}
use Rattle.ops.specs.LineTable as table
use Rattle.lines.specs.OpLines.{op_on}
use Rattle.lines.specs.TermLines.{weight_on, factors_on, line_on, placed, word_line}
use Rattle.lines.proofs.WordLaws.{length_all}
use Rattle.layout.specs.declared.Head.{Head}
use Rattle.layout.specs.Cursor.{line_at, next_at, start_at}
use Rattle.std.specs.Prelude.{None}
use Rattle.layout.specs.Layout.{question1, term_lines, sheet_ops}
use Rattle.layout.specs.Loaded.{op_line, with_ops, row_with, keys_with, weights_with, holds_lines, LinesLoaded}
use Rattle.layout.proofs.CursorLaws.{line_there, start_add, start_next}
use Rattle.layout.proofs.LaidLaws.{laid_length}

-- ---- a function of the lines from a number on

tab_take : {A B : Type 0} (f : A → B) (d : A) (n : ℕ) (l : List A) → n ≤ length l → tab n (λ j. f (get_or l j d)) ≡ map f (take n l)
unfolding tab
tab_take f d zero l h = refl
tab_take f d (suc n) [] h = absurd (not-suc-le-zero h)
tab_take f d (suc n) (a ∷ l) h = ap (λ (r : List _). f a ∷ r) (tab_take f d n l (le_of_suc-le-suc h))

tab_lines : {B : Type 0} (f : List ℕ → B) (ls : List (List ℕ)) (m n : ℕ) → m + n ≤ length ls → tab n (λ j. f (get_or ls (m + j) [])) ≡ map f (take n (drop m ls))
tab_lines f ls m n h =
    tab_ext n (λ j. f (get_or ls (m + j) [])) (λ j. f (get_or (drop m ls) j [])) (λ j l. ap f (sym (get_or-drop m ls j [])))
    ∙ tab_take f [] n (drop m ls) (rw (length-drop m ls) (omega arith))

-- ---- one place of a list after another
tab_store : {A : Type 0} (f : ℕ → A) (i : ℕ) (l : List A) {k : List A} {a : A} → i < length l → k ≡ tab i f ++ drop i l → a ≡ f i
    → set k i a ≡ tab (i + 1) f ++ drop (i + 1) l
tab_store f i l {k} {a} h e ea =
    ap (λ (x : List _). set x i a) (e ∙ ap (λ (x : List _). tab i f ++ x) (drop-cons l i a h))
    ∙ set_at (tab i f) (get_or l i a) (drop (suc i) l) a i (length_tab i f) ∙ ap (λ (x : _). tab i f ++ (x ∷ drop (suc i) l)) ea
    ∙ sym (append_snoc (tab i f) (f i) (drop (suc i) l)) ∙ ap (λ (x : List _). x ++ drop (suc i) l) (sym (tab_snoc i f))
    ∙ ap (λ (n : ℕ). tab n f ++ drop n l) (sym (add-one i))

-- ---- lists one after another
module _ {A : Type 0} where
  flat_snoc : (n : ℕ) (f : ℕ → List A) → flatten (tab (suc n) f) ≡ flatten (tab n f) ++ f n
  unfolding flatten tab
  flat_snoc zero f = append-nil (f 0)
  flat_snoc (suc n) f =
      ap (λ (x : List A). f 0 ++ x) (flat_snoc n (λ j. f (suc j))) ∙ sym (append_assoc (f 0) (flatten (tab n (λ j. f (suc j)))) (f (suc n)))

  flat_long : (s n : ℕ) (f : ℕ → List A) → ((j : ℕ) → j < n → length (f j) ≡ s) → length (flatten (tab n f)) ≡ n * s
  unfolding flatten tab
  flat_long s zero f h = sym (zero-mul s)
  flat_long s (suc n) f h =
      length-append (f 0) (flatten (tab n (λ j. f (suc j)))) ∙ (λ k. h 0 (suc-le-suc zero-le) k + flat_long s n (λ j. f (suc j)) (λ j l. h (suc j) (suc-le-suc l)) k)
      ∙ add_comm s (n * s) ∙ sym (suc-mul n s)

-- ---- the ops

-- a sheet's first ops, i of them, in a list that had os₀: the next line starts at `at`
module _ (s : List ℕ) (h : Head) (os₀ : List Op) where
  pub record Loading (i at : ℕ) (os : List Op) : Type 0 where
    pub place : at ≡ start_at s 0 (7 + h.terms + i)
    pub ops : os ≡ tab i (op_line h (parts newline s)) ++ drop i os₀

pub loading_none : (s : List ℕ) (h : Head) (os : List Op) (a at : ℕ) → a ≡ start_at s 0 7 → at ≡ start_at s a h.terms → Loading s h os 0 at os
unfolding tab
loading_none s h os a at e f = record {
  place = f ∙ ap (λ (p : ℕ). start_at s p h.terms) e ∙ start_add s 0 7 h.terms ∙ ap (start_at s 0) (sym (add-zero (7 + h.terms)));
  ops = refl;
}

pub loading_turn : {s : List ℕ} {h : Head} {os₀ os : List Op} {i at : ℕ} → Loading s h os₀ i at os → i < length os₀ → (l : List ℕ) (op : Op) (next : ℕ)
    → l ≡ line_at s at → op ≡ op_on l → next ≡ next_at s at → Loading s h os₀ (i + 1) next (set os i op)
loading_turn {s} {h} {os₀} {os} {i} {at} L room l op next el eo en = record {
  place = start_next s 0 (7 + h.terms + i) at next L.place en ∙ ap (start_at s 0) (add_assoc (7 + h.terms) i 1);
  ops =
      tab_store (op_line h (parts newline s)) i os₀ room L.ops
      (eo ∙ ap op_on (el ∙ ap (line_at s) L.place ∙ line_there s (7 + h.terms + i)));
}

pub loading_all : {s : List ℕ} {h : Head} {os₀ os : List Op} {i at : ℕ} → Loading s h os₀ i at os → i ≡ min (min h.ops 4096) (length os₀) → os ≡ with_ops h (parts newline s) os₀
loading_all {s} {h} {os₀} {os} {i} {at} L e = L.ops ∙ ap (λ (n : ℕ). tab n (op_line h (parts newline s)) ++ drop n os₀) e

-- ---- room for the rows of a table

pub no_width : (n w len : ℕ) → w ≡ 0 → true ≡ leb (n * (2 * w)) len
no_width n w len e = sym (le-leb (n * (2 * w)) len (rw e (omega arith)))

pub rows_hold : (n w len r : ℕ) → (w ≡ 0 → ⊥) → r ≡ len / (2 * w) → leb n r ≡ leb (n * (2 * w)) len
rows_hold n w len r p e =
    let some : 0 < 2 * w = omega arith in
    ap (leb n) e ∙ leb_iff n (len / (2 * w)) (n * (2 * w)) len (λ h. (le-div_iff_mul-le some).0 h) (λ h. (le-div_iff_mul-le some).1 h)

pub row_room : (w i n len len₀ : ℕ) → i < n → n * (2 * w) ≤ len₀ → len ≡ len₀ → i * (2 * w) + 2 * w ≤ len
row_room w i n len len₀ h room e = let r = row_before (2 * w) h in omega (arith, r, room, e)

-- ---- a turn of the loop over the `term` lines

-- the row taken as a part, and back with the bits set
pub fill_row : (w i : ℕ) (K l : List ℕ) {k : List ℕ} → k ≡ foldl (placed w) (take (i * (2 * w) + 2 * w - i * (2 * w)) (drop (i * (2 * w)) K)) (factors_on l)
    → take (i * (2 * w)) K ++ (k ++ drop (i * (2 * w) + 2 * w - i * (2 * w)) (drop (i * (2 * w)) K)) ≡ put_key (2 * w) K i (foldl (placed w) (key_at (2 * w) K i) (factors_on l))
fill_row w i K l {k} e =
    part_back w i K k ∙ ap (put_key (2 * w) K i) (e ∙ ap (λ (x : List ℕ). foldl (placed w) x (factors_on l)) (part_is w i K))

-- row j of rows of s words, one after another
module _ (s : ℕ) where
  flat_key : (n : ℕ) (f : ℕ → List ℕ) (rest : List ℕ) → ((j : ℕ) → j < n → length (f j) ≡ s) → (j : ℕ) → j < n → key_at s (flatten (tab n f) ++ rest) j ≡ f j
  unfolding flatten tab
  flat_key zero f rest h j l = absurd (not-suc-le-zero l)
  flat_key (suc n) f rest h zero l =
      let more : List ℕ = flatten (tab n (λ j. f (suc j))) in
      ap (λ (p : ℕ). take s (drop p (f 0 ++ more ++ rest))) (zero-mul s) ∙ ap (take s) (append_assoc (f 0) more rest) ∙ take_at (f 0) (more ++ rest) s (h 0 l)
  flat_key (suc n) f rest h (suc j) l =
      let more : List ℕ = flatten (tab n (λ j. f (suc j))) in
      ap (λ (p : ℕ). take s (drop p (f 0 ++ more ++ rest))) (suc-mul j s ∙ add_comm (j * s) s)
      ∙ ap (take s) (sym (drop-drop (j * s) s (f 0 ++ more ++ rest)))
      ∙ ap (λ (x : List ℕ). take s (drop (j * s) x)) (ap (drop s) (append_assoc (f 0) more rest) ∙ drop_at (f 0) (more ++ rest) s (h 0 (suc-le-suc zero-le)))
      ∙ flat_key n (λ j. f (suc j)) rest (λ i q. h (suc i) (suc-le-suc q)) j (le_of_suc-le-suc l)

-- a table with i lines: its rows are whole, and it is as long as it was
module _ (w i n : ℕ) (ls : List (List ℕ)) (K₀ : List ℕ) (le : i ≤ n) (room : n * (2 * w) ≤ length K₀) where
  row_long : (j : ℕ) → j < i → length (row_with w ls K₀ j) ≡ 2 * w
  row_long j h = length_all w (key_at (2 * w) K₀ j) _ ∙ length_key (2 * w) K₀ j (row_room w j n (length K₀) (length K₀) (omega (arith, h, le)) room refl)

  rows_long : length (flatten (tab i (row_with w ls K₀))) ≡ i * (2 * w)
  rows_long = flat_long (2 * w) i (row_with w ls K₀) row_long

  pub keys_long : {K : List ℕ} → K ≡ keys_with w i ls K₀ → length K ≡ length K₀
  unfolding keys_with
  keys_long e =
      let less : i * (2 * w) ≤ n * (2 * w) = mul-le-mul_right (2 * w) le in
      ap length e ∙ length-append (flatten (tab i (row_with w ls K₀))) (drop (i * (2 * w)) K₀)
      ∙ (λ k. rows_long k + length-drop (i * (2 * w)) K₀ k) ∙ omega (arith, less, room)

  -- one more row
  pub keys_turn : {K K' l : List ℕ} → K ≡ keys_with w i ls K₀ → l ≡ get_or ls (6 + i) []
      → K' ≡ put_key (2 * w) K i (foldl (placed w) (key_at (2 * w) K i) (factors_on l)) → K' ≡ keys_with w (i + 1) ls K₀
  unfolding keys_with
  keys_turn {K} {K'} {l} e this ek =
      let rows : List ℕ = flatten (tab i (row_with w ls K₀)) in
      let all : List ℕ = rows ++ drop (i * (2 * w)) K₀ in
      let tail : drop (i * (2 * w)) all ≡ drop (i * (2 * w)) K₀ = drop_at rows (drop (i * (2 * w)) K₀) (i * (2 * w)) rows_long in
      let next : i * (2 * w) + 2 * w ≡ suc i * (2 * w) = sym (suc-mul i (2 * w)) in
      ek ∙ ap (λ (x : List ℕ). put_key (2 * w) x i (foldl (placed w) (key_at (2 * w) x i) (factors_on l))) e
      ∙ (λ k. take_at rows (drop (i * (2 * w)) K₀) (i * (2 * w)) rows_long k
      ++ (foldl (placed w) (take (2 * w) (tail k)) (factors_on (this k)) ++ drop_more (i * (2 * w)) (i * (2 * w) + 2 * w) all K₀ (omega arith) tail k))
      ∙ sym (append_assoc rows (row_with w ls K₀ i) (drop (i * (2 * w) + 2 * w) K₀))
      ∙ (λ k. sym (flat_snoc i (row_with w ls K₀)) k ++ drop (next k) K₀)
      ∙ ap (λ (m : ℕ). flatten (tab m (row_with w ls K₀)) ++ drop (m * (2 * w)) K₀) (sym (add-one i))

module _ (i : ℕ) (ls : List (List ℕ)) (W₀ : List Float) where
  pub weights_long : {W : List Float} → i ≤ length W₀ → W ≡ weights_with i ls W₀ → length W ≡ length W₀
  unfolding weights_with
  weights_long h e =
      ap length e ∙ length-append (tab i (λ j. weight_on (get_or ls (6 + j) []))) (drop i W₀)
      ∙ (λ k. length_tab i (λ j. weight_on (get_or ls (6 + j) [])) k + length-drop i W₀ k) ∙ omega (arith, h)

  -- one more weight
  pub weights_turn : {W W' : List Float} {l : List ℕ} → i < length W₀ → W ≡ weights_with i ls W₀ → l ≡ get_or ls (6 + i) [] → W' ≡ set W i (weight_on l)
      → W' ≡ weights_with (i + 1) ls W₀
  unfolding weights_with
  weights_turn h e this ew = ew ∙ tab_store (λ j. weight_on (get_or ls (6 + j) [])) i W₀ h e (ap weight_on this)

-- a table with no line
pub keys_none : (w : ℕ) (ls : List (List ℕ)) (K : List ℕ) → K ≡ keys_with w 0 ls K
unfolding keys_with flatten tab
keys_none w ls K = ap (λ (p : ℕ). drop p K) (sym (zero-mul (2 * w)))

pub weights_none : (ls : List (List ℕ)) (W : List Float) → W ≡ weights_with 0 ls W
unfolding weights_with tab
weights_none ls W = refl

-- ---- what the load of the `term` lines leaves

zeros : ℕ → List ℕ
zeros n = replicate n 0

zeros_add : (a b : ℕ) → zeros (a + b) ≡ zeros a ++ zeros b
unfolding zeros
zeros_add a b = sym (replicate-append-replicate a b 0)

zeros_long : (n : ℕ) → length (zeros n) ≡ n
unfolding zeros
zeros_long n = length-replicate n 0

zero_key : (s n j : ℕ) → j * s + s ≤ n → key_at s (zeros n) j ≡ zeros s
zero_key s n j h =
    let more : n ≡ j * s + (s + (n - j * s - s)) = omega (arith, h) in
    let split : zeros n ≡ zeros (j * s) ++ (zeros s ++ zeros (n - j * s - s)) =
    ap zeros more ∙ zeros_add (j * s) (s + (n - j * s - s)) ∙ ap (λ (l : List ℕ). zeros (j * s) ++ l) (zeros_add s (n - j * s - s)) in
    ap (λ (l : List ℕ). key_at s l j) split
    ∙ ap (take s) (drop_at (zeros (j * s)) (zeros s ++ zeros (n - j * s - s)) (j * s) (zeros_long (j * s)))
    ∙ take_at (zeros s) (zeros (n - j * s - s)) s (zeros_long s)

module _ (w : ℕ) (h : Head) (ls : List (List ℕ)) (K : List ℕ) (W : List Float) where
  -- by the test
  loaded_by : (b : Bool) → holds_lines w h.terms K W ≡ b → LinesLoaded w h ls K (cond b (keys_with w h.terms ls K) K) W (cond b (weights_with h.terms ls W) W)
  loaded_by b e = record {
    keys = ap (λ (x : Bool). cond x (keys_with w h.terms ls K) K) (sym e);
    weights = ap (λ (x : Bool). cond x (weights_with h.terms ls W) W) (sym e);
  }

  holds_lines_lem : h.terms * (2 * w) ≤ length K → h.terms ≤ length W → holds_lines w h.terms K W ≡ true
  holds_lines_lem room has = ap₂ ◌&&◌ (le-leb _ _ room) (le-leb _ _ has)

  pub loaded : {K' : List ℕ} {W' : List Float} → h.terms * (2 * w) ≤ length K → h.terms ≤ length W → K' ≡ keys_with w h.terms ls K → W' ≡ weights_with h.terms ls W
      → LinesLoaded w h ls K K' W W'
  loaded room has ek ew = let r = loaded_by true (holds_lines_lem room has) in record { keys = ek ∙ r.keys; weights = ew ∙ r.weights }

  pub no_weights : length W < h.terms → LinesLoaded w h ls K K W W
  no_weights few = loaded_by false (ap (λ (b : Bool). leb (h.terms * (2 * w)) (length K) && b) (lt-leb _ _ few) ∙ and-false (leb (h.terms * (2 * w)) (length K)))

  pub no_keys : leb (h.terms * (2 * w)) (length K) ≡ false → LinesLoaded w h ls K K W W
  no_keys few = loaded_by false (ap (λ (b : Bool). b && leb h.terms (length W)) few)

-- ---- laws for the callers
-- if there are at most 4,096 ops, a list has places for all, and the sheet is laid out, then its op list is read from it
pub ops_loaded : (h : Head) (ls : List (List ℕ)) (os : List Op) → h.ops ≤ 4096 → h.ops ≤ length os → question1 h ls ≡ None → take h.ops (with_ops h ls os) ≡ sheet_ops h ls
ops_loaded h ls os few room laid =
    let all : min (min h.ops 4096) (length os) ≡ h.ops = omega (arith, few, room) in
    ap (λ (n : ℕ). take h.ops (tab n (op_line h ls) ++ drop n os)) all
    ∙ take_at (tab h.ops (op_line h ls)) (drop h.ops os) h.ops (length_tab h.ops (op_line h ls))
    ∙ tab_lines op_on ls (7 + h.terms) h.ops (omega (arith, laid_length h ls laid))

module _ (w : ℕ) (h : Head) (ls : List (List ℕ)) (K K' : List ℕ) (W W' : List Float) (L : LinesLoaded w h ls K K' W W') where
  test : holds_lines w h.terms K W ≡ true → (h.terms * (2 * w) ≤ length K) × (h.terms ≤ length W)
  test e = let b = and_true (leb (h.terms * (2 * w)) (length K)) (leb h.terms (length W)) e in (leb-true _ _ b.0, leb-true _ _ b.1)

  -- the buffers keep their lengths
  pub lines_keys_long : length K' ≡ length K
  lines_keys_long = ap length L.keys ∙ go (holds_lines w h.terms K W) refl
    where
      go : (b : Bool) → holds_lines w h.terms K W ≡ b → length (cond b (keys_with w h.terms ls K) K) ≡ length K
      go true e = keys_long w h.terms h.terms ls K (omega arith) (test e).0 refl
      go false e = refl

  pub lines_weights_long : length W' ≡ length W
  lines_weights_long = ap length L.weights ∙ go (holds_lines w h.terms K W) refl
    where
      go : (b : Bool) → holds_lines w h.terms K W ≡ b → length (cond b (weights_with h.terms ls W) W) ≡ length W
      go true e = weights_long h.terms ls W (test e).1 refl
      go false e = refl

  -- if both buffers hold all `term` lines, the words were zero and the sheet is laid out, then the table has the `term` lines of the sheet
  pub lines_loaded : h.terms * (2 * w) ≤ length K → h.terms ≤ length W → K ≡ replicate (length K) 0 → question1 h ls ≡ None
      → tab h.terms (table.table_line w K' W') ≡ map (word_line w) (term_lines h ls)
  unfolding line_on zeros keys_with weights_with
  lines_loaded room has clear laid =
      let long : length ls ≡ 8 + h.terms + h.ops = laid_length h ls laid in
      let yes = holds_lines_lem w h ls K W room has in
      let weight : ℕ → Float = λ j. weight_on (get_or ls (6 + j) []) in
      let ek : K' ≡ keys_with w h.terms ls K = L.keys ∙ ap (λ (b : Bool). cond b (keys_with w h.terms ls K) K) yes in
      let ew : W' ≡ weights_with h.terms ls W = L.weights ∙ ap (λ (b : Bool). cond b (weights_with h.terms ls W) W) yes in
      let zero_row : (j : ℕ) → j < h.terms → key_at (2 * w) K j ≡ no_letters w =
      λ j l. ap (λ (k : List ℕ). key_at (2 * w) k j) clear ∙ zero_key (2 * w) (length K) j (row_room w j h.terms (length K) (length K) l room refl) in
      let word : (j : ℕ) → j < h.terms → key_at (2 * w) K' j ≡ foldl (placed w) (no_letters w) (factors_on (get_or ls (6 + j) [])) =
      λ j l. ap (λ (x : List ℕ). key_at (2 * w) x j) ek
      ∙ flat_key (2 * w) h.terms (row_with w ls K) (drop (h.terms * (2 * w)) K) (row_long w h.terms h.terms ls K (omega arith) room) j l
      ∙ ap (λ (x : List ℕ). foldl (placed w) x (factors_on (get_or ls (6 + j) []))) (zero_row j l) in
      let number : (j : ℕ) → j < h.terms → get_or W' j nan ≡ weight j =
      λ j l. ap (λ (x : List Float). get_or x j nan) ew
      ∙ get_or-append (tab h.terms weight) (drop h.terms W) nan j (subst (λ (n : ℕ). j < n) (sym (length_tab h.terms weight)) l)
      ∙ get_d_tab h.terms weight j nan l in
      tab_ext h.terms (table.table_line w K' W') (λ j. word_line w (line_on (get_or ls (6 + j) []))) (λ j l k. record { key = word j l k; weight = number j l k })
      ∙ sym (map_tab h.terms (λ j. line_on (get_or ls (6 + j) [])) (word_line w))
      ∙ ap (map (word_line w)) (tab_lines line_on ls 6 h.terms (omega (arith, long)))
