-- Laws of marks set from the last op to the first, and that the code's inverse light cone is the specification's. Assumes nothing.
use mathlib.Core.Path.{◌≡◌, refl, sym, ap, ap₂, ◌∙◌}
use mathlib.Core.Bool.{Bool, true, false, not, ◌||◌, cond}
use mathlib.Core.List.{List, [], ◌∷◌, ◌++◌}
use Prim.Native.Nat.{ℕ, zero, min, suc, ◌+◌, ◌-◌, ◌*◌, ◌≤◌, ◌<◌}
use native.Mathlib.Omega.{arith}
use native.Mathlib.Nat.{zero-add, le_of_suc-le-suc, not-suc-le-zero}
use native.Mathlib.Numerals.{add-one}
use borrow.Author.Tests.{eqb-true, eqb-false}
use lib.Dec.{eqb}
use lib.ListN.{length, get_or, set, take, drop, length-set, length-take, replicate}
use lib.Seq.{drop-cons, take_all, get_or-set_same, get_or-set_other, drop-length}
use Rattle.words.specs.Gates.{has_two_targets}
use Rattle.words.specs.Keys.{Key}
use Rattle.terms.specs.Lists.{tab, All}
use Rattle.terms.proofs.ListLaws.{length_tab, get_d_tab}
use Rattle.ops.specs.declared.Op.{Op}
use Rattle.ops.specs.declared.Op.TheVariants.{Native, T, Tdg, Rz, P, Rzz, Pauli, Depol, Damp, Phase, Thermal, Depol2, Barrier}
use Rattle.ops.specs.declared.marks.Targets.{Targets}
use Rattle.ops.specs.declared.marks.Targets.TheVariants as H
use Rattle.ops.specs.Ops.{shape_of, targets, is_rotation, is_barrier, t_count}
use Rattle.ops.specs.Marks.{mark_all, mark_path, member, touches, cone_of, mark_cone}
use Rattle.ops.specs.Sets.{TargetsBelow, overlay, packed, list_of, meets_set, join_set, grown_by, cone_set, set_marks, letter_in, letters_in, letter_in_any, letters_in_any}
use Rattle.std.specs.List.{count_by}
use Rattle.std.proofs.lemmas.List.Recursion.{is_count_by}

pub get_d_past : {A : Type 0} (l : List A) (i : ℕ) (d : A) → length l ≤ i → get_or l i d ≡ d
get_d_past [] i d h = refl
get_d_past (x ∷ l) zero d h = absurd (not-suc-le-zero h)
get_d_past (x ∷ l) (suc i) d h = get_d_past l i d (le_of_suc-le-suc h)

-- ---- the t count
pub rotations_counted : (ops : List Op) → t_count ops ≡ count_by (λ (op : Op). is_rotation (shape_of op).sort) ops
unfolding t_count
rotations_counted ops = is_count_by t_count (λ (op : Op). is_rotation (shape_of op).sort) refl (λ op rest. one (is_rotation (shape_of op).sort) (t_count rest)) ops
  where
    one : (b : Bool) (n : ℕ) → cond b 1 0 + n ≡ cond b (1 + n) n
    one true n = refl
    one false n = zero-add n

-- ---- marks set from the first to the last
-- the first i of the marks ms, written over a list, and one more
over_suc : (ms l : List Bool) (i : ℕ) → i < length ms → overlay (take (suc i) ms) l ≡ set (overlay (take i ms) l) i (get_or ms i false)
unfolding overlay
over_suc [] l i h = absurd (not-suc-le-zero h)
over_suc (m ∷ ms) [] zero h = refl
over_suc (m ∷ ms) (x ∷ l) zero h = refl
over_suc (m ∷ ms) [] (suc i) h = refl
over_suc (m ∷ ms) (x ∷ l) (suc i) h = ap (λ (r : List Bool). m ∷ r) (over_suc ms l i (le_of_suc-le-suc h))

pub over_more : (ms l : List Bool) (i : ℕ) → i < length ms → overlay (take (i + 1) ms) l ≡ set (overlay (take i ms) l) i (get_or ms i false)
over_more ms l i h = ap (λ (n : ℕ). overlay (take n ms) l) (add-one i) ∙ over_suc ms l i h

pub over_none : (ms l : List Bool) → l ≡ overlay (take 0 ms) l
unfolding overlay
over_none ms l = refl

-- as far as both go
pub over_all : (ms l : List Bool) (i : ℕ) → min (length ms) (length l) ≤ i → overlay (take i ms) l ≡ overlay ms l
unfolding overlay
over_all [] l zero h = refl
over_all [] l (suc i) h = refl
over_all (m ∷ ms) [] zero h = refl
over_all (m ∷ ms) [] (suc i) h = refl
over_all (m ∷ ms) (x ∷ l) zero h = absurd (omega arith)
over_all (m ∷ ms) (x ∷ l) (suc i) h = ap (λ (r : List Bool). m ∷ r) (over_all ms l i (omega arith))

-- as many marks that are set as there are ops, before those that have no op
set_over : (ops : List Op) (l front : List Bool) → length front ≡ min (length ops) (length l) → ((k : ℕ) → k < length front → get_or front k false ≡ true)
    → front ++ drop (length front) l ≡ overlay (mark_all ops) l
unfolding overlay
set_over [] l [] e all = refl
set_over [] l (x ∷ front) e all = absurd (omega arith)
set_over (op ∷ ops) [] [] e all = refl
set_over (op ∷ ops) [] (x ∷ front) e all = absurd (omega arith)
set_over (op ∷ ops) (y ∷ l) [] e all = absurd (omega arith)
set_over (op ∷ ops) (y ∷ l) (x ∷ front) e all = λ k. all zero (omega arith) k ∷ set_over ops l front (omega arith) (λ i h. all (suc i) (omega arith)) k

pub all_over : (ops : List Op) (l front : List Bool) (n : ℕ) → n ≡ min (length ops) (length l) → length front ≡ length (take n l)
    → ((k : ℕ) → k < length (take n l) → get_or front k false ≡ true) → front ++ drop n l ≡ overlay (mark_all ops) l
all_over ops l front n e long all =
    let t : length (take n l) ≡ min n (length l) = length-take n l in
    let m : n ≡ length front = omega arith in
    ap (λ (k : ℕ). front ++ drop k l) m ∙ set_over ops l front (omega arith) (λ k h. all k (omega arith))

-- ---- marks set from the last to the first
overlay_at : (ms l : List Bool) (j : ℕ) → j < length ms → overlay (take j ms) (set l j (get_or ms j false)) ≡ overlay (take (suc j) ms) l
unfolding overlay
overlay_at [] l j h = absurd (not-suc-le-zero h)
overlay_at (m ∷ ms) [] zero h = refl
overlay_at (m ∷ ms) (x ∷ l) zero h = refl
overlay_at (m ∷ ms) [] (suc j) h = refl
overlay_at (m ∷ ms) (x ∷ l) (suc j) h = ap (λ (r : List Bool). m ∷ r) (overlay_at ms l j (le_of_suc-le-suc h))

-- of the marks ms those from i on are set
pub record Marked (ms : List Bool) (i : ℕ) (marks₀ marks : List Bool) : Type 0 where
  pub within : i ≤ length ms
  pub long : length marks ≡ length marks₀
  pub over : overlay (take i ms) marks ≡ overlay ms marks₀

pub marked_none : (ms : List Bool) (i : ℕ) (marks : List Bool) → i ≡ length ms → Marked ms i marks marks
marked_none ms i marks e = record { within = omega arith; long = refl; over = ap (λ (l : List Bool). overlay l marks) (take_all i ms (omega arith)) }

pub marked_turn : {ms : List Bool} {i : ℕ} {marks₀ marks : List Bool} → Marked ms i marks₀ marks → (j : ℕ) (m : Bool) (marks' : List Bool) → 0 < i → j ≡ i - 1
    → m ≡ get_or ms j false → marks' ≡ set marks j m → Marked ms j marks₀ marks'
marked_turn {ms} {i} {marks₀} {marks} M j m marks' pos ej em es =
    let within = M.within in
    let q : i ≡ suc j = omega arith in
    record {
      within = omega arith;
      long = ap length es ∙ length-set marks j m ∙ M.long;
      over = ap (overlay (take j ms)) (es ∙ ap (set marks j) em) ∙ overlay_at ms marks j (omega arith) ∙ ap (λ (z : ℕ). overlay (take z ms) marks) (sym q) ∙ M.over;
    }

pub marked_all : {ms : List Bool} {i : ℕ} {marks₀ marks : List Bool} → Marked ms i marks₀ marks → i ≤ 0 → marks ≡ overlay ms marks₀
unfolding overlay
marked_all {ms} {i} {marks₀} {marks} M h =
    let z : i ≡ 0 = omega arith in
    ap (λ (k : ℕ). overlay (take k ms) marks) (sym z) ∙ M.over

pub path_long : (ops : List Op) → length (mark_path ops) ≡ length ops
path_long [] = refl
path_long (op ∷ ops) = ap suc (path_long ops)

pub path_at : (ops : List Op) (i : ℕ) (d : Op) → i < length ops → get_or (mark_path ops) i false ≡ not (is_barrier (shape_of (get_or ops i d)).sort)
path_at [] i d h = absurd (not-suc-le-zero h)
path_at (o ∷ ops) zero d h = refl
path_at (o ∷ ops) (suc i) d h = path_at ops i d (le_of_suc-le-suc h)

-- ---- the set of qubits

or_false : (b : Bool) → (b || false) ≡ b
or_false true = refl
or_false false = refl

pub meets_none : (s : List Bool) → meets_set (list_of H.Nothing) s ≡ false
unfolding meets_set
meets_none s = refl

pub meets_one : (s : List Bool) (a : ℕ) → meets_set (list_of (H.One a)) s ≡ get_or s a false
unfolding meets_set
meets_one s a = or_false (get_or s a false)

pub meets_two : (s : List Bool) (a b : ℕ) → meets_set (list_of (H.Two a b)) s ≡ (get_or s a false || get_or s b false)
unfolding meets_set
meets_two s a b = ap (λ (x : Bool). get_or s a false || x) (or_false (get_or s b false))

pub grown_yes : (qs : List ℕ) (s : List Bool) → meets_set qs s ≡ true → grown_by qs s ≡ join_set qs s
unfolding grown_by
grown_yes qs s e = ap (λ (x : Bool). cond x (join_set qs s) s) e

pub grown_no : (qs : List ℕ) (s : List Bool) → meets_set qs s ≡ false → grown_by qs s ≡ s
unfolding grown_by
grown_no qs s e = ap (λ (x : Bool). cond x (join_set qs s) s) e

no_letter : (n q : ℕ) → get_or (replicate n false) q false ≡ false
no_letter zero q = refl
no_letter (suc n) zero = refl
no_letter (suc n) (suc q) = no_letter n q

list_tab : (s : List Bool) (f : ℕ → Bool) (n : ℕ) → length s ≡ n → ((q : ℕ) → q < n → get_or s q false ≡ f q) → s ≡ tab n f
unfolding tab
list_tab [] f zero long same = refl
list_tab [] f (suc n) long same = absurd (omega arith)
list_tab (x ∷ s) f zero long same = absurd (omega arith)
list_tab (x ∷ s) f (suc n) long same = λ k. same zero (omega arith) k ∷ list_tab s (λ i. f (suc i)) n (omega arith) (λ q h. same (suc q) (omega arith)) k

-- a set of 256 qubits by its members
letters_of : (f : ℕ → Bool) (s : List Bool) → length s ≡ 256 → ((q : ℕ) → q < 256 → get_or s q false ≡ f q) → s ≡ tab 256 f
letters_of f s long same = list_tab s f 256 long same

pub letters_word : (w : ℕ) (k : Key) (s : List Bool) → length s ≡ 256 → ((q : ℕ) → q < 256 → get_or s q false ≡ (get_or (replicate 256 false) q false || letter_in w k q)) → s ≡ letters_in w k
unfolding letters_in
letters_word w k s long same = letters_of (letter_in w k) s long (λ q h. same q h ∙ ap (λ (b : Bool). b || letter_in w k q) (no_letter 256 q))

pub any_none : (w : ℕ) (keys : List ℕ) (q : ℕ) → get_or (replicate 256 false) q false ≡ letter_in_any w keys 0 q
unfolding letter_in_any
any_none w keys q = no_letter 256 q

-- one line more, its words taken from the table
pub any_turn : (w : ℕ) (keys : List ℕ) (i q : ℕ) {x y : Bool} → let b : ℕ = i * (2 * w) in
    x ≡ (y || letter_in w (take (b + 2 * w - b) (drop b keys)) q) → y ≡ letter_in_any w keys i q → x ≡ letter_in_any w keys (i + 1) q
unfolding letter_in_any
any_turn w keys i q {x} {y} e f =
    let size : i * (2 * w) + 2 * w - i * (2 * w) ≡ 2 * w = omega arith in
    e ∙ ap₂ (λ (a : Bool) (n : ℕ). a || letter_in w (take n (drop (i * (2 * w)) keys)) q) f size ∙ ap (λ (n : ℕ). letter_in_any w keys n q) (sym (add-one i))

pub letters_lines : (w : ℕ) (keys : List ℕ) (n i : ℕ) → i ≡ n → (s : List Bool) → length s ≡ 256 → ((q : ℕ) → q < 256 → get_or s q false ≡ letter_in_any w keys i q) → s ≡ letters_in_any w keys n
unfolding letters_in_any
letters_lines w keys n i e s long same = letters_of (letter_in_any w keys i) s long same ∙ ap (λ (m : ℕ). tab 256 (letter_in_any w keys m)) e

-- ---- the inverse light cone
-- the targets of an op, at most two, are those that the code has
pub list_packed : (op : Op) → list_of (packed (targets op)) ≡ targets op
list_packed (Native g a b) = go (has_two_targets g)
  where
    go : (two : Bool) → list_of (packed (cond two (a ∷ b ∷ []) (a ∷ []))) ≡ cond two (a ∷ b ∷ []) (a ∷ [])
    go true = refl
    go false = refl
list_packed (T q) = refl
list_packed (Tdg q) = refl
list_packed (Rz q s c) = refl
list_packed (P q s c) = refl
list_packed (Rzz a b s c) = refl
list_packed (Pauli q px py pz) = refl
list_packed (Depol q p) = refl
list_packed (Damp q gamma) = refl
list_packed (Phase q gamma) = refl
list_packed (Thermal q gad gpd excited) = refl
list_packed (Depol2 a b p) = refl
list_packed Barrier = refl

pub length_cone : (s : List Bool) (ops : List Op) → length (set_marks s ops) ≡ length ops
unfolding set_marks
length_cone s [] = refl
length_cone s (op ∷ ops) = ap suc (length_cone s ops)

cone_mark : (s : List Bool) (ops : List Op) (j : ℕ) (d : Op) → j < length ops → get_or (set_marks s ops) j false ≡ meets_set (targets (get_or ops j d)) (cone_set s (drop (suc j) ops))
unfolding set_marks
cone_mark s [] j d h = absurd (not-suc-le-zero h)
cone_mark s (op ∷ ops) zero d h = refl
cone_mark s (op ∷ ops) (suc j) d h = cone_mark s ops j d (le_of_suc-le-suc h)

cone_set_lem : (s : List Bool) (ops : List Op) (j : ℕ) (d : Op) → j < length ops → cone_set s (drop j ops) ≡ grown_by (targets (get_or ops j d)) (cone_set s (drop (suc j) ops))
unfolding cone_set
cone_set_lem s ops j d h = ap (cone_set s) (drop-cons ops j d h)

-- the set and the marks when the ops from i on have been seen
pub record Seen (s₀ : List Bool) (ops : List Op) (i : ℕ) (s marks₀ marks : List Bool) : Type 0 where
  pub within : i ≤ length ops
  pub cone : s ≡ cone_set s₀ (drop i ops)
  pub marked : Marked (set_marks s₀ ops) i marks₀ marks

pub seen_none : (s₀ s : List Bool) (ops : List Op) (i : ℕ) (marks : List Bool) → s ≡ s₀ → i ≡ length ops → Seen s₀ ops i s marks marks
unfolding cone_set
seen_none s₀ s ops i marks es e = record {
  within = omega arith;
  cone = es ∙ ap (cone_set s₀) (sym (ap (λ (k : ℕ). drop k ops) e ∙ drop-length ops));
  marked = marked_none (set_marks s₀ ops) i marks (e ∙ sym (length_cone s₀ ops));
}

pub seen_turn : {s₀ : List Bool} {ops : List Op} {i : ℕ} {s marks₀ marks : List Bool} → Seen s₀ ops i s marks₀ marks → (j : ℕ) (d op : Op) (t : Targets) (m : Bool) (s' marks' : List Bool)
    → 0 < i → j ≡ i - 1 → op ≡ get_or ops j d → t ≡ packed (targets op) → m ≡ meets_set (list_of t) s → marks' ≡ set marks j m → s' ≡ grown_by (list_of t) s → Seen s₀ ops j s' marks₀ marks'
seen_turn {s₀} {ops} {i} {s} {marks₀} {marks} S j d op t m s' marks' pos ej eo et em ek es =
    let within = S.within in
    let q : i ≡ suc j = omega arith in
    let inside : j < length ops = omega arith in
    let c : s ≡ cone_set s₀ (drop (suc j) ops) = S.cone ∙ ap (λ (z : ℕ). cone_set s₀ (drop z ops)) q in
    let l : list_of t ≡ targets (get_or ops j d) = ap list_of et ∙ list_packed op ∙ ap targets eo in
    record {
      within = omega arith;
      cone = es ∙ ap₂ grown_by l c ∙ sym (cone_set_lem s₀ ops j d inside);
      marked = marked_turn S.marked j m marks' pos ej (em ∙ ap₂ meets_set l c ∙ sym (cone_mark s₀ ops j d inside)) ek;
    }

-- ---- the set of booleans and the list of qubits that the specification has
-- the two have the same qubits below 256
record SameSet (s : List Bool) (c : List ℕ) : Type 0 where
  long : length s ≡ 256
  same : (q : ℕ) → q < 256 → member q c ≡ get_or s q false

meets_same : {s : List Bool} {c : List ℕ} → SameSet s c → (qs : List ℕ) → All (λ (q : ℕ). q < 256) qs → meets_set qs s ≡ touches qs c
unfolding meets_set touches
meets_same S [] h = refl
meets_same S (q ∷ qs) h = ap₂ ◌||◌ (sym (S.same q h.0)) (meets_same S qs h.1)

set_same : {s : List Bool} {c : List ℕ} → SameSet s c → (q : ℕ) → q < 256 → SameSet (set s q true) (q ∷ c)
unfolding member
set_same {s} {c} S q h = record { long = length-set s q true ∙ S.long; same = λ x below. go x below (eqb x q) refl }
  where
    go : (x : ℕ) → x < 256 → (b : Bool) → eqb x q ≡ b → (b || member x c) ≡ get_or (set s q true) x false
    go x below true e = sym (ap (λ (y : ℕ). get_or (set s q true) y false) (eqb-true x q e) ∙ get_or-set_same s q true false (omega (arith, S.long)))
    go x below false e = S.same x below ∙ sym (get_or-set_other s q x true false (eqb-false x q e))

join_same : {s : List Bool} {c : List ℕ} → SameSet s c → (qs : List ℕ) → All (λ (q : ℕ). q < 256) qs → SameSet (join_set qs s) (qs ++ c)
unfolding join_set
join_same S [] h = S
join_same S (q ∷ qs) h = set_same (join_same S qs h.1) q h.0

grown_same : {s : List Bool} {c : List ℕ} → SameSet s c → (qs : List ℕ) → All (λ (q : ℕ). q < 256) qs → SameSet (grown_by qs s) (cond (touches qs c) (qs ++ c) c)
unfolding grown_by
grown_same {s} {c} S qs h = rw (meets_same S qs h) (go (touches qs c))
  where
    go : (b : Bool) → SameSet (cond b (join_set qs s) s) (cond b (qs ++ c) c)
    go true = join_same S qs h
    go false = S

cone_same : {s : List Bool} {qs : List ℕ} → SameSet s qs → (ops : List Op) → TargetsBelow ops → SameSet (cone_set s ops) (cone_of qs ops)
unfolding cone_set cone_of
cone_same S [] h = S
cone_same S (op ∷ ops) h = grown_same (cone_same S ops h.1) (targets op) h.0

marks_same : {s : List Bool} {qs : List ℕ} → SameSet s qs → (ops : List Op) → TargetsBelow ops → set_marks s ops ≡ mark_cone qs ops
unfolding set_marks mark_cone
marks_same S [] h = refl
marks_same S (op ∷ ops) h = ap₂ ◌∷◌ (meets_same (cone_same S ops h.1) (targets op) h.0) (marks_same S ops h.1)

pub cone_marks : (s : List Bool) (qs : List ℕ) (ops : List Op) → length s ≡ 256 → ((q : ℕ) → q < 256 → member q qs ≡ get_or s q false) → TargetsBelow ops
    → set_marks s ops ≡ mark_cone qs ops
cone_marks s qs ops l e h = marks_same (record { long = l; same = e }) ops h

pub letters_marks : (w : ℕ) (k : Key) (qs : List ℕ) (ops : List Op) → ((q : ℕ) → q < 256 → member q qs ≡ letter_in w k q) → TargetsBelow ops
    → set_marks (letters_in w k) ops ≡ mark_cone qs ops
unfolding letters_in
letters_marks w k qs ops e h =
    cone_marks (tab 256 (letter_in w k)) qs ops (length_tab 256 (letter_in w k)) (λ q below. e q below ∙ sym (get_d_tab 256 (letter_in w k) q false below)) h

-- the same from the words of a table
pub any_marks : (w : ℕ) (keys : List ℕ) (n : ℕ) (qs : List ℕ) (ops : List Op) → ((q : ℕ) → q < 256 → member q qs ≡ letter_in_any w keys n q) → TargetsBelow ops
    → set_marks (letters_in_any w keys n) ops ≡ mark_cone qs ops
unfolding letters_in_any
any_marks w keys n qs ops e h =
    cone_marks (tab 256 (letter_in_any w keys n)) qs ops (length_tab 256 (letter_in_any w keys n)) (λ q below. e q below ∙ sym (get_d_tab 256 (letter_in_any w keys n) q false below)) h
