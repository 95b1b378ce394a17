-- A sheet that is laid out has as many lines as its counts say. Assumes nothing.
use mathlib.Core.Path.{◌≡◌, refl, sym, ◌∙◌}
use Prim.Native.Nat.{ℕ, suc, ◌+◌, ◌-◌, ◌≤◌, ◌<◌}
use native.Mathlib.Omega.{arith}
use mathlib.Core.Bool.{Bool, true, false, cond, ◌&&◌, false≢true}
use mathlib.Core.List.{List, [], ◌∷◌}
use lib.Dec.{ltb, leb, eqb}
use lib.ListN.{length, take, drop, length-drop, length-map}
use lib.Seq.{length-take-le}
use borrow.Author.Tests.{ltb-true, ltb-false, leb-true, leb-false, eqb-true, eqb-false, le-leb, lt-leb}
use Rattle.std.specs.Prelude.{Option, Some, None}
use Rattle.terms.proofs.CaseLaws.{and_true}
use Rattle.layout.specs.declared.Head.{Head}
use Rattle.layout.specs.declared.Kind.{Kind}
use Rattle.layout.specs.declared.Kind.TheVariants.{AQubits, ARun, AnEpsilon, AMaxTerms, ALimit, ATerms, ATerm, AnOps, AnOp, Beyond}
use Rattle.layout.specs.Layout.{head_kind, later_kind, kind, is_laid_out, is_beyond, bad_line, question1, term_lines, sheet_ops}

-- ---- which lines are beyond the last
head_within : (k : ℕ) → is_beyond (head_kind k) ≡ false
unfolding head_kind
head_within k = go (eqb k 1) (eqb k 2) (eqb k 3) (eqb k 4) (eqb k 5)
  where
    go : (a b c d e : Bool) → is_beyond (cond a AQubits (cond b ARun (cond c AnEpsilon (cond d AMaxTerms (cond e ALimit ATerms))))) ≡ false
    go true b c d e = refl
    go false true c d e = refl
    go false false true d e = refl
    go false false false true e = refl
    go false false false false true = refl
    go false false false false false = refl

pub beyond_from : (t o k : ℕ) → is_beyond (kind t o k) ≡ leb (8 + t + o) k
unfolding kind later_kind
beyond_from t o k = go (ltb k 7) (ltb (k - 7) t) (eqb (k - 7) t) (ltb (k - 7 - t - 1) o) refl refl refl refl
  where
    go : (a b c d : Bool) → ltb k 7 ≡ a → ltb (k - 7) t ≡ b → eqb (k - 7) t ≡ c → ltb (k - 7 - t - 1) o ≡ d
        → is_beyond (cond a (head_kind k) (cond b ATerm (cond c AnOps (cond d AnOp Beyond)))) ≡ leb (8 + t + o) k
    go true b c d e f g h = let l = ltb-true k 7 e in head_within k ∙ sym (lt-leb (8 + t + o) k (omega arith))
    go false true c d e f g h = let l = ltb-true (k - 7) t f in sym (lt-leb (8 + t + o) k (omega arith))
    go false false true d e f g h = let l = eqb-true (k - 7) t g in sym (lt-leb (8 + t + o) k (omega arith))
    go false false false true e f g h =
        let l = ltb-false k 7 e in let m = ltb-false (k - 7) t f in let n = ltb-true (k - 7 - t - 1) o h in sym (lt-leb (8 + t + o) k (omega arith))
    go false false false false e f g h =
        let l = ltb-false k 7 e in let m = ltb-false (k - 7) t f in let n = eqb-false (k - 7) t g in let r = ltb-false (k - 7 - t - 1) o h in
        sym (le-leb (8 + t + o) k (omega arith))

-- a line that is laid out is not beyond the last
laid_within : (c : Kind) (l : List ℕ) → is_laid_out c l ≡ true → is_beyond c ≡ false
unfolding is_laid_out
laid_within AQubits l h = refl
laid_within ARun l h = refl
laid_within AnEpsilon l h = refl
laid_within AMaxTerms l h = refl
laid_within ALimit l h = refl
laid_within ATerms l h = refl
laid_within ATerm l h = refl
laid_within AnOps l h = refl
laid_within AnOp l h = refl
laid_within Beyond l h = absurd (false≢true h)

-- ---- how many lines there are
some_none : {A : Type 0} (k : A) → Some k ≡ None → ⊥
some_none k h = cc

cond_none : {A : Type 0} (b : Bool) (r : Option A) (k : A) → cond b r (Some k) ≡ None → (b ≡ true) × (r ≡ None)
cond_none true r k h = (refl, h)
cond_none false r k h = absurd (some_none k h)

-- a line that is told is counted from 1
bad_above : (t o : ℕ) (ls : List (List ℕ)) (k j : ℕ) → bad_line t o ls (suc k) ≡ Some j → 0 < j
unfolding bad_line
bad_above t o [] k j h = let e : suc k ≡ j = cc in omega arith
bad_above t o (p ∷ []) k j h = go (is_beyond (kind t o (suc k)) && eqb (length p) 0) h
  where
    go : (b : Bool) → cond b None (Some (suc k)) ≡ Some j → 0 < j
    go true h = absurd (some_none j (sym h))
    go false h = let e : suc k ≡ j = cc in omega arith
bad_above t o (p ∷ q ∷ ps) k j h = go (is_laid_out (kind t o (suc k)) p) h (bad_above t o (q ∷ ps) (suc k) j)
  where
    go : (b : Bool) → cond b (bad_line t o (q ∷ ps) (suc (suc k))) (Some (suc k)) ≡ Some j → (bad_line t o (q ∷ ps) (suc (suc k)) ≡ Some j → 0 < j) → 0 < j
    go true h ih = ih h
    go false h ih = let e : suc k ≡ j = cc in omega arith

pub question1_above : (h : Head) (ls : List (List ℕ)) (j : ℕ) → question1 h ls ≡ Some j → 0 < j
question1_above h ls j e = bad_above h.terms h.ops ls 0 j e

line_count : (t o : ℕ) (ls : List (List ℕ)) (k : ℕ) → suc k ≤ 8 + t + o → bad_line t o ls (suc k) ≡ None → length ls + k ≡ 8 + t + o
unfolding bad_line
line_count t o [] k b h = absurd (some_none _ h)
line_count t o (p ∷ []) k b h =
    let e = and_true (is_beyond (kind t o (suc k))) (eqb (length p) 0) (cond_none (is_beyond (kind t o (suc k)) && eqb (length p) 0) None (suc k) h).0 in
    let m = leb-true (8 + t + o) (suc k) (sym (beyond_from t o (suc k)) ∙ e.0) in
    omega arith
line_count t o (p ∷ q ∷ ps) k b h =
    let e = cond_none (is_laid_out (kind t o (suc k)) p) (bad_line t o (q ∷ ps) (suc (suc k))) (suc k) h in
    let m = leb-false (8 + t + o) (suc k) (sym (beyond_from t o (suc k)) ∙ laid_within (kind t o (suc k)) p e.0) in
    more_one (length (q ∷ ps)) k (8 + t + o) (line_count t o (q ∷ ps) (suc k) m e.1)
  where
    more_one : (a k n : ℕ) → a + suc k ≡ n → suc a + k ≡ n
    more_one a k n h = omega arith

-- "nothing after the last": the part behind the last byte 10 counts here, so there is one more part than lines
pub laid_length : (h : Head) (ls : List (List ℕ)) → question1 h ls ≡ None → length ls ≡ 8 + h.terms + h.ops
laid_length h ls e =
    let n : length ls + 0 ≡ 8 + h.terms + h.ops = line_count h.terms h.ops ls 0 (omega arith) e in
    omega arith

part_length : (n m : ℕ) (ls : List (List ℕ)) → m + n ≤ length ls → length (take n (drop m ls)) ≡ n
part_length n m ls h = length-take-le n (drop m ls) (rw (length-drop m ls) (omega arith))

pub term_lines_length : (h : Head) (ls : List (List ℕ)) → question1 h ls ≡ None → length (term_lines h ls) ≡ h.terms
term_lines_length h ls e =
    let n = laid_length h ls e in
    length-map (take h.terms (drop 6 ls)) _ ∙ part_length h.terms 6 ls (omega arith)

pub op_list_length : (h : Head) (ls : List (List ℕ)) → question1 h ls ≡ None → length (sheet_ops h ls) ≡ h.ops
op_list_length h ls e =
    let n = laid_length h ls e in
    length-map (take h.ops (drop (7 + h.terms) ls)) _ ∙ part_length h.ops (7 + h.terms) ls (omega arith)
