-- What a sheet that passes every question before the run has: its counts are in bounds, and its values pass what crate runs asks. Assumes nothing.
use mathlib.Core.Path.{◌≡◌, refl, ap, ap₂, ◌∙◌}
use Prim.Native.Nat.{ℕ, suc, ◌+◌, ◌*◌, ◌≤◌, ◌<◌}
use native.Mathlib.Omega.{arith}
use mathlib.Core.Bool.{Bool, true, false, cond, ◌&&◌}
use mathlib.Core.List.{List, [], ◌∷◌, map}
use lib.Dec.{ltb, leb, eqb}
use lib.ListN.{length, take, drop, get_or, length-map}
use lib.Ieee.{eq}
use borrow.Author.Tests.{leb-true, eqb-true}
use Rattle.std.specs.Prelude.{Option, None, Some}
use Rattle.numbers.specs.Constants.{one64}
use Rattle.numbers.specs.Tests.{is_finite}
use Rattle.words.specs.Keys.{width_of}
use Rattle.terms.specs.Lists as L
use Rattle.terms.proofs.CaseLaws.{and_true}
use Rattle.terms.proofs.AllLaws.{all_map}
use Rattle.text.specs.Bytes.{bytes}
use Rattle.ops.specs.declared.Op.{Op}
use Rattle.ops.specs.declared.Run.{Run}
use Rattle.ops.specs.declared.Run.TheVariants.{Full, Cone, All, Path, Wide}
use Rattle.ops.specs.Task as values
use Rattle.ops.specs.Task.{Line, Task, every, qubits_of, is_one, pair_holds, passes}
use Rattle.ops.specs.Binary.{IsBinary64, RealsAreBinary64, Binary64Values}
use Rattle.lines.specs.TermLines.{TermLine, line_on, qubits_in, all_below, word_line}
use Rattle.lines.specs.OpLines.{op_on}
use Rattle.lines.proofs.BinaryLaws.{field_is, op_line_is, term_line_is}
use Rattle.lines.proofs.WordLaws.{letters_of_word}
use Rattle.layout.specs.declared.Head.{Head}
use Rattle.layout.specs.Layout.{head_of, question1, term_lines, sheet_ops}
use Rattle.layout.proofs.LaidLaws.{term_lines_length, op_list_length}
use Rattle.questions.specs.Verdict.{Verdict, RefusedAt, Passed}
use Rattle.questions.specs.Questions.{Question, question2, question3, question4, question11, question5, question6, question7}
use Rattle.questions.specs.Questions.{count_fits, weight_fits, channel_fits, places_fit, ◌or_else◌, unless, first_of, head_line, ops_line, first_no, refused_or, refused_by, line_of, fault_of, first_fault, op_fault, room_verdict, verdict}
use Rattle.sheet.specs.Answer.{task_of}

-- ---- the verdict
refused_none : (n : ℕ) (line : Option ℕ) (v : Verdict) → refused_or n line v ≡ Passed → (line ≡ None) × (v ≡ Passed)
refused_none n None v h = (refl, h)
refused_none n (Some k) v h = absurd (cc)

last_passed : (b : Bool) → cond b Passed (RefusedAt 7 0) ≡ Passed → b ≡ true
last_passed true h = refl
last_passed false h = absurd (cc)

-- a walk line by line that no line ends: neither question fails at any
faults_none : {A : Type 0} (p q : A → Bool) (k : ℕ) (l : List A) (v : Verdict) → first_fault (λ a. fault_of (p a) (q a)) k l v ≡ Passed
    → (every p l ≡ true) × ((every q l ≡ true) × (v ≡ Passed))
unfolding first_fault every
faults_none p q k [] v h = (refl, (refl, h))
faults_none p q k (a ∷ l) v h = go (p a) (q a) h (faults_none p q (suc k) l v)
  where
    go : (x y : Bool) → refused_by (fault_of x y) k (first_fault (λ a. fault_of (p a) (q a)) (suc k) l v) ≡ Passed
        → (first_fault (λ a. fault_of (p a) (q a)) (suc k) l v ≡ Passed → (every p l ≡ true) × ((every q l ≡ true) × (v ≡ Passed)))
        → ((x && every p l) ≡ true) × (((y && every q l) ≡ true) × (v ≡ Passed))
    go true true h f = f h
    go true false h f = absurd (cc)
    go false y h f = absurd (cc)

-- each answer is yes
pub record Yes (q : Question) (ls : List TermLine) (os : List Op) : Type 0 where
  pub qubits : q.qubits ≡ true
  pub epsilon : q.epsilon ≡ true
  pub limit : q.limit ≡ true
  pub terms : q.terms ≡ true
  pub term : every q.term ls ≡ true
  pub ops : q.ops ≡ true
  pub op : every q.op os ≡ true

-- no question fails
pub record Answers (h : Head) (ls : List (List ℕ)) (rows places : ℕ) : Type 0 where
  pub laid : question1 h ls ≡ None
  pub two : line_of (question2 h) h ls ≡ None
  pub three : line_of (question3 h) h ls ≡ None
  pub four : line_of (question4 h) h ls ≡ None
  pub eleven : line_of question11 h ls ≡ None
  pub five : Yes (question5 h) (term_lines h ls) (sheet_ops h ls)
  pub six : Yes question6 (term_lines h ls) (sheet_ops h ls)
  pub room : question7 h rows places ≡ true

pub answers_of : (h : Head) (ls : List (List ℕ)) (rows places : ℕ) → verdict h ls rows places ≡ Passed → Answers h ls rows places
unfolding verdict
answers_of h ls rows places e =
    let a = refused_none 1 _ _ e in
    let b = refused_none 2 _ _ a.1 in
    let c = refused_none 3 _ _ b.1 in
    let d = refused_none 4 _ _ c.1 in
    let e' = refused_none 11 _ _ d.1 in
    let f = faults_none (question5 h).term question6.term 7 (term_lines h ls) (first_fault (op_fault h) (8 + h.terms) (sheet_ops h ls) (room_verdict h rows places)) e'.1 in
    let g = faults_none (question5 h).op question6.op (8 + h.terms) (sheet_ops h ls) (room_verdict h rows places) f.1.1 in
    record {
      laid = a.0;
      two = b.0;
      three = c.0;
      four = d.0;
      eleven = e'.0;
      five = record { qubits = refl; epsilon = refl; limit = refl; terms = refl; term = f.0; ops = refl; op = g.0 };
      six = record { qubits = refl; epsilon = refl; limit = refl; terms = refl; term = f.1.0; ops = refl; op = g.1.0 };
      room = last_passed (question7 h rows places) g.1.1;
    }

-- ---- a question that no line fails
neither : (a b : Option ℕ) → a or_else b ≡ None → (a ≡ None) × (b ≡ None)
neither None b h = (refl, h)
neither (Some k) b h = absurd (cc)

unless_none : (b : Bool) (k : ℕ) → unless b k ≡ None → b ≡ true
unless_none true k h = refl
unless_none false k h = absurd (cc)

first_none : {A : Type 0} (p : A → Bool) (k : ℕ) (l : List A) → first_of p k l ≡ None → every p l ≡ true
unfolding first_of every
first_none p k [] h = refl
first_none p k (a ∷ l) h = go (p a) h (first_none p (suc k) l)
  where
    go : (b : Bool) → cond b (first_of p (suc k) l) (Some k) ≡ None → (first_of p (suc k) l ≡ None → every p l ≡ true) → (b && every p l) ≡ true
    go true h f = f h
    go false h f = absurd (cc)

pub yes_of : (q : Question) (t : ℕ) (ls : List TermLine) (os : List Op) → first_no q t ls os ≡ None → Yes q ls os
yes_of q t ls os h =
    let a = neither (head_line q) (first_of q.term 7 ls or_else ops_line q t os) h in
    let b = neither (first_of q.term 7 ls) (ops_line q t os) a.1 in
    let c = neither (unless q.ops (7 + t)) (first_of q.op (8 + t) os) b.1 in
    let d = neither (unless q.qubits 1) (unless q.epsilon 3 or_else unless q.limit 5 or_else unless q.terms 6) a.0 in
    let e = neither (unless q.epsilon 3) (unless q.limit 5 or_else unless q.terms 6) d.1 in
    let f = neither (unless q.limit 5) (unless q.terms 6) e.1 in
    record {
      qubits = unless_none q.qubits 1 d.0;
      epsilon = unless_none q.epsilon 3 e.0;
      limit = unless_none q.limit 5 f.0;
      terms = unless_none q.terms 6 f.1;
      term = first_none q.term 7 ls b.0;
      ops = unless_none q.ops (7 + t) c.0;
      op = first_none q.op (8 + t) os c.1;
    }

-- ---- the counts of a sheet that passed, and the rows lent to it
pub record Bounds (h : Head) (rows : ℕ) : Type 0 where
  pub qubits_least : 1 ≤ h.qubits
  pub qubits_most : h.qubits ≤ 256
  pub limit_least : 1 ≤ h.limit
  pub limit_most : h.limit ≤ 1048576
  pub terms_most : h.terms ≤ 1024
  pub terms_limit : h.terms ≤ h.limit
  pub ops_most : h.ops ≤ 4096
  pub rows_enough : 2 * h.limit ≤ rows

pub bounds_of : (h : Head) (ls : List (List ℕ)) (rows places : ℕ) → Answers h ls rows places → Bounds h rows
bounds_of h ls rows places a =
    let y = yes_of (question2 h) h.terms (term_lines h ls) (sheet_ops h ls) a.two in
    let n = and_true (leb 1 h.qubits) (leb h.qubits 256) y.qubits in
    let m = and_true (leb 1 h.limit) (leb h.limit 1048576) y.limit in
    let t = and_true (leb h.terms 1024) (leb h.terms h.limit) y.terms in
    let r = and_true (leb (2 * h.limit) rows) (places_fit h.run h.qubits places) a.room in
    record {
      qubits_least = leb-true 1 h.qubits n.0;
      qubits_most = leb-true h.qubits 256 n.1;
      limit_least = leb-true 1 h.limit m.0;
      limit_most = leb-true h.limit 1048576 m.1;
      terms_most = leb-true h.terms 1024 t.0;
      terms_limit = leb-true h.terms h.limit t.1;
      ops_most = leb-true h.ops 4096 y.ops;
      rows_enough = leb-true (2 * h.limit) rows r.0;
    }

pub passed_bounds : (h : Head) (ls : List (List ℕ)) (rows places : ℕ) → verdict h ls rows places ≡ Passed → Bounds h rows
passed_bounds h ls rows places e = bounds_of h ls rows places (answers_of h ls rows places e)

-- ---- `every`
every_map : {A D : Type 0} (f : A → D) (p : A → Bool) (q : D → Bool) → ((a : A) → p a ≡ true → q (f a) ≡ true)
    → (l : List A) → every p l ≡ true → every q (map f l) ≡ true
unfolding every
every_map f p q g [] h = refl
every_map f p q g (a ∷ l) h =
    let e = and_true (p a) (every p l) h in
    ap₂ ◌&&◌ (g a e.0) (every_map f p q g l e.1)

-- ---- a sheet that passed has values that pass
-- one line, of weight 1
not_one : (n : ℕ) → suc (suc n) ≡ 1 → ⊥
not_one n e = omega arith

none_is_one : (n : ℕ) → n < 1 → n ≡ 1 → ⊥
none_is_one n h e = omega arith

one_line : (w : ℕ) (ls : List TermLine) → length ls ≡ 1 → every (λ (l : TermLine). eq l.weight one64) ls ≡ true → is_one (map (word_line w) ls) ≡ true
unfolding every
one_line w [] e h = absurd (none_is_one 0 (omega arith) e)
one_line w (l ∷ []) e h = (and_true (eq l.weight one64) true h).0
one_line w (l ∷ m ∷ ls) e h = absurd (not_one (length ls) e)

-- question 3, of values that stand on n lines
three_passes : (r : Run) (n w : ℕ) (ls : List TermLine) (t : Task) → t.lines ≡ map (word_line w) ls → length ls ≡ n → count_fits r n ≡ true
    → every (λ (l : TermLine). weight_fits r l.weight) ls ≡ true → every (channel_fits r) t.ops ≡ true → values.run_fits r t ≡ true
unfolding values.run_fits
three_passes Full n w ls t k e c f g = g
three_passes Cone n w ls t k e c f g = ap₂ ◌&&◌ (ap is_one k ∙ one_line w ls (e ∙ eqb-true n 1 c) f) g
three_passes All n w ls t k e c f g = ap₂ ◌&&◌ (ap (λ (l : List Line). eqb (length l) 0) k ∙ ap (λ (m : ℕ). eqb m 0) (length-map ls (word_line w) ∙ e) ∙ c) g
three_passes Path n w ls t k e c f g = refl
three_passes Wide n w ls t k e c f g = refl

module _ (h : Head) (ls : List (List ℕ)) (rows places : ℕ) (a : Answers h ls rows places) where
  abbrev width : ℕ
  width = width_of h.qubits

  line_yes : (q : Question) → first_no q h.terms (term_lines h ls) (sheet_ops h ls) ≡ None → Yes q (term_lines h ls) (sheet_ops h ls)
  line_yes q e = yes_of q h.terms (term_lines h ls) (sheet_ops h ls) e

  lines_are : length (map (word_line width) (term_lines h ls)) ≡ h.terms
  lines_are = length-map (term_lines h ls) (word_line width) ∙ term_lines_length h ls a.laid

  two_true : values.sizes_fit (task_of h ls) ≡ true
  unfolding values.sizes_fit
  two_true =
      let y = line_yes (question2 h) a.two in
      let t = and_true (leb h.terms 1024) (leb h.terms h.limit) y.terms in
      ap₂ ◌&&◌ (ap₂ ◌&&◌ y.qubits y.limit)
      (ap₂ ◌&&◌ (ap₂ ◌&&◌ (ap (λ (n : ℕ). leb n 1024) lines_are ∙ t.0) (ap (λ (n : ℕ). leb n h.limit) lines_are ∙ t.1))
      (ap (λ (n : ℕ). leb n 4096) (op_list_length h ls a.laid) ∙ y.ops))

  three_true : values.run_fits h.run (task_of h ls) ≡ true
  three_true =
      let y = line_yes (question3 h) a.three in
      three_passes h.run h.terms width (term_lines h ls) (task_of h ls) refl (term_lines_length h ls a.laid) y.terms y.term y.op

  four_true : values.reals_in_range (task_of h ls) ≡ true
  unfolding values.reals_in_range
  four_true =
      let y = line_yes (question4 h) a.four in
      ap₂ ◌&&◌ (ap₂ ◌&&◌ y.epsilon (every_map (word_line width) (λ (l : TermLine). is_finite l.weight) (λ (l : Line). is_finite l.weight) (λ l e. e) (term_lines h ls) y.term))
      y.op

  eleven_true : values.angles_hold (task_of h ls) ≡ true
  unfolding values.angles_hold
  eleven_true = (line_yes question11 a.eleven).op

  five_true : values.qubits_below (task_of h ls) ≡ true
  unfolding values.qubits_below
  five_true =
      let y = a.five in
      let n = h.qubits in
      ap₂ ◌&&◌
      (every_map (word_line width) (λ (l : TermLine). all_below n (qubits_in l.factors)) (λ (l : Line). every (λ q. ltb q n) (qubits_of width l.key))
      (λ l e. letters_of_word width n l.factors e (omega arith)) (term_lines h ls) y.term)
      y.op

  six_true : values.targets_differ (task_of h ls) ≡ true
  unfolding values.targets_differ
  six_true = a.six.op

  pub answers_pass : passes h.run (task_of h ls) ≡ true
  answers_pass = ap₂ ◌&&◌ (ap₂ ◌&&◌ two_true three_true) (ap₂ ◌&&◌ four_true (ap₂ ◌&&◌ eleven_true (ap₂ ◌&&◌ five_true six_true)))

pub passed_passes : (h : Head) (ls : List (List ℕ)) (rows places : ℕ) → verdict h ls rows places ≡ Passed → passes h.run (task_of h ls) ≡ true
passed_passes h ls rows places e = answers_pass h ls rows places (answers_of h ls rows places e)

-- "All that was promised of rotations is now read for these pairs and rates only": every op of a sheet that passed has such a pair, or none
pub passed_pairs : (h : Head) (ls : List (List ℕ)) (rows places : ℕ) → verdict h ls rows places ≡ Passed → every pair_holds (sheet_ops h ls) ≡ true
passed_pairs h ls rows places e = (yes_of question11 h.terms (term_lines h ls) (sheet_ops h ls) (answers_of h ls rows places e).eleven).op

-- ---- the reals of a sheet are binary64, whether it passes or not
epsilon_is : (ls : List (List ℕ)) → IsBinary64 (head_of ls).epsilon
unfolding head_of
epsilon_is ls = field_is (bytes "epsilon=") (get_or ls 2 [])

of_map : {A D : Type 0} (p : D → Type 0) (f : A → D) → ((a : A) → p (f a)) → (l : List A) → L.All p (map f l)
of_map p f h [] = tt
of_map p f h (a ∷ l) = (h a, of_map p f h l)

values_are : (h : Head) (ls : List (List ℕ)) → IsBinary64 h.epsilon → Binary64Values (task_of h ls)
values_are h ls e = record {
  epsilon = e;
  weights = all_map (λ (l : TermLine). IsBinary64 l.weight) (λ (l : Line). IsBinary64 l.weight) (word_line (width_of h.qubits)) (term_lines h ls) (λ l p. p)
      (of_map (λ (l : TermLine). IsBinary64 l.weight) line_on term_line_is (take h.terms (drop 6 ls)));
  reals = of_map RealsAreBinary64 op_on op_line_is (take h.ops (drop (7 + h.terms) ls));
}

pub sheet_values_are : (ls : List (List ℕ)) → Binary64Values (task_of (head_of ls) ls)
sheet_values_are ls = values_are (head_of ls) ls (epsilon_is ls)
