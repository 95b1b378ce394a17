-- Laws of a pass over the parts of a sheet: ps are the parts, and i of them are right. Assumes nothing.
use Prim.Native.Nat.{ℕ, zero, suc, ◌+◌, ◌-◌, ◌<◌, ◌≤◌}
use mathlib.Core.Path.{◌≡◌, refl, sym, ap, ◌∙◌}
use mathlib.Core.Bool.{Bool, true, false, cond}
use mathlib.Core.List.{List, [], ◌∷◌}
use native.Mathlib.Numerals.{add-one}
use native.Mathlib.Omega.{arith}
use borrow.Author.Tests.{lt-ltb, le-ltb, eq-eqb, ne_eqb, eqb-true, eqb-false}
use lib.Dec.{ltb, eqb, eqb-suc-suc}
use lib.ListN.{length, get_or, drop}
use Rattle.std.specs.Prelude.{Option, Some, None}
use Rattle.std.specs.List.{enumerate_from}
use Rattle.text.specs.Bytes.{on_first, parts, newline}
use Rattle.text.proofs.PartLaws.{parts_some}
use Rattle.std.proofs.lemmas.Bool.Decides.{nat_tests}
use Rattle.layout.specs.declared.Kind.{Kind}
use Rattle.layout.specs.Layout.{kind, is_laid_out, is_end, bad_line}

-- the part that a pass comes to
pub part_at : (ps : List (List ℕ)) (n j i : ℕ) (p : List ℕ) → (j < length (enumerate_from n ps)) × ((i, p) ≡ get_or (enumerate_from n ps) j (i, p))
    → (i ≡ n + j) × (j < length ps) × (p ≡ get_or ps j p)
part_at [] n j i p h = absurd (omega (arith, h.0))
part_at (q ∷ ps) n zero i p h = (ap (λ (e : ℕ × List ℕ). e.0) h.1 ∙ omega arith, omega arith, ap (λ (e : ℕ × List ℕ). e.1) h.1)
part_at (q ∷ ps) n (suc j) i p h =
    let r = part_at ps (n + 1) j i p (omega (arith, h.0), h.1) in
    (r.0 ∙ omega arith, omega (arith, r.1), r.2)

pub parts_counted : (n : ℕ) (ps : List (List ℕ)) → length (enumerate_from n ps) ≡ length ps
parts_counted n [] = refl
parts_counted n (p ∷ ps) = ap suc (parts_counted (n + 1) ps)

-- the place where part i starts: each part before it has a byte after it
pub place : List (List ℕ) → ℕ → ℕ
place ps zero = 0
place [] (suc i) = 0
place (p ∷ ps) (suc i) = suc (length p + place ps i)

-- a text and one byte more are all of its parts
place_all : (c : ℕ) (s : List ℕ) → place (parts c s) (length (parts c s)) ≡ suc (length s)
unfolding parts on_first place
place_all c [] = omega arith
place_all c (b ∷ bs) = go (parts c bs) (parts_some c bs) (place_all c bs) (eqb b c)
  where
    go : (ps : List (List ℕ)) → 0 < length ps → place ps (length ps) ≡ suc (length bs) → (t : Bool)
        → (let qs = cond t ([] ∷ ps) (on_first b ps) in place qs (length qs)) ≡ suc (suc (length bs))
    go ps h e true = omega (arith, e)
    go [] h e false = absurd (omega (arith, h))
    go (p ∷ ps) h e false = omega (arith, e)

-- part i + 1 starts behind part i and a byte
place_next : (ps : List (List ℕ)) (i : ℕ) (p : List ℕ) → i < length ps → p ≡ get_or ps i p → place ps (suc i) ≡ suc (place ps i + length p)
unfolding place
place_next [] i p h e = absurd (omega (arith, h))
place_next (q ∷ ps) zero p h e = let l = ap length e in omega (arith, l)
place_next (q ∷ ps) (suc i) p h e = let r = place_next ps i p (omega (arith, h)) e in omega (arith, r)

-- each part starts before the end of them all
place_before : (ps : List (List ℕ)) (i : ℕ) → i < length ps → place ps i < place ps (length ps)
unfolding place
place_before [] i h = absurd (omega (arith, h))
place_before (q ∷ ps) zero h = omega arith
place_before (q ∷ ps) (suc i) h = let r = place_before ps i (omega (arith, h)) in omega (arith, r)

-- part i of s is p, and from its start on there are `rest` bytes
module _ (c : ℕ) (s : List ℕ) (rest i : ℕ) (p : List ℕ) (h : i < length (parts c s)) (e : p ≡ get_or (parts c s) i p) (a : place (parts c s) i + rest ≡ length s) where
  -- if it is not the last, a byte follows it, and then the rest
  next_rest : i + 1 < length (parts c s) → (length p < rest) × (place (parts c s) (i + 1) + (rest - (length p + 1)) ≡ length s)
  next_rest l =
      let n = place_next (parts c s) i p h e in
      let m = ap (place (parts c s)) (add-one i) in
      let b = place_before (parts c s) (i + 1) l in
      let w = place_all c s in
      (omega (arith, n, m, b, w, a), omega (arith, n, m, b, w, a))

  -- it has all of them if it is the last, and else not
  part_ends : eqb (length p) rest ≡ eqb (i + 1) (length (parts c s))
  part_ends = go (eqb (i + 1) (length (parts c s))) refl
    where
      go : (t : Bool) → eqb (i + 1) (length (parts c s)) ≡ t → eqb (length p) rest ≡ t
      go true q =
          let n = place_next (parts c s) i p h e in
          let m = ap (place (parts c s)) (sym (add-one i) ∙ eqb-true _ _ q) ∙ place_all c s in
          eq-eqb _ _ (omega (arith, n, m, a))
      go false q = let l = (next_rest (let k = eqb-false _ _ q in omega (arith, h, k))).0 in ne_eqb _ _ (λ z. omega (arith, l, z))

-- what is wrong in the parts from i on
abbrev left : ℕ → ℕ → List (List ℕ) → ℕ → Option ℕ
left t o ps i = cond (ltb i (length ps)) (bad_line t o (drop i ps) (i + 1)) None

module _ (t o : ℕ) (ps : List (List ℕ)) where
  left_all : 0 < length ps → left t o ps 0 ≡ bad_line t o ps 1
  left_all h = rw (lt-ltb 0 (length ps) h)

  left_none : (i : ℕ) → length ps ≤ i → left t o ps i ≡ None
  left_none i h = rw (le-ltb i (length ps) h)

-- one part more, which is the last where i + 1 is the count
step : (t o : ℕ) (ps : List (List ℕ)) (i k : ℕ) (p : List ℕ) → i < length ps → p ≡ get_or ps i p
    → bad_line t o (drop i ps) k ≡ cond (cond (eqb (i + 1) (length ps)) (is_end (kind t o k) p) (is_laid_out (kind t o k) p)) (cond (ltb (i + 1) (length ps)) (bad_line t o (drop (i + 1) ps) (k + 1)) None) (Some k)
unfolding bad_line
step t o [] i k p h e = absurd (omega (arith, h))
step t o (q ∷ []) zero k p h e = rw e
step t o (q ∷ r ∷ ps) zero k p h e = rw (e, ne_eqb 1 (suc (suc (length ps))) (λ z. omega arith), lt-ltb 1 (suc (suc (length ps))) (omega arith), add-one k)
step t o (q ∷ ps) (suc i) k p h e =
    step t o ps i k p (omega (arith, h)) e
    ∙ rw (suc_out i, eqb-suc-suc (i + 1) (length ps), ltb_suc (i + 1) (length ps))
  where
    suc_out : (i : ℕ) → suc i + 1 ≡ suc (i + 1)
    suc_out i = omega arith

    ltb_suc : (a b : ℕ) → ltb (suc a) (suc b) ≡ ltb a b
    ltb_suc a b = grind (arith, nat_tests)

pub left_next : (t o : ℕ) (ps : List (List ℕ)) (i : ℕ) (p : List ℕ) (b : Bool) → i < length ps → p ≡ get_or ps i p
    → b ≡ cond (eqb (i + 1) (length ps)) (is_end (kind t o (i + 1)) p) (is_laid_out (kind t o (i + 1)) p)
    → left t o ps i ≡ cond b (left t o ps (i + 1)) (Some (i + 1))
left_next t o ps i p b h e f = rw (lt-ltb i (length ps) h, f) (step t o ps i (i + 1) p h e)

-- a pass over s, where A is what is wrong in it: j parts are right, and from the next one on, if there is one, there are `rest` bytes
pub record Passing (t o : ℕ) (s : List ℕ) (A : Option ℕ) (j rest : ℕ) : Type 0 where
  pub bytes : j < length (parts newline s) → place (parts newline s) j + rest ≡ length s
  pub wrong : left t o (parts newline s) j ≡ A

pub passing_none : (t o : ℕ) (s : List ℕ) → Passing t o s (bad_line t o (parts newline s) 1) 0 (length s)
unfolding place
passing_none t o s = record { bytes = λ h. omega arith; wrong = left_all t o _ (parts_some newline s) }

pub passing_all : {t o : ℕ} {s : List ℕ} {A : Option ℕ} {j rest : ℕ} → Passing t o s A j rest → length (parts newline s) ≤ j → None ≡ A
passing_all {t} {o} {s} {A} {j} P h = sym (left_none t o (parts newline s) j h) ∙ P.wrong

-- one turn of the pass: qs are the parts as `split` gives them, d is the kind of the part p, and b whether it is right
module _ {t o : ℕ} {s : List ℕ} {A : Option ℕ} {j rest : ℕ} (P : Passing t o s A j rest) (qs : List (List ℕ)) (e : qs ≡ parts newline s) (i : ℕ) (p : List ℕ)
    (h : (j < length (enumerate_from 0 qs)) × ((i, p) ≡ get_or (enumerate_from 0 qs) j (i, p)))
    (d : Kind) (g : d ≡ kind t o (i + 1)) (b : Bool) (k : b ≡ cond (eqb (length p) rest) (is_end d p) (is_laid_out d p)) where
  at_part : (i ≡ j) × (j < length (parts newline s)) × (p ≡ get_or (parts newline s) j p)
  at_part = let r = part_at qs 0 j i p h in (r.0 ∙ omega arith, rw e at r.1, rw e at r.2)

  turned : cond b (left t o (parts newline s) (j + 1)) (Some (i + 1)) ≡ A
  turned =
      let r = at_part in
      rw r.0 (sym (left_next t o (parts newline s) j p b r.1 r.2 (rw (g, part_ends newline s rest j p r.1 r.2 (P.bytes r.1), r.0) at k)) ∙ P.wrong)

  pub part_bad : b ≡ false → Some (i + 1) ≡ A
  part_bad q = rw q at turned

  pub part_good : b ≡ true → Passing t o s A (j + 1) (rest - (length p + 1))
  part_good q = let r = at_part in record { bytes = λ l. (next_rest newline s rest j p r.1 r.2 (P.bytes r.1) l).1; wrong = rw q at turned }
