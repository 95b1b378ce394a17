-- Pieces written one after the other are one piece, and a text from the start of the buffer is what `Printing` says. Assumes nothing.
use Prim.Native.Nat.{ℕ, suc, ◌+◌, ◌≤◌, ◌<◌, min}
use mathlib.Core.Path.{◌≡◌, refl, sym, ap, ◌∙◌, subst}
use mathlib.Core.Bool.{Bool, true, false}
use mathlib.Core.List.{List, [], ◌∷◌, ◌++◌, append-nil}
use native.Mathlib.Nat.{add-zero, add-suc, suc-add, min-eq_left}
use native.Mathlib.Numerals.{add-one}
use native.Mathlib.Omega.{arith}
use lib.Dec.{leb}
use borrow.Author.Tests.{leb-true, leb-false}
use lib.ListN.{length, get_or, take, drop, set, length-append, length-set}
use lib.Seq.{set_out, set-append_seam, take-nil, take-suc, take_all, append_snoc}
use Rattle.replies.specs.Written.{written, place_after, Wrote, Writes, Printing}
use Rattle.replies.specs.declared.Page.{Page}

-- ---- the buffer

pub length_written : (at : ℕ) (p out : List ℕ) → length (written at p out) ≡ length out
unfolding written
length_written at [] out = refl
length_written at (b ∷ bs) out = length_written (suc at) bs (set out at b) ∙ length-set out at b

pub written_past : (at : ℕ) (p out : List ℕ) → length out ≤ at → written at p out ≡ out
unfolding written
written_past at [] out h = refl
written_past at (b ∷ bs) out h =
    ap (written (suc at) bs) (set_out out at b h) ∙ written_past (suc at) bs out (omega arith)

pub written_append : (at : ℕ) (p q out : List ℕ) → written (at + length p) q (written at p out) ≡ written at (p ++ q) out
unfolding written
written_append at [] q out = ap (λ (k : ℕ). written k q out) (add-zero at)
written_append at (b ∷ bs) q out =
    ap (λ (k : ℕ). written k q (written (suc at) bs (set out at b))) (add-suc at (length bs) ∙ sym (suc-add at (length bs)))
    ∙ written_append (suc at) bs q (set out at b)

-- a place that was held at the end is harmless: what is written there is not written
pub written_held : (at : ℕ) (p q out : List ℕ) → written (place_after at p out) q (written at p out) ≡ written at (p ++ q) out
written_held at p q out = go (leb (at + length p) (length out)) refl
  where
    go : (b : Bool) → leb (at + length p) (length out) ≡ b → written (place_after at p out) q (written at p out) ≡ written at (p ++ q) out
    go true t = ap (λ (k : ℕ). written k q (written at p out)) (min-eq_left (leb-true _ _ t)) ∙ written_append at p q out
    go false t =
        let l : length out < at + length p = leb-false _ _ t in
        let e : length (written at p out) ≡ length out = length_written at p out in
        written_past (place_after at p out) q (written at p out) (omega arith)
        ∙ sym (written_past (at + length p) q (written at p out) (omega arith))
        ∙ written_append at p q out

-- the place after two pieces
pub place_held : (at : ℕ) (p q out : List ℕ) → place_after (place_after at p out) q (written at p out) ≡ place_after at (p ++ q) out
place_held at p q out =
    let e : length (written at p out) ≡ length out = length_written at p out in
    let s : length (p ++ q) ≡ length p + length q = length-append p q in
    omega arith

-- ---- pieces

-- no piece
pub none : {at r : ℕ} (out : List ℕ) → r ≡ min at (length out) → Wrote at [] out r out
unfolding written
none {at} out e = record { place = e ∙ ap (λ (k : ℕ). min k (length out)) (sym (add-zero at)); left = refl }

-- one byte
pub one_in : (at b : ℕ) (out : List ℕ) → at < length out → Wrote at (b ∷ []) out (at + 1) (set out at b)
unfolding written
one_in at b out h = record { place = omega arith; left = refl }

pub one_past : (at b : ℕ) (out : List ℕ) → length out ≤ at → Wrote at (b ∷ []) out (length out) out
unfolding written
one_past at b out h = record { place = omega arith; left = sym (set_out out at b h) }

-- two pieces
pub join : {at r r' : ℕ} {p q out out₁ out₂ : List ℕ} → Wrote at p out r out₁ → Wrote r q out₁ r' out₂ → Wrote at (p ++ q) out r' out₂
join {at} {r} {r'} {p} {q} {out} {out₁} {out₂} a b = record {
  place = b.place ∙ (λ i. place_after (a.place i) q (a.left i)) ∙ place_held at p q out;
  left = b.left ∙ (λ i. written (a.place i) q (a.left i)) ∙ written_held at p q out;
}

-- the same text by another name
pub spelled : {at r : ℕ} {p q out out' : List ℕ} → p ≡ q → Wrote at p out r out' → Wrote at q out r out'
spelled {at} {r} {p} {q} {out} {out'} e a = subst (λ (s : List ℕ). Wrote at s out r out') e a

-- ---- a whole text, from the start

written_front : (pre text out : List ℕ) → written (length pre) text (pre ++ out) ≡ pre ++ (take (length out) text ++ drop (length text) out)
unfolding written
written_front pre [] out = ap (λ (l : List ℕ). pre ++ (l ++ out)) (sym (take-nil (length out)))
written_front pre (b ∷ bs) [] =
    ap (λ (l : List ℕ). written (length pre) (b ∷ bs) l) (append-nil pre) ∙ written_past (length pre) (b ∷ bs) pre (omega arith)
    ∙ sym (append-nil pre)
written_front pre (b ∷ bs) (y ∷ ys) =
    ap (written (suc (length pre)) bs) (set-append_seam pre y ys b ∙ sym (append_snoc pre b ys))
    ∙ ap (λ (k : ℕ). written k bs (pre ++ (b ∷ []) ++ ys)) (sym (length-append pre (b ∷ []) ∙ add-suc (length pre) 0 ∙ ap suc (add-zero (length pre))))
    ∙ written_front (pre ++ (b ∷ [])) bs ys
    ∙ append_snoc pre b (take (length ys) bs ++ drop (length bs) ys)

pub printing : {r : ℕ} {text out out' : List ℕ} → Wrote 0 text out r out' → Printing text r out out'
printing {r} {text} {out} {out'} a = record {
  count = let x = a.place in omega arith;
  bytes = a.left ∙ written_front [] text out;
}

-- ---- pieces on a page

pub both : {p q r : Page} {a b : List ℕ} → Writes p a q → Writes q b r → Writes p (a ++ b) r
both x y = record { same_reference = y.same_reference ∙ x.same_reference; wrote = join x.wrote y.wrote }

-- the same text by another name
pub put : {p q : Page} {a b : List ℕ} → a ≡ b → Writes p a q → Writes p b q
put e x = record { same_reference = x.same_reference; wrote = spelled e x.wrote }

-- a text byte by byte
pub more : {p q r : Page} (s : List ℕ) (i : ℕ) → i < length s → Writes p (take i s) q → Writes q (get_or s i 0 ∷ []) r → Writes p (take (i + 1) s) r
more s i h a b = put (sym (take-suc s i 0 h) ∙ ap (λ (k : ℕ). take k s) (sym (add-one i))) (both a b)

pub all : {p q : Page} (s : List ℕ) (i : ℕ) → length s ≤ i → Writes p (take i s) q → Writes p s q
all s i h a = put (take_all i s h) a

-- a whole text, from the start of the buffer
pub page_printed : {p q : Page} {text out out' : List ℕ} → Writes p text q → p.at ≡ 0 → p.out.now ≡ out → q.out.now ≡ out' → Printing text q.at out out'
page_printed {p} {q} {text} {out} x e f g = printing (rw (e, f, g) at x.wrote)
