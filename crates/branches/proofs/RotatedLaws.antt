-- From the rotation in place to what a rotation leaves, and the widths of the terms in the buffers. Assumes nothing.
use mathlib.Core.Path.{◌≡◌, refl, subst, subst⁻¹}
use mathlib.Core.Bool.{Bool, true, false}
use mathlib.Core.Logic.{⊎_elim}
use mathlib.Core.List.{List, map}
use Prim.Native.Nat.{ℕ, ◌+◌, ◌*◌, ◌^◌, ◌≤◌, ◌<◌}
use native.Mathlib.Omega.{arith}
use lib.Dec.{leb, lit<}
use lib.ListN.{length, get_or-eq_default}
use lib.Ieee.{Float}
use borrow.Author.Tests.{leb-true}
use Rattle.numbers.specs.Tests.{is_zero}
use Rattle.words.specs.Keys.{Words}
use Rattle.terms.specs.declared.Axis.{Axis}
use Rattle.terms.specs.Lists.{All}
use Rattle.terms.specs.Term.{Term, no_term, OnWidth}
use Rattle.terms.specs.Rotation.{met_by, partner_by, scaled_met}
use Rattle.terms.specs.Met.{axis_targets, in_words}
use Rattle.terms.specs.Branch.{branch_to, branched}
use Rattle.terms.proofs.CaseLaws.{lt_or_le}
use Rattle.terms.proofs.ListLaws.{length_tab, get_d_tab}
use Rattle.terms.proofs.AllLaws.{all_of}
use Rattle.terms.proofs.AxisLaws.{axis_branched}
use Rattle.terms.proofs.LetterSteps.{bare_branched}
use Rattle.words.specs.Rows.{key_at}
use Rattle.rows.specs.Rows.{term_at, terms_in, rows_in, met_in, Room, Holds, Grown}
use Rattle.branches.specs.Rotated.{Rotated}
use Rattle.rows.proofs.RowLaws.{word_at, length_key}
use Rattle.rows.proofs.HoldLaws.{room_at, room_less}
use Rattle.rows.proofs.StepLaws.{rows_room, grown, unstepped}
use Rattle.rows.proofs.LetterRows.{untouched_bare, same_grown, once}

-- ---- every row of a buffer of 64-bit words has a key of the width

module _ (w n : ℕ) (ws : List ℕ) (cs : List Float) (room : Room (2 * w) n ws cs) (ok : Words ws) where
  row_words : (i : ℕ) → i < n → Words (key_at (2 * w) ws i)
  row_words i h j = ⊎_elim
      (λ (l : j < 2 * w). subst⁻¹ (λ (v : ℕ). v < 2 ^ 64) (word_at (2 * w) ws i j l) (ok (i * (2 * w) + j)))
      (λ (l : 2 * w ≤ j).
      let e : length (key_at (2 * w) ws i) ≤ j = rw (length_key (2 * w) ws i (room_at room i h).0) l in
      subst⁻¹ (λ (v : ℕ). v < 2 ^ 64) (get_or-eq_default (key_at (2 * w) ws i) 0 e) (lit< tt))
      (lt_or_le j (2 * w))

  pub terms_width : All (OnWidth w) (terms_in (2 * w) n ws cs)
  terms_width =
      all_of (OnWidth w) (terms_in (2 * w) n ws cs) no_term
      (λ i h.
      let b : i < n = subst (λ (m : ℕ). i < m) (length_tab n (term_at (2 * w) ws cs)) h in
      subst⁻¹ (OnWidth w) (get_d_tab n (term_at (2 * w) ws cs) i no_term b)
      (record { long = length_key (2 * w) ws i (room_at room i b).0; words = row_words i b }))

-- ---- the rotation

module _ (w n : ℕ) (x : Axis) (sin cos : Float) (ws : List ℕ) (cs : List Float) where
  abbrev ts : List Term
  ts = terms_in (2 * w) n ws cs

  long : length ts ≡ n
  long = length_tab n (term_at (2 * w) ws cs)

  -- the two results are one where the keys are distinct
  both : {r : ℕ} {ws' : List ℕ} {cs' : List Float} → Words ws → leb (2 * n) (rows_in w ws cs) ≡ true
      → Grown w n (branched w (met_by x) (partner_by w x) sin cos ts) r ws ws' cs cs' → Rotated w n x sin cos r ws ws' cs cs'
  both {r} {ws'} {cs'} ok e G =
      let room = room_less {R = n} (omega arith) (rows_room w (2 * n) ws cs (leb-true (2 * n) _ e)) in
      record {
        in_place = G;
        from_old = λ on distinct. subst (λ (us : List Term). Grown w n us r ws ws' cs cs') (axis_branched w x sin cos ts on (terms_width w n ws cs room ok) distinct) G;
      }

  -- the sine is 0
  pub rotated_scaled : {ws' : List ℕ} {cs' : List Float} → Words ws → leb (2 * n) (rows_in w ws cs) ≡ true → is_zero sin ≡ true
      → Holds (2 * w) n n (map (scaled_met w (met_by x) (partner_by w x) sin cos) ts) ws ws' cs cs' → Rotated w n x sin cos n ws ws' cs cs'
  unfolding branched
  rotated_scaled ok e z H = both ok e (grown w n _ e (omega arith) (rw z H))

  -- the sine is not 0
  pub rotated_branched : {r : ℕ} {ws' : List ℕ} {cs' : List Float} → Words ws → leb (2 * n) (rows_in w ws cs) ≡ true → is_zero sin ≡ false → r ≤ 2 * n
      → Holds (2 * w) r r (branch_to w (met_by x) (partner_by w x) sin cos n n ts) ws ws' cs cs' → Rotated w n x sin cos r ws ws' cs cs'
  unfolding branched
  rotated_branched ok e z h H = both ok e (grown w n _ e h (rw (z, long) H))

  -- no room
  pub unrotated : leb (2 * n) (rows_in w ws cs) ≡ false → Rotated w n x sin cos n ws ws cs cs
  unrotated e = record { in_place = unstepped w (2 * n) _ n _ ws cs e; from_old = λ on distinct. unstepped w (2 * n) _ n _ ws cs e }

  -- no term has a letter at a target
  pub rotated_none : Words ws → met_in w (axis_targets x) n ws cs ≡ 0 → in_words w (axis_targets x) ≡ true → Rotated w n x sin cos n ws ws cs cs
  rotated_none ok m f = go (leb (2 * n) (rows_in w ws cs)) refl
    where
      go : (b : Bool) → leb (2 * n) (rows_in w ws cs) ≡ b → Rotated w n x sin cos n ws ws cs cs
      go true e = both ok e (same_grown w n _ ws cs (λ d. bare_branched w x sin cos ts (untouched_bare w n (axis_targets x) ws cs m f (once w n ws cs d))))
      go false e = unrotated e
