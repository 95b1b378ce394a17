-- The whole text lies in a buffer of 8,192 bytes, and a buffer of 65,537 takes enough of every input. Assumes nothing.
use Rattle.std.proofs.Common.{◌≡◌, ℕ, ◌≤◌, ◌<◌, List, length, take, drop, arith, refl, subst, sym, ap, ◌∙◌}
use mathlib.Core.Logic.{⊎_elim}
use Rattle.std.proofs.lemmas.List.{length-take-le, take_all}
use Rattle.std.specs.declared.option.Option.{Option}
use Rattle.std.specs.Prelude.{None, Some, Ok}
use Rattle.input.specs.Pieces.{HoldsFront}
use Rattle.replies.specs.Written.{Printing}
use Rattle.sheet.specs.Screen.{bench}
use Rattle.console.specs.Told.{Shown}
use Rattle.console.specs.Delivery.{Fed, IsInput, LosesFront}
use Rattle.console.specs.declared.Told.{Told}
use Rattle.terms.proofs.CaseLaws.{lt_or_le}
use Rattle.sheet.proofs.LengthLaws.{bench_fits, whole_text}
use Rattle.sheet.proofs.ScreenLaws.{bench_long}

-- what is shown for the first k bytes of the buffer, once it was printed
pub screened : (k n : ℕ) (buf out out' : List ℕ) → k ≤ length buf → Printing (bench (take k buf)) n out out' → length out ≡ 8192 → length out' ≡ length out
    → Shown k n buf out'
screened k n buf out out' read p long kept =
    let room : length (bench (take k buf)) ≤ length out = subst (λ (m : ℕ). length (bench (take k buf)) ≤ m) (sym long) (bench_fits (take k buf)) in
    record {
      read = read;
      whole = omega (arith, p.count, kept, room);
      shown = whole_text (bench (take k buf)) n out out' p room;
    }

-- an input that does not fit is too long, whatever follows
bench_cut : (s : List ℕ) → bench (take 65537 s) ≡ bench s
bench_cut s =
    ⊎_elim
    (λ (h : length s < 65537). ap bench (take_all 65537 s (omega arith)))
    (λ (h : 65537 ≤ length s). sym (bench_long (take 65537 s) (omega (arith, length-take-le 65537 s h))) ∙ bench_long s (omega arith))
    (lt_or_le (length s) 65537)

pub fed : (E F : Type 0) (old new : Option (List ℕ)) (buf : List ℕ) (t : Told) → length buf ≡ 65537 → HoldsFront {E = E} old new buf (Ok t.read)
    → Fed {E = F} old new buf (Ok t)
fed E F None new buf t long h = tt
fed E F (Some s) new buf t long h =
    (ap bench h.0 ∙ subst (λ (m : ℕ). bench (take m s) ≡ bench s) (sym long) (bench_cut s), h.1)

-- the input that a text is for
pub input_of : (E : Type 0) (old new : Option (List ℕ)) (buf : List ℕ) (t : Told) → Fed {E = E} old new buf (Ok t)
    → (xs : List ℕ) × IsInput old xs × (bench (take t.read buf) ≡ bench xs)
input_of E None new buf t f = (take t.read buf, tt, refl)
input_of E (Some s) new buf t f = (s, refl, f.0)

-- .. and what the reader has left
pub lost : (E : Type 0) (old new : Option (List ℕ)) (buf : List ℕ) (t : Told) → length buf ≡ 65537 → Fed {E = E} old new buf (Ok t) → LosesFront old new
lost E None new buf t long f = tt
lost E (Some s) new buf t long f = f.1 ∙ ap (λ (m : ℕ). Some (drop m s)) long
