-- The answers now beside those before, from the verdict now and the one before (`compared`). Assumes nothing.
use Prim.Native.Nat.{ℕ}
use mathlib.Core.Path.{◌≡◌, refl, sym, ap, ◌∙◌, subst}
use mathlib.Core.Bool.{Bool, true, false, cond, ◌&&◌}
use mathlib.Core.List.{List, []}
use lib.Dec.{ltb}
use lib.ListN.{length}
use lib.Ieee.{Float}
use Rattle.words.specs.Keys.{width_of}
use Rattle.rows.specs.Rows.{rows_in}
use Rattle.text.specs.Bytes.{parts, newline}
use Rattle.dynamics.specs.Turn.{Stage, refused, going, Outcome}
use Rattle.layout.specs.declared.Head.{Head}
use Rattle.layout.specs.Layout.{head_of, sheet_ops}
use Rattle.replies.specs.Printed.{printed}
use Rattle.questions.specs.Verdict.{Verdict, RefusedAt, Passed}
use Rattle.questions.specs.Questions.{verdict}
use Rattle.sheet.specs.Answer.{refusal, run_of, reply_run, reply_to, reply_of, means_to, printed_of, LeavesBy}
use Rattle.sheet.specs.Screen.{bench}
use Rattle.changes.specs.Compared.{Change, reply_before, printed_before, bench_before, is_moved, moved_to, Compared}

pub and_false : (b : Bool) → (b && false) ≡ false
and_false true = refl
and_false false = refl

each : {A D : Type 0} (f : A → D) (b : Bool) (x y : A) → f (cond b x y) ≡ cond b (f x) (f y)
each f true x y = refl
each f false x y = refl

-- the verdict now, from the verdict before
abbrev pub raised : Change → Head → List (List ℕ) → Verdict → Verdict
raised c h ls (RefusedAt n k) = cond (c.moves h ls n k) (RefusedAt c.number (c.line h ls)) (RefusedAt n k)
raised c h ls Passed = cond (c.moves h ls 0 0) (RefusedAt c.number (c.line h ls)) Passed

-- 8 and 9 of a run, which stand at line 0, move as a success does
abbrev pub RunsAlike : Change → Type 0
RunsAlike c = (h : Head) (ls : List (List ℕ)) (n : ℕ) → c.moves h ls n 0 ≡ c.moves h ls 0 0

abbrev pub IsRaised : Change → Type 0
IsRaised c = (h : Head) (ls : List (List ℕ)) (rows places : ℕ) → verdict h ls rows places ≡ raised c h ls (c.before h ls rows places)

module _ (c : Change) (runs : RunsAlike c) where
  module _ (h : Head) (ls : List (List ℕ)) where
    -- whether a verdict's answer moves
    moves_of : Verdict → Bool
    moves_of v = c.moves h ls (reply_to h ls v).status (reply_to h ls v).line

    moves_passed : moves_of Passed ≡ c.moves h ls 0 0
    unfolding moves_of
    moves_passed = go (run_of h ls)
      where
        go : (run : Stage Outcome) → c.moves h ls (reply_run h.run (sheet_ops h ls) run).status (reply_run h.run (sheet_ops h ls) run).line ≡ c.moves h ls 0 0
        go (refused n) = runs h ls n
        go (going o) = refl

    raised_is : (v : Verdict) → raised c h ls v ≡ cond (moves_of v) (RefusedAt c.number (c.line h ls)) v
    unfolding moves_of
    raised_is (RefusedAt n k) = refl
    raised_is Passed = ap (λ (b : Bool). cond b (RefusedAt c.number (c.line h ls)) Passed) (sym moves_passed)

  module _ (is : IsRaised c) where
    -- what is made of the verdict: the same of the one before, unless it moves
    made_is : {D : Type 0} (f : (h : Head) → List (List ℕ) → Verdict → D) (h : Head) (ls : List (List ℕ)) (rows places : ℕ)
        → f h ls (verdict h ls rows places)
        ≡ cond (moves_of h ls (c.before h ls rows places)) (f h ls (RefusedAt c.number (c.line h ls))) (f h ls (c.before h ls rows places))
    made_is f h ls rows places =
        let v = c.before h ls rows places in
        ap (f h ls) (is h ls rows places ∙ raised_is h ls v) ∙ each (f h ls) (moves_of h ls v) (RefusedAt c.number (c.line h ls)) v

    reply_is : (s : List ℕ) (rows places : ℕ) → reply_of s rows places ≡ cond (is_moved c s rows places) (moved_to c s) (reply_before c s rows places)
    unfolding reply_of reply_before moves_of
    reply_is s rows places = let ls = parts newline s in made_is reply_to (head_of ls) ls rows places

    printed_is : (s : List ℕ) (rows places : ℕ)
        → printed_of s rows places ≡ cond (is_moved c s rows places) (printed (moved_to c s) []) (printed_before c s rows places)
    unfolding printed_of printed_before reply_before moves_of
    printed_is s rows places =
        let ls = parts newline s in made_is (λ h ls v. printed (reply_to h ls v) (means_to h ls v)) (head_of ls) ls rows places

    screen_is : (s : List ℕ)
        → bench s ≡ cond (ltb 65536 (length s)) (bench_before c s) (cond (is_moved c s 512 256) (printed (moved_to c s) []) (bench_before c s))
    unfolding bench bench_before
    screen_is s = go (ltb 65536 (length s))
      where
        go : (b : Bool)
            → cond b (printed (refusal 1 0) []) (printed_of s 512 256)
            ≡ cond b (cond b (printed (refusal 1 0) []) (printed_before c s 512 256))
            (cond (is_moved c s 512 256) (printed (moved_to c s) []) (cond b (printed (refusal 1 0) []) (printed_before c s 512 256)))
        go true = refl
        go false = printed_is s 512 256

    module _ (s : List ℕ) (ws ws' : List ℕ) (cs cs' ms ms' : List Float) (ix ix' : List ℕ) (rows : ℕ) where
      abbrev lines : List (List ℕ)
      lines = parts newline s

      abbrev head : Head
      head = head_of lines

      left : LeavesBy head lines (verdict head lines rows (length ms)) ws ws' cs cs' ms ms' ix ix'
          → (b : Bool) → is_moved c s rows (length ms) ≡ b
          → LeavesBy head lines (cond b (RefusedAt c.number (c.line head lines)) (c.before head lines rows (length ms))) ws ws' cs cs' ms ms' ix ix'
      unfolding reply_before moves_of
      left l b e =
          subst (λ (v : Verdict). LeavesBy head lines v ws ws' cs cs' ms ms' ix ix')
          (is head lines rows (length ms) ∙ raised_is head lines (c.before head lines rows (length ms))
          ∙ ap (λ (x : Bool). cond x (RefusedAt c.number (c.line head lines)) (c.before head lines rows (length ms))) e) l

    pub compared : Compared c
    compared = record {
      reply = reply_is;
      text = printed_is;
      screen = screen_is;
      memory = λ s r ws ws' cs cs' ms ms' ix ix' a.
          let rows = rows_in (width_of (head_of (parts newline s)).qubits) ws cs in
          record {
            reply = a.reply ∙ reply_is s rows (length ms);
            moved = left s ws ws' cs cs' ms ms' ix ix' rows a.memory true;
            others = left s ws ws' cs cs' ms ms' ix ix' rows a.memory false;
          };
    }
