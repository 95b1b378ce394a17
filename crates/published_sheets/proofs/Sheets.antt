-- Whatever its bytes, a sheet's words have the width and its weights are binary64 numbers: so the published runs of every sheet and the stored
-- ones name the same coefficients, and one part of every coefficient is zero. Assumes nothing.
use Prim.Native.Nat.{ℕ}
use mathlib.Core.List.{List, [], ◌∷◌, map}
use Rattle.words.specs.Keys.{width_of}
use Rattle.terms.specs.Lists.{All}
use Rattle.terms.specs.Start.{term_of}
use Rattle.ops.specs.Task.{Line}
use Rattle.lines.specs.TermLines.{line_on, word_line}
use Rattle.lines.proofs.BinaryLaws.{term_line_is}
use Rattle.lines.proofs.WordLaws.{length_word, words_word}
use Rattle.layout.specs.declared.Head.{Head}
use Rattle.sheet.specs.Answer.{task_of}
use lib.ListN.{take, drop}
use Rattle.published.specs.OneReal.{Given, OneReal}
use Rattle.published.specs.OnePart.{OnePart}
use Rattle.published.proofs.SameRuns.{one_real}
use Rattle.published.proofs.PartedRuns.{one_part}

pub sheet_given : (h : Head) (ls : List (List ℕ)) → All (Given (width_of h.qubits)) (task_of h ls).lines
unfolding term_of
sheet_given h ls = go (take h.terms (drop 6 ls))
  where
    go : (ts : List (List ℕ)) → All {A = Line} (Given (width_of h.qubits)) (map (word_line (width_of h.qubits)) (map line_on ts))
    go [] = tt
    go (t ∷ ts) = (
      record {
        wide = record { long = length_word (width_of h.qubits) (line_on t).factors; words = words_word (width_of h.qubits) (line_on t).factors };
        weight = term_line_is t;
      },
      go ts,
    )

pub one_real_sheets : (h : Head) (ls : List (List ℕ)) → OneReal (task_of h ls)
one_real_sheets h ls = one_real (task_of h ls) (sheet_given h ls)

pub one_part_sheets : (h : Head) (ls : List (List ℕ)) → OnePart (task_of h ls)
one_part_sheets h ls = one_part (task_of h ls) (sheet_given h ls)
