-- The letter of a word at a qubit, as the index of its multiplier: X, Y, Z are 0, 1, 2.
use Rattle.std.specs.Prelude.{ℕ, cond, Option, Some, None, List, get_or, Float}
use Rattle.std.specs.Float.{nan}
use Rattle.words.specs.Keys.{Key, has_letter}
use Rattle.terms.specs.Channel.{letter_index}

unfoldable pub letter_of : ℕ → ℕ → Key → Option ℕ
letter_of w q k = cond (has_letter w k q) (Some (letter_index w q k)) None

-- the multiplier of a letter
abbrev pub multiplier : List Float → Option ℕ → Option Float
multiplier l (Some i) = Some (get_or l i nan)
multiplier l None = None

-- the multiplier of a word's letter at q
unfoldable pub letter_factor : ℕ → ℕ → List Float → Key → Option Float
letter_factor w q l k = multiplier l (letter_of w q k)
