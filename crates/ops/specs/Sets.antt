-- Marks as the code makes them: a set of qubits is a list of 256 booleans, and marks are written over those that were there.
use Rattle.std.specs.Prelude.{◌≡◌, ℕ, zero, suc, ◌*◌, ◌<◌, Bool, true, false, ◌||◌, ◌&&◌, cond, List, [], ◌∷◌, ltb, get_or, set}
use Rattle.words.specs.Keys.{Key, has_letter}
use Rattle.terms.specs.Lists.{tab, All}
use Rattle.words.specs.Rows.{key_at}
use Rattle.ops.specs.declared.Op.{Op}
use Rattle.ops.specs.declared.marks.Targets.{Targets}
use Rattle.ops.specs.declared.marks.Targets.TheVariants as T
use Rattle.ops.specs.Ops.{targets}
use Rattle.ops.specs.Marks.{mark_cone}
use Rattle.ops.specs.Task.{qubits_of}

-- a list written over another, as far as both go
unfoldable pub overlay : List Bool → List Bool → List Bool
overlay [] l = l
overlay (m ∷ ms) [] = []
overlay (m ∷ ms) (x ∷ l) = m ∷ overlay ms l

-- the targets of an op, at most two, as a value of the code
abbrev pub packed : List ℕ → Targets
packed [] = T.Nothing
packed (a ∷ []) = T.One a
packed (a ∷ b ∷ qs) = T.Two a b

abbrev pub list_of : Targets → List ℕ
list_of T.Nothing = []
list_of (T.One a) = a ∷ []
list_of (T.Two a b) = a ∷ b ∷ []

-- whether one of several qubits is in a set, and the set with all of them. A qubit at or past 256 is in no set.
unfoldable pub meets_set : List ℕ → List Bool → Bool
meets_set [] s = false
meets_set (q ∷ qs) s = get_or s q false || meets_set qs s

unfoldable pub join_set : List ℕ → List Bool → List Bool
join_set [] s = s
join_set (q ∷ qs) s = set (join_set qs s) q true

unfoldable pub grown_by : List ℕ → List Bool → List Bool
unfolding meets_set join_set
grown_by qs s = cond (meets_set qs s) (join_set qs s) s

-- the set when the ops have been seen, the last first, and the marks of those that it met
unfoldable pub cone_set : List Bool → List Op → List Bool
unfolding grown_by
cone_set s [] = s
cone_set s (op ∷ ops) = let c = cone_set s ops in grown_by (targets op) c

unfoldable pub set_marks : List Bool → List Op → List Bool
unfolding meets_set cone_set
set_marks s [] = []
set_marks s (op ∷ ops) = meets_set (targets op) (cone_set s ops) ∷ set_marks s ops

-- the qubits at which a word of 2 * w words has a letter. From bit 64 * w on a key has z, which is no x of a further qubit.
abbrev pub letter_in : ℕ → Key → ℕ → Bool
letter_in w k q = ltb q (64 * w) && has_letter w k q

unfoldable pub letters_in : ℕ → Key → List Bool
unfolding tab
letters_in w k = tab 256 (letter_in w k)

-- the qubits at which one of the first n words of a table has a letter
unfoldable pub letter_in_any : ℕ → List ℕ → ℕ → ℕ → Bool
letter_in_any w keys zero q = false
letter_in_any w keys (suc n) q = letter_in_any w keys n q || letter_in w (key_at (2 * w) keys n) q

unfoldable pub letters_in_any : ℕ → List ℕ → ℕ → List Bool
unfolding tab letter_in_any
letters_in_any w keys n = tab 256 (letter_in_any w keys n)

-- every target is below 256, so that a set of 256 booleans has all qubits of the ops
abbrev pub TargetsBelow : List Op → Type 0
TargetsBelow ops = All (λ (op : Op). All (λ (q : ℕ). q < 256) (targets op)) ops

-- the marks of the ops in the inverse light cone of a word, written over those that were there: by the set; and, where every target is below 256, as
-- the document has them: "an op is marked if a target is in the set, starting from the observable's qubits; its targets then join"
pub record ConeMarked (w : ℕ) (key : Key) (ops : List Op) (ms ms' : List Bool) : Type 0 where
  pub by_set : ms' ≡ overlay (set_marks (letters_in w key) ops) ms
  pub document : TargetsBelow ops → ms' ≡ overlay (mark_cone (qubits_of w key) ops) ms
