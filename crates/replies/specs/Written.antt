-- A text in a lent buffer, from some place on.
use Rattle.std.specs.Prelude.{ℕ, suc, ◌+◌, min, ◌≡◌, List, [], ◌∷◌, ◌++◌, length, take, drop, set}
use Rattle.replies.specs.declared.Page.{Page}

-- the buffer with the text at a place; what goes past the end is not written
unfoldable pub written : ℕ → List ℕ → List ℕ → List ℕ
written at [] out = out
written at (b ∷ bs) out = written (suc at) bs (set out at b)

-- the place after the text, or the end of the buffer
abbrev pub place_after : ℕ → List ℕ → List ℕ → ℕ
place_after at s out = min (at + length s) (length out)

-- what a piece leaves that is written at a place: the place after it, and the buffer
pub record Wrote (at : ℕ) (piece out : List ℕ) (r : ℕ) (out' : List ℕ) : Type 0 where
  pub place : r ≡ place_after at piece out
  pub left : out' ≡ written at piece out

-- the same of a page: it is the same buffer, and the piece is written at the page's place
pub record Writes (p : Page) (piece : List ℕ) (q : Page) : Type 0 where
  pub same_reference : q.out.ghost_name ≡ p.out.ghost_name
  pub wrote : Wrote p.at piece p.out.now q.at q.out.now

-- what printing leaves: how many bytes were written; the text as far as the buffer reaches, and the rest of the buffer as it was
pub record Printing (text : List ℕ) (r : ℕ) (out out' : List ℕ) : Type 0 where
  pub count : r ≡ min (length text) (length out)
  pub bytes : out' ≡ take (length out) text ++ drop (length text) out
