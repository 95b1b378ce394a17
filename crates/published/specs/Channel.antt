-- The six channels on complex coefficients. Their multipliers are those of terms (`action_of`).
use Rattle.std.specs.Prelude.{ℕ, cond, ◌||◌, List, [], ◌∷◌, ◌++◌, map, get_or, Float}
use Rattle.std.specs.Float.{nan}
use Rattle.numbers.specs.Tests.{is_zero}
use Rattle.words.specs.Keys.{flip_at, z_at, has_letter}
use Rattle.terms.specs.declared.ChannelKind.{ChannelKind}
use Rattle.terms.specs.declared.ChannelKind.TheVariants.{Local, Depolarizing2q}
use Rattle.terms.specs.declared.ChannelAction.{ChannelAction}
use Rattle.terms.specs.Lists.{foldl}
use Rattle.terms.specs.Channel.{is_zletter, letter_index}
use Rattle.published.specs.Complex.{scaled_of}
use Rattle.published.specs.Term.{Term, term, is_in, add_to}

-- "to the identity term, appended if absent"
unfoldable pub insert : List Term → Term → List Term
insert ts t = cond (is_in t.key ts) (add_to t.key t.coeff ts) (ts ++ (t ∷ []))

-- "damp and thermal first add Z's old coefficient, times `z_to_identity` if that isn't 0, to the identity term":
-- the same word with z cleared at the target
abbrev pub branch : ℕ → ℕ → Float → List Term → Term → List Term
branch w q f ts t = cond (is_zletter w q t.key) (insert ts (term (flip_at t.key (z_at w q)) (scaled_of f t.coeff))) ts

abbrev pub with_branches : ℕ → ℕ → Float → List Term → List Term
with_branches w q f ts = cond (is_zero f) ts (foldl (branch w q f) ts ts)

-- each term times the multiplier of its letter at the target
abbrev pub scaled_letter : ℕ → ℕ → List Float → Term → Term
scaled_letter w q l t =
    cond (has_letter w t.key q) (term t.key (scaled_of (get_or l (letter_index w q t.key) nan) t.coeff)) t

unfoldable pub scaled_local : ℕ → ℕ → List Float → List Term → List Term
scaled_local w q l ts = map (scaled_letter w q l) ts

-- "depol2 scales each term that has a letter on at least one target"
abbrev pub scaled_either : ℕ → ℕ → ℕ → Float → Term → Term
scaled_either w a b f t = cond (has_letter w t.key a || has_letter w t.key b) (term t.key (scaled_of f t.coeff)) t

-- `apply_backward_channel`: "damp and thermal first add .."
abbrev pub channel_by : ChannelKind → ℕ → ℕ → ℕ → ChannelAction → List Term → List Term
channel_by Local w a b c ts = scaled_local w a c.lambda (with_branches w a c.z_to_identity ts)
channel_by Depolarizing2q w a b c ts = map (scaled_either w a b (get_or c.lambda 0 nan)) ts

unfoldable pub channeled : ℕ → ℕ → ℕ → ChannelAction → List Term → List Term
unfolding scaled_local
channeled w a b c ts = channel_by c.kind w a b c ts
