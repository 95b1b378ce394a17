-- What is looked for from a row: as a key, and word by word.
use Rattle.std.specs.Prelude.{ℕ, ◌/◌, ◌%◌, Bool, true, not, cond, eqb}
use Rattle.words.specs.Keys.{Key, bit_at, flip_of, flip_at, z_at}
use Rattle.terms.specs.declared.Axis.{Axis}
use Rattle.terms.specs.declared.Axis.TheVariants.{Z, Zz}
use Rattle.terms.specs.Rotation.{partner_by}
use Rattle.branches.specs.declared.Sought.{Sought}
use Rattle.branches.specs.declared.Sought.TheVariants.{Same, Partner, Identity}

-- the key looked for from a row with the key k
abbrev pub sought_by : ℕ → Sought → Key → Key
sought_by w Same k = k
sought_by w (Partner x) k = partner_by w x k
sought_by w (Identity q) k = flip_at k (z_at w q)

-- Which keys the index has: every one that is looked for from a row that seeks one. Of identity branches these are the ones with z clear.
abbrev pub files : ℕ → Sought → Key → Bool
files w Same k = true
files w (Partner x) k = true
files w (Identity q) k = not (bit_at k (z_at w q))

-- word k of a key whose word k was v, after z of qubit q is flipped
unfoldable pub flipped_word : ℕ → ℕ → ℕ → ℕ → ℕ
flipped_word w q k v = cond (eqb k (z_at w q / 64)) (flip_of v (z_at w q % 64)) v

unfoldable pub partner_word : ℕ → Axis → ℕ → ℕ → ℕ
unfolding flipped_word
partner_word w (Z q) k v = flipped_word w q k v
partner_word w (Zz a b) k v = flipped_word w b k (flipped_word w a k v)

-- word k of the key looked for
unfoldable pub sought_word : ℕ → Sought → ℕ → ℕ → ℕ
unfolding flipped_word partner_word
sought_word w Same k v = v
sought_word w (Partner x) k v = partner_word w x k v
sought_word w (Identity q) k v = flipped_word w q k v
