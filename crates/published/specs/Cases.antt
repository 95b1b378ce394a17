-- Worked values, on one or two qubits: a key is one x-word and one z-word.
use Rattle.std.specs.Prelude.{◌≡◌, refl, List, [], ◌∷◌, Float}
use Rattle.std.specs.Float.Ieee.{neg, add, sub, mul, lt, eq, of_bits}
use Rattle.numbers.specs.Constants.{zero64, one64, minus_one64, two64, three64, sine_t, cosine_t}
use Rattle.numbers.specs.Root.{sqrt_of}
use Rattle.words.specs.Keys.{Key, bit_of, flip_of, bit_at, flip_at, same_key}
use Rattle.terms.specs.declared.Axis.{Axis}
use Rattle.terms.specs.declared.Axis.TheVariants.{Z, Zz}
use Rattle.terms.specs.declared.NoiseChannel.TheVariants.{AmplitudeDamping}
use Rattle.terms.specs.Lists.{foldl}
use Rattle.published.specs.Complex.{complex, quarter_turned, size_of}
use Rattle.published.specs.Term.{Term, term, find, is_in, add_to}
use Rattle.words.specs.Letters.{count_y}
use Rattle.published.specs.Start.{term_of, share, merged}
use Rattle.terms.specs.Rotation.{met_by, partner_by}
use Rattle.published.specs.Rotation.{appended_rows, rotated}
use Rattle.terms.specs.Channel.{damp_action, action_of}
use Rattle.published.specs.Channel.{insert, scaled_local, channeled}
use Rattle.published.specs.Truncation.{kept_of, dropped_of}

-- x and z of a word, with a real or an imaginary coefficient
abbrev real : Key → Float → Term
real k c = term k (complex c zero64)

abbrev imaginary : Key → Float → Term
imaginary k c = term k (complex zero64 c)

abbrev turn : Axis → Float → Float → List Term → List Term
turn x sin cos ts = rotated (met_by x) (partner_by 1 x) sin cos ts

-- the observables X, Y and Z of qubit 0: Y is i times the word XZ
x_line : term_of 1 (1 ∷ 0 ∷ []) one64 ≡ real (1 ∷ 0 ∷ []) one64
unfolding term_of count_y quarter_turned bit_at bit_of of_bits
x_line = refl

y_line : term_of 1 (1 ∷ 1 ∷ []) one64 ≡ term (1 ∷ 1 ∷ []) (complex (neg zero64) one64)
unfolding term_of count_y quarter_turned bit_at bit_of neg of_bits
y_line = refl

-- t takes X to cos X + sin (-i) XZ, and i XZ to cos i XZ + sin X
t_on_x : turn (Z 0) sine_t cosine_t (real (1 ∷ 0 ∷ []) one64 ∷ []) ≡ real (1 ∷ 0 ∷ []) cosine_t ∷ imaginary (1 ∷ 1 ∷ []) (neg sine_t) ∷ []
unfolding rotated met_by partner_by appended_rows find same_key bit_of flip_of bit_at flip_at neg mul eq of_bits
t_on_x = refl

t_on_y : turn (Z 0) sine_t cosine_t (imaginary (1 ∷ 1 ∷ []) one64 ∷ []) ≡ imaginary (1 ∷ 1 ∷ []) cosine_t ∷ term (1 ∷ 0 ∷ []) (complex sine_t (neg zero64)) ∷ []
unfolding rotated met_by partner_by appended_rows find same_key bit_of flip_of bit_at flip_at neg mul eq of_bits
t_on_y = refl

-- a quarter turn rewrites the term
quarter : turn (Z 0) one64 zero64 (real (1 ∷ 0 ∷ []) one64 ∷ []) ≡ imaginary (1 ∷ 1 ∷ []) minus_one64 ∷ []
unfolding rotated met_by partner_by appended_rows find same_key bit_of flip_of bit_at flip_at neg mul eq of_bits
quarter = refl

-- rzz meets X at one target, and not X at both
zz_one : turn (Zz 0 1) sine_t cosine_t (real (1 ∷ 0 ∷ []) one64 ∷ []) ≡ real (1 ∷ 0 ∷ []) cosine_t ∷ imaginary (1 ∷ 3 ∷ []) (neg sine_t) ∷ []
unfolding rotated met_by partner_by appended_rows find same_key bit_of flip_of bit_at flip_at neg mul eq of_bits
zz_one = refl

zz_both : turn (Zz 0 1) sine_t cosine_t (real (3 ∷ 0 ∷ []) one64 ∷ []) ≡ real (3 ∷ 0 ∷ []) one64 ∷ []
unfolding rotated met_by partner_by appended_rows find same_key bit_of flip_of bit_at flip_at neg mul eq of_bits
zz_both = refl

-- damp 1.0 takes all of Z to the identity, which is appended or added to
damp_new : channeled 1 0 0 (action_of (AmplitudeDamping one64)) (real (0 ∷ 1 ∷ []) one64 ∷ []) ≡ real (0 ∷ 1 ∷ []) zero64 ∷ real (0 ∷ 0 ∷ []) one64 ∷ []
unfolding channeled action_of damp_action scaled_local insert is_in foldl same_key bit_of flip_of bit_at flip_at sqrt_of lt sub add mul neg eq of_bits
damp_new = refl

damp_old : channeled 1 0 0 (action_of (AmplitudeDamping one64)) (real (0 ∷ 1 ∷ []) one64 ∷ real (0 ∷ 0 ∷ []) two64 ∷ [])
    ≡ real (0 ∷ 1 ∷ []) zero64 ∷ real (0 ∷ 0 ∷ []) three64 ∷ []
unfolding channeled action_of damp_action scaled_local insert is_in add_to foldl same_key bit_of flip_of bit_at flip_at sqrt_of lt sub add mul neg eq of_bits
damp_old = refl

-- terms below 2 go, their sizes are added; one of size 2 stays
kept : kept_of two64 (real (1 ∷ 0 ∷ []) one64 ∷ imaginary (1 ∷ 1 ∷ []) two64 ∷ real (0 ∷ 1 ∷ []) minus_one64 ∷ []) ≡ imaginary (1 ∷ 1 ∷ []) two64 ∷ []
unfolding kept_of size_of lt neg eq of_bits
kept = refl

dropped : dropped_of two64 (real (1 ∷ 0 ∷ []) one64 ∷ imaginary (1 ∷ 1 ∷ []) two64 ∷ real (0 ∷ 1 ∷ []) minus_one64 ∷ []) ≡ two64
unfolding foldl size_of lt add neg eq of_bits
dropped = refl

-- Z with weights 1 and -1 share a row
cancelled : merged (real (0 ∷ 1 ∷ []) one64 ∷ real (0 ∷ 1 ∷ []) minus_one64 ∷ []) ≡ real (0 ∷ 1 ∷ []) zero64 ∷ []
unfolding share is_in add_to foldl same_key add neg of_bits
cancelled = refl
