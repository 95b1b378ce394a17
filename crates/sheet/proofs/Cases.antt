-- "A to J are proved together as one table over the definitions": from the bytes of each sheet to the bytes printed.
use Prim.Native.String as string
use Prim.Native.Nat.{ℕ}
use mathlib.Core.Path.{◌≡◌, refl}
use mathlib.Core.List.{List, [], ◌∷◌, ◌++◌, map}
use lib.Ieee.{neg, add, sub, mul, div, lt, le, eq, of_bits, to_bits}
use Rattle.numbers.specs.Root.{sqrt_of}
use Rattle.numbers.specs.Angle.{cut_of}
use Rattle.numbers.specs.Shown.{ruled, shown_of}
use Rattle.words.specs.Keys.{bit_of, flip_of, bit_at, flip_at, all_zero, same_key}
use Rattle.words.specs.Gates.{conj_key}
use Rattle.terms.specs.Lists.{foldl}
use Rattle.terms.specs.Term.{find, is_in, add_to, conjugated, all_finite}
use Rattle.words.specs.Letters.{count_y}
use Rattle.terms.specs.Start.{term_of, share}
use Rattle.terms.specs.Rotation.{met_by, partner_by, appended_rows, rotated}
use Rattle.terms.specs.Channel.{damp_action, action_of, insert, scaled_local, channeled}
use Rattle.terms.specs.Truncation.{kept_of}
use Rattle.terms.specs.Met.{letter_among}
use Rattle.ops.specs.Ops.{t_count, on_words}
use Rattle.dynamics.specs.Acts.{act, met}
use Rattle.dynamics.specs.Turn.{checked, settle, ended, finish}
use Rattle.dynamics.specs.Runs.{runs, marked_run}
use Rattle.ops.specs.Marks.{member, touches, cone_of, mark_cone}
use Rattle.ops.specs.Task.{every, letters_below}
use Rattle.dynamics.specs.Outcome.{terms_of, fold_lines, all_runs}
use Rattle.text.specs.Bytes.{bytes, on_first, parts, index, begins}
use Rattle.text.specs.Numerals.{steps, next_digit, decimal, hex_digit, next_hex, hex16, decimal_text, hex_text}
use Rattle.lines.specs.Fields.{run_field}
use Rattle.lines.specs.TermLines.{is_factor, are_factors, factor_texts, is_term, factor_of, line_on, distinct, placed}
use Rattle.lines.specs.OpLines.{name_of, targets_in, reals_in, op_after, op}
use Rattle.layout.specs.Layout.{head_kind, later_kind, kind, is_laid_out, bad_line, head_of}
use Rattle.replies.specs.Printed.{z_lines, printed}
use Rattle.questions.specs.Questions.{first_of, first_fault, verdict}
use Rattle.sheet.specs.Answer.{printed_of}

-- opens the definitions that the cases compute
unfoldable pub computed : Unit {0}
unfolding neg add sub mul div lt le eq of_bits to_bits sqrt_of cut_of ruled shown_of bit_of flip_of bit_at flip_at all_zero same_key conj_key foldl find is_in
    add_to conjugated all_finite count_y term_of share met_by partner_by appended_rows rotated damp_action action_of insert scaled_local channeled kept_of t_count
    on_words act met letter_among checked settle ended finish runs marked_run member touches cone_of mark_cone every letters_below terms_of fold_lines all_runs on_first parts
    index begins steps next_digit decimal hex_digit next_hex hex16 decimal_text hex_text run_field is_factor are_factors factor_texts is_term factor_of line_on
    placed name_of targets_in reals_in op_after op head_kind later_kind kind is_laid_out bad_line head_of z_lines printed distinct first_of first_fault verdict printed_of
computed = tt

pub record Row : Type 0 where
  pub sheet : List ℕ
  pub printed : List ℕ

-- lines, each ended by byte 10
abbrev pub text : List string.String → List ℕ
text [] = []
text (l ∷ ls) = bytes l ++ (10 ∷ text ls)

abbrev row : List string.String → List string.String → Row
row s p = record { sheet = text s; printed = text p }

abbrev pub cases : List Row
cases =
    -- (A)
    row
    ("qubits=1" ∷ "run=full" ∷ "epsilon=0000000000000000" ∷ "max_terms=0" ∷ "limit=8" ∷ "terms=1" ∷ "term=3ff0000000000000:X0" ∷
    "ops=2" ∷ "op=h:0" ∷ "op=t:0" ∷ [])
    ("status=0" ∷ "line=0" ∷ "mean=3fe6a09e667f3bcd" ∷ "shown=707" ∷ "t_count=1" ∷ "peak_terms=2" ∷ "touched=3" ∷ "discarded=0000000000000000" ∷ [])
    ∷
    -- (B: limit 1)
    row
    ("qubits=1" ∷ "run=full" ∷ "epsilon=0000000000000000" ∷ "max_terms=0" ∷ "limit=1" ∷ "terms=1" ∷ "term=3ff0000000000000:X0" ∷
    "ops=2" ∷ "op=h:0" ∷ "op=t:0" ∷ [])
    ("status=9" ∷ "line=0" ∷ "mean=0000000000000000" ∷ "shown=0" ∷ "t_count=0" ∷ "peak_terms=0" ∷ "touched=0" ∷ "discarded=0000000000000000" ∷ [])
    ∷
    -- (B: limit 2)
    row
    ("qubits=1" ∷ "run=full" ∷ "epsilon=0000000000000000" ∷ "max_terms=0" ∷ "limit=2" ∷ "terms=1" ∷ "term=3ff0000000000000:X0" ∷
    "ops=2" ∷ "op=h:0" ∷ "op=t:0" ∷ [])
    ("status=0" ∷ "line=0" ∷ "mean=3fe6a09e667f3bcd" ∷ "shown=707" ∷ "t_count=1" ∷ "peak_terms=2" ∷ "touched=3" ∷ "discarded=0000000000000000" ∷ [])
    ∷
    -- (C: max_terms 1, epsilon 0.8)
    row
    ("qubits=1" ∷ "run=full" ∷ "epsilon=3fe999999999999a" ∷ "max_terms=1" ∷ "limit=8" ∷ "terms=1" ∷ "term=3ff0000000000000:X0" ∷
    "ops=2" ∷ "op=h:0" ∷ "op=t:0" ∷ [])
    ("status=0" ∷ "line=0" ∷ "mean=0000000000000000" ∷ "shown=0" ∷ "t_count=1" ∷ "peak_terms=1" ∷ "touched=1" ∷ "discarded=3ff6a09e667f3bcc" ∷ [])
    ∷
    -- (D: t replaced by rz sine 1, cosine 0)
    row
    ("qubits=1" ∷ "run=full" ∷ "epsilon=0000000000000000" ∷ "max_terms=0" ∷ "limit=8" ∷ "terms=1" ∷ "term=3ff0000000000000:X0" ∷
    "ops=2" ∷ "op=h:0" ∷ "op=rz:0:3ff0000000000000,0000000000000000" ∷ [])
    ("status=0" ∷ "line=0" ∷ "mean=0000000000000000" ∷ "shown=0" ∷ "t_count=1" ∷ "peak_terms=1" ∷ "touched=2" ∷ "discarded=0000000000000000" ∷ [])
    ∷
    -- (E: term X0,Y0)
    row
    ("qubits=1" ∷ "run=full" ∷ "epsilon=0000000000000000" ∷ "max_terms=0" ∷ "limit=8" ∷ "terms=1" ∷ "term=3ff0000000000000:X0,Y0" ∷
    "ops=2" ∷ "op=h:0" ∷ "op=t:0" ∷ [])
    ("status=6" ∷ "line=7" ∷ "mean=0000000000000000" ∷ "shown=0" ∷ "t_count=0" ∷ "peak_terms=0" ∷ "touched=0" ∷ "discarded=0000000000000000" ∷ [])
    ∷
    -- (E: term X1)
    row
    ("qubits=1" ∷ "run=full" ∷ "epsilon=0000000000000000" ∷ "max_terms=0" ∷ "limit=8" ∷ "terms=1" ∷ "term=3ff0000000000000:X1" ∷
    "ops=2" ∷ "op=h:0" ∷ "op=t:0" ∷ [])
    ("status=5" ∷ "line=7" ∷ "mean=0000000000000000" ∷ "shown=0" ∷ "t_count=0" ∷ "peak_terms=0" ∷ "touched=0" ∷ "discarded=0000000000000000" ∷ [])
    ∷
    -- (F: no factors)
    row
    ("qubits=1" ∷ "run=full" ∷ "epsilon=0000000000000000" ∷ "max_terms=0" ∷ "limit=8" ∷ "terms=1" ∷ "term=3ff0000000000000:" ∷
    "ops=2" ∷ "op=h:0" ∷ "op=t:0" ∷ [])
    ("status=0" ∷ "line=0" ∷ "mean=3ff0000000000000" ∷ "shown=1000" ∷ "t_count=1" ∷ "peak_terms=1" ∷ "touched=0" ∷ "discarded=0000000000000000" ∷ [])
    ∷
    -- (G: terms Z0 weights 1 and -1, no ops)
    row
    ("qubits=1" ∷ "run=full" ∷ "epsilon=0000000000000000" ∷ "max_terms=0" ∷ "limit=8" ∷ "terms=2" ∷ "term=3ff0000000000000:Z0" ∷
    "term=bff0000000000000:Z0" ∷ "ops=0" ∷ [])
    ("status=0" ∷ "line=0" ∷ "mean=0000000000000000" ∷ "shown=0" ∷ "t_count=0" ∷ "peak_terms=1" ∷ "touched=0" ∷ "discarded=0000000000000000" ∷ [])
    ∷
    -- (H: path, Z0, one damp 1.0)
    row
    ("qubits=1" ∷ "run=path" ∷ "epsilon=0000000000000000" ∷ "max_terms=0" ∷ "limit=8" ∷ "terms=1" ∷ "term=3ff0000000000000:Z0" ∷
    "ops=1" ∷ "op=damp:0:3ff0000000000000" ∷ [])
    ("status=0" ∷ "line=0" ∷ "mean=3ff0000000000000" ∷ "shown=1000" ∷ "t_count=0" ∷ "peak_terms=2" ∷ "touched=1" ∷ "discarded=0000000000000000" ∷ [])
    ∷
    -- (I: two qubits, terms X0 and X1, limit 2, one t on 0: folded)
    row
    ("qubits=2" ∷ "run=full" ∷ "epsilon=0000000000000000" ∷ "max_terms=0" ∷ "limit=2" ∷ "terms=2" ∷ "term=3ff0000000000000:X0" ∷
    "term=3ff0000000000000:X1" ∷ "ops=1" ∷ "op=t:0" ∷ [])
    ("status=0" ∷ "line=0" ∷ "mean=0000000000000000" ∷ "shown=0" ∷ "t_count=1" ∷ "peak_terms=2" ∷ "touched=1" ∷ "discarded=0000000000000000" ∷ [])
    ∷
    -- (J: cone, two qubits, Z0, h on 1: skipped)
    row
    ("qubits=2" ∷ "run=cone" ∷ "epsilon=0000000000000000" ∷ "max_terms=0" ∷ "limit=8" ∷ "terms=1" ∷ "term=3ff0000000000000:Z0" ∷
    "ops=1" ∷ "op=h:1" ∷ [])
    ("status=0" ∷ "line=0" ∷ "mean=3ff0000000000000" ∷ "shown=1000" ∷ "t_count=0" ∷ "peak_terms=1" ∷ "touched=0" ∷ "discarded=0000000000000000" ∷ [])
    ∷ []

-- with the 512 rows and 256 mean places of the program `bench`
pub table : map (λ r. printed_of r.sheet 512 256) cases ≡ map (λ r. r.printed) cases
unfolding computed
table = refl
