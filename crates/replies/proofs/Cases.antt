-- Worked texts, each by computing the definition. Numbers are written by their bits. Assumes nothing.
use mathlib.Core.Path.{◌≡◌, refl}
use mathlib.Core.List.{[], ◌∷◌, ◌++◌}
use lib.IntN.{pos, negsuc}
use lib.Ieee.{binary64, of_bits, to_bits, eq}
use Rattle.text.specs.Bytes.{bytes, newline}
use Rattle.text.specs.Numerals.{decimal_text, hex_text}
use Rattle.replies.specs.declared.Reply.{Reply}
use Rattle.replies.specs.Printed.{int_text, z_lines, printed}

-- case A: the mean is the root of 0.5
abbrev case_a : Reply
case_a = record {
  status = 0;
  line = 0;
  mean = of_bits binary64 0x3fe6_a09e_667f_3bcd;
  shown = pos 707;
  t_count = 1;
  peak_terms = 2;
  touched = 3;
  discarded = of_bits binary64 0;
  means = 0;
}

pub text_a : printed case_a [] ≡
    bytes "status=0" ++ (newline ∷ (bytes "line=0" ++ (newline ∷ (bytes "mean=3fe6a09e667f3bcd" ++ (newline ∷ (bytes "shown=707" ++ (newline ∷
    (bytes "t_count=1" ++ (newline ∷ (bytes "peak_terms=2" ++ (newline ∷ (bytes "touched=3" ++ (newline ∷ (bytes "discarded=0000000000000000" ++ (newline ∷ [])))))))))))))))
unfolding printed decimal_text hex_text z_lines of_bits to_bits eq
text_a = refl

-- a mean of -0, which prints as +0, a shown mean below zero, and two Z means of three places: -1 and 0.5
abbrev with_means : Reply
with_means = record {
  status = 0;
  line = 12;
  mean = of_bits binary64 0x8000_0000_0000_0000;
  shown = negsuc 706;
  t_count = 0;
  peak_terms = 1;
  touched = 0;
  discarded = of_bits binary64 0x3fe0_0000_0000_0000;
  means = 2;
}

pub text_means : printed with_means (of_bits binary64 0xbff0_0000_0000_0000 ∷ of_bits binary64 0x3fe0_0000_0000_0000 ∷ of_bits binary64 0 ∷ []) ≡
    bytes "status=0" ++ (newline ∷ (bytes "line=12" ++ (newline ∷ (bytes "mean=0000000000000000" ++ (newline ∷ (bytes "shown=-707" ++ (newline ∷
    (bytes "t_count=0" ++ (newline ∷ (bytes "peak_terms=1" ++ (newline ∷ (bytes "touched=0" ++ (newline ∷ (bytes "discarded=3fe0000000000000" ++ (newline ∷
    (bytes "z=bff0000000000000" ++ (newline ∷ (bytes "z=3fe0000000000000" ++ (newline ∷ [])))))))))))))))))))
unfolding printed decimal_text hex_text z_lines of_bits to_bits eq
text_means = refl

-- the least i64 and the largest usize
pub ends : (int_text (negsuc 9223372036854775807) ≡ bytes "-9223372036854775808") × (decimal_text 20 18446744073709551615 ≡ bytes "18446744073709551615")
unfolding decimal_text
ends = (refl, refl)
