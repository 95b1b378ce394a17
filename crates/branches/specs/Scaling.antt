-- A term times the factor that a function of keys gives its key, where it gives one.
use Rattle.std.specs.Prelude.{Option, Some, None, Float}
use Rattle.words.specs.Keys.{Key}
use Rattle.terms.specs.Coefficient.{scaled_of}
use Rattle.terms.specs.Term.{Term, term}

abbrev pub times : Option Float → Term → Term
times (Some f) t = term t.key (scaled_of f t.coeff)
times None t = t

abbrev pub scaled_at : (Key → Option Float) → Term → Term
scaled_at f t = times (f t.key) t
