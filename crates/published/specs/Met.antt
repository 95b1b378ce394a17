-- "how many terms, before it acted, had a letter on at least one of its targets"
use Rattle.std.specs.Prelude.{ℕ, ◌+◌, cond, List}
use Rattle.terms.specs.Lists.{foldl}
use Rattle.terms.specs.Met.{letter_among}
use Rattle.published.specs.Term.{Term}

-- how many terms have one: what a step at the targets qs reports
abbrev pub add_met : ℕ → List ℕ → ℕ → Term → ℕ
add_met w qs n t = n + cond (letter_among w qs t.key) 1 0

abbrev pub met_terms : ℕ → List ℕ → List Term → ℕ
met_terms w qs ts = foldl (add_met w qs) 0 ts
