use Rattle.std.proofs.Common.{sym, rules}
use Rattle.std.proofs.lemmas.List.{length-take-le}
use Rattle.text.proofs.PartLaws.{index_within}
use Rattle.text.proofs.parts.part_before.Goals as goal

pub slice_bounds-result-end : goal.slice_bounds-result-end
slice_bounds-result-end c = sym (length-take-le _ _ (search (rules, index_within)))
