-- The row is put into the bucket of its key, or the index is not to have it.
use Rattle.std.proofs.Common.{sym, ap, ◌∙◌}
use Rattle.branches.specs.Probe.{files}
use Rattle.branches.proofs.IndexLaws.{index_put, index_left}
use Rattle.branches.proofs.chains.push.Goals as goal

pub returns-then-key_files-clause-indexed : goal.returns-then-key_files-clause-indexed
returns-then-key_files-clause-indexed c =
    let a = c.args in
    let r = a.rows.now in
    let h = c.requires.1 in
    index_put a.sought r a.m c.in-Some.index c.in-Some.is h.0 h.1 c.link.ensures.same (sym (c.key_files.ensures ∙ ap (files r.w a.sought) c.key.ensures) ∙ c.if-key_files.true)
    c.bucket_of-b.ensures.0 c.link.ensures.linked

pub returns-else-key_files-clause-indexed : goal.returns-else-key_files-clause-indexed
returns-else-key_files-clause-indexed c =
    let a = c.args in
    let r = a.rows.now in
    let h = c.requires.1 in
    index_left a.sought r a.m c.in-Some.index c.in-Some.is h.0 h.1 (sym (c.key_files.ensures ∙ ap (files r.w a.sought) c.key.ensures) ∙ c.if-key_files.false)
