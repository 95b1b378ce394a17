-- With an index the row is in the chain of its key.
use Rattle.branches.proofs.FileLaws.{found_one}
use Rattle.branches.proofs.IndexLaws.{filed_at}
use Rattle.branches.proofs.chains.find.Goals as goal

pub bucket_of-b-requires : goal.bucket_of-b-requires
bucket_of-b-requires c = let a = c.args in let F = filed_at a.sought a.rows.now a.n c.in-Some.index c.in-Some.is c.requires.1.1.1 in (F.links.some, (F.links.few, c.requires.1.0))

pub walk-requires : goal.walk-requires
walk-requires c = let a = c.args in let F = filed_at a.sought a.rows.now a.n c.in-Some.index c.in-Some.is c.requires.1.1.1 in (c.requires.0, (c.requires.1.0, (c.bucket_of-b.ensures.1, F.links)))

pub returns : goal.returns
returns c =
    let a = c.args in
    let r = a.rows.now in
    let x = c.in-Some.index in
    found_one a.sought r.w r.words.now a.n x.buckets x.memory.now a.i (filed_at a.sought r a.n x c.in-Some.is c.requires.1.1.1) c.requires.1.1.0
    c.bucket_of-b.ensures.0 c.walk.ensures
