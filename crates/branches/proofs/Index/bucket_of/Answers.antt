-- A turn takes in the smaller of a word and the word looked for.
use Rattle.std.proofs.Common.{◌≡◌, ℕ, ◌*◌, ◌<◌, min, sym, ap, ◌∙◌, subst, arith}
use Rattle.branches.proofs.ProbeLaws.{class_whole, class_word_lem}
use Rattle.branches.proofs.HashLaws.{hash_turn, hash_end, bucket_lt}
use Rattle.branches.proofs.Index.bucket_of.Goals as goal

pub loop-k-preserved : goal.loop-k-preserved
loop-k-preserved c =
    let a = c.args in
    let r = a.rows.now in
    let l = c.loop-k in
    let h = c.loop-k-test.true in
    let n = class_whole r.w a.sought r.words.now a.row c.requires.1.1 in
    let v = c.min.ensures ∙ ap (min _) c.sought_word.ensures ∙ sym (class_word_lem r.w a.sought r.words.now a.row c.requires.1.1 l.k h) in
    hash_turn _ l.k l.h _ _ (subst (λ (m : ℕ). l.k < m) (sym n) h) l.invariant v c.mix-h.ensures

pub returns : goal.returns
returns c =
    let a = c.args in
    let r = a.rows.now in
    let l = c.loop-k in
    let n = class_whole r.w a.sought r.words.now a.row c.requires.1.1 in
    let e : l.k ≡ 2 * r.w = omega arith in
    let q = c.bucket.ensures ∙ hash_end _ l.k l.h _ (e ∙ sym n) l.invariant in
    (q, subst (λ (m : ℕ). m < a.self.now.buckets) (sym q) (bucket_lt a.self.now.buckets _ c.requires.0))
