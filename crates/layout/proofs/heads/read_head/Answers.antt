use Rattle.layout.proofs.HeadLaws.{head_read}
use Rattle.layout.proofs.heads.read_head.Goals as goal

pub returns : goal.returns
returns c =
    head_read _ _ _ _ _ _ _ c.next_at-run_at.ensures c.next_at-epsilon_at.ensures c.next_at-max_terms_at.ensures c.next_at-limit_at.ensures c.next_at-terms_at.ensures c.next_at-term_at.ensures
    _ c.count_on-qubits.ensures _ c.run_on-run.ensures _ c.epsilon_on-epsilon.ensures _ c.count_on-max_terms.ensures _ c.count_on-limit.ensures
    _ c.count_on-terms.ensures _ c.start_at-ops_at.ensures _ c.count_on-ops.ensures
