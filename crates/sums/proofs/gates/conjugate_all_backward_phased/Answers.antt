-- The rows are through the gate; where none has a letter at a target, the gate changes none.
use Rattle.std.proofs.Common.{◌≡◌, true, sym, refl, ◌∙◌, rules}
use Rattle.std.specs.Bool.{then_some}
use Rattle.words.specs.Gates.{has_two_targets}
use Rattle.terms.specs.Met.{gate_targets, in_words}
use Rattle.terms.proofs.LetterSteps.{bare_conjugated}
use Rattle.rows.specs.Rows.{met_in}
use Rattle.rows.proofs.LetterRows.{targets_of, untouched_bare, same_stepped}
use Rattle.rows.proofs.LentLaws.{on_rows_left}
use Rattle.sums.proofs.GateRows.{stepped_through, through_arm}
use Rattle.sums.proofs.gates.conjugate_all_backward_phased.Goals as goal

pub returns-then-there : goal.returns-then-there
returns-then-there c =
    let a = c.args in
    let s = c.args.rows.now in
    let t = targets_of (has_two_targets a.gate) a.a a.b {o = then_some (has_two_targets a.gate) a.b} refl in
    let m : c.met-met.result ≡ met_in s.w (gate_targets a.gate a.a a.b) a.n s.words.now s.coeffs.now = cc t in
    let f : in_words s.w (gate_targets a.gate a.a a.b) ≡ true = cc t in
    record {
      met = m;
      terms = on_rows_left (same_stepped s.w a.n _ s.words.now s.coeffs.now
          (λ e. bare_conjugated s.w a.gate a.a a.b _ (untouched_bare s.w a.n (gate_targets a.gate a.a a.b) s.words.now s.coeffs.now (sym m ∙ c.if-met-eq0.true) f e)))
          (search rules) (search rules) refl refl refl refl refl;
    }

pub returns-then-there-2 : goal.returns-then-there-2
returns-then-there-2 c =
    let a = c.args in
    let s = c.args.rows.now in
    let t = targets_of (has_two_targets a.gate) a.a a.b {o = then_some (has_two_targets a.gate) a.b} refl in
    let m : c.met-met.result ≡ met_in s.w (gate_targets a.gate a.a a.b) a.n s.words.now s.coeffs.now = cc t in
    let L = c.conjugate_by_gate.ensures in
    record {
      met = m;
      terms = on_rows_left (stepped_through a.gate s.w a.n a.a a.b c.count.ensures c.if-count-n.false L)
          (search rules) (search rules) refl refl refl L.words_long L.coeffs_long;
    }

pub returns-else-there-2 : goal.returns-else-there-2
returns-else-there-2 c =
    let a = c.args in
    let s = c.args.rows.now in
    let t = targets_of (has_two_targets a.gate) a.a a.b {o = then_some (has_two_targets a.gate) a.b} refl in
    let m : c.met-met.result ≡ met_in s.w (gate_targets a.gate a.a a.b) a.n s.words.now s.coeffs.now = cc t in
    let e : a.gate ≡ c.gate_rows.ensures.0 = search rules in
    let L = through_arm s.w a.n a.a a.b e c.gate_rows.ensures.2 in
    record {
      met = m;
      terms = on_rows_left (stepped_through a.gate s.w a.n a.a a.b c.count.ensures c.if-count-n.false L)
          (search rules) (search rules) refl refl refl L.words_long L.coeffs_long;
    }
