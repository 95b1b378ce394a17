-- Where no term has a letter at a target, the channel changes none.
use Rattle.std.proofs.Common.{◌≡◌, ℕ, List, true, refl, sym, ap, ◌∙◌, rules}
use Rattle.terms.specs.Met.{targets, acts_on_two, kind_targets, in_words}
use Rattle.terms.proofs.LetterSteps.{bare_channeled}
use Rattle.rows.specs.Rows.{met_in}
use Rattle.rows.proofs.LetterRows.{targets_of, untouched_bare, same_grown, once}
use Rattle.branches.proofs.channels.apply_backward_channel.Goals as goal

pub returns-then-has_targets : goal.returns-then-has_targets
returns-then-has_targets c =
    let a = c.args in
    let s = a.rows.now in
    let qs = kind_targets a.action.kind a.a a.b in
    let t : targets a.a c.then_some-second.result ≡ qs = targets_of (acts_on_two a.action.kind) a.a a.b (cc) in
    let m = c.met-met.ensures ∙ ap (λ (ts : List ℕ). met_in s.w ts a.n s.words.now s.coeffs.now) t in
    let f : in_words s.w qs ≡ true = ap (in_words s.w) (sym t) ∙ sym c.has_targets.ensures ∙ c.if-has_targets.true in
    record {
      met = m;
      terms = record {
        same = search rules;
        left = same_grown s.w a.n _ s.words.now s.coeffs.now
            (λ e. bare_channeled s.w a.a a.b a.action _ (untouched_bare s.w a.n qs s.words.now s.coeffs.now (sym m ∙ c.if-met-eq0.true) f (once s.w a.n s.words.now s.coeffs.now e)));
      };
      index = refl;
    }
