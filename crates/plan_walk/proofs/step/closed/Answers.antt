use mathlib.Core.Path.{refl, sym, ap, ◌∙◌}
use Prim.Native.Nat.{ℕ, ◌-◌, ◌^◌}
use native.Mathlib.Omega.{arith}
use Rattle.plan_walk.specs.Code.{with_votes, whole}
use Rattle.plan_walk.proofs.step.closed.Goals as goal

pub returns : goal.returns
unfolding whole
returns c =
    let a = c.args in
    let u = c.first_unset-low.ensures in
    let k = c.known_by_all-whole.ensures in
    record {
      words = c.add_votes.ensures ∙ ap (λ (b : ℕ). with_votes a.voted.now a.w.frame a.cells b a.words.now) (c.ones-begun.ensures ∙ ap (λ (n : ℕ). 2 ^ n - 1) c.min.ensures);
      from = u.from;
      to = u.to;
      passed = λ g l h. sym (k g (omega (arith, u.to))) ∙ u.passed g l h;
      stopped = λ h. sym (k c.first_unset-low.result (omega arith)) ∙ u.stopped h;
      longest = c.still_longer.ensures;
      time = refl;
      next = c.after.ensures.1.0;
      wrap = c.after.ensures.1.1;
    }
