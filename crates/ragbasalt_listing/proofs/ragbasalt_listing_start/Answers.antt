-- `ragbasalt_listing_start` meets its contract: what the call that it wraps gives, of what the words are.
use mathlib.Core.Path.{sym, ap, ◌∙◌}
use native.Mathlib.Omega.{arith}
use borrow.Author.Rules.{rules}
use Rattle.plan.specs.declared.Plan.{Plan}
use Rattle.plan.specs.Limits.{most_nodes}
use Rattle.lines.specs.declared.Run.{Run}
use Rattle.plan_words.specs.Words.{plan_words}
use Rattle.system_words.proofs.GivenLaws.{code-done, code-refused, done-given, done-kept}
use Rattle.ragbasalt_listing.specs.Words.{with_run}
use Rattle.ragbasalt_listing.proofs.RunLaws.{run-given, run-kept, started-is, started-plan, started-accepted}
use Rattle.ragbasalt_listing.proofs.ragbasalt_listing_start.Goals as goal

pub put-requires : goal.put-requires
put-requires c = (started-accepted _ (sym c.start.ensures ∙ c.in-Ok.is), search rules)

pub returns-in-Ok : goal.returns-in-Ok
returns-in-Ok c =
    let e = sym c.start.ensures ∙ c.in-Ok.is in (
      code-done _ e,
      c.put.ensures ∙ ap (λ (p : Plan). plan_words p) (started-plan _ e) ∙ done-given _ e _ _,
      c.put_run.ensures ∙ ap (λ (r : Run). with_run most_nodes r c.args.run.now) (started-is _ e) ∙ run-given _ e _ _ _,
    )

pub returns-in-Err : goal.returns-in-Err
returns-in-Err c =
    let e = sym c.start.ensures ∙ c.in-Err.is in
    (c.code.ensures ∙ code-refused _ e, done-kept _ e _ _, run-kept _ e _ _ _)
