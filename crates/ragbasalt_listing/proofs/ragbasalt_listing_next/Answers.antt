-- `ragbasalt_listing_next` meets its contract: what the call that it wraps gives, of what the words are.
use mathlib.Core.Path.{sym, ap, ap₂, ◌∙◌}
use Prim.Native.Nat.{ℕ}
use Rattle.std.specs.Result.{result_unwrap_or}
use Rattle.plan.specs.declared.Plan.{Plan}
use Rattle.lines.specs.declared.Run.{Run}
use Rattle.system_words.proofs.GivenLaws.{code-done, code-refused}
use Rattle.ragbasalt_listing.specs.Words.{run_of, with_run}
use Rattle.ragbasalt_listing.proofs.RunLaws.{run-given, run-kept, nodes-few}
use Rattle.ragbasalt_listing.proofs.ragbasalt_listing_next.Goals as goal

pub put_run-requires : goal.put_run-requires
unfolding run_of
put_run-requires c =
    nodes-few _ _ _ (sym (rw c.run-state.ensures at c.next-printed.ensures.0) ∙ c.in-Ok.is)

pub returns-in-Ok : goal.returns-in-Ok
returns-in-Ok c =
    let told = rw (rw c.plan-p.ensures at c.run-state.ensures) at c.next-printed.ensures in
    let e = sym told.0 ∙ c.in-Ok.is in (
      code-done _ e,
      c.put_run.ensures
          ∙ ap₂ (λ (n : ℕ) (r : Run). with_run n r c.args.run.now) (ap (λ (p : Plan). p.nodes) c.plan-p.ensures) told.1
          ∙ run-given _ e _ _ _,
      told.2,
      c.unwrap_or.ensures ∙ ap (λ given. result_unwrap_or given 0) told.0,
    )

pub returns-in-Err : goal.returns-in-Err
returns-in-Err c =
    let told = rw (rw c.plan-p.ensures at c.run-state.ensures) at c.next-printed.ensures in
    let e = sym told.0 ∙ c.in-Err.is in
    (c.code.ensures ∙ code-refused _ e, run-kept _ e _ _ _, told.2, c.unwrap_or.ensures ∙ ap (λ given. result_unwrap_or given 0) told.0)
