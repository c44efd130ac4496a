-- `listing::next_line` meets its contract.
use mathlib.Core.Path.{◌≡◌, ap, ◌∙◌}
use Prim.Native.Nat.{ℕ, ◌+◌, ◌-◌, min}
use native.Mathlib.Omega.{arith}
use lib.ListN.{length, take}
use Rattle.plan.proofs.AcceptedLaws.{shape-of-accepted}
use Rattle.run_line.specs.Line.{run_line_size}
use Rattle.lines.proofs.StepLaws.{first-line}
use Rattle.listing.proofs.CallLaws.{line_refused, line-in-range, line-done}
use Rattle.listing.proofs.next_line.Goals as goal

pub line_size-size-requires : goal.line_size-size-requires
line_size-size-requires c = (shape-of-accepted _ c.requires.0).sensors-le

pub line-requires : goal.line-requires
line-requires c = (c.requires.0, c.requires.1, c.requires.2)

pub returns-in_default : goal.returns-in_default
returns-in_default c =
    let a = c.args in
    let r = a.run.now in
    let size = c.line_size-size in
    let q = c.requires in
    let same : take (c.part_end-end.result - 0) a.rest.now ≡ take (run_line_size r.plan.sensors) a.rest.now = first-line a.rest.now (run_line_size r.plan.sensors) (c.part_end-end.ensures ∙ ap (λ (n : ℕ). min (0 + n) (length a.rest.now)) size.ensures) in
    line_refused r a.rest.now a.out.now _ _ c.line.result q.2 same c.line.ensures.0 c.line.ensures.1 c.in_default.is c.refused_line.ensures

pub overflow_add-run : goal.overflow_add-run
overflow_add-run c =
    let a = c.args in
    let r = a.run.now in
    let size = c.line_size-size in
    let q = c.requires in
    let same : take (c.part_end-end.result - 0) a.rest.now ≡ take (run_line_size r.plan.sensors) a.rest.now = first-line a.rest.now (run_line_size r.plan.sensors) (c.part_end-end.ensures ∙ ap (λ (n : ℕ). min (0 + n) (length a.rest.now)) size.ensures) in
    omega (arith, line-in-range r a.rest.now a.out.now _ _ c.line.result q.2 same c.line.ensures.0 c.line.ensures.1 c.in-Some.is)

pub returns : goal.returns
returns c =
    let a = c.args in
    let r = a.run.now in
    let size = c.line_size-size in
    let q = c.requires in
    let same : take (c.part_end-end.result - 0) a.rest.now ≡ take (run_line_size r.plan.sensors) a.rest.now = first-line a.rest.now (run_line_size r.plan.sensors) (c.part_end-end.ensures ∙ ap (λ (n : ℕ). min (0 + n) (length a.rest.now)) size.ensures) in
    line-done r a.rest.now a.out.now _ _ c.line.result q.2 same c.line.ensures.0 c.line.ensures.1 a.period c.in-Some.is q.1
