-- `plan_writer::step::count_votes` meets its contract: the loop has counted the votes of the entries below e.
use mathlib.Core.Path.{◌≡◌, sym, ap, ◌∙◌}
use mathlib.Core.Bool.{Bool, false}
use Prim.Native.Nat.{ℕ}
use native.Mathlib.Omega.{arith}
use lib.ListN.{get_or}
use borrow.Author.Rules.{rules}
use Rattle.array.specs.Index.{how_many}
use Rattle.array.proofs.IndexLaws.{how_many-none, how_many-hit, how_many-miss}
use Rattle.plan_writer.proofs.step.count_votes.Goals as goal
use Rattle.plan_writer.proofs.step.count_votes.Goals.{else-voted-e, then-voted-e}

pub loop-e-init : goal.loop-e-init
loop-e-init c = (search rules, sym (how_many-none _), search rules)

pub loop-e-preserved : goal.loop-e-preserved
loop-e-preserved c =
    let q : ℕ → Bool = λ k. get_or c.args.voted.now k false in
    let l = c.loop-e in
    elim c.if-voted-e.branch [ then-voted-e w ↦ (search rules, omega (arith, how_many-hit q l.e w.if-voted-e.true), search rules) | else-voted-e w ↦ (search rules, omega (arith, how_many-miss q l.e w.if-voted-e.false), search rules) ]

pub returns : goal.returns
returns c = let e : c.loop-e.e ≡ 512 = omega arith in (c.loop-e.invariant.1 ∙ ap (how_many _) e, search rules)
