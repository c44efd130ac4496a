use mathlib.Core.Path.{◌≡◌, subst}
use Prim.Native.Nat.{ℕ, ◌<◌}
use native.Mathlib.Omega.{arith}
use lib.ListN.{get_or}
use borrow.Author.Rules.{rules}
use Rattle.array.specs.Index.{all_below}
use Rattle.array.specs.Bit.{bit}
use Rattle.plan_walk.proofs.WalkLaws.{all_none, all_more}
use Rattle.plan_walk.proofs.step.known_by_all.Goals as goal

pub loop-c-init : goal.loop-c-init
loop-c-init c = (search rules, all_none c.args.words.now)

pub loop-c-preserved : goal.loop-c-preserved
loop-c-preserved c =
    (search rules, all_more c.args.words.now c.loop-c.all c.loop-c.c c.loop-c.invariant.1)

pub returns : goal.returns
returns c =
    let e : c.loop-c.c ≡ c.args.cells = omega arith in
    subst (λ (n : ℕ). (g : ℕ) → g < 16 → bit c.loop-c.all g ≡ all_below (λ x. bit (get_or c.args.words.now x 0) g) n) e c.loop-c.invariant.1
