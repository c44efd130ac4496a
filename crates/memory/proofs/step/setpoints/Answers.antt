-- `memory::step::setpoints` meets its contract: the loop has stored the first i setpoints.
use mathlib.Core.Path.{refl, sym}
use native.Mathlib.Omega.{arith}
use Rattle.array.proofs.PlacesLaws.{fill_none}
use Rattle.array.proofs.LoopLaws.{stored_next, stored-all}
use Rattle.memory.specs.Node.{setpoint}
use Rattle.memory.proofs.step.setpoints.Goals as goal

pub loop-i-init : goal.loop-i-init
loop-i-init c = sym (fill_none _ _)

pub bounds-plan-i : goal.bounds-plan-i
bounds-plan-i c = omega (arith, c.requires.0)

pub offset_bounds-memory-cell : goal.offset_bounds-memory-cell
offset_bounds-memory-cell c = omega (arith, c.requires.1 c.loop-i.i c.loop-i-test.true)

pub bounds-memory-cell : goal.bounds-memory-cell
bounds-memory-cell c = omega (arith, c.requires.1 c.loop-i.i c.loop-i-test.true)

pub loop-i-preserved : goal.loop-i-preserved
unfolding setpoint
loop-i-preserved c = stored_next _ _ _ c.loop-i.invariant refl

pub returns : goal.returns
returns c = stored-all _ _ _ c.loop-i.invariant (omega arith)
