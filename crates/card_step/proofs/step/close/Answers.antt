-- `card_step::step::close` meets its contract.
use mathlib.Core.Path.{◌∙◌}
use Rattle.plan.proofs.AcceptedLaws.{shape-of-accepted}
use Rattle.memory.proofs.StepLaws.{places-right, places-all}
use Rattle.card_step.proofs.PartsLaws.{closed, not-closed}
use Rattle.card_step.proofs.step.close.Goals as goal

pub setpoints-requires : goal.setpoints-requires
setpoints-requires c = places-right _ c.requires.0 c.requires.1

pub empty-requires : goal.empty-requires
empty-requires c = let s = shape-of-accepted _ c.requires.0 in (s.nodes-high, s.cells-le, c.requires.2)

pub returns-in-Sync : goal.returns-in-Sync
returns-in-Sync c = closed c.args.plan.now (record { state = c.args.state; bins = c.args.bins.now }) c.args.place.now c.in-Sync.ensures c.empty.ensures (c.setpoints.ensures ∙ places-all _ _ _ c.requires.1)

pub returns-in-Compute : goal.returns-in-Compute
returns-in-Compute c = not-closed c.args.plan.now (record { state = c.args.state; bins = c.args.bins.now }) c.args.place.now c.phase.ensures c.in-Compute.is
