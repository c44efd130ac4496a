-- `card_step::step::moved` meets its contract.
use Rattle.plan.proofs.AcceptedLaws.{shape-of-accepted}
use Rattle.card_step.proofs.PartsLaws.{memory-computed, memory-voted, memory_kept}
use Rattle.card_step.proofs.step.moved.Goals as goal

pub returns-in-Compute : goal.returns-in-Compute
returns-in-Compute c = memory-computed c.args.plan.now (record { state = c.args.state; bins = c.args.bins.now }) _ c.in-Compute.ensures c.compute.ensures

pub vote-requires : goal.vote-requires
vote-requires c = let s = shape-of-accepted _ c.requires.0 in (s.nodes-high, s.frames-pos, s.frames-le, s.cells-le, c.requires.2)

pub returns-in-Vote : goal.returns-in-Vote
returns-in-Vote c = memory-voted c.args.plan.now (record { state = c.args.state; bins = c.args.bins.now }) _ c.in-Vote.ensures c.vote.ensures

pub returns-in-Broadcast : goal.returns-in-Broadcast
returns-in-Broadcast c = memory_kept c.args.plan.now (record { state = c.args.state; bins = c.args.bins.now }) _ c.phase.ensures c.in-Broadcast.is
