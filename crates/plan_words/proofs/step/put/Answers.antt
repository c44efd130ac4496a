-- `plan_words::step::put` meets its contract: the five parts lie one behind the other.
use Rattle.plan.proofs.AcceptedLaws.{shape-of-accepted}
use Rattle.plan_words.proofs.WordsPutLaws.{plan-put}
use Rattle.plan_words.proofs.step.put.Goals as goal

pub returns : goal.returns
returns c =
    plan-put c.args.plan (shape-of-accepted _ c.requires.0) c.args.words.now c.requires.1 _ _ _ _ _
    c.put_counts.ensures c.copy.ensures c.put_tasks.ensures c.put_votes.ensures c.put_actuators.ensures
