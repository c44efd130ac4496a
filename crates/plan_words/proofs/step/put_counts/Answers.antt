use Rattle.plan_words.proofs.WordsPutLaws.{stored-six}
use Rattle.plan_words.proofs.step.put_counts.Goals as goal

pub returns : goal.returns
returns c = stored-six c.args.out.now _ _ _ _ _ _ c.requires
