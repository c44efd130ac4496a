-- `history_search::step::limits_ok` meets its contract.
use borrow.Author.Rules.{rules}
use Rattle.history_masks.specs.Limits.{limits_ok}
use Rattle.history_search.proofs.step.limits_ok.Goals as goal

pub returns : goal.returns
unfolding limits_ok
returns c = search rules
