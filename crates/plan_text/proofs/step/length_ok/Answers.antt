-- `plan_text::step::length_ok` meets its contract: the tests are those of the definition.
use mathlib.Core.Path.{refl}
use Rattle.plan_grammar.specs.Refused.{length_ok}
use Rattle.plan_text.proofs.step.length_ok.Goals as goal

pub returns : goal.returns
unfolding length_ok
returns c = refl
