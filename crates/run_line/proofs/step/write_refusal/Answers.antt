-- `run_line::step::write_refusal` meets its contract.
use mathlib.Core.Path.{◌∙◌}
use Rattle.run_line.proofs.WritingLaws.{refusal-row}
use Rattle.run_line.proofs.step.write_refusal.Goals as goal

pub shape_of-out : goal.shape_of-out
shape_of-out c = (refusal-row c.args.out.now c.args.refusal c.requires (c.put.ensures ∙ rw c.number.ensures) (c.put-2.ensures ∙ rw c.line.ensures)).0

pub returns : goal.returns
returns c = (refusal-row c.args.out.now c.args.refusal c.requires (c.put.ensures ∙ rw c.number.ensures) (c.put-2.ensures ∙ rw c.line.ensures)).1
