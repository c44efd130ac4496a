use Rattle.plan_line.specs.Code.{numbers_in}
use Rattle.plan_text.proofs.ReadLaws.{ReadTo}
use Rattle.plan_text.proofs.step.read_lines.Given as goal

abbrev pub invariant-loop-i : goal.invariant-loop-i
invariant-loop-i l = ReadTo l.text (numbers_in l.h) l.plan (numbers_in l.prev) l.i
