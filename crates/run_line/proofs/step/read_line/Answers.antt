-- `run_line::step::read_line` meets its contract: one law for each way out.
use Rattle.run_line.proofs.ReadingLaws.{length-bad, end-bad, mask-bad, fill-bad, patterns-bad, mask-large, fill-large, line-whole}
use Rattle.run_line.proofs.step.read_line.Goals as goal

pub returns-then-line-end : goal.returns-then-line-end
returns-then-line-end c = length-bad _ _ _ c.if-line-end.true

pub returns-then-line-end-ne10 : goal.returns-then-line-end-ne10
returns-then-line-end-ne10 c = end-bad _ _ _ c.if-line-end-ne10.true

pub returns-in_err-mask : goal.returns-in_err-mask
returns-in_err-mask c = rw c.from_residual.ensures (mask-bad _ _ _ c.in_err-mask.ensures)

pub returns-in_err-fill : goal.returns-in_err-fill
returns-in_err-fill c = rw c.from_residual-in_err-fill.ensures (fill-bad _ _ _ c.in_err-fill.ensures)

pub returns-then-mask-nodes-ne0 : goal.returns-then-mask-nodes-ne0
returns-then-mask-nodes-ne0 c = mask-large _ _ _ c.in_ok-mask.ensures c.in_ok-fill.ensures c.if-mask-nodes-ne0.true

pub returns-then-fill-gt255 : goal.returns-then-fill-gt255
returns-then-fill-gt255 c = fill-large _ _ _ c.in_ok-mask.ensures c.in_ok-fill.ensures c.if-fill-gt255.true

pub returns-in_err-read_patterns : goal.returns-in_err-read_patterns
returns-in_err-read_patterns c = rw c.from_residual-in_err-read_patterns.ensures (patterns-bad _ _ _ c.in_err-read_patterns.ensures)

pub returns : goal.returns
returns c = line-whole _ _ _ c.in_ok-mask.ensures c.in_ok-fill.ensures c.if-mask-nodes-ne0.false c.if-fill-gt255.false c.in_ok-read_patterns.ensures
