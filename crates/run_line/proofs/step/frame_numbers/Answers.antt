-- `run_line::step::frame_numbers` meets its contract.
use mathlib.Core.Path.{◌∙◌}
use borrow.Author.Tests.{lt-ltb, le-ltb}
use Rattle.run_line.specs.Listing.{most_run_lines}
use Rattle.run_line.proofs.step.frame_numbers.Goals as goal

pub returns-then-frame-ge-LINES : goal.returns-then-frame-ge-LINES
returns-then-frame-ge-LINES c = rw (le-ltb c.args.frame most_run_lines c.if-frame-ge-LINES.true)

pub returns : goal.returns
returns c = c.read_line.ensures ∙ rw (lt-ltb c.args.frame most_run_lines c.if-frame-ge-LINES.false)
