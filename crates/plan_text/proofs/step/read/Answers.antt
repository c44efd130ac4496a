-- `plan_text::step::read` meets its contract: the length, then the first line, then the lines after it.
use mathlib.Core.Path.{ap}
use mathlib.Core.Bool.{not}
use native.Mathlib.Omega.{arith}
use lib.ListN.{length}
use Rattle.plan_grammar.proofs.LineLaws.{some-line}
use Rattle.array.proofs.TestLaws.{refused-test, passed-test}
use Rattle.plan_text.proofs.ReadLaws.{whole-line, no_line, answer-length, answer-first, answer-header}
use Rattle.plan_text.proofs.step.read.Goals as goal

pub returns-then-not-length_ok : goal.returns-then-not-length_ok
returns-then-not-length_ok c = answer-length _ (refused-test c.length_ok.ensures (ap not c.if-not-length_ok.true))

pub slice_bounds-read_line-end : goal.slice_bounds-read_line-end
slice_bounds-read_line-end c = omega (arith, some-line (length c.args.text.now) (passed-test c.length_ok.ensures (ap not c.if-not-length_ok.false)))

pub returns-in_default : goal.returns-in_default
returns-in_default c =
    answer-first _ (passed-test c.length_ok.ensures (ap not c.if-not-length_ok.false)) (no_line c.args.text.now 0 c.read_line.ensures c.in_default.is)

pub returns-then-not-is_header : goal.returns-then-not-is_header
returns-then-not-is_header c =
    answer-header _ (passed-test c.length_ok.ensures (ap not c.if-not-length_ok.false)) (whole-line c.args.text.now 0 c.read_line.ensures c.in-Some.is) (refused-test c.is_header.ensures (ap not c.if-not-is_header.true))

pub read_lines-requires : goal.read_lines-requires
read_lines-requires c =
    ((passed-test c.length_ok.ensures (ap not c.if-not-length_ok.false)), whole-line c.args.text.now 0 c.read_line.ensures c.in-Some.is, passed-test c.is_header.ensures (ap not c.if-not-is_header.false))
