-- `run_line::step::read_patterns` meets its contract. The loop's invariant: the first `k` patterns in the array and the rest of the line are the line's.
use mathlib.Core.Path.{ap, ◌∙◌}
use Prim.Native.Nat.{◌+◌, ◌*◌, ◌<◌}
use native.Mathlib.Omega.{arith}
use lib.ListN.{length}
use borrow.Author.Rules.{rules}
use Rattle.run_line.proofs.ReadingLaws.{front-first, front-next, front-bad, front-all}
use Rattle.column.specs.Column.{number_shown}
use Rattle.column.proofs.ReadingLaws.{slice-lent}
use Rattle.run_line.proofs.step.read_patterns.Goals as goal

pub loop-k-init : goal.loop-k-init
loop-k-init c = (search rules, search rules, front-first c.args.line.now c.args.count)

pub returns-in_err-patterns : goal.returns-in_err-patterns
returns-in_err-patterns c =
    let a = c.args in
    let s = a.line.now in
    let l = c.loop-k in
    let at = 8 + 20 * l.k in
    let e = ap number_shown (slice-lent s at (at + 20) 20 (omega arith) (search rules) (omega arith)) in
    rw c.from_residual.ensures (front-bad s a.count l.k (search rules) l.patterns l.invariant.2 (c.in_err-patterns.ensures ∙ e))

pub loop-k-preserved : goal.loop-k-preserved
loop-k-preserved c =
    let a = c.args in
    let s = a.line.now in
    let l = c.loop-k in
    let at = 8 + 20 * l.k in
    let e = ap number_shown (slice-lent s at (at + 20) 20 (omega arith) (search rules) (omega arith)) in
    let b : l.k < length l.patterns = search rules in (
      search rules,
      search rules,
      front-next s a.count l.k (search rules) l.patterns l.invariant.2 _ b (c.in_ok-patterns.ensures ∙ e),
    )

pub returns : goal.returns
returns c =
    let a = c.args in
    let l = c.loop-k in
    front-all a.line.now a.count c.requires.1 c.requires.2 l.k l.patterns (search rules) l.invariant.2
