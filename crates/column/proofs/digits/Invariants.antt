use Rattle.std.proofs.Common.{◌≡◌, ◌-◌, ◌≤◌, length}
use lib.Seq.{slice}
use Rattle.column.specs.Column.{drop_blanks}
use Rattle.column.proofs.digits.Given as goal

abbrev pub invariant-loop-i : goal.invariant-loop-i
invariant-loop-i l = (l.end ≤ length l.line) × (l.i ≤ l.end) × (drop_blanks (slice l.from l.to l.line) ≡ drop_blanks (slice l.i l.end l.line))

abbrev pub decreases-loop-i : goal.decreases-loop-i
decreases-loop-i l = l.end - l.i

abbrev pub invariant-loop-j : goal.invariant-loop-j
invariant-loop-j l = (l.end ≤ length l.line) × (drop_blanks (slice l.from l.to l.line) ≡ drop_blanks (slice l.j l.end l.line))
