use Rattle.std.proofs.Common.{◌≡◌, ◌^◌, ◌<◌, ◌≤◌, true, length, get_or}
use Rattle.array.specs.Index.{all_below}
use Rattle.numeral.specs.Numeral.{is_digit, decimal}
use Rattle.numeral.proofs.step.few.Given as goal

abbrev pub invariant-loop-i : goal.invariant-loop-i
invariant-loop-i l = (l.n ≡ length l.d) × (l.n < 8) × (l.i ≤ l.n) × (l.v < 10 ^ l.i) × (l.v ≡ decimal l.d l.i) × (all_below (λ k. is_digit (get_or l.d k 0)) l.i ≡ true)
