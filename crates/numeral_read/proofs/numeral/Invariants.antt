use mathlib.Core.Path.{◌≡◌}
use mathlib.Core.Bool.{true}
use Prim.Native.Nat.{◌≤◌, ◌+◌, ◌-◌, ◌^◌, ◌<◌}
use lib.ListN.{length, get_or}
use Rattle.array.specs.Index.{all_below}
use Rattle.numeral.specs.Numeral.{is_digit, decimal}
use Rattle.numeral_read.proofs.numeral.Given as goal

abbrev pub invariant-loop-i : goal.invariant-loop-i
invariant-loop-i l = (l.n ≡ length l.d) × (l.most ≤ l.n) × (l.n ≤ l.most + 1) × (l.most ≤ 19) × (l.i ≤ l.most) × (l.v < 10 ^ l.i) × (l.v ≡ decimal l.d l.i) × (all_below (λ k. is_digit (get_or l.d k 0)) l.i ≡ true) × (8 ≤ l.most) × (0 < l.i → get_or l.d 0 0 ≡ 48 → ⊥)

abbrev pub decreases-loop-i : goal.decreases-loop-i
decreases-loop-i l = l.most - l.i

abbrev pub invariant-loop-j : goal.invariant-loop-j
invariant-loop-j l = ((l.n ≡ length l.d) × (l.most ≤ l.n) × (l.n ≤ l.most + 1) × (l.most ≤ 19) × (l.j ≤ l.most) × (l.v < 10 ^ l.j) × (l.v ≡ decimal l.d l.j) × (all_below (λ k. is_digit (get_or l.d k 0)) l.j ≡ true) × (8 ≤ l.most) × (0 < l.j → get_or l.d 0 0 ≡ 48 → ⊥)) × (0 < l.j)
