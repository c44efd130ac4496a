use mathlib.Core.Path.{◌≡◌}
use Prim.Native.Nat.{suc, ◌≤◌}
use lib.ListN.{length, get_or}
use Rattle.array.specs.Index.{lesser, least}
use Rattle.ballot.specs.Majority.{majority, agreement, or_own}
use Rattle.rows.specs.Code.{row_count}
use Rattle.row_counter.specs.Code.{Put}
use Rattle.row_word.specs.Code.{is_good, heard_word}
use Rattle.row_counter.proofs.step.counters_each.Given as goal

abbrev pub invariant-loop-i : goal.invariant-loop-i
invariant-loop-i l = (l.i ≤ l.nodes) × (length l.initial.counters ≡ row_count)
    × Put suc (is_good l.faults.mask) (λ k. or_own l.frames (get_or l.initial.counters (suc k) 0) (majority (heard_word l.faults.sizes l.faults.mask l.faults.bytes.now (λ j. get_or l.words j 0) 0 k) l.nodes)) l.i l.initial.counters l.counters
    × (l.agreed ≡ lesser l.low (least (is_good l.faults.mask) (λ k. agreement (heard_word l.faults.sizes l.faults.mask l.faults.bytes.now (λ j. get_or l.words j 0) 0 k) l.nodes) l.i))
