-- `plan_words::step::four_votes` meets its contract: the four entries of the table from 4 times the number on are its bits.
use Prim.Native.Nat.{◌+◌, ◌*◌}
use native.Mathlib.Omega.{arith}
use Rattle.plan_words.proofs.WordsReadLaws.{table-bit}
use Rattle.plan_words.proofs.step.four_votes.Goals as goal

pub returns : goal.returns
returns c =
    let from = 4 * c.args.four in
    let told = table-bit c.args.table.now c.requires.2 c.args.four c.requires.0 in
    rw (told 0 from (omega arith) (omega arith), told 1 (from + 1) (omega arith) (omega arith), told 2 (from + 2) (omega arith) (omega arith), told 3 (from + 3) (omega arith) (omega arith))
