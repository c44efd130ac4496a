-- The code's own: the words of a bin by their number, and what one receiver hears of a word. No definition of document 01 cites these.
use Rattle.std.specs.Prelude.{cond, List, ℕ, zero, suc, Option, Some}
use Rattle.array.specs.Bit.{bit}
use Rattle.memory.specs.Node.{counter_from, cell_from}

-- what the bin that starts at a place of some bytes says of a word: word 0 is its counter, word c + 1 its cell c
abbrev pub word_from : List ℕ → ℕ → ℕ → Option ℕ
word_from s zero at = counter_from s at
word_from s (suc c) at = cell_from s c at

-- what is heard of node j: a good one's word, of a bad one what its fault says
abbrev pub heard_of : ℕ → (ℕ → Option ℕ) → (ℕ → ℕ) → ℕ → Option ℕ
heard_of mask fault word j = cond (bit mask j) (fault j) (Some (word j))
