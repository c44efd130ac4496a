-- The code's own: one word of all nodes, by what each hears. No definition of document 01 cites these.
use Rattle.std.specs.Prelude.{Bool, not, cond, List, ℕ, Option, None, Some}
use Rattle.array.specs.Bit.{bit}
use Rattle.plan.specs.declared.Sizes.{Sizes}
use Rattle.system.specs.Fault.{fault_message_at}
use Rattle.mailbox.specs.Code.{word_from, heard_of}

abbrev pub is_good : ℕ → ℕ → Bool
is_good mask j = not (bit mask j)

-- what the good nodes alone tell, of which node j has the word `word j`
abbrev pub good_only : ℕ → (ℕ → ℕ) → ℕ → Option ℕ
good_only mask word j = cond (bit mask j) None (Some (word j))

module _ (s : Sizes) (mask : ℕ) (faults : List ℕ) where
  -- what the fault bytes say of word w to node i
  abbrev pub fault_word : ℕ → ℕ → ℕ → Option ℕ
  fault_word w i j = word_from faults w (fault_message_at s j i)

  -- what node i hears of word w, whose words are `word`
  abbrev pub heard_word : (ℕ → ℕ) → ℕ → ℕ → ℕ → Option ℕ
  heard_word word w i = heard_of mask (fault_word w i) word
