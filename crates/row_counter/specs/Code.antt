-- The code's own: the vote on the counters of all nodes, by what each hears. No definition of document 01 cites these.
use Rattle.std.specs.Prelude.{◌≡◌, Bool, true, cond, List, ℕ, suc, ◌+◌, ◌-◌, ◌%◌, ◌<◌, ltb, length, get_or, Option, None, Some}
use Rattle.plan.specs.declared.Sizes.{Sizes}
use Rattle.ballot.specs.Majority.{majority, agreement, or_own}
use Rattle.row_word.specs.Code.{heard_word}

-- ---- values stored at places: of the first n, those that are taken

pub record Put (place : ℕ → ℕ) (take : ℕ → Bool) (x : ℕ → ℕ) (n : ℕ) (l l' : List ℕ) : Type 0 where
  pub here : (j : ℕ) → j < n → take j ≡ true → get_or l' (place j) 0 ≡ x j
  pub others : (i : ℕ) → ((j : ℕ) → j < n → take j ≡ true → i ≡ place j → ⊥) → get_or l' i 0 ≡ get_or l i 0
  pub size : length l' ≡ length l

-- ---- the counters

-- the frame before a counter
abbrev pub frame_before : ℕ → ℕ → ℕ
frame_before frames counter = (counter + frames - 1) % frames

-- the frame in which all good nodes vote, where their counter is decided
unfoldable pub agreed_frame : ℕ → Option ℕ → Option ℕ
agreed_frame frames None = None
agreed_frame frames (Some x) = cond (ltb x frames) (Some (frame_before frames x)) None

-- node i's counter after the vote, and its agreement on it
module _ (s : Sizes) (mask : ℕ) (faults : List ℕ) where
  unfoldable pub counter_after : List ℕ → ℕ → ℕ
  counter_after counters i =
      or_own s.frames (get_or counters (suc i) 0) (majority (heard_word s mask faults (λ j. get_or counters (suc j) 0) 0 i) s.nodes)

  unfoldable pub counter_agreement : List ℕ → ℕ → ℕ
  counter_agreement counters i = agreement (heard_word s mask faults (λ j. get_or counters (suc j) 0) 0 i) s.nodes
