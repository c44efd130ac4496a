-- A page and what is written to it are of a card's words alone: whatever its bins are, the calls give the same.
use mathlib.Core.Path.{◌≡◌, refl}
use mathlib.Core.List.{List}
use Prim.Native.Nat.{ℕ}
use Rattle.answer.specs.Tests.{passed, if_passed}
use Rattle.array.proofs.TestLaws.{split}
use Rattle.plan.specs.declared.Plan.{Plan}
use Rattle.card_step.specs.Calls.{writing, card_tests, card_done, card_after, byte_read}
use Rattle.card.specs.Card.{parts_of, card_of, card_left, page_read}
use Rattle.card_words.specs.Words.{card_of_words, with_card}

module _ (p : Plan) (ws a b : List ℕ) (at : ℕ) where
  pub read_alike : page_read p (card_of_words ws a) at ≡ page_read p (card_of_words ws b) at
  unfolding page_read byte_read parts_of card_of_words
  read_alike = refl

  module _ (value : ℕ) where
    pub write-alike : (now : List ℕ) → with_card (card_left p (card_of_words ws a) (writing at value)) now ≡ with_card (card_left p (card_of_words ws b) (writing at value)) now
    unfolding with_card card_left card_after card_done if_passed card_of parts_of card_of_words
    write-alike now = split (passed (card_tests p (writing at value))) (λ e. rw e) (λ e. rw e)
