-- Request 2026-07: the calls on a card that is powered on, refused or not, by its parts. "No refusal changes the card."
use Rattle.std.specs.Prelude.{◌&&◌, ◌||◌, List, [], ◌∷◌, ℕ, eqb, ltb, length, Result}
use Rattle.answer.specs.declared.Refusal.{Refusal}
use Rattle.answer.specs.Tests.{Test, test, given, if_passed}
use Rattle.plan.specs.declared.Plan.{Plan}
use Rattle.plan.specs.Accepted.{accepted}
use Rattle.memory.specs.Size.{message_size}
use Rattle.card_page.specs.Page.{page_size, mask_at, clear_at, page_byte, written_at}
use Rattle.card_step.specs.CardParts.{CardParts, delivered, ticked, ticked_place}

-- what each is handed beside plan and card

pub data CardCall : Type 0 where
  reading : (at : ℕ) → CardCall
  writing : (at value : ℕ) → CardCall
  delivery : (number : ℕ) (message : List ℕ) → CardCall
  ticking : (sensors place : List ℕ) → CardCall

module _ (p : Plan) where
  -- "12, an access outside the page or a write to a byte other than 4 and 5, after 7"; "Every tick checks sensors and setpoint place by 8 .. a wrong length is 8 in any
  -- phase, for any bin number"
  unfoldable pub card_tests : CardCall → List Test
  card_tests (reading at) = test 7 (accepted p) ∷ test 12 (ltb at page_size) ∷ []
  card_tests (writing at value) = test 7 (accepted p) ∷ test 12 (eqb at mask_at || eqb at clear_at) ∷ []
  card_tests (delivery number message) = test 7 (accepted p) ∷ test 8 (eqb (length message) (message_size p)) ∷ []
  card_tests (ticking sensors place) = test 7 (accepted p) ∷ test 8 (eqb (length sensors) p.sensors && eqb (length place) p.actuators) ∷ []

  unfoldable pub card_answer : CardCall → Result (Unit {0}) Refusal
  card_answer c = given (card_tests c) tt

  -- the card after one that is not refused; a read leaves it as it is handed in
  unfoldable pub card_done : CardParts → CardCall → CardParts
  card_done k (reading at) = k
  card_done k (writing at value) = record { state = written_at k.state at value; bins = k.bins }
  card_done k (delivery number message) = delivered p number k message
  card_done k (ticking sensors place) = ticked p sensors k

  unfoldable pub card_after : CardParts → CardCall → CardParts
  card_after k c = if_passed (card_tests c) (card_done k c) k

  -- the byte that a read gives, or its refusal
  unfoldable pub byte_read : CardParts → ℕ → Result ℕ Refusal
  byte_read k at = given (card_tests (reading at)) (page_byte k.state at)

  -- a tick's place afterwards
  unfoldable pub place_left : CardParts → List ℕ → List ℕ → List ℕ
  place_left k sensors place = if_passed (card_tests (ticking sensors place)) (ticked_place p k place) place
