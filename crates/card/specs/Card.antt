-- Request 2026-07: the press's card, which has bytes for the bins of every accepted plan.
use Rattle.std.specs.Prelude.{ℕ, ◌*◌, replicate, Result}
use Rattle.answer.specs.declared.Refusal.{Refusal}
use Rattle.answer.specs.Tests.{given}
use Rattle.plan.specs.declared.Plan.{Plan}
use Rattle.plan.specs.Limits.{most_nodes, most_cells}
use Rattle.plan_period.specs.Answers.{plan_tests}
use Rattle.card_bins.specs.Bins.{slot_size}
use Rattle.card_step.specs.CardParts.{CardParts, powered_state}
use Rattle.card_step.specs.Calls.{CardCall, card_after, byte_read}
use Rattle.card.specs.declared.Card.{Card}

-- the most bytes of a plan's bins: 1,813
abbrev pub most_bins : ℕ
most_bins = most_nodes * slot_size most_cells

unfoldable pub parts_of : Card → CardParts
parts_of k = record { state = record { memory = k.memory; phase = k.phase; flags = k.flags; mask = k.mask }; bins = k.bins }

unfoldable pub card_of : CardParts → Card
card_of k = record { memory = k.state.memory; phase = k.state.phase; flags = k.state.flags; mask = k.state.mask; bins = k.bins }

-- "At power-on phase, flags and mask are 0 and the bins empty."
unfoldable pub powered_card : Plan → Card
powered_card p = card_of (record { state = powered_state p; bins = replicate most_bins 0 })

unfoldable pub card_power_on : Plan → Result Card Refusal
card_power_on p = given (plan_tests p) (powered_card p)

-- the card after a call, refused or not
unfoldable pub card_left : Plan → Card → CardCall → Card
card_left p k c = card_of (card_after p (parts_of k) c)

unfoldable pub page_read : Plan → Card → ℕ → Result ℕ Refusal
page_read p k at = byte_read p (parts_of k) at
