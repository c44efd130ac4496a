-- Request 2026-07: what a host sees of the flags.
use Rattle.std.specs.Prelude.{◌≡◌, Bool, not, ◌&&◌, ◌||◌, List, ℕ, ◌<◌}
use Rattle.array.specs.Index.{all_below}
use Rattle.array.specs.Bit.{bit}
use Rattle.plan.specs.declared.Plan.{Plan}
use Rattle.card_page.specs.Page.{page_byte, bins_full}
use Rattle.card_bins.specs.Bins.{is_filled}
use Rattle.card_step.specs.CardParts.{CardParts, BinsFit}
use Rattle.card_step.specs.Calls.{delivery, ticking, card_after}

-- bits of bytes 3 and 4, the flags and the mask, as a card shows them
abbrev pub flag_shown : CardParts → ℕ → Bool
flag_shown k i = bit (page_byte k.state 3) i

abbrev pub mask_shown : CardParts → ℕ → Bool
mask_shown k i = bit (page_byte k.state 4) i

-- "bit 2 is 1 while a masked-in flag is, else 0": of every card, so after every call; all other bits are 0
abbrev pub InterruptShown : Type 0
InterruptShown = (k : CardParts) → flag_shown k 2 ≡ (flag_shown k 0 && mask_shown k 0 || flag_shown k 1 && mask_shown k 1)

abbrev pub OthersZero : Type 0
OthersZero = (k : CardParts) → (page_byte k.state 3 < 8) × (page_byte k.state 4 < 4)

-- none of the plan's bins is empty
abbrev pub all_filled : Plan → CardParts → Bool
all_filled p k = all_below (is_filled p.cells k.bins) p.nodes

-- "Bit 1 is set when the last empty bin is filled": a delivery, refused or not, sets it exactly if a bin was empty before it and none is after it
abbrev pub FullSet : Type 0
FullSet =
    (p : Plan) (k : CardParts) (number : ℕ) (message : List ℕ) →
    BinsFit p k →
    bins_full (card_after p k (delivery number message)).state
    ≡ (bins_full k.state || not (all_filled p k) && all_filled p (card_after p k (delivery number message)))

-- no tick sets it or clears it
abbrev pub FullKept : Type 0
FullKept = (p : Plan) (k : CardParts) (sensors place : List ℕ) → bins_full (card_after p k (ticking sensors place)).state ≡ bins_full k.state
