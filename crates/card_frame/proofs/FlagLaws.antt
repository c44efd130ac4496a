-- What a host sees of the flags: bit 2 is made of the others at every read, bit 1 is set when the last empty bin is filled, and no tick changes it.
use mathlib.Core.Path.{◌≡◌, refl, sym, ap, ◌∙◌}
use mathlib.Core.Bool.{Bool, true, false, not, cond, ◌&&◌, ◌||◌}
use mathlib.Core.List.{List}
use Prim.Native.Nat.{ℕ, ◌+◌, ◌<◌}
use native.Mathlib.Omega.{arith}
use lib.ListN.{length}
use Rattle.array.specs.Bit.{bit}
use Rattle.array.proofs.TestLaws.{split}
use Rattle.answer.specs.Tests.{passed, if_passed}
use Rattle.plan.specs.declared.Plan.{Plan}
use Rattle.memory.specs.Size.{message_size}
use Rattle.card_page.specs.declared.CardState.{CardState}
use Rattle.card_page.specs.Page.{two_bits, timer_due, bins_full, interrupt, flag_byte, with_flags, as_counts}
use Rattle.card_page.proofs.PageLaws.{named_small, two_bits-second, page-flags, page-mask, interrupt-shown}
use Rattle.card_bins.specs.Bins.{last_empty}
use Rattle.card_bins.proofs.BinsLaws.{last_empty-is}
use Rattle.card_step.specs.CardParts.{CardParts, BinsFit, takes_bin, full_after, delivered, ticked}
use Rattle.card_step.specs.Calls.{delivery, ticking, card_tests, card_done, card_after}
use Rattle.card_frame.specs.Flags.{InterruptShown, OthersZero, all_filled, FullSet, FullKept}
use Rattle.card_frame.proofs.StillLaws.{cond_either, message-whole, takes-number, slot-fits}

pub interrupt-shown-always : InterruptShown
interrupt-shown-always k = interrupt-shown k.state

-- ---- all other bits are 0

three-small : (a b c : Bool) → two_bits a b + cond c 4 0 < 8
unfolding two_bits
three-small true true true = omega arith
three-small true true false = omega arith
three-small true false true = omega arith
three-small true false false = omega arith
three-small false true true = omega arith
three-small false true false = omega arith
three-small false false true = omega arith
three-small false false false = omega arith

flags-small : (s : CardState) → flag_byte s < 8
unfolding flag_byte
flags-small s = three-small (timer_due s) (bins_full s) (interrupt s)

pub others-zero : OthersZero
others-zero k = (rw (sym (page-flags k.state)) (flags-small k.state), rw (sym (page-mask k.state)) (named_small k.state.mask))

-- ---- bit 1

flags_full : (s : CardState) (due full : Bool) → bins_full (with_flags s due full) ≡ full
unfolding bins_full with_flags
flags_full s due full = two_bits-second due full

or-none : (a b : Bool) → a ≡ (a || not b && b)
or-none true true = refl
or-none true false = refl
or-none false true = refl
or-none false false = refl

module _ (p : Plan) (k : CardParts) (number : ℕ) (message : List ℕ) (fit : BinsFit p k) where
  abbrev FullOf : CardParts → Type 0
  FullOf now = bins_full now.state ≡ (bins_full k.state || not (all_filled p k) && all_filled p now)

  full-taken : length message ≡ message_size p → takes_bin p number k ≡ true → FullOf (delivered p number k message)
  unfolding delivered full_after
  full-taken whole t =
      rw t
      (flags_full k.state (timer_due k.state) (bins_full k.state || last_empty p.cells p.nodes k.bins number)
      ∙ ap (λ (x : Bool). bins_full k.state || x)
      (last_empty-is p.cells number message k.bins (slot-fits p k fit number (takes-number p k number t)) whole p.nodes (takes-number p k number t)))

  full-left : takes_bin p number k ≡ false → FullOf (delivered p number k message)
  unfolding delivered as_counts
  full-left t = rw t (flags_full k.state (timer_due k.state) (bins_full k.state) ∙ or-none (bins_full k.state) (all_filled p k))

  full-after : FullOf (card_after p k (delivery number message))
  unfolding card_after card_done if_passed
  full-after =
      cond_either FullOf (passed (card_tests p (delivery number message)))
      (λ t. split (takes_bin p number k) (full-taken (message-whole p k number message t)) full-left)
      (λ t. or-none (bins_full k.state) (all_filled p k))

pub full-set : FullSet
full-set p k number message fit = full-after p k number message fit

ticked-full : (p : Plan) (sensors : List ℕ) (k : CardParts) → bins_full (ticked p sensors k).state ≡ bins_full k.state
unfolding ticked bins_full
ticked-full p sensors k = two_bits-second true (bit k.state.flags 1)

pub full-kept : FullKept
unfolding card_after card_done if_passed
full-kept p k sensors place =
    cond_either (λ (now : CardParts). bins_full now.state ≡ bins_full k.state) (passed (card_tests p (ticking sensors place)))
    (λ t. ticked-full p sensors k) (λ t. refl)
