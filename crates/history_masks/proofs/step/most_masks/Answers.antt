-- `history_masks::step::most_masks` meets its contract: a number for each count of nodes.
use mathlib.Core.Path.{◌≡◌, sym, subst}
use Prim.Native.Nat.{ℕ}
use native.Mathlib.Omega.{arith}
use Rattle.history_masks.specs.Code.{Most}
use Rattle.history_masks.proofs.MostLaws.{most-none, most-one, most-two, most-three, most-four, most-five}
use Rattle.history_masks.proofs.step.most_masks.Goals as goal

pub returns-in-1 : goal.returns-in-1
returns-in-1 c = subst (λ (n : ℕ). Most n 1) (sym c.in-1.is) most-one

pub returns-in-2 : goal.returns-in-2
returns-in-2 c = subst (λ (n : ℕ). Most n 1) (sym c.in-2.is) most-two

pub returns-in-3 : goal.returns-in-3
returns-in-3 c = subst (λ (n : ℕ). Most n 23) (sym c.in-3.is) most-three

pub returns-in-4 : goal.returns-in-4
returns-in-4 c = subst (λ (n : ℕ). Most n 279) (sym c.in-4.is) most-four

pub returns-in-5 : goal.returns-in-5
returns-in-5 c = subst (λ (n : ℕ). Most n 18290559) (sym c.in-5.is) most-five

pub returns-in_default : goal.returns-in_default
returns-in_default c = let none : c.args.nodes ≡ 0 = omega arith in subst (λ (n : ℕ). Most n 0) (sym none) most-none
