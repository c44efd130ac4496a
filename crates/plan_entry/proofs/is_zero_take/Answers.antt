-- `plan_entry::is_zero_take` meets its contract: what is no take is no take of sensor 0.
use mathlib.Core.Path.{◌≡◌, refl}
use mathlib.Core.Bool.{false}
use Prim.Native.Nat.{ℕ}
use Rattle.plan.specs.declared.Op.{Op}
use Rattle.plan.specs.declared.Op.TheVariants.{Take, Sum, Diff, Scale, Limit, Wind, Cam}
use Rattle.plan.specs.Accepted.{is_zero_take}
use Rattle.plan_entry.proofs.is_zero_take.Goals as goal

no_take : (o : Op) → ((s : ℕ) → o ≡ Take s → ⊥) → false ≡ is_zero_take o
unfolding is_zero_take
no_take (Take s) n = absurd (n s refl)
no_take (Sum a b) n = refl
no_take (Diff a b) n = refl
no_take (Scale a factor) n = refl
no_take (Limit a low high) n = refl
no_take (Wind a law) n = refl
no_take (Cam a) n = refl

pub returns-in-Take : goal.returns-in-Take
unfolding is_zero_take
returns-in-Take c = rw c.in-Take.is

pub returns-in_default : goal.returns-in_default
returns-in_default c = no_take c.args.op c.in_default.not-Take
