-- Laws of refusals as numbers: number and line are got back.
use mathlib.Core.Path.{◌≡◌, refl}
use Prim.Native.Nat.{ℕ, ◌+◌, ◌*◌, ◌/◌, ◌%◌, ◌^◌, ◌≤◌, ◌<◌}
use native.Mathlib.Omega.{arith}
use Rattle.std.specs.Prelude.{Option, None, Some}
use Rattle.answer.specs.declared.Refusal.{Refusal}
use Rattle.answer.specs.declared.Refusal.TheVariants.{TextLength, Malformed, Header, OutOfOrder, OutOfRange, Unrecoverable, InvalidPlan, WrongLength, MaskOrCount, RunLine, NodesOrLength, PageAccess}
use Rattle.answer.specs.Refusal.{number_of, line_of}
use Rattle.answer.proofs.TestLaws.{number_given, line_given}
use Rattle.system_words.specs.Words.{code_with}

pub number_small : (a : Refusal) → number_of a ≤ 255
number_small TextLength = omega arith
number_small (Malformed line) = omega arith
number_small Header = omega arith
number_small (OutOfOrder line) = omega arith
number_small (OutOfRange line) = omega arith
number_small Unrecoverable = omega arith
number_small InvalidPlan = omega arith
number_small WrongLength = omega arith
number_small MaskOrCount = omega arith
number_small (RunLine line) = omega arith
number_small NodesOrLength = omega arith
number_small PageAccess = omega arith

pub sum_fits : (n l : ℕ) → n ≤ 255 → n + l * 256 % 18446744073709551616 < 18446744073709551616
sum_fits n l h = omega (arith, h)

pub code_sum : (a : Refusal) {n l : ℕ} → n ≡ number_of a → l ≡ line_of a → n + l * 256 % 18446744073709551616 ≡ code_with (Some a)
unfolding code_with
code_sum a {n} {l} e f = omega (arith, e, f)

-- of a call that is not refused both are 0

pub code-number : (refused : Option Refusal) → code_with refused % 256 ≡ number_given refused
unfolding code_with
code-number None = refl
code-number (Some a) = omega (arith, number_small a)

pub code-line : (refused : Option Refusal) → line_given refused < 2 ^ 56 → code_with refused / 256 ≡ line_given refused
unfolding code_with
code-line None l = refl
code-line (Some a) l = omega (arith, number_small a, l)
