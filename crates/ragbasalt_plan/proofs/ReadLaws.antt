-- A text that is read has an accepted plan.
use Rattle.std.specs.Prelude.{Ok}
use mathlib.Core.Path.{◌≡◌, ap, ◌∙◌}
use mathlib.Core.Bool.{true}
use mathlib.Core.List.{List}
use Prim.Native.Nat.{ℕ}
use Rattle.plan.specs.declared.Plan.{Plan}
use Rattle.plan.specs.Accepted.{accepted}
use Rattle.plan_text.specs.Answers.{read_answer}
use Rattle.plan_text.proofs.TextLaws.{read-plan}
use Rattle.plan_text.proofs.GivenLaws.{plan-given}

pub read-accepted : (s : List ℕ) {p : Plan} → read_answer s ≡ Ok p → accepted p ≡ true
read-accepted s e = let given = plan-given s e in ap accepted given.1 ∙ read-plan s given.0
