-- What the call that writes a plan text gives.
use Rattle.std.specs.Prelude.{List, [], ◌∷◌, ◌++◌, ℕ, leb, length, drop, Result}
use Rattle.answer.specs.declared.Refusal.{Refusal}
use Rattle.answer.specs.Tests.{Test, test, given, if_passed}
use Rattle.plan.specs.declared.Plan.{Plan}
use Rattle.plan.specs.Accepted.{accepted}
use Rattle.plan_grammar.specs.Written.{plan_text}

-- 7, then 8: "a text buffer too short"
unfoldable pub write_tests : Plan → ℕ → List Test
write_tests p room = test 7 (accepted p) ∷ test 8 (leb (length (plan_text p)) room) ∷ []

-- how many bytes are written
unfoldable pub write_answer : Plan → ℕ → Result ℕ Refusal
write_answer p room = given (write_tests p room) (length (plan_text p))

-- "A written text fills the first bytes of its buffer; the rest is unchanged."
unfoldable pub write_place : Plan → List ℕ → List ℕ
write_place p out = if_passed (write_tests p (length out)) (plan_text p ++ drop (length (plan_text p)) out) out
