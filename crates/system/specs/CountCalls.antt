-- The listing's two counts: 7, 9
use Rattle.std.specs.Prelude.{Bool, ◌&&◌, List, [], ◌∷◌, ℕ, eqb, get_or, Result}
use Rattle.array.specs.Index.{how_many, all_below}
use Rattle.answer.specs.declared.Refusal.{Refusal}
use Rattle.answer.specs.Tests.{Test, test, given}
use Rattle.plan.specs.declared.Plan.{Plan}
use Rattle.plan.specs.Known.{period}
use Rattle.plan.specs.Accepted.{accepted}
use Rattle.memory.specs.declared.Memory.{Memory}
use Rattle.system.specs.declared.System.{System}
use Rattle.system.specs.Counts.{is_working}
use Rattle.system.specs.Frame.{memory_of}
use Rattle.system.specs.FrameCall.{mask_ok, counts_ok}

unfoldable pub working_tests : Plan → System → ℕ → List Test
working_tests p sys mask = test 7 (accepted p) ∷ test 9 (mask_ok p mask && counts_ok p sys) ∷ []

unfoldable pub working_answer : Plan → System → ℕ → Result ℕ Refusal
working_answer p sys mask = given (working_tests p sys mask) (how_many (is_working (period p) mask sys.good) p.nodes)

-- "nodes whose memory then equals the single controller's": counter and C cells, by bits
unfoldable pub same_memory : Plan → Memory → Memory → Bool
same_memory p m s = eqb m.counter s.counter && all_below (λ c. eqb (get_or m.cells c 0) (get_or s.cells c 0)) p.cells

unfoldable pub equal_tests : Plan → System → List Test
equal_tests p sys = test 7 (accepted p) ∷ test 9 (counts_ok p sys) ∷ []

unfoldable pub equal_answer : Plan → System → Memory → Result ℕ Refusal
equal_answer p sys s = given (equal_tests p sys) (how_many (λ i. same_memory p (memory_of sys i) s) p.nodes)
