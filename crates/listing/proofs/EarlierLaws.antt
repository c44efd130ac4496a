-- Request 2026-04: "plans accepted before keep every answer", call by call; those of the library for C are by the same tests, at the records of their words. What a call gives and what it leaves in records
-- and buffers is by its tests (`given`, `if_passed`) or by the refusal of its text: but for records and texts of fewer than 3 nodes that are accepted now, these are the ones before.
use mathlib.Core.Path.{◌≡◌}
use mathlib.Core.Bool.{true, ◌&&◌}
use mathlib.Core.List.{List, [], ◌∷◌}
use Prim.Native.Nat.{ℕ, ◌≤◌}
use lib.Dec.{eqb, leb}
use lib.ListN.{length}
use Rattle.answer.specs.Tests.{Test, test, unless}
use Rattle.plan.specs.declared.Plan.{Plan}
use Rattle.plan.specs.Accepted.{accepted}
use Rattle.plan.specs.Earlier.{least_before, accepted_from}
use Rattle.plan.proofs.EarlierLaws.{accepted-kept}
use Rattle.plan_period.specs.Answers.{plan_tests}
use Rattle.plan_grammar.specs.Meant.{plan_of}
use Rattle.plan_grammar.specs.Written.{plan_text}
use Rattle.plan_grammar.specs.Earlier.{refusal_before, NotFew}
use Rattle.plan_grammar.proofs.EarlierLaws.{text-kept}
use Rattle.plan_text.specs.Answers.{read_answer}
use Rattle.plan_text_write.specs.Answers.{write_tests}
use Rattle.memory.specs.Node.{powered_on}
use Rattle.node.specs.Answers.{length_tests}
use Rattle.system.specs.declared.System.{System}
use Rattle.system.specs.System.{power_on}
use Rattle.system.specs.CountCalls.{working_tests, equal_tests}
use Rattle.system.specs.Single.{single_tests}
use Rattle.system.specs.FrameCall.{mask_ok, counts_ok, lengths_ok, frame_tests}
use Rattle.run_line.specs.Line.{printed_size}
use Rattle.run_line.specs.Listing.{run_listing, lines_or, listing}
use Rattle.lines.specs.declared.Run.{Run}
use Rattle.listing_start.specs.Answers.{start_of, start_answer}
use Rattle.listing.specs.Answers.{line_test, next_tests}

-- ---- records

-- 7 as it was before
abbrev seven : Plan → Test
seven p = test 7 (accepted_from least_before p)

module _ (p : Plan) (many : accepted p ≡ true → least_before ≤ p.nodes) where
  -- `plan_period`'s calls, and power-on of a node and of a system
  pub plan-kept : plan_tests p ≡ seven p ∷ []
  unfolding plan_tests
  plan-kept = rw (accepted-kept p many)

  -- the other calls on a node
  pub node_kept : (has wanted : ℕ) → length_tests p has wanted ≡ seven p ∷ test 8 (eqb has wanted) ∷ []
  unfolding length_tests
  node_kept has wanted = rw (accepted-kept p many)

  pub write_kept : (room : ℕ) → write_tests p room ≡ seven p ∷ test 8 (leb (length (plan_text p)) room) ∷ []
  unfolding write_tests
  write_kept room = rw (accepted-kept p many)

  -- a frame, the single controller's, and the two counts
  pub frame-kept :
      (sys : System) (sensors : List ℕ) (mask : ℕ) (faults place : List ℕ) →
      frame_tests p sys sensors mask faults place
      ≡ seven p ∷ test 9 (mask_ok p mask && counts_ok p sys) ∷ test 8 (lengths_ok p (length sensors) (length faults) (length place)) ∷ []
  unfolding frame_tests
  frame-kept sys sensors mask faults place = rw (accepted-kept p many)

  pub single-kept :
      (sensors place : ℕ) → single_tests p sensors place ≡ seven p ∷ test 8 (eqb sensors p.sensors && eqb place p.actuators) ∷ []
  unfolding single_tests
  single-kept sensors place = rw (accepted-kept p many)

  pub working-kept : (sys : System) (mask : ℕ) → working_tests p sys mask ≡ seven p ∷ test 9 (mask_ok p mask && counts_ok p sys) ∷ []
  unfolding working_tests
  working-kept sys mask = rw (accepted-kept p many)

  pub equal-kept : (sys : System) → equal_tests p sys ≡ seven p ∷ test 9 (counts_ok p sys) ∷ []
  unfolding equal_tests
  equal-kept sys = rw (accepted-kept p many)

-- the next line of a run
pub next-kept :
    (r : Run) → (accepted r.plan ≡ true → least_before ≤ r.plan.nodes) → (rest : List ℕ) (room : ℕ) →
    next_tests r rest room
    ≡ seven r.plan
    ∷ test 9 (counts_ok r.plan r.system)
    ∷ test 8 (leb (printed_size r.plan.actuators) room)
    ∷ line_test r rest
    ∷ []
unfolding next_tests
next-kept r many rest room = rw (accepted-kept r.plan many)

-- ---- texts

module _ (s : List ℕ) (many : NotFew s) where
  pub read_kept : read_answer s ≡ unless (refusal_before s) (plan_of s)
  unfolding read_answer
  read_kept = rw (text-kept s many)

  pub start-kept : start_answer s ≡ unless (refusal_before s) (start_of (plan_of s))
  unfolding start_answer
  start-kept = rw (text-kept s many)

  pub listing-kept : (run : List ℕ) → listing s run ≡ lines_or (refusal_before s) (run_listing (plan_of s) (power_on (plan_of s)) (powered_on (plan_of s)) 0 run)
  unfolding listing
  listing-kept run = rw (text-kept s many)
