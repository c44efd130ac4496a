-- Request 2026-04: a record is tested as it was before, unless it is one of fewer than 3 nodes that passes now. Call by call: EarlierLaws of `listing`.
use mathlib.Core.Path.{◌≡◌, refl, ◌∙◌}
use mathlib.Core.Bool.{Bool, true, false}
use Prim.Native.Nat.{ℕ, ◌≤◌, ◌<◌}
use native.Mathlib.Omega.{arith}
use lib.Dec.{leb}
use borrow.Author.Tests.{le-leb, lt-leb, leb-true, leb-false}
use Rattle.array.proofs.TestLaws.{split, clash, and_left, and_right}
use Rattle.plan.specs.declared.Plan.{Plan}
use Rattle.plan.specs.Limits.{least_nodes}
use Rattle.plan.specs.Accepted.{header_ok, storable, well_formed, accepted}
use Rattle.plan.specs.Earlier.{least_before, header_from, well_formed_from, accepted_from}

-- ---- with the least number of now, the tests are those of now

pub header-now :
    (nodes frames cells sensors actuators tasks : ℕ) →
    header_from least_nodes nodes frames cells sensors actuators tasks ≡ header_ok nodes frames cells sensors actuators tasks
unfolding header_from header_ok
header-now nodes frames cells sensors actuators tasks = refl

pub accepted-now : (p : Plan) → accepted_from least_nodes p ≡ accepted p
unfolding accepted_from well_formed_from header_from accepted well_formed header_ok
accepted-now p = refl

-- ---- two tests are equal if they agree where the one of now passes, and it passes where the one before did

pub kept_test : (now before : Bool) → (now ≡ true → now ≡ before) → (before ≡ true → now ≡ true) → now ≡ before
kept_test true before same passed = same refl
kept_test false true same passed = passed refl
kept_test false false same passed = refl

-- ---- the header

module _ (nodes frames cells sensors actuators tasks : ℕ) where
  abbrev now : Bool
  now = header_ok nodes frames cells sensors actuators tasks

  abbrev earlier : Bool
  earlier = header_from least_before nodes frames cells sensors actuators tasks

  header-many : least_before ≤ nodes → now ≡ earlier
  unfolding header_from header_ok
  header-many l = rw (le-leb least_nodes nodes (omega arith), le-leb least_before nodes l)

  pub header-few : nodes < least_before → earlier ≡ false
  unfolding header_from
  header-few l = rw (lt-leb least_before nodes l)

  pub header-before-many : earlier ≡ true → least_before ≤ nodes
  header-before-many e =
      split (leb least_before nodes) (leb-true least_before nodes) (λ t. absurd (clash e (header-few (leb-false least_before nodes t))))

  pub header-kept : (now ≡ true → least_before ≤ nodes) → now ≡ earlier
  header-kept many = kept_test now earlier (λ t. header-many (many t)) (λ t. header-many (header-before-many t) ∙ t)

-- ---- the record

module _ (p : Plan) where
  well_formed-many : least_before ≤ p.nodes → well_formed p ≡ well_formed_from least_before p
  unfolding well_formed_from well_formed
  well_formed-many l = rw (header-many p.nodes p.frames p.cells p.sensors p.actuators p.task_count l)

  well_formed-before-many : well_formed_from least_before p ≡ true → least_before ≤ p.nodes
  unfolding well_formed_from
  well_formed-before-many e =
      header-before-many p.nodes p.frames p.cells p.sensors p.actuators p.task_count (and_left _ _ (and_right (storable p) _ e))

  pub well_formed-kept : (well_formed p ≡ true → least_before ≤ p.nodes) → well_formed p ≡ well_formed_from least_before p
  well_formed-kept many =
      kept_test (well_formed p) (well_formed_from least_before p) (λ t. well_formed-many (many t)) (λ t. well_formed-many (well_formed-before-many t) ∙ t)

  accepted-many : least_before ≤ p.nodes → accepted p ≡ accepted_from least_before p
  unfolding accepted_from accepted
  accepted-many l = rw (well_formed-many l)

  -- a plan accepted before has 3 nodes or more, and is accepted
  pub before-many : accepted_from least_before p ≡ true → least_before ≤ p.nodes
  unfolding accepted_from
  before-many e = well_formed-before-many (and_left (well_formed_from least_before p) _ e)

  pub before-accepted : accepted_from least_before p ≡ true → accepted p ≡ true
  before-accepted e = accepted-many (before-many e) ∙ e

  -- 7 as it was
  pub accepted-kept : (accepted p ≡ true → least_before ≤ p.nodes) → accepted p ≡ accepted_from least_before p
  accepted-kept many = kept_test (accepted p) (accepted_from least_before p) (λ t. accepted-many (many t)) before-accepted
