-- Request 2026-06: what the plane remembers after a frame, and over a list of calls.
use mathlib.Core.Path.{◌≡◌, refl, sym, ap, ◌∙◌}
use mathlib.Core.Bool.{true, ◌&&◌}
use mathlib.Core.List.{List, [], ◌∷◌}
use Prim.Native.Nat.{ℕ, ◌+◌, ◌≤◌, ◌<◌}
use native.Mathlib.Omega.{arith}
use native.Mathlib.Nat.{zero-add}
use lib.Dec.{eqb, ltb}
use lib.ListN.{length, get_or, get_or-eq_default}
use borrow.Author.Tests.{ltb-true, ltb-false, eqb-true}
use Rattle.array.specs.Index.{fill, from}
use Rattle.array.proofs.TestLaws.{split, and_left, and_right}
use Rattle.array.proofs.PlacesLaws.{fill-length, fill-in, fill-out, fill-same, fill-from}
use Rattle.answer.specs.Tests.{passed, if_passed}
use Rattle.plan.specs.declared.Plan.{Plan}
use Rattle.plan.specs.Accepted.{accepted}
use Rattle.plan.specs.Sizes.{sizes_of}
use Rattle.ballot.specs.Majority.{holders}
use Rattle.ballot.specs.Plane.{none_more}
use Rattle.ballot.proofs.PlaneLaws.{none_more_lem, plane-kept, plane-jump}
use Rattle.system.specs.declared.System.{System}
use Rattle.system.specs.Fault.{faults_size}
use Rattle.system.specs.Frame.{handed_of, put_out, handed_on, system_after, place_after}
use Rattle.system.specs.FrameCall.{mask_ok, counts_ok, lengths_ok, frame_tests, frame_system, frame_place}
use Rattle.system.specs.Demand.{Call, next, finally}
use Rattle.system.specs.Seen.{Remembered, runs, NeverMore, Writes, Kept, NoJump}
use Rattle.system.proofs.DemandLaws.{state-finally}

-- ---- one frame

module _ (p : Plan) (sys : System) (sensors : List ℕ) (mask : ℕ) (faults : List ℕ) where
  abbrev after : System
  after = system_after p sys sensors mask faults

  -- what is remembered after it: what it handed on, and past A what was there
  pub handed-after : (a : ℕ) → a < p.actuators → p.actuators ≤ length sys.seen.handed → handed_of after a ≡ handed_on p sys sensors mask faults a
  unfolding system_after
  handed-after a l room = fill-in (handed_on p sys sensors mask faults) p.actuators sys.seen.handed a 0 l (omega arith)

  pub handed-past : (a : ℕ) → p.actuators ≤ a → handed_of after a ≡ handed_of sys a
  unfolding system_after
  handed-past a l = fill-out (handed_on p sys sensors mask faults) p.actuators sys.seen.handed a 0 l

  -- the first A remembered values are the call's place
  pub place-seen :
      (place : List ℕ) → length place ≡ p.actuators → p.actuators ≤ length sys.seen.handed →
      place_after p sys sensors mask faults place ≡ from 0 after.seen.handed 0 p.actuators
  unfolding place_after
  place-seen place e room =
      fill-same (handed_on p sys sensors mask faults) (λ a. handed_of after (0 + a)) p.actuators place
      (λ a l. sym (handed-after a l room) ∙ ap (handed_of after) (sym (zero-add a)))
      ∙ fill-from 0 after.seen.handed 0 p.actuators place e

  -- where another value than the remembered one is handed on, more nodes put it out
  pub jump-more :
      (a : ℕ) → (handed_on p sys sensors mask faults a ≡ handed_of sys a → ⊥) →
      holders (put_out p sys sensors mask faults a) p.nodes (handed_of sys a)
      < holders (put_out p sys sensors mask faults a) p.nodes (handed_on p sys sensors mask faults a)
  unfolding handed_on
  jump-more a apart = plane-jump (put_out p sys sensors mask faults a) p.nodes (handed_of sys a) apart

  -- and where no value has more, it is handed on again
  pub handed-kept :
      (a : ℕ) → none_more (put_out p sys sensors mask faults a) p.nodes (handed_of sys a) ≡ true →
      handed_on p sys sensors mask faults a ≡ handed_of sys a
  unfolding handed_on
  handed-kept a e = let put = put_out p sys sensors mask faults a in plane-kept put p.nodes (handed_of sys a) (none_more_lem put p.nodes (handed_of sys a) e)

  seen-kept : (a : ℕ) → handed_on p sys sensors mask faults a ≡ handed_of sys a → handed_of after a ≡ handed_of sys a
  unfolding system_after
  seen-kept a e =
      split (ltb a p.actuators)
      (λ t. split (ltb a (length sys.seen.handed))
      (λ u. fill-in (handed_on p sys sensors mask faults) p.actuators sys.seen.handed a 0 (ltb-true _ _ t) (ltb-true _ _ u) ∙ e)
      (λ u.
      let few : length sys.seen.handed ≤ a = ltb-false _ _ u in
      get_or-eq_default (fill (handed_on p sys sensors mask faults) p.actuators sys.seen.handed) 0 {n = a}
      (omega (arith, fill-length (handed_on p sys sensors mask faults) p.actuators sys.seen.handed))
      ∙ sym (get_or-eq_default sys.seen.handed 0 few)))
      (λ t. fill-out (handed_on p sys sensors mask faults) p.actuators sys.seen.handed a 0 (ltb-false _ _ t))

-- ---- lists

pub remembered : Remembered
remembered p accept cs one most a l = (state-finally p accept cs one most).handed a l

-- a call, refused or not, on a record in which the actuator's value has as many holders as any
module _ (sys : System) (c : Call) (a : ℕ) where
  abbrev Held : Type 0
  Held =
      runs sys c ≡ true → a < c.plan.actuators →
      none_more (put_out c.plan sys c.sensors c.mask c.faults a) c.plan.nodes (handed_of sys a) ≡ true

  next-kept : Held → handed_of (next sys c) a ≡ handed_of sys a
  unfolding next frame_system if_passed
  next-kept h =
      split (runs sys c)
      (λ t. rw t (split (ltb a c.plan.actuators)
      (λ u.
      seen-kept c.plan sys c.sensors c.mask c.faults a
      (handed-kept c.plan sys c.sensors c.mask c.faults a (h t (ltb-true _ _ u))))
      (λ u. handed-past c.plan sys c.sensors c.mask c.faults a (ltb-false _ _ u))))
      (λ t. rw t)

  -- 8 leaves no place of another length
  place-room : runs sys c ≡ true → length c.place ≡ c.plan.actuators
  unfolding passed frame_tests lengths_ok
  place-room t =
      let p = c.plan in
      let sensors = eqb (length c.sensors) p.sensors in
      let faults = eqb (length c.faults) (faults_size (sizes_of p)) in
      let place = eqb (length c.place) p.actuators in
      let lengths = sensors && faults && place in
      let counts = mask_ok p c.mask && counts_ok p sys in
      eqb-true _ _
      (and_right (sensors && faults) place
      (and_left lengths true (and_right counts (lengths && true) (and_right (accepted p) (counts && (lengths && true)) t))))

  place_kept : Held → runs sys c ≡ true → a < c.plan.actuators → get_or (frame_place c.plan sys c.sensors c.mask c.faults c.place) a 0 ≡ handed_of sys a
  unfolding frame_place place_after if_passed
  place_kept h t l =
      rw t
      (fill-in (handed_on c.plan sys c.sensors c.mask c.faults) c.plan.actuators c.place a 0 l (omega (arith, place-room t))
      ∙ handed-kept c.plan sys c.sensors c.mask c.faults a (h t l))

  -- after a call that is not refused the first A remembered values are its place
  pub place-next :
      runs sys c ≡ true → c.plan.actuators ≤ length sys.seen.handed →
      frame_place c.plan sys c.sensors c.mask c.faults c.place ≡ from 0 (next sys c).seen.handed 0 c.plan.actuators
  unfolding frame_place next frame_system if_passed
  place-next t room = rw t (place-seen c.plan sys c.sensors c.mask c.faults c.place (place-room t) room)

pub no_jump : NoJump
unfolding NeverMore Writes finally
no_jump sys [] a h = record { written = tt; remembered = refl }
no_jump sys (c ∷ cs) a h =
    let same : handed_of (next sys c) a ≡ handed_of sys a = next-kept sys c a h.0 in
    let rest : Kept (next sys c) cs a = no_jump (next sys c) cs a (rw same h.1) in
    record { written = (place_kept sys c a h.0, rw (sym same) rest.written); remembered = rest.remembered ∙ same }
